-- What is read and written by the length of the bytes, and that it comes back.
-- Assumes nothing.
use Rattle.std.specs.Prelude.{ℕ, zero, suc, ◌+◌, ◌^◌, ◌≤◌, ◌<◌, ◌≡◌, List, [], ◌∷◌, ◌++◌, length, take, drop}
use Rattle.std.proofs.Common.{sym, ap, ◌∙◌, arith, zero-add, suc-add, length-append, take-append-drop, take_at, lt-ltb, le-ltb}
use Rattle.std.proofs.Math.Seq.{take-nil}
use Rattle.layout.specs.Layout.{total, pack, unpack, bytes, Fit}
use Rattle.layout.specs.laws.Laws.{pack_unpack_lt, unpack_pack, length_unpack, length_bytes}
use Rattle.layout.specs.Bytes.{read_of, written_of}

-- what is dropped of what was taken
pub drop_take : (a k : ℕ) (xs : List ℕ) → drop a (take (a + k) xs) ≡ take k (drop a xs)
drop_take zero k xs = ap (λ (n : ℕ). take n xs) (zero-add k)
drop_take (suc a) k [] = ap (drop (suc a)) (take-nil (suc a + k)) ∙ sym (take-nil k)
drop_take (suc a) k (x ∷ xs) = ap (λ (n : ℕ). drop (suc a) (take n (x ∷ xs))) (suc-add a k) ∙ drop_take a k xs

pub read_few : (k : ℕ) (s : List ℕ) → length s < k → read_of k s ≡ 0
unfolding read_of
read_few k s h = rw (lt-ltb _ _ h)

pub read_all : (k : ℕ) (s : List ℕ) → k ≤ length s → read_of k s ≡ pack (bytes k) (take k s)
unfolding read_of
read_all k s h = rw (le-ltb _ _ h)

pub write_few : (k n : ℕ) (o : List ℕ) → length o < k → written_of k n o ≡ o
unfolding written_of
write_few k n o h = rw (lt-ltb _ _ h)

pub write_all_lem : (k n : ℕ) (o : List ℕ) → k ≤ length o → written_of k n o ≡ unpack (bytes k) n ++ drop k o
unfolding written_of
write_all_lem k n o h = rw (le-ltb _ _ h)

-- what was written is read
pub read_written : (k n : ℕ) (o : List ℕ) → k ≤ length o → n < 2 ^ total (bytes k) → read_of k (written_of k n o) ≡ n
read_written k n o h l =
    let bs = unpack (bytes k) n in
    let e : length bs ≡ k = length_unpack (bytes k) n ∙ length_bytes k in
    ap (read_of k) (write_all_lem k n o h)
    ∙ read_all k (bs ++ drop k o) (omega (arith, length-append bs (drop k o)))
    ∙ ap (pack (bytes k)) (take_at bs (drop k o) k e)
    ∙ pack_unpack_lt (bytes k) n l

-- what was read is written, byte for byte
pub written_read : (k : ℕ) (s : List ℕ) → k ≤ length s → Fit (bytes k) (take k s) → written_of k (read_of k s) s ≡ s
written_read k s h f =
    write_all_lem k (read_of k s) s h
    ∙ ap (λ (n : ℕ). unpack (bytes k) n ++ drop k s) (read_all k s h)
    ∙ ap (λ (l : List ℕ). l ++ drop k s) (unpack_pack (bytes k) (take k s) f)
    ∙ take-append-drop k s
