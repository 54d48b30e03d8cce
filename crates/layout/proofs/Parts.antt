-- Two words side by side.
-- Assumes nothing.
use Rattle.std.specs.Prelude.{ℕ, ◌+◌, ◌-◌, ◌*◌, ◌^◌, ◌≤◌, ◌<◌, ◌≡◌, List, ◌++◌, length, take, drop}
use Rattle.std.proofs.Common.{sym, ap, ap₂, ◌∙◌, arith, append_assoc, take-add, drop-drop, length-take-le, length-drop}
use borrow.Rule.Slice.PartMut.{mid_of, put_mid}
use Rattle.layout.specs.Layout.{total, pack, unpack, bytes}
use Rattle.layout.specs.Bytes.{read_of, written_of}
use Rattle.layout.specs.laws.Tail.{mid_tail, put_tail}
use Rattle.layout.specs.laws.Laws.{pack_append, unpack_append, length_bytes}
use Rattle.layout.specs.laws.BytesLaws.{read_all, write_all_lem}

-- a first word and what is read after it make the bytes' number together
pub get_law : (b : ℕ) (s : List ℕ) → 8 + b ≤ length s
    → read_of 8 s * 2 ^ total (bytes b) + read_of b (mid_of 8 (length s - 8) s) ≡ pack (bytes 8 ++ bytes b) (take (8 + b) s)
get_law b s h =
    ap₂ (λ (x y : ℕ). x * 2 ^ total (bytes b) + y)
    (read_all 8 s (omega arith))
    (ap (read_of b) (mid_tail 8 s) ∙ read_all b (drop 8 s) (omega (arith, length-drop 8 s)))
    ∙ sym (pack_append (bytes 8) (bytes b) (take 8 s) (take b (drop 8 s)) (length-take-le 8 s (omega arith) ∙ sym (length_bytes 8)))
    ∙ ap (pack (bytes 8 ++ bytes b)) (sym (take-add 8 b s))

-- a number in two parts, written one after the other
pub put_law : (b : ℕ) (o m e : List ℕ) (hi lo : ℕ) → lo < 2 ^ total (bytes b) → 8 + b ≤ length o
    → m ≡ written_of 8 hi o
    → e ≡ written_of b lo (mid_of 8 (length m - 8) m)
    → put_mid 8 (length m - 8) m e ≡ unpack (bytes 8 ++ bytes b) (hi * 2 ^ total (bytes b) + lo) ++ drop (8 + b) o
put_law b o m e hi lo hl ho hm he =
    let first : m ≡ unpack (bytes 8) hi ++ drop 8 o = hm ∙ write_all_lem 8 hi o (omega arith) in
    let rest : mid_of 8 (length m - 8) m ≡ drop 8 o = mid_tail 8 m ∙ ap (drop 8) first in
    put_tail 8 m e (omega (arith, ap length first))
    ∙ ap₂ (λ (x y : List ℕ). x ++ y)
    (ap (take 8) first)
    (he ∙ ap (written_of b lo) rest ∙ write_all_lem b lo (drop 8 o) (omega (arith, length-drop 8 o)) ∙ ap (λ (t : List ℕ). unpack (bytes b) lo ++ t) (drop-drop b 8 o))
    ∙ sym (append_assoc (unpack (bytes 8) hi) (unpack (bytes b) lo) (drop (8 + b) o))
    ∙ ap (λ (t : List ℕ). t ++ drop (8 + b) o) (sym (unpack_append (bytes 8) (bytes b) hi lo hl))
