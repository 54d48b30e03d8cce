-- Laws of pieces that are written one behind another.
-- Assumes nothing.
use Rattle.std.specs.Prelude.{ℕ, ◌+◌, ◌-◌, ◌^◌, ◌≤◌, ◌<◌, ◌≡◌, refl, List, [], ◌∷◌, ◌++◌, length, take, drop}
use Rattle.std.proofs.Common.{sym, ap, ap₂, ◌∙◌, append_assoc, append-nil, arith, length-append, length-drop, take-append-drop, drop_of_length-le, take_all, le-leb}
use Rattle.std.proofs.Math.Decide.{dec_le}
use Rattle.std.proofs.lemmas.Bool.{lt-leb}
use Rattle.decimal.specs.Decimal.{decimal_of}
use Rattle.decimal.specs.laws.DecimalLaws.{decimal_most}
use Rattle.decimal.specs.Put.{Puts, put_count, put_on}
use Rattle.decimal.specs.Laid.{laid}
use Rattle.decimal.specs.laws.LaidLaws.{laid_put, laid_laid, laid_length, laid_none}
use Rattle.wording.specs.Writes.{Spot, spot, number_most, write, write_all, text_of, Writes}

pub text_append : (ts us : List (List ℕ)) → text_of (ts ++ us) ≡ text_of ts ++ text_of us
unfolding text_of
text_append [] us = refl
text_append (t ∷ ts) us = ap (λ (x : List ℕ). t ++ x) (text_append ts us) ∙ sym (append_assoc t (text_of ts) (text_of us))

pub write_append : (s : Spot) (ts us : List (List ℕ)) → write_all s (ts ++ us) ≡ write_all (write_all s ts) us
unfolding write_all
write_append s [] us = refl
write_append s (t ∷ ts) us = write_append (write s t) ts us

-- some behind others
pub and_then : {ts us : List (List ℕ)} {m n : ℕ} {s p e : Spot} → Writes ts m s p → Writes us n p e → Writes (ts ++ us) (m + n) s e
and_then {ts} {us} {m} {n} {s} {p} {e} f g = record {
  ends = g.ends ∙ ap (λ (x : Spot). write_all x us) f.ends ∙ sym (write_append s ts us);
  size = omega (arith, f.size, g.size, ap length (text_append ts us), length-append (text_of ts) (text_of us));
}

-- a bound that is no less
pub within : {ts : List (List ℕ)} {m : ℕ} {s e : Spot} (n : ℕ) → m ≤ n → Writes ts m s e → Writes ts n s e
within n l f = record { ends = f.ends; size = omega (arith, f.size) }

-- one piece
pub one : (t : List ℕ) {m : ℕ} {s e : Spot} → length t ≤ m → e ≡ write s t → Writes (t ∷ []) m s e
unfolding text_of write_all
one t l f = record { ends = f; size = omega (arith, ap length (append-nil t)) }

-- nothing
pub none : {s : Spot} → Writes [] 0 s s
unfolding text_of write_all
none = record { ends = refl; size = omega arith }

-- past the end of the page nothing is written
pub write_past : (o : List ℕ) (at : ℕ) (t : List ℕ) → length o < at → spot o at ≡ write (spot o at) t
unfolding write
write_past o at t h = rw (lt-leb (at + length t) (length o) (omega arith))

-- a writer that was lent all bytes from `at` on
pub write_put : (o : List ℕ) (at : ℕ) (t : List ℕ) → at ≤ length o → (count : ℕ) (part : List ℕ) → Puts t (take (length o - at) (drop at o)) count part
    → spot (take at o ++ (part ++ drop (length o - at) (drop at o))) (at + count) ≡ write (spot o at) t
unfolding write put_count put_on
write_put o at t h count part p = go (dec_le (at + length t) (length o))
  where
    all : take (length o - at) (drop at o) ≡ drop at o
    all = take_all (length o - at) (drop at o) (omega (arith, length-drop at o))

    go : Dec (at + length t ≤ length o) → spot (take at o ++ (part ++ drop (length o - at) (drop at o))) (at + count) ≡ write (spot o at) t
    go (yes l) =
        let f = laid_put o at t l count part p in
        ap₂ spot f.bytes f.place ∙ rw (le-leb (at + length t) (length o) l)
    go (no n) =
        let short : length (take (length o - at) (drop at o)) < length t = omega (arith, ap length all, length-drop at o) in
        let c : count ≡ 0 = p.count ∙ rw (lt-leb _ _ short) in
        let same : part ≡ drop at o = p.bytes ∙ rw (lt-leb _ _ short) all in
        let behind : drop (length o - at) (drop at o) ≡ [] = drop_of_length-le (drop at o) {i = length o - at} (omega (arith, length-drop at o)) in
        let b : take at o ++ (part ++ drop (length o - at) (drop at o)) ≡ o
        = ap (λ (x : List ℕ). take at o ++ (part ++ x)) behind ∙ ap (λ (x : List ℕ). take at o ++ x) (append-nil part ∙ same) ∙ take-append-drop at o in
        let z : at + count ≡ at = omega (arith, c) in
        ap₂ spot b z ∙ rw (lt-leb (at + length t) (length o) (omega arith))

-- the place is within the page, or where it was
pub next_most : (o : List ℕ) (at : ℕ) (t : List ℕ) → (write (spot o at) t).next ≤ at + length o
unfolding write
next_most o at t = go (dec_le (at + length t) (length o))
  where
    go : Dec (at + length t ≤ length o) → (write (spot o at) t).next ≤ at + length o
    go (yes l) = rw (le-leb (at + length t) (length o) l) (omega arith)
    go (no n) = rw (lt-leb (at + length t) (length o) (omega arith)) (omega arith)

-- no byte more or less
write_length : (s : Spot) (t : List ℕ) → length (write s t).bytes ≡ length s.bytes
unfolding write
write_length s t = go (dec_le (s.next + length t) (length s.bytes))
  where
    go : Dec (s.next + length t ≤ length s.bytes) → length (write s t).bytes ≡ length s.bytes
    go (yes l) = rw (le-leb (s.next + length t) (length s.bytes) l) (laid_length s.bytes s.next t l)
    go (no n) = rw (lt-leb (s.next + length t) (length s.bytes) (omega arith))

pub all_length : (s : Spot) (ts : List (List ℕ)) → length (write_all s ts).bytes ≡ length s.bytes
unfolding write_all
all_length s [] = refl
all_length s (t ∷ ts) = all_length (write s t) ts ∙ write_length s t

-- a number of 64 bits and a text after it
pub short_number : (n : ℕ) (after : List ℕ) → n < 2 ^ 64 → length (decimal_of n ++ after) ≤ number_most + length after
short_number n after l = omega (arith, length-append (decimal_of n) after, decimal_most 19 n (omega arith))

-- ---- where there is room

-- with room for all of them the text stands there
pub all_laid : (ts : List (List ℕ)) (o : List ℕ) (at : ℕ) → at + length (text_of ts) ≤ length o → write_all (spot o at) ts ≡ spot (laid o at (text_of ts)) (at + length (text_of ts))
unfolding write_all text_of write
all_laid [] o at h = ap₂ spot (laid_none o at).bytes (laid_none o at).place
all_laid (t ∷ ts) o at h =
    let sizes = length-append t (text_of ts) in
    let l : at + length t ≤ length o = omega arith in
    let long = laid_length o at t l in
    let rest = all_laid ts (laid o at t) (at + length t) (omega arith) in
    let both = laid_laid o at t (text_of ts) (omega arith) in
    let place : at + length t + length (text_of ts) ≡ at + length (t ++ text_of ts) = omega arith in
    rw (le-leb (at + length t) (length o) l) (rest ∙ ap₂ spot both place)
