-- One piece of text laid behind another, and a writer lent the bytes from a place on.
-- Assumes nothing.
use Prim.Native.Nat.{ℕ, ◌+◌, ◌-◌, ◌≤◌}
use Rattle.std.specs.Prelude.{◌≡◌}
use Rattle.std.proofs.Math.Path.{sym, ap}
use Rattle.std.proofs.Common.{◌∙◌, take-append-drop}
use mathlib.Core.List.{List, [], ◌++◌, append_assoc, append-nil}
use native.Mathlib.Omega.{arith}
use Rattle.std.proofs.Math.ListN.{length, take, drop, length-append, length-drop, drop_of_length-le}
use Rattle.std.proofs.Math.Seq.{length-take-le, take_all, take_at, drop-append-add, drop-drop}
use Rattle.decimal.specs.Put.{Puts}
use Rattle.decimal.specs.laws.PutLaws.{count_all, bytes_all}
use Rattle.decimal.specs.Laid.{laid, Laid}

module _ (o : List ℕ) (at : ℕ) (x : List ℕ) where
  front : at ≤ length o → length (take at o ++ x) ≡ at + length x
  front h = length-append (take at o) x ∙ ap (λ (k : ℕ). k + length x) (length-take-le at o h)

  -- no byte more or less
  pub laid_length : at + length x ≤ length o → length (laid o at x) ≡ length o
  unfolding laid
  laid_length h =
      let a = length-append (take at o) (x ++ drop (at + length x) o) in
      let b = length-append x (drop (at + length x) o) in
      let c = length-take-le at o (omega arith) in
      let d = length-drop (at + length x) o in
      omega arith

  -- two pieces, one after the other, are one
  pub laid_laid : (y : List ℕ) → at + length x + length y ≤ length o → laid (laid o at x) (at + length x) y ≡ laid o at (x ++ y)
  unfolding laid
  laid_laid y h =
      let f = front (omega arith) in
      let past : List ℕ = drop (at + length x) o in
      let g : laid o at x ≡ (take at o ++ x) ++ past = sym (append_assoc (take at o) x past) in
      let t : take (at + length x) (laid o at x) ≡ take at o ++ x = ap (take (at + length x)) g ∙ take_at (take at o ++ x) past (at + length x) f in
      let n : at + length x + length y ≡ at + length (x ++ y) = let e = length-append x y in omega arith in
      let d : drop (at + length x + length y) (laid o at x) ≡ drop (at + length (x ++ y)) o
      = ap (drop (at + length x + length y)) g
      ∙ ap (λ (k : ℕ). drop (k + length y) ((take at o ++ x) ++ past)) (sym f)
      ∙ drop-append-add (take at o ++ x) past (length y)
      ∙ drop-drop (length y) (at + length x) o
      ∙ ap (λ (k : ℕ). drop k o) n in
      ap (λ (p : List ℕ). p ++ (y ++ drop (at + length x + length y) (laid o at x))) t
      ∙ ap (λ (p : List ℕ). (take at o ++ x) ++ (y ++ p)) d
      ∙ append_assoc (take at o) x (y ++ drop (at + length (x ++ y)) o)
      ∙ ap (λ (p : List ℕ). take at o ++ p) (sym (append_assoc x y (drop (at + length (x ++ y)) o)))

  -- a writer with room was lent all bytes from `at` on
  pub laid_put : at + length x ≤ length o → (count : ℕ) (part : List ℕ) → Puts x (take (length o - at) (drop at o)) count part
      → Laid o at x (at + count) (take at o ++ (part ++ drop (length o - at) (drop at o)))
  unfolding laid
  laid_put h count part p =
      let size = length-drop at o in
      let all : take (length o - at) (drop at o) ≡ drop at o = take_all (length o - at) (drop at o) (omega arith) in
      let none : drop (length o - at) (drop at o) ≡ [] = drop_of_length-le (drop at o) {i = length o - at} (omega arith) in
      let room : length x ≤ length (take (length o - at) (drop at o)) = rw all (omega arith) in
      let same : part ≡ x ++ drop (at + length x) o
      = p.bytes ∙ bytes_all x (take (length o - at) (drop at o)) room ∙ ap (λ (t : List ℕ). x ++ drop (length x) t) all ∙ ap (λ (t : List ℕ). x ++ t) (drop-drop (length x) at o) in
      record {
        place = ap (λ (k : ℕ). at + k) (p.count ∙ count_all x (take (length o - at) (drop at o)) room);
        bytes = ap (λ (t : List ℕ). take at o ++ (part ++ t)) none ∙ ap (λ (t : List ℕ). take at o ++ t) (append-nil part ∙ same);
      }

-- nothing is laid
pub laid_none : (o : List ℕ) (at : ℕ) → Laid o at [] at o
unfolding laid
laid_none o at =
    let z : at ≡ at + 0 = omega arith in
    record { place = z; bytes = sym (take-append-drop at o) ∙ ap (λ (k : ℕ). take at o ++ drop k o) z }

-- from the front on
pub laid_front : (o x : List ℕ) → laid o 0 x ≡ x ++ drop (length x) o
unfolding laid
laid_front o x = let z : 0 + length x ≡ length x = omega arith in ap (λ (k : ℕ). x ++ drop k o) z

-- laid from the front on it adds no byte, so that there was room for it, and it is what stands there
pub laid_inside : (o x : List ℕ) {next : ℕ} {after : List ℕ} → Laid o 0 x next after → length after ≡ length o → length x ≤ length o
laid_inside o x l e = omega (arith, ap length (l.bytes ∙ laid_front o x), length-append x (drop (length x) o), length-drop (length x) o)

pub laid_taken : (o x : List ℕ) {next : ℕ} {after : List ℕ} → Laid o 0 x next after → take next after ≡ x
laid_taken o x {next} l = ap (take next) (l.bytes ∙ laid_front o x) ∙ take_at x (drop (length x) o) next (omega (arith, l.place))

-- a writer with room was lent them all
pub put_front : (o x : List ℕ) → length x ≤ length o → {count : ℕ} {after : List ℕ} → Puts x o count after → Laid o 0 x count after
put_front o x h p = record { place = p.count ∙ count_all x o h ∙ omega arith; bytes = p.bytes ∙ bytes_all x o h ∙ sym (laid_front o x) }

-- a text in two pieces, for which there is room
module _ (o : List ℕ) (at : ℕ) {text : List ℕ} (x y : List ℕ) (split : text ≡ x ++ y) (fits : at + length text ≤ length o) where
  sizes : at + length x + length y ≤ length o
  sizes = omega (arith, ap length split, length-append x y)

  -- there is room for the first
  pub first_fits : at + length x ≤ length o
  first_fits = omega (arith, sizes)

  -- and behind it for the second
  pub second_fits : {i : ℕ} {a : List ℕ} → Laid o at x i a → i + length y ≤ length a
  second_fits f = omega (arith, sizes, f.place, ap length f.bytes, laid_length o at x first_fits)

  -- one laid behind the other they are the text
  pub laid_both : {i : ℕ} {a : List ℕ} {j : ℕ} {b : List ℕ} → Laid o at x i a → Laid a i y j b → Laid o at text j b
  laid_both {i} {a} {j} {b} f g = record {
    place = omega (arith, f.place, g.place, ap length split, length-append x y);
    bytes = g.bytes ∙ ap (λ (k : List ℕ). laid k i y) f.bytes ∙ ap (λ (k : ℕ). laid (laid o at x) k y) f.place ∙ laid_laid o at x y sizes ∙ ap (laid o at) (sym split);
  }
