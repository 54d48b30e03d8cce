-- A number as its field holds it: a line within the field's range allows the one exactly when it allows the other.
-- Assumes nothing.
use Prim.Native.Nat.{ℕ, ◌<◌}
use mathlib.Core.Path.{◌≡◌, refl, sym, ◌∙◌}
use mathlib.Core.Bool.{Bool, true, false, cond, ◌&&◌, ◌||◌}
use mathlib.Core.List.{List, [], ◌∷◌}
use native.Mathlib.Omega.{arith}
use lib.Dec.{leb, ltb}
use borrow.Author.Tests.{le-leb, leb-true, ltb-true}
use Rattle.truth.specs.laws.Tests.{both, clash, false_of}
use Rattle.quantity.specs.Range.{Range, within}
use Rattle.layout.specs.Line.{among}
use Rattle.quantity.specs.laws.RangeLaws.{low_high}
use Rattle.numbers.specs.Held.{held_in}

-- whether a range lies within another
abbrev pub lies_in : (r s : Range) → Bool
lies_in r s = leb r.low s.low && leb s.high r.high

-- whether all ranges lie within one, and end below the number that is held for every number outside it
abbrev pub keeps : (top : ℕ) → Range → List Range → Bool
keeps top r [] = true
keeps top r (s ∷ rs) = (lies_in r s && ltb s.high top) && keeps top r rs

-- what lies within a range lies within one around it
pub around : (r s : Range) (x : ℕ) → lies_in r s ≡ true → within s x ≡ true → within r x ≡ true
around r s x f a =
    let h = both (leb r.low s.low) (leb s.high r.high) f in
    let b = low_high s x a in
    let l = leb-true r.low s.low h.0 in
    let k = leb-true s.high r.high h.1 in
    rw (le-leb r.low x (omega arith), le-leb x r.high (omega arith))

-- what a line that is kept allows lies within the range, and below the number that is held for the others
kept_one : (top : ℕ) (r s : Range) (x : ℕ) → (lies_in r s && ltb s.high top) ≡ true → within s x ≡ true → (within r x ≡ true) × (x < top)
kept_one top r s x f a =
    let h = both (lies_in r s) (ltb s.high top) f in
    (around r s x h.0 a, omega (arith, ltb-true s.high top h.1, low_high s x a))

kept : (top : ℕ) (r : Range) (rs : List Range) (x : ℕ) → keeps top r rs ≡ true → among rs x ≡ true → (within r x ≡ true) × (x < top)
kept top r [] x f a = clash a refl
kept top r (s ∷ []) x f a = kept_one top r s x (both (lies_in r s && ltb s.high top) true f).0 a
kept top r (s ∷ t ∷ rs) x f a =
    let h = both (lies_in r s && ltb s.high top) (keeps top r (t ∷ rs)) f in
    go (within s x) refl (kept_one top r s x h.0) (kept top r (t ∷ rs) x h.1) a
  where
    go : {A : Type 0} (b : Bool) → within s x ≡ b → (within s x ≡ true → A) → (among (t ∷ rs) x ≡ true → A) → (b || among (t ∷ rs) x) ≡ true → A
    go true q here on e = here q
    go false q here on e = on e

-- lines that lie within a range allow a number exactly when they allow what it is held as
pub held_allows : (top : ℕ) (r : Range) (rs : List Range) (x : ℕ) → keeps top r rs ≡ true → among rs x ≡ among rs (held_in r top x)
held_allows top r rs x f = go (within r x) refl
  where
    go : (b : Bool) → within r x ≡ b → among rs x ≡ among rs (cond b x top)
    go true e = refl
    go false e =
        false_of (among rs x) (λ a. clash (kept top r rs x f a).0 e)
        ∙ sym (false_of (among rs top) (λ a. absurd (omega (arith, (kept top r rs top f a).1))))

-- and one that they allow is held as it is
pub held_in_lem : (top : ℕ) (r : Range) (rs : List Range) (x : ℕ) → keeps top r rs ≡ true → among rs x ≡ true → held_in r top x ≡ x
held_in_lem top r rs x f a = rw (kept top r rs x f a).0

-- where a line may allow what is held for other numbers, the number itself has to lie within the range too
pub held_alone : (top : ℕ) (r s : Range) (x : ℕ) → lies_in r s ≡ true → within s x ≡ (within r x && within s (held_in r top x))
held_alone top r s x f = go (within r x) refl
  where
    go : (b : Bool) → within r x ≡ b → within s x ≡ (b && within s (cond b x top))
    go true e = refl
    go false e = false_of (within s x) (λ a. clash (around r s x f a) e)
