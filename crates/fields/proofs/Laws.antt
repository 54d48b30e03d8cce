-- What stands at a place of a list, and the marks from there, one step at a time.
use mathlib.Core.Path.{◌≡◌, refl, sym, ap, ◌∙◌}
use mathlib.Core.List.{List, [], ◌∷◌}
use mathlib.Core.Bool.{Bool, true, false, true≢false}
use Prim.Native.Nat.{ℕ, zero, suc, ◌+◌, ◌≤◌, ◌<◌}
use native.Mathlib.Numerals.{add-one}
use native.Mathlib.Omega.{arith}
use borrow.Author.Tests.{ne_eqb}
use lib.Dec.{eqb}
use lib.ListN.{length, get_or, drop, drop_of_length-le}
use lib.Seq.{drop-cons, drop-drop}
use Rattle.fields.specs.Number.{digit_of}
use Rattle.fields.specs.Marks.{Marks, feeds, seen, seen_at, by, outside, inside}
use Rattle.fields.specs.Field.{field_of}
use Rattle.fields.specs.declared.Num.{Num}
use Rattle.fields.specs.declared.Field.{Field}
use Rattle.fields.specs.declared.Seen.{Seen}
use Rattle.fields.specs.declared.Seen.TheVariants.{End, Comma, Line, Skip, Quote, Data}
use Rattle.fields.specs.declared.Place.{Place}
use Rattle.fields.specs.declared.Place.TheVariants.{Closed}

pub past : (s : List ℕ) (at : ℕ) → length s ≤ at → drop at s ≡ []
past s at h = drop_of_length-le s h

pub here : (s : List ℕ) (at : ℕ) → at < length s → drop at s ≡ get_or s at 0 ∷ drop (at + 1) s
here s at h = rw (add-one, drop-cons s at 0)

pub seen_end : (s : List ℕ) (at : ℕ) → length s ≤ at → seen_at (drop at s) ≡ End
unfolding seen_at
seen_end s at h = rw (past s at h)

pub seen_here : (s : List ℕ) (at : ℕ) → at < length s → seen_at (drop at s) ≡ seen (get_or s at 0) (drop (at + 1) s)
unfolding seen_at
seen_here s at h = ap seen_at (here s at h)

pub feeds_past : (s : List ℕ) (at : ℕ) → length s ≤ at → feeds (drop at s) ≡ false
feeds_past s at h = ap feeds (past s at h)

pub feeds_here : (s : List ℕ) (at : ℕ) → at < length s → feeds (drop at s) ≡ eqb (get_or s at 0) 10
feeds_here s at h = ap feeds (here s at h)

-- a place where something stands is before the end
abbrev pub ends : Seen → Bool
ends End = true
ends Comma = false
ends Line = false
ends Skip = false
ends Quote = false
ends (Data b) = false

pub before_end : (s : List ℕ) (at : ℕ) (k : Seen) → k ≡ seen_at (drop at s) → ends k ≡ false → at < length s
unfolding seen_at
before_end [] zero k e f = absurd (true≢false (sym (ap ends e) ∙ f))
before_end [] (suc at) k e f = absurd (true≢false (sym (ap ends e) ∙ f))
before_end (b ∷ s) zero k e f = omega arith
before_end (b ∷ s) (suc at) k e f = let h = before_end s at k e f in omega arith

-- one step outside quotes
out_eq : (l : List ℕ) (at : ℕ) (p : Place) → outside l at p ≡ by (seen_at l) p (at + 1) (outside (drop 1 l) (at + 1)) (inside (drop 1 l) (at + 1))
unfolding outside seen_at
out_eq [] at p = refl
out_eq (b ∷ l) at p = refl

-- the field from a place outside quotes on, by what stands there
pub told : (s : List ℕ) (at : ℕ) (p : Place) (n : Num) (k : Seen) (q : Place) → k ≡ seen_at (drop at s) → p ≡ q
    → field_of (by k q (at + 1) (outside (drop (at + 1) s) (at + 1)) (inside (drop (at + 1) s) (at + 1))) n ≡ field_of (outside (drop at s) at p) n
told s at p n k q e f =
    sym (ap (λ (m : Marks). field_of m n)
    (out_eq (drop at s) at p
    ∙ ap (λ (x : Seen). by x p (at + 1) (outside (drop 1 (drop at s)) (at + 1)) (inside (drop 1 (drop at s)) (at + 1))) (sym e)
    ∙ ap (λ (x : Place). by k x (at + 1) (outside (drop 1 (drop at s)) (at + 1)) (inside (drop 1 (drop at s)) (at + 1))) f
    ∙ ap (λ (l : List ℕ). by k q (at + 1) (outside l (at + 1)) (inside l (at + 1))) (drop-drop 1 at s)))

-- one step inside quotes
pub told_quote : (s : List ℕ) (at : ℕ) (n : Num) → at < length s → get_or s at 0 ≡ 34
    → field_of (inside (drop at s) at) n ≡ field_of (outside (drop (at + 1) s) (at + 1) Closed) n
unfolding inside
told_quote s at n h e = rw (here s at h, e)

pub told_byte : (s : List ℕ) (at : ℕ) (n : Num) → at < length s → (get_or s at 0 ≡ 34 → ⊥)
    → field_of (inside (drop at s) at) n ≡ field_of (inside (drop (at + 1) s) (at + 1)) (digit_of n (get_or s at 0))
unfolding inside field_of
told_byte s at n h e = rw (here s at h, ne_eqb _ _ e)

pub told_unclosed : (s : List ℕ) (at : ℕ) (n : Num) → length s ≤ at → field_of (inside (drop at s) at) n ≡ Field.Fault
unfolding inside field_of
told_unclosed s at n h = rw (past s at h)
