-- The refusal with the lower place is that of the earlier field, for a header and for a record alike.
-- Assumes nothing.
use Prim.Native.Nat.{ℕ, ◌+◌, ◌≤◌, ◌<◌}
use mathlib.Core.Path.{◌≡◌, refl, sym, ap, ◌∙◌}
use mathlib.Core.Bool.{Bool, true, false, cond}
use native.Mathlib.Omega.{arith}
use lib.Dec.{ltb, eqb}
use borrow.Author.Tests.{eqb-true, eqb-false, ltb-true, ltb-false, lt-ltb, le-ltb}
use Rattle.sheet.specs.declared.Refusal.{Refusal}
use Rattle.sheet.specs.Refusals.{Answer, given, refused, number_of, place_of, told}
use Rattle.sheet.specs.laws.RefusalLaws.{Which, which, none, first, later, at_later}
use Rattle.sheet.specs.Exactly.{Cases, by_fault}
use Rattle.numbers.specs.Held.{first_of, earlier_of}
use Rattle.numbers.proofs.First.{first_left, first_right, first_none}

-- what was found stands earlier, or not, by the two places
module _ (r s : Refusal) where
  abbrev told_earlier : Answer (Unit {0})
  told_earlier = earlier_of (told r) (number_of s) (place_of s)

  pub found_earlier : place_of r < place_of s → told r ≡ told_earlier
  found_earlier l = rw (lt-ltb (place_of r) (place_of s) l)

  pub found_later : place_of s ≤ place_of r → told s ≡ told_earlier
  found_later l = rw (le-ltb (place_of r) (place_of s) l)

-- what was looked for in place of word that all is well
abbrev pub carrying : {A : Type 0} → A → Answer (Unit {0}) → Answer A
carrying a (given u) = given a
carrying a (refused k p) = refused k p

-- places grow with the field, and that of the first field is below all others
module _ (c : Cases) (base : ℕ) (places : (k : ℕ) → c.place k ≡ base + k) (low : c.at < base + 2) where
  abbrev F : ℕ → Answer (Unit {0})
  F f = by_fault c f tt

  at_field : (f : ℕ) → 2 ≤ f → F f ≡ refused c.later (c.place f)
  at_field f l = at_later (refused c.first c.at) (λ k. refused c.later (c.place k)) f (given tt) l

  earlier_first : (g e : ℕ) → 2 ≤ e → earlier_of (F g) c.later (c.place e) ≡ F (first_of g e)
  earlier_first g e l = go (which c.first c.at c.later c.place g (tt {0}))
    where
      E : Answer (Unit {0}) → Answer (Unit {0})
      E a = earlier_of a c.later (c.place e)

      by_order : 2 ≤ g → (t : Bool) → ltb g e ≡ t → E (refused c.later (c.place g)) ≡ F (first_of g e)
      by_order m true q =
          rw (lt-ltb (c.place g) (c.place e) (omega (arith, places g, places e, ltb-true g e q)))
          (sym (ap F (first_left g e (omega arith) (ltb-true g e q)) ∙ at_field g m))
      by_order m false q =
          rw (le-ltb (c.place g) (c.place e) (omega (arith, places g, places e, ltb-false g e q)))
          (sym (ap F (first_right g e (omega arith) (ltb-false g e q)) ∙ at_field e l))

      go : Which c.first c.at c.later c.place g (tt {0}) → E (F g) ≡ F (first_of g e)
      go (none z w) = ap E w ∙ sym (ap (λ (x : ℕ). F (first_of x e)) z ∙ at_field e l)
      go (first z w) =
          ap E w
          ∙ rw (lt-ltb c.at (c.place e) (omega (arith, places e)))
          (sym (ap F (first_left g e (omega arith) (omega arith)) ∙ w))
      go (later m w) = ap E w ∙ by_order m (ltb g e) refl

  -- a first fault f of the numbers, from that of what they are held as, g, and of the fields that are tested by themselves, e
  module _ {A : Type 0} (f g e : ℕ) (a b : A) (by_first : f ≡ first_of g e) (past : (e ≡ 0 → ⊥) → 2 ≤ e) (same : f ≡ 0 → a ≡ b) where
    outcome : {x y : Answer (Unit {0})} → x ≡ F g → y ≡ cond (eqb e 0) x (earlier_of x c.later (c.place e)) → y ≡ F f
    outcome {x} {y} ex ey = ey ∙ ap (λ (t : Answer (Unit {0})). cond (eqb e 0) t (earlier_of t c.later (c.place e))) ex ∙ go (eqb e 0) refl ∙ sym (ap F by_first)
      where
        go : (t : Bool) → eqb e 0 ≡ t → cond t (F g) (earlier_of (F g) c.later (c.place e)) ≡ F (first_of g e)
        go true q = sym (ap F (ap (first_of g) (eqb-true e 0 q) ∙ first_none g))
        go false q = earlier_first g e (past (eqb-false e 0 q))

    carried : carrying a (F f) ≡ by_fault c f b
    carried = go (eqb f 0) refl (eqb f 1)
      where
        go : (t : Bool) → eqb f 0 ≡ t → (u : Bool)
            → carrying a (cond t (given tt) (cond u (refused c.first c.at) (refused c.later (c.place f))))
            ≡ cond t (given b) (cond u (refused c.first c.at) (refused c.later (c.place f)))
        go true q u = ap given (same (eqb-true f 0 q))
        go false q true = refl
        go false q false = refl

    pub taken : {x y : Answer (Unit {0})} → x ≡ F g → y ≡ cond (eqb e 0) x (earlier_of x c.later (c.place e)) → carrying a y ≡ by_fault c f b
    taken ex ey = ap (carrying a) (outcome ex ey) ∙ carried
