-- What is written, for a header and for a record alike: a refusal leaves every byte; else the first bytes are those given, and no others change.
-- Assumes nothing.
use Rattle.std.specs.Prelude.{ℕ, ◌≤◌, ◌≡◌, refl, Bool, true, false, cond, List, ◌++◌, length, take, drop, ltb, eqb}
use Rattle.std.proofs.Common.{sym, ap, ◌∙◌, arith, length-append, length-drop, take_at, drop_at, ltb-false, le-ltb, eq-eqb, eqb-true}
use Rattle.sheet.specs.Refusals.{given, refused, Wrote}
use Rattle.sheet.specs.laws.RefusalLaws.{by_none, at_none, given_refused}
use Rattle.sheet.specs.Exactly.{Cases, by_fault, by_slice}

-- 5 where o is too short; else the bytes bs into the front of o, unless there is a first faulty field f
abbrev pub written_if : (short : Bool) → Cases → (f : ℕ) (bs o : List ℕ) → Wrote
written_if short c f bs o =
    cond short
    (record { answer = refused 5 0; bytes = o })
    (record { answer = by_fault c f tt; bytes = cond (eqb f 0) (bs ++ drop c.size o) o })

abbrev pub written : Cases → (f : ℕ) (bs o : List ℕ) → Wrote
written c f bs o = written_if (ltb (length o) c.size) c f bs o

module _ (c : Cases) (f : ℕ) (bs o : List ℕ) where
  pub written_answer : (written c f bs o).answer ≡ by_slice 5 c o (by_fault c f (tt {0}))
  written_answer = go (ltb (length o) c.size)
    where
      go : (t : Bool) → (written_if t c f bs o).answer ≡ cond t (refused 5 0) (by_fault c f (tt {0}))
      go true = refl
      go false = refl

  -- nothing is at fault
  pub written_fine : (written c f bs o).answer ≡ given tt → (c.size ≤ length o) × (f ≡ 0)
  written_fine e = go (ltb (length o) c.size) refl e
    where
      go : (t : Bool) → ltb (length o) c.size ≡ t → (written_if t c f bs o).answer ≡ given tt → (c.size ≤ length o) × (f ≡ 0)
      go true q e = given_refused (sym e)
      go false q e = (ltb-false _ _ q, (by_none c.first c.at c.later c.place f (tt {0}) tt e).0)

  -- a refusal leaves every byte
  pub written_refused : (k p : ℕ) → (written c f bs o).answer ≡ refused k p → (written c f bs o).bytes ≡ o
  written_refused k p e = go (ltb (length o) c.size) e
    where
      inner : (u : Bool) → eqb f 0 ≡ u → by_fault c f (tt {0}) ≡ refused k p → cond u (bs ++ drop c.size o) o ≡ o
      inner true q e = given_refused (sym (at_none (refused c.first c.at) (λ i. refused c.later (c.place i)) f (given (tt {0})) (eqb-true f 0 q)) ∙ e)
      inner false q e = refl

      go : (t : Bool) → (written_if t c f bs o).answer ≡ refused k p → (written_if t c f bs o).bytes ≡ o
      go true e = refl
      go false e = inner (eqb f 0) refl e

  module _ (long : c.size ≤ length o) (z : f ≡ 0) where
    pub written_given : (written c f bs o).answer ≡ given tt
    written_given = rw (le-ltb _ _ long, eq-eqb f 0 z)

    pub written_bytes : (written c f bs o).bytes ≡ bs ++ drop c.size o
    written_bytes = rw (le-ltb _ _ long, eq-eqb f 0 z)

  -- else the first bytes are bs, and the others stay
  pub written_all : (written c f bs o).answer ≡ given tt → (written c f bs o).bytes ≡ bs ++ drop c.size o
  written_all e = let h = written_fine e in written_bytes h.0 h.1

  module _ (same : length bs ≡ c.size) where
    pub written_first : (written c f bs o).answer ≡ given tt → take c.size (written c f bs o).bytes ≡ bs
    written_first e = ap (take c.size) (written_all e) ∙ take_at bs (drop c.size o) c.size same

    pub written_past : (written c f bs o).answer ≡ given tt → drop c.size (written c f bs o).bytes ≡ drop c.size o
    written_past e = ap (drop c.size) (written_all e) ∙ drop_at bs (drop c.size o) c.size same

    -- in every case there are as many bytes as before
    pub written_length : length (written c f bs o).bytes ≡ length o
    written_length = go (ltb (length o) c.size) refl
      where
        either_way : c.size ≤ length o → (u : Bool) → length (cond u (bs ++ drop c.size o) o) ≡ length o
        either_way l true = omega (arith, length-append bs (drop c.size o), length-drop c.size o)
        either_way l false = refl

        go : (t : Bool) → ltb (length o) c.size ≡ t → length (written_if t c f bs o).bytes ≡ length o
        go true e = refl
        go false e = either_way (ltb-false (length o) c.size e) (eqb f 0)
