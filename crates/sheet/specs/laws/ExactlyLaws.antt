-- Each answer is given exactly when its case holds: over any lines, by the first faulty field, and for a slice that may be too short.
-- Assumes nothing.
use Rattle.std.specs.Prelude.{ℕ, zero, suc, ◌≤◌, ◌<◌, ◌≡◌, refl, Bool, true, false, cond, List, ◌∷◌, length, ltb, eqb}
use Rattle.std.proofs.Common.{sym, ap, ◌∙◌, arith, lt-ltb, le-ltb, ltb-true, ltb-false}
use Rattle.std.proofs.lemmas.Bool.{eqb-false}
use Rattle.layout.specs.Line.{Line, allows, Allowed, fault_from, FirstFault}
use Rattle.layout.specs.laws.LineLaws.{none_all, all_none, fault_first, first_fault}
use Rattle.sheet.specs.Refusals.{Answer, given, refused}
use Rattle.sheet.specs.laws.RefusalLaws.{at_none, at_first, at_later, by_first, by_later, by_none, by_others, refused_number, refused_place, given_refused}
use Rattle.sheet.specs.Exactly.{Exactly, LaterFault, Cases, by_fields, by_slice}

-- one step after another
pub exactly_then : {A B C : Type 0} → Exactly A B → Exactly B C → Exactly A C
exactly_then e f = (λ a. f.0 (e.0 a), λ c. e.1 (f.1 c))

-- within a condition of two parts or three, one of them in other words
pub in_front : {A B C : Type 0} → Exactly A B → Exactly (A × C) (B × C)
in_front e = (λ h. (e.0 h.0, h.1), λ h. (e.1 h.0, h.1))

pub in_middle : {A B C D : Type 0} → Exactly B C → Exactly (A × B × D) (A × C × D)
in_middle e = (λ h. (h.0, e.0 h.1, h.2), λ h. (h.0, e.1 h.1, h.2))

pub at_end : {A B C : Type 0} → Exactly B C → Exactly (A × B) (A × C)
at_end e = (λ h. (h.0, e.0 h.1), λ h. (h.0, e.1 h.1))

two_at_end : {A B C D : Type 0} → Exactly B (C × D) → Exactly (A × B) (A × C × D)
two_at_end e = (λ h. let g = e.0 h.1 in (h.0, g.0, g.1), λ h. (h.0, e.1 (h.1, h.2)))

-- where nothing is given but word that all is well, that it is the same word says nothing
pub alone : {A : Type 0} → Exactly (A × (tt {0} ≡ tt)) A
alone = (λ h. h.0, λ a. (a, refl))

pub alone_two : {A B : Type 0} → Exactly (A × B × (tt {0} ≡ tt)) (A × B)
alone_two = (λ h. (h.0, h.1), λ h. (h.0, h.1, refl))

-- of an answer that is known to be another
pub exactly_of : {A C : Type 0} {x y z : A} → x ≡ y → Exactly (y ≡ z) C → Exactly (x ≡ z) C
exactly_of e f = (λ h. f.0 (sym e ∙ h), λ c. e ∙ f.1 c)

-- the same by places that are written otherwise
pub same_places : (f g : ℕ → ℕ) (ls : List Line) (vs : List ℕ) (p : ℕ) → ((k : ℕ) → f k ≡ g k) → Exactly (LaterFault f ls vs p) (LaterFault g ls vs p)
same_places f g ls vs p e = (
  λ l. record { index = l.index; fault = l.fault; at = l.at ∙ e (suc (suc l.index)) },
  λ l. record { index = l.index; fault = l.fault; at = l.at ∙ sym (e (suc (suc l.index))) },
)

-- the first field is the first at fault exactly when its line does not allow its value
pub first_alone : (l : Line) (ls : List Line) (v : ℕ) (vs : List ℕ) → Exactly (FirstFault 0 (l ∷ ls) (v ∷ vs)) (allows l v ≡ false)
first_alone l ls v vs = (λ f. f.faulty, λ e. record { inside = omega arith; faulty = e; earlier = λ j m. absurd (omega arith) })

-- ---- by the first faulty field

module _ {A : Type 0} (c : Cases) (ls : List Line) (vs : List ℕ) (same : length vs ≡ length ls) (a : A) where
  abbrev f : ℕ
  f = fault_from 1 ls vs

  abbrev one : Answer A
  one = refused c.first c.at

  abbrev more : ℕ → Answer A
  more k = refused c.later (c.place k)

  pub fields_first : (p : ℕ) → Exactly (by_fields c ls vs a ≡ refused c.first p) (FirstFault 0 ls vs × (p ≡ c.at))
  fields_first p = (there, back)
    where
      there : by_fields c ls vs a ≡ refused c.first p → FirstFault 0 ls vs × (p ≡ c.at)
      there e =
          let b = by_first c.first c.at c.later c.place f a (eqb-false _ _ c.apart) p e in
          (fault_first ls vs same 0 b.0, b.1)

      back : FirstFault 0 ls vs × (p ≡ c.at) → by_fields c ls vs a ≡ refused c.first p
      back h = at_first one more f (given a) (first_fault ls vs same 0 h.0) ∙ ap (λ (q : ℕ). refused c.first q) (sym h.1)

  pub fields_later : (p : ℕ) → Exactly (by_fields c ls vs a ≡ refused c.later p) (LaterFault c.place ls vs p)
  fields_later p = (λ e. there f refl (by_later c.first c.at c.later c.place f a (eqb-false _ _ c.apart) p e), back)
    where
      there : (g : ℕ) → f ≡ g → (2 ≤ f) × (p ≡ c.place f) → LaterFault c.place ls vs p
      there zero e h = absurd (omega arith)
      there (suc zero) e h = absurd (omega arith)
      there (suc (suc i)) e h = record { index = i; fault = fault_first ls vs same (suc i) e; at = h.1 ∙ ap c.place e }

      back : LaterFault c.place ls vs p → by_fields c ls vs a ≡ refused c.later p
      back h =
          let e = first_fault ls vs same (suc h.index) h.fault in
          at_later one more f (given a) (omega arith) ∙ ap (λ (q : ℕ). refused c.later q) (ap c.place e ∙ sym h.at)

  pub fields_given : (b : A) → Exactly (by_fields c ls vs a ≡ given b) (Allowed ls vs × (a ≡ b))
  fields_given b = (there, back)
    where
      there : by_fields c ls vs a ≡ given b → Allowed ls vs × (a ≡ b)
      there e = let n = by_none c.first c.at c.later c.place f a b e in (none_all 0 ls vs n.0, n.1)

      back : Allowed ls vs × (a ≡ b) → by_fields c ls vs a ≡ given b
      back h = at_none one more f (given a) (all_none 1 ls vs h.0) ∙ ap given h.1

  -- no other number is given
  pub fields_others : (k p : ℕ) → (k ≡ c.first → ⊥) → (k ≡ c.later → ⊥) → by_fields c ls vs a ≡ refused k p → ⊥
  fields_others k p n m e = by_others c.first c.at c.later c.place f a k p n m e

-- ---- by the slice

module _ {A : Type 0} (short : ℕ) (c : Cases) (s : List ℕ) (inner : Answer A) where
  pub slice_short : ((p : ℕ) → inner ≡ refused short p → ⊥) → (p : ℕ)
      → Exactly (by_slice short c s inner ≡ refused short p) ((length s < c.size) × (p ≡ 0))
  slice_short never p = (λ e. there (ltb (length s) c.size) refl e, back)
    where
      there : (t : Bool) → ltb (length s) c.size ≡ t → cond t (refused short 0) inner ≡ refused short p
          → (length s < c.size) × (p ≡ 0)
      there true q e = (ltb-true _ _ q, sym (refused_place e))
      there false q e = absurd (never p e)

      back : (length s < c.size) × (p ≡ 0) → by_slice short c s inner ≡ refused short p
      back h = rw (lt-ltb _ _ h.0, h.1)

  -- any other answer
  pub slice_long : (x : Answer A) → (refused short 0 ≡ x → ⊥) → Exactly (by_slice short c s inner ≡ x) ((c.size ≤ length s) × (inner ≡ x))
  slice_long x other = (λ e. there (ltb (length s) c.size) refl e, back)
    where
      there : (t : Bool) → ltb (length s) c.size ≡ t → cond t (refused short 0) inner ≡ x → (c.size ≤ length s) × (inner ≡ x)
      there true q e = absurd (other e)
      there false q e = (ltb-false _ _ q, e)

      back : (c.size ≤ length s) × (inner ≡ x) → by_slice short c s inner ≡ x
      back h = rw (le-ltb _ _ h.0) h.1

-- ---- both

module _ {A : Type 0} (short : ℕ) (c : Cases) (not_first : eqb short c.first ≡ false) (not_later : eqb short c.later ≡ false)
    (s : List ℕ) (ls : List Line) (vs : List ℕ) (same : length vs ≡ length ls) (a : A) where
  abbrev x : Answer A
  x = by_fields c ls vs a

  -- a refusal of another number is not that of a short slice
  differ : (k p : ℕ) → (short ≡ k → ⊥) → ◌≡◌ {A = Answer A} (refused short 0) (refused k p) → ⊥
  differ k p n e = n (refused_number e)

  never : (p : ℕ) → x ≡ refused short p → ⊥
  never p e = fields_others c ls vs same a short p (eqb-false _ _ not_first) (eqb-false _ _ not_later) e

  pub answer_short : (p : ℕ) → Exactly (by_slice short c s x ≡ refused short p) ((length s < c.size) × (p ≡ 0))
  answer_short p = slice_short short c s x never p

  pub answer_first : (p : ℕ) → Exactly (by_slice short c s x ≡ refused c.first p) ((c.size ≤ length s) × FirstFault 0 ls vs × (p ≡ c.at))
  answer_first p =
      exactly_then (slice_long short c s x (refused c.first p) (differ c.first p (eqb-false _ _ not_first)))
      (two_at_end (fields_first c ls vs same a p))

  pub answer_later : (p : ℕ) → Exactly (by_slice short c s x ≡ refused c.later p) ((c.size ≤ length s) × LaterFault c.place ls vs p)
  answer_later p =
      exactly_then (slice_long short c s x (refused c.later p) (differ c.later p (eqb-false _ _ not_later)))
      (at_end (fields_later c ls vs same a p))

  pub answer_given : (b : A) → Exactly (by_slice short c s x ≡ given b) ((c.size ≤ length s) × Allowed ls vs × (a ≡ b))
  answer_given b = exactly_then (slice_long short c s x (given b) (λ e. given_refused (sym e))) (two_at_end (fields_given c ls vs same a b))

  -- no other number is given
  pub answer_others : (k p : ℕ) → (k ≡ short → ⊥) → (k ≡ c.first → ⊥) → (k ≡ c.later → ⊥) → by_slice short c s x ≡ refused k p → ⊥
  answer_others k p l n m e =
      fields_others c ls vs same a k p n m ((slice_long short c s x (refused k p) (differ k p (λ q. l (sym q)))).0 e).1
