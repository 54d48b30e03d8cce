-- Two answers of the code that say the same are equal; and what is refused by a first faulty field.
-- Assumes nothing.
use Rattle.std.specs.Prelude.{◌≡◌, refl, ℕ, ◌≤◌, Bool, true, false, cond, eqb, Result, Ok, Err}
use Rattle.std.proofs.Common.{sym, ap, ap₂, ◌∙◌, arith, eq-eqb, ne_eqb, eqb-true}
use Rattle.std.proofs.lemmas.Bool.{eqb-false}
use Rattle.sheet.specs.declared.Header.{Header}
use Rattle.sheet.specs.declared.Record.{Record}
use Rattle.sheet.specs.declared.Refusal.{Refusal}
use Rattle.sheet.specs.declared.Refusal.TheVariants.{SheetShort, Version, HeaderField, TooSlender, SheetLength, OutputShort, Kind, Field, Order, NoSuchId, NoRoom, Text, FieldCount}
use Rattle.sheet.specs.Refusals.{Answer, given, refused, number_of, place_of, told, refused_at, told_result, told_as}

-- the refusal of a number and a place
abbrev pub refusal_of : (k p : ℕ) → Refusal
refusal_of k p =
    cond (eqb k 1) SheetShort
    (cond (eqb k 2) Version
    (cond (eqb k 3) (HeaderField p)
    (cond (eqb k 9) TooSlender
    (cond (eqb k 4) SheetLength
    (cond (eqb k 5) OutputShort (cond (eqb k 6) (Kind p) (cond (eqb k 7) (Field p) (cond (eqb k 8) (Order p) (cond (eqb k 10) NoSuchId (cond (eqb k 11) NoRoom (cond (eqb k 14) (Text p) (FieldCount p))))))))))))

back : (r : Refusal) → refusal_of (number_of r) (place_of r) ≡ r
back SheetShort = refl
back Version = refl
back (HeaderField p) = refl
back TooSlender = refl
back SheetLength = refl
back OutputShort = refl
back (Kind p) = refl
back (Field p) = refl
back (Order p) = refl
back NoSuchId = refl
back NoRoom = refl
back (Text p) = refl
back (FieldCount p) = refl

-- a number and a place are those of one refusal at most
pub refusal_only : (r s : Refusal) → number_of r ≡ number_of s → place_of r ≡ place_of s → r ≡ s
refusal_only r s e f = sym (back r) ∙ ap₂ refusal_of e f ∙ back s

-- what is given is not refused
pub given_refused : {A B : Type 0} {a : A} {k p : ℕ} → given a ≡ refused k p → B
given_refused {A} e = let z : ◌≡◌ {A = ℕ} 0 1 = cc in absurd (omega arith)

pub refused_number : {A : Type 0} {k p l q : ℕ} → ◌≡◌ {A = Answer A} (refused k p) (refused l q) → k ≡ l
refused_number e = cc

pub refused_place : {A : Type 0} {k p l q : ℕ} → ◌≡◌ {A = Answer A} (refused k p) (refused l q) → p ≡ q
refused_place e = cc

pub given_same : {A : Type 0} {a b : A} → ◌≡◌ {A = Answer A} (given a) (given b) → a ≡ b
given_same e = cc

-- what a test of the first faulty field answers: it goes on exactly where there is none, and else the refusal is that of the field
pub goes_on : (f : ℕ) (r : Refusal) (u : Unit {0}) → cond (eqb f 0) (Ok tt) (Err r) ≡ Ok u → f ≡ 0
goes_on f r u e = go (eqb f 0) refl e
  where
    go : (t : Bool) → eqb f 0 ≡ t → cond t (Ok tt) (Err r) ≡ Ok u → f ≡ 0
    go true z d = eqb-true f 0 z
    go false z d = given_refused (sym (ap told_result d))

pub stops : (f : ℕ) (r x : Refusal) → cond (eqb f 0) (Ok (tt {0})) (Err r) ≡ Err x → (f ≡ 0 → ⊥) × (x ≡ r)
stops f r x e = go (eqb f 0) refl e
  where
    go : (t : Bool) → eqb f 0 ≡ t → cond t (Ok (tt {0})) (Err r) ≡ Err x → (f ≡ 0 → ⊥) × (x ≡ r)
    go true z d = given_refused (ap told_result d)
    go false z d = let s = sym (ap told_result d) in (eqb-false f 0 z, refusal_only x r (refused_number s) (refused_place s))

-- two answers of the code that say the same, where what is told of a value tells it from others
pub as_only : {A B : Type 0} (f : A → B) → ((x y : A) → f x ≡ f y → x ≡ y) → (a : Answer B) (q r : Result A Refusal) → told_as f q ≡ a → told_as f r ≡ a → q ≡ r
as_only f apart a (Ok x) (Ok y) d e = ap Ok (apart x y (given_same (d ∙ sym e)))
as_only f apart a (Ok x) (Err s) d e = given_refused (d ∙ sym e)
as_only f apart a (Err r) (Ok y) d e = given_refused (e ∙ sym d)
as_only f apart a (Err r) (Err s) d e = ap Err (refusal_only r s (refused_number (d ∙ sym e)) (refused_place (d ∙ sym e)))

pub result_only : {A : Type 0} (a : Answer A) (q r : Result A Refusal) → told_result q ≡ a → told_result r ≡ a → q ≡ r
result_only = as_only (λ x. x) (λ x y e. e)

pub outcome_only : (a : Answer (Unit {0})) (o p : Result (Unit {0}) Refusal) → told_result o ≡ a → told_result p ≡ a → o ≡ p
outcome_only = result_only

pub header_only : (a : Answer Header) (r s : Result Header Refusal) → told_result r ≡ a → told_result s ≡ a → r ≡ s
header_only = result_only

pub record_only : (a : Answer Record) (r s : Result Record Refusal) → told_result r ≡ a → told_result s ≡ a → r ≡ s
record_only = result_only

-- ---- what is refused by a first faulty field

-- the answer by the field: none, the first, a later one
module _ {A : Type 0} (first : Answer A) (later : ℕ → Answer A) (f : ℕ) (fine : Answer A) where
  pub at_none : f ≡ 0 → refused_at first later f fine ≡ fine
  at_none z = rw (eq-eqb f 0 z)

  pub at_first : f ≡ 1 → refused_at first later f fine ≡ first
  at_first z = rw (ne_eqb f 0 (λ e. absurd (omega arith)), eq-eqb f 1 z)

  pub at_later : 2 ≤ f → refused_at first later f fine ≡ later f
  at_later z = rw (ne_eqb f 0 (λ e. absurd (omega arith)), ne_eqb f 1 (λ e. absurd (omega arith)))

-- a refusal picked by the field says what is refused at that field
pub says : {A : Type 0} (r s : Refusal) (later : ℕ → Answer A) (f : ℕ) (fine : Answer A) → told s ≡ later f → (f ≡ 0 → ⊥)
    → told (cond (eqb f 1) r s) ≡ refused_at (told r) later f fine
says {A} r s later f fine e z = go (eqb f 1) ∙ rw (ne_eqb f 0 z)
  where
    go : (t : Bool) → told {A = A} (cond t r s) ≡ cond t (told r) (later f)
    go true = refl
    go false = e

-- and the field by the answer, where the two refusals have different numbers
module _ {A : Type 0} (k₁ p₁ k₂ : ℕ) (place : ℕ → ℕ) (f : ℕ) (a : A) where
  abbrev pub whole : Answer A
  whole = refused_at (refused k₁ p₁) (λ k. refused k₂ (place k)) f (given a)

  -- which of the three answers it is
  pub data Which : Type 0 where
    none : f ≡ 0 → whole ≡ given a → Which
    first : f ≡ 1 → whole ≡ refused k₁ p₁ → Which
    later : 2 ≤ f → whole ≡ refused k₂ (place f) → Which

  pub which : Which
  which = go (eqb f 0) refl (eqb f 1) refl
    where
      F : Answer A
      F = refused k₁ p₁

      L : ℕ → Answer A
      L k = refused k₂ (place k)

      go : (t : Bool) → eqb f 0 ≡ t → (u : Bool) → eqb f 1 ≡ u → Which
      go true e u g = none (eqb-true f 0 e) (at_none F L f (given a) (eqb-true f 0 e))
      go false e true g = first (eqb-true f 1 g) (at_first F L f (given a) (eqb-true f 1 g))
      go false e false g =
          let l : 2 ≤ f = omega (arith, eqb-false f 0 e, eqb-false f 1 g) in
          later l (at_later F L f (given a) l)

  -- the first refusal is given exactly for the first field, the other exactly for a later one, and neither exactly where no field is at fault
  module _ (apart : k₁ ≡ k₂ → ⊥) where
    pub by_first : (p : ℕ) → whole ≡ refused k₁ p → (f ≡ 1) × (p ≡ p₁)
    by_first p e = go which
      where
        go : Which → (f ≡ 1) × (p ≡ p₁)
        go (none z w) = given_refused (sym w ∙ e)
        go (first z w) = (z, sym (refused_place (sym w ∙ e)))
        go (later z w) = absurd (apart (sym (refused_number (sym w ∙ e))))

    pub by_later : (p : ℕ) → whole ≡ refused k₂ p → (2 ≤ f) × (p ≡ place f)
    by_later p e = go which
      where
        go : Which → (2 ≤ f) × (p ≡ place f)
        go (none z w) = given_refused (sym w ∙ e)
        go (first z w) = absurd (apart (refused_number (sym w ∙ e)))
        go (later z w) = (z, sym (refused_place (sym w ∙ e)))

  pub by_none : (b : A) → whole ≡ given b → (f ≡ 0) × (a ≡ b)
  by_none b e = go which
    where
      go : Which → (f ≡ 0) × (a ≡ b)
      go (none z w) = (z, given_same (sym w ∙ e))
      go (first z w) = given_refused (sym e ∙ w)
      go (later z w) = given_refused (sym e ∙ w)

  -- no other number is given
  pub by_others : (k p : ℕ) → (k ≡ k₁ → ⊥) → (k ≡ k₂ → ⊥) → whole ≡ refused k p → ⊥
  by_others k p n m e = go which
    where
      go : Which → ⊥
      go (none z w) = given_refused (sym w ∙ e)
      go (first z w) = n (sym (refused_number (sym w ∙ e)))
      go (later z w) = m (sym (refused_number (sym w ∙ e)))
