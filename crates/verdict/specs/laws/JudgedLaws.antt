-- When a record is judged, and that an answer is the only one.
-- Assumes nothing.
use Rattle.std.specs.Prelude.{ℕ, ◌+◌, ◌*◌, ◌≡◌, refl, Bool, true, false, eqb, Result, Ok, Err}
use Rattle.std.proofs.Common.{sym, ap, ap₂, ◌∙◌}
use Rattle.std.proofs.Math.Bool.{cond}
use borrow.Author.Tests.{eq-eqb, eqb-true}
use Rattle.sheet.specs.declared.Header.{Header}
use Rattle.sheet.specs.declared.Record.{Record}
use Rattle.sheet.specs.declared.Refusal.{Refusal}
use Rattle.sheet.specs.Header.{header_fault}
use Rattle.sheet.specs.Record.{record_fault}
use Rattle.sheet.specs.Refusals.{Answer, given, refused, told, header_refused, record_refused, told_result}
use Rattle.sheet.specs.laws.RefusalLaws.{given_refused, refusal_only, refused_number, refused_place, given_same, by_none, as_only}
use Rattle.loads.specs.laws.Only.{source_only}
use Rattle.verdict.specs.declared.Verdict.{Verdict}
use Rattle.verdict.specs.Judged.{Finding, told_judged, judged_by, Sound, found}
use Rattle.verdict.specs.declared.Judged.{Judged}

-- the tests that the answer goes by
abbrev tested : {A : Type 0} → (t u v w : Bool) → (f g : ℕ) → A → Answer A
tested t u v w f g a = cond t (cond v (given a) (cond w (refused 6 0) (refused 7 g))) (cond u (refused 2 0) (refused 3 f))

tested_given : {A : Type 0} (t u v w : Bool) (f g : ℕ) (a b : A) → tested t u v w f g a ≡ given b → (t ≡ true) × (v ≡ true)
tested_given true u true w f g a b e = (refl, refl)
tested_given true u false true f g a b e = given_refused (sym e)
tested_given true u false false f g a b e = given_refused (sym e)
tested_given false true v w f g a b e = given_refused (sym e)
tested_given false false v w f g a b e = given_refused (sym e)

-- a refusal of one asking is the same refusal of another
again : {A B : Type 0} (l q k p : ℕ) → ◌≡◌ {A = Answer A} (refused l q) (refused k p) → ◌≡◌ {A = Answer B} (refused l q) (refused k p)
again l q k p e = ap₂ refused (refused_number e) (refused_place e)

tested_refused : {A B : Type 0} (t u v w : Bool) (f g : ℕ) (a : A) (b : B) (k p : ℕ) → tested t u v w f g a ≡ refused k p → tested t u v w f g b ≡ refused k p
tested_refused true u true w f g a b k p e = given_refused e
tested_refused true u false true f g a b k p e = again 6 0 k p e
tested_refused true u false false f g a b k p e = again 7 g k p e
tested_refused false true v w f g a b k p e = again 2 0 k p e
tested_refused false false v w f g a b k p e = again 3 f k p e

module _ (h : Header) (r : Record) where
  -- something is given exactly where both are sound, and then it is what stands there
  pub given_sound : {A : Type 0} (a b : A) → judged_by h r a ≡ given b → Sound h r
  unfolding judged_by
  given_sound a b e =
      let s = tested_given (eqb (header_fault h) 0) (eqb (header_fault h) 1) (eqb (record_fault r 0) 0) (eqb (record_fault r 0) 1) (header_fault h) (32 * 0 + record_fault r 0) a b e in
      record { header = eqb-true _ _ s.0; body = eqb-true _ _ s.1 }

  pub sound_given : {A : Type 0} (a : A) → Sound h r → judged_by h r a ≡ given a
  unfolding judged_by
  sound_given a s = rw (eq-eqb (header_fault h) 0 s.header, eq-eqb (record_fault r 0) 0 s.body)

  -- so with what was found, part by part
  pub found_given : {v w : Verdict} {m n : ℕ} → Sound h r → v ≡ w → m ≡ n
      → ◌≡◌ {A = Answer Finding} (given (record { verdict = v; source = m })) (judged_by h r (record { verdict = w; source = n }))
  found_given s p q = ap₂ {C = Answer Finding} (λ x k. given (record { verdict = x; source = k })) p q ∙ sym (sound_given _ s)

  -- a refusal does not hang on what would have been given
  pub refused_same : {A B : Type 0} (a : A) (b : B) (k p : ℕ) → judged_by h r a ≡ refused k p → judged_by h r b ≡ refused k p
  unfolding judged_by
  refused_same a b k p e =
      tested_refused (eqb (header_fault h) 0) (eqb (header_fault h) 1) (eqb (record_fault r 0) 0) (eqb (record_fault r 0) 1) (header_fault h) (32 * 0 + record_fault r 0) a b k p e

-- an answer to whether the two are within their values: nothing is at fault, or the refusal is what judging answers
module _ (h : Header) (r : Record) (o : Result (Unit {0}) Refusal) (asked : told_result o ≡ judged_by h r (tt {0})) where
  pub admitted_sound : o ≡ (Ok tt) → Sound h r
  admitted_sound e = given_sound h r (tt {0}) (tt {0}) (sym asked ∙ ap told_result e)

  pub turned_away : {A : Type 0} (a : A) (x : Refusal) → o ≡ Err x → told x ≡ judged_by h r a
  turned_away a x e = sym (refused_same h r (tt {0}) a _ _ (sym asked ∙ ap told_result e))

-- two answers that say the same are equal
pub judged_only : (a : Answer Finding) (i j : Result Judged Refusal) → told_judged i ≡ a → told_judged j ≡ a → i ≡ j
judged_only = as_only found (λ i j e. ap₂ {C = Judged} (λ v s. record { verdict = v; source = s }) (ap (λ (f : Finding). f.verdict) e) (source_only i.source j.source (ap (λ (f : Finding). f.source) e)))

-- the header goes first
module _ (h : Header) (r : Record) where
  pub header_first : (k p : ℕ) → header_refused (header_fault h) (given (tt {0})) ≡ refused k p → judged_by h r (tt {0}) ≡ refused k p
  unfolding judged_by
  header_first k p e = go (eqb (header_fault h) 0) e
    where
      rest : Answer (Unit {0})
      rest = cond (eqb (header_fault h) 1) (refused 2 0) (refused 3 (header_fault h))

      go : (t : Bool) → cond t (given (tt {0})) rest ≡ refused k p → cond t (record_refused 0 (record_fault r 0) (given (tt {0}))) rest ≡ refused k p
      go true e = given_refused e
      go false e = e

  pub then_record : header_refused (header_fault h) (given (tt {0})) ≡ given (tt {0}) → record_refused 0 (record_fault r 0) (given (tt {0})) ≡ judged_by h r (tt {0})
  unfolding judged_by
  then_record e = rw (eq-eqb (header_fault h) 0 (by_none 2 0 3 (λ k. k) (header_fault h) (tt {0}) (tt {0}) e).0)
