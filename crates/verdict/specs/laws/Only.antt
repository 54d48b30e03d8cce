-- Two answers that meet a promise of this crate are equal.
-- Assumes nothing.
use Rattle.std.specs.Prelude.{ℕ, ◌≡◌, Result}
use Rattle.std.proofs.Common.{sym, ◌∙◌}
use Rattle.gauge.specs.declared.Shape.{Shape}
use Rattle.sheet.specs.declared.Header.{Header}
use Rattle.sheet.specs.declared.Record.{Record}
use Rattle.sheet.specs.Refusals.{told_result}
use Rattle.sheet.specs.laws.RefusalLaws.{outcome_only}
use Rattle.verdict.specs.declared.Verdict.{Verdict}
use Rattle.verdict.specs.Judged.{judged_by}
use Rattle.verdict.specs.Verdict.{failed_of}
use Rattle.sheet.specs.declared.Refusal.{Refusal}

pub failed_only : (rule : ℕ) (d : Shape) (top : ℕ) (a b : Verdict) → a ≡ failed_of rule d top → b ≡ failed_of rule d top → a ≡ b
failed_only rule d top a b p q = p ∙ sym q

pub admitted_only : (h : Header) (r : Record) (o p : Result (Unit {0}) Refusal) → told_result o ≡ judged_by h r (tt {0}) → told_result p ≡ judged_by h r (tt {0}) → o ≡ p
admitted_only h r o p e f = outcome_only (judged_by h r (tt {0})) o p e f
