-- `checker::check` meets its contract.
use Rattle.std.specs.Prelude.{Result, Err}
use Rattle.std.proofs.Common.{rules}
use Rattle.sheet.specs.declared.Refusal.{Refusal}
use Rattle.checker.specs.declared.Checked.{Checked}
use mathlib.Core.Path.{◌≡◌, ap, sym, subst, ◌∙◌}
use lib.ListN.{length}
use Rattle.sheet.specs.Refusals.{given, told_result}
use Rattle.checker.specs.Check.{header_for, Checks}
use Rattle.checker.proofs.Whole.{at_header, few, refused_checks}
use Rattle.checker.proofs.check.Goals as goal

-- src/lib.rt:351:13
-- LOOK: κs/given
pub judge_sheet-requires : goal.judge_sheet-requires
judge_sheet-requires c =
    let a = c.args in
    let read : given c.in_ok-h.h ≡ header_for a.sheet.now (length a.out.now) = sym (ap told_result c.in_ok-h.was) ∙ c.header_for.ensures in
    (read, few a.sheet.now (length a.out.now) c.in_ok-h.h read)

-- src/lib.rt:343:1
pub returns-in_err-h : goal.returns-in_err-h
returns-in_err-h c =
    let a = c.args in
    let passed_on : c.from_residual.result ≡ Err c.in_err-h.field-0.0 = search rules in
    subst (λ (r : Result Checked Refusal). Checks a.sheet.now a.out.now r a.out.now) (sym passed_on)
    (refused_checks a.sheet.now a.out.now _ (at_header a.sheet.now _ _ _ (sym (ap told_result c.in_err-h.was) ∙ c.header_for.ensures)))
