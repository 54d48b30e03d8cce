-- `checker::sound_after` meets its contract.
use Rattle.std.specs.Prelude.{Err}
use Rattle.std.proofs.Common.{rules}
use mathlib.Core.Path.{◌≡◌, sym, ap, ◌∙◌}
use Rattle.sheet.specs.Refusals.{told_result}
use Rattle.checker.proofs.Faults.{record_refused_lem, record_order, record_good}
use Rattle.checker.proofs.sound_after.Goals as goal

-- src/lib.rt:51:17
pub returns-then-r-before : goal.returns-then-r-before
returns-then-r-before c =
    let a = c.args in
    record_order _ _ a.bytes.now _ (sym (ap told_result c.in_ok-r.was) ∙ c.read_record_as.ensures) c.if-r-before.true

-- src/lib.rt:43:1
pub returns-in_err-r : goal.returns-in_err-r
returns-in_err-r c =
    let a = c.args in
    let passed_on : c.from_residual.result ≡ Err c.in_err-r.field-0.0 = search rules in
    ap told_result passed_on ∙ record_refused_lem _ _ a.bytes.now _ _ (sym (ap told_result c.in_err-r.was) ∙ c.read_record_as.ensures)

-- src/lib.rt:43:1
pub returns : goal.returns
returns c =
    let a = c.args in
    record_good _ _ a.bytes.now _ (sym (ap told_result c.in_ok-r.was) ∙ c.read_record_as.ensures) c.if-r-before.false
