-- `verdict::admitted_plate` meets its contract.
use Rattle.std.specs.Prelude.{Err}
use mathlib.Core.Path.{◌≡◌, sym, ap, ◌∙◌}
use Rattle.std.proofs.Common.{rules}
use Rattle.sheet.specs.Refusals.{record_refused, given, told_result}
use Rattle.sheet.specs.Record.{of_plate, record_fault}
use Rattle.verdict.specs.laws.JudgedLaws.{header_first, then_record}
use Rattle.verdict.proofs.admitted_plate.Goals as goal

pub returns-in_err-header_fault : goal.returns-in_err-header_fault
returns-in_err-header_fault c =
    let a = c.args in
    let passed_on : c.from_residual.result ≡ Err c.in_err-header_fault.field-0.0 = search rules in
    ap told_result passed_on ∙ sym (header_first a.h (of_plate a.kind a.id a.p) _ _ (sym c.header_fault.ensures ∙ ap told_result c.in_err-header_fault.was))

-- LOOK: κs/given
pub returns : goal.returns
returns c =
    let a = c.args in
    let r = of_plate a.kind a.id a.p in
    c.plate_outcome.ensures ∙ then_record a.h r (sym c.header_fault.ensures ∙ ap told_result c.in_ok-header_fault.was)
