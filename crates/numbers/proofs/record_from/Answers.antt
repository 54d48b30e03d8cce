-- `numbers::record_from` meets its contract.
use Rattle.std.specs.Prelude.{Result, Err}
use Rattle.std.proofs.Common.{rules}
use mathlib.Core.Path.{◌≡◌, sym, ap, ◌∙◌}
use Rattle.sheet.specs.Refusals.{told_result}
use Rattle.numbers.specs.From.{record_from}
use Rattle.numbers.proofs.Places.{carrying}
use Rattle.numbers.proofs.Taken.{record_by_held}
use Rattle.numbers.proofs.record_from.Goals.{After-earlier}
use Rattle.numbers.proofs.record_from.Goals as goal
use Rattle.sheet.specs.declared.Refusal.{Refusal}

-- `numbers::record_from` meets its contract.
-- Assumes nothing.
found : (c : After-earlier) → let a = c.args in
    carrying c.record_held-r.result (told_result c.earlier.result) ≡ record_from a.i a.f
found c =
    let a = c.args in
    record_by_held a.i a.f c.record_held-r.result c.record_apart-field.result c.record_held-r.ensures c.record_apart-field.ensures
    c.record_fault-found.ensures c.earlier.ensures

-- src/lib.rt:316:1
pub returns : goal.returns
returns c =
    let r = c.record_held-r.result in
    sym (ap (λ (o : Result (Unit {0}) Refusal). carrying r (told_result o)) c.in_ok-earlier.was) ∙ found (goal.at.returns c).After-earlier

-- src/lib.rt:316:1
pub returns-in_err-earlier : goal.returns-in_err-earlier
returns-in_err-earlier c =
    let r = c.record_held-r.result in
    let passed_on : c.from_residual.result ≡ Err c.in_err-earlier.field-0.0 = search rules in
    ap told_result passed_on ∙ sym (ap (λ (o : Result (Unit {0}) Refusal). carrying r (told_result o)) c.in_err-earlier.was) ∙ found (goal.at.returns-in_err-earlier c).After-earlier
