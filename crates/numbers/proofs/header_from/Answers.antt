-- `numbers::header_from` meets its contract.
use Rattle.std.specs.Prelude.{Result, Err}
use Rattle.std.proofs.Common.{rules}
use mathlib.Core.Path.{◌≡◌, sym, ap, ◌∙◌}
use Rattle.sheet.specs.Refusals.{told_result}
use Rattle.numbers.specs.From.{header_from}
use Rattle.numbers.proofs.Places.{carrying}
use Rattle.numbers.proofs.Taken.{header_by_held}
use Rattle.numbers.proofs.header_from.Goals.{After-earlier}
use Rattle.numbers.proofs.header_from.Goals as goal
use Rattle.sheet.specs.declared.Refusal.{Refusal}

-- `numbers::header_from` meets its contract.
-- Assumes nothing.
found : (c : After-earlier) → carrying c.header_held-h.result (told_result c.earlier.result) ≡ header_from c.args.f
found c =
    header_by_held c.args.f c.header_held-h.result c.header_apart-field.result c.header_held-h.ensures c.header_apart-field.ensures
    c.header_fault-found.ensures c.earlier.ensures

-- src/lib.rt:206:1
pub returns : goal.returns
returns c =
    let h = c.header_held-h.result in
    sym (ap (λ (o : Result (Unit {0}) Refusal). carrying h (told_result o)) c.in_ok-earlier.was) ∙ found (goal.at.returns c).After-earlier

-- src/lib.rt:206:1
pub returns-in_err-earlier : goal.returns-in_err-earlier
returns-in_err-earlier c =
    let h = c.header_held-h.result in
    let passed_on : c.from_residual.result ≡ Err c.in_err-earlier.field-0.0 = search rules in
    ap told_result passed_on ∙ sym (ap (λ (o : Result (Unit {0}) Refusal). carrying h (told_result o)) c.in_err-earlier.was) ∙ found (goal.at.returns-in_err-earlier c).After-earlier
