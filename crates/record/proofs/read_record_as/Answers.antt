-- `record::read_record_as` meets its contract.
use Rattle.std.specs.Prelude.{Err}
use Rattle.std.proofs.Common.{rules}
use Rattle.sheet.specs.Refusals.{told_result}
use Rattle.sheet.specs.laws.RefusalLaws.{goes_on, stops}
use mathlib.Core.Path.{◌≡◌, sym, ap, ◌∙◌}
use Rattle.record.proofs.Answers.{read_short, read_good, read_bad}
use Rattle.record.proofs.read_record_as.Goals as goal

-- src/lib.rt:124:9
pub returns-then-s-lt16 : goal.returns-then-s-lt16
returns-then-s-lt16 c = read_short _ _ c.if-s-lt16.true

-- src/lib.rt:130:9
pub returns : goal.returns
returns c =
    read_good _ c.args.s.now _ _ _ _ c.if-s-lt16.false c.read_long-n.ensures c.record_of-r.ensures
    c.spare_of.ensures c.fault.ensures (goes_on _ _ _ (sym c.outcome.ensures ∙ c.in_ok-outcome.was))

-- src/lib.rt:120:1
pub returns-in_err-outcome : goal.returns-in_err-outcome
returns-in_err-outcome c =
    let passed_on : c.from_residual.result ≡ Err c.in_err-outcome.field-0.0 = search rules in
    let stopped = stops _ _ _ (sym c.outcome.ensures ∙ c.in_err-outcome.was) in
    ap told_result passed_on ∙ read_bad _ c.args.s.now _ _ _ _ c.if-s-lt16.false c.read_long-n.ensures c.record_of-r.ensures
    c.spare_of.ensures c.fault.ensures _ stopped.1 stopped.0
