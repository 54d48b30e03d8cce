-- `record::write_record` meets its contract.
use Rattle.std.specs.Prelude.{Result, Err}
use Rattle.std.proofs.Common.{rules}
use Rattle.sheet.specs.Refusals.{told_result}
use Rattle.sheet.specs.laws.RefusalLaws.{goes_on, stops}
use Rattle.sheet.specs.Record.{write_record}
use Rattle.sheet.specs.Writes.{Writes}
use Rattle.sheet.specs.declared.Refusal.{Refusal}
use mathlib.Core.Path.{◌≡◌, sym, subst, ◌∙◌}
use Rattle.sheet.specs.laws.RecordLaws.{record_fit}
use Rattle.record.proofs.Answers.{write_short, write_bad, write_good}
use Rattle.record.proofs.write_record.Goals as goal

-- src/lib.rt:157:9
pub returns-then-out-lt16 : goal.returns-then-out-lt16
returns-then-out-lt16 c = write_short _ _ c.if-out-lt16.true

-- src/lib.rt:161:9
pub returns-in_err-outcome : goal.returns-in_err-outcome
returns-in_err-outcome c =
    let passed_on : c.from_residual.result ≡ Err c.in_err-outcome.field-0.0 = search rules in
    let stopped = stops c.fault.result _ _ (sym c.outcome.ensures ∙ c.in_err-outcome.was) in
    let a = c.args in
    subst (λ (x : Result (Unit {0}) Refusal). Writes (write_record a.r a.out.now) (told_result x) a.out.now) (sym passed_on)
    (write_bad a.r a.out.now _ c.if-out-lt16.false c.fault.ensures _ stopped.1 stopped.0)

-- src/lib.rt:163:29
pub number_of-requires : goal.number_of-requires
number_of-requires c = record_fit c.args.r (sym c.fault.ensures ∙ (goes_on _ _ _ (sym c.outcome.ensures ∙ c.in_ok-outcome.was)))

-- src/lib.rt:153:1
pub returns : goal.returns
returns c =
    let a = c.args in
    write_good a.r a.out.now _ c.if-out-lt16.false c.fault.ensures _ _ (goes_on _ _ _ (sym c.outcome.ensures ∙ c.in_ok-outcome.was)) c.number_of.ensures c.write_long.ensures
