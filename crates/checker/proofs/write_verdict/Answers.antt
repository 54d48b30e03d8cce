-- `checker::write_verdict` meets its contract.
use Rattle.std.specs.Prelude.{Result, Err}
use Rattle.std.proofs.Common.{rules}
use Rattle.sheet.specs.Refusals.{told_result}
use Rattle.sheet.specs.laws.RefusalLaws.{goes_on, stops}
use Rattle.sheet.specs.Writes.{Writes}
use Rattle.sheet.specs.declared.Refusal.{Refusal}
use Rattle.checker.specs.Entry.{write_entry}
use mathlib.Core.Path.{◌≡◌, sym, ap, subst, ◌∙◌}
use Rattle.checker.specs.laws.EntryLaws.{entry_fit}
use Rattle.checker.proofs.Answers.{write_short, write_bad, write_good}
use Rattle.checker.proofs.write_verdict.Goals as goal

-- src/lib.rt:118:9
pub returns-then-out-lt-VERDICT : goal.returns-then-out-lt-VERDICT
returns-then-out-lt-VERDICT c = write_short _ _ c.if-out-lt-VERDICT.true

-- src/lib.rt:122:9
pub returns-in_err-outcome : goal.returns-in_err-outcome
returns-in_err-outcome c =
    let passed_on : c.from_residual.result ≡ Err c.in_err-outcome.field-0.0 = search rules in
    let stopped = stops _ _ _ (sym c.outcome.ensures ∙ c.in_err-outcome.was) in
    let a = c.args in
    subst (λ (x : Result (Unit {0}) Refusal). Writes (write_entry a.e a.out.now) (told_result x) a.out.now) (sym (passed_on ∙ ap Err stopped.1))
    (write_bad _ _ _ c.if-out-lt-VERDICT.false c.fault.ensures stopped.0)

-- src/lib.rt:124:18
pub number_of-requires : goal.number_of-requires
number_of-requires c = entry_fit _ (sym c.fault.ensures ∙ (goes_on _ _ _ (sym c.outcome.ensures ∙ c.in_ok-outcome.was)))

-- src/lib.rt:114:1
pub returns : goal.returns
returns c =
    write_good _ c.args.out.now _ c.if-out-lt-VERDICT.false c.fault.ensures _ _ (goes_on _ _ _ (sym c.outcome.ensures ∙ c.in_ok-outcome.was)) c.number_of.ensures c.write_number.ensures
