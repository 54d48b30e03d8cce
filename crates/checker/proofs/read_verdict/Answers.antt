-- `checker::read_verdict` meets its contract.
use Rattle.std.specs.Prelude.{Err}
use Rattle.std.proofs.Common.{rules}
use Rattle.sheet.specs.Refusals.{told_result}
use Rattle.sheet.specs.laws.RefusalLaws.{goes_on, stops}
use mathlib.Core.Path.{◌≡◌, sym, ap, ◌∙◌}
use Rattle.checker.proofs.Answers.{read_short, read_good, read_bad}
use Rattle.checker.proofs.read_verdict.Goals as goal

-- src/lib.rt:95:9
pub returns-then-s-lt-VERDICT : goal.returns-then-s-lt-VERDICT
returns-then-s-lt-VERDICT c = read_short _ c.if-s-lt-VERDICT.true

-- src/lib.rt:101:9
pub returns : goal.returns
returns c =
    read_good c.args.s.now _ _ _ c.if-s-lt-VERDICT.false c.read_half-n.ensures c.entry_of-entry.ensures c.fault.ensures (goes_on _ _ _ (sym c.outcome.ensures ∙ c.in_ok-outcome.was))

-- src/lib.rt:91:1
pub returns-in_err-outcome : goal.returns-in_err-outcome
returns-in_err-outcome c =
    let passed_on : c.from_residual.result ≡ Err c.in_err-outcome.field-0.0 = search rules in
    let stopped = stops _ _ _ (sym c.outcome.ensures ∙ c.in_err-outcome.was) in
    ap told_result (passed_on ∙ ap Err stopped.1) ∙ read_bad c.args.s.now _ _ _ c.if-s-lt-VERDICT.false c.read_half-n.ensures c.entry_of-entry.ensures c.fault.ensures stopped.0
