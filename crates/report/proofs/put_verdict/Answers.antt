-- `report::put_verdict` meets its contract.
use mathlib.Core.Path.{◌≡◌, sym, ap, subst, ◌∙◌}
use mathlib.Core.List.{List}
use Prim.Native.Nat.{ℕ}
use native.Mathlib.Omega.{arith}
use lib.ListN.{length}
use Rattle.sheet.specs.Refusals.{given, told_result}
use Rattle.checker.specs.Entry.{read_entry}
use Rattle.decimal.specs.Laid.{Laid}
use Rattle.decimal.specs.laws.LaidLaws.{laid_none}
use Rattle.report.specs.laws.PiecesLaws.{verdict_line_lem, verdict_none, verdict_most}
use Rattle.report.proofs.put_verdict.Goals.{In-Ok}
use Rattle.report.proofs.put_verdict.Goals as goal

-- `report::put_verdict` meets its contract.
-- Assumes nothing.
-- past the match there is a verdict
verdict_given : (c : In-Ok) → given c.in-Ok.e ≡ read_entry c.args.verdict.now
verdict_given c = sym (ap told_result c.in-Ok.is) ∙ c.read_verdict.ensures

pub put_entry-requires : goal.put_entry-requires
put_entry-requires c =
    let b = c.args.verdict.now in
    omega (arith, ap length (verdict_line_lem b _ (verdict_given (goal.at.put_entry-requires c).In-Ok)), verdict_most b)

pub returns-in-Ok : goal.returns-in-Ok
returns-in-Ok c =
    let a = c.args in
    subst (λ (t : List ℕ). Laid a.page.now a.at t c.put_entry.result c.put_entry.new.page) (verdict_line_lem a.verdict.now _ (verdict_given (goal.at.returns-in-Ok c).In-Ok)) c.put_entry.ensures

pub returns-in-Err : goal.returns-in-Err
returns-in-Err c =
    let a = c.args in
    subst (λ (t : List ℕ). Laid a.page.now a.at t a.at a.page.now)
    (verdict_none a.verdict.now _ _ (sym (ap told_result c.in-Err.is) ∙ c.read_verdict.ensures)) (laid_none a.page.now a.at)
