-- `checker::judge_all` meets its contract. The loop's invariant: what the pass comes to from here on is what it comes to in all.
use Rattle.std.specs.Prelude.{Err}
use borrow.Author.Rules.{rules}
use mathlib.Core.Path.{◌≡◌, refl, ap, sym, ◌∙◌}
use native.Mathlib.Omega.{arith}
use lib.ListN.{set, length-set}
use Rattle.sheet.specs.Refusals.{given, told_result}
use Rattle.checker.specs.laws.EntryLaws.{entry_fit}
use Rattle.checker.specs.Check.{record_part}
use Rattle.checker.specs.Passes.{judged_after, told_passed}
use Rattle.checker.proofs.Pass.{writable, pass_start, pass_refused, pass_turn, pass_end}
use Rattle.checker.proofs.judge_all.Goals as goal

-- src/lib.rt:297:5
pub loop-i-init : goal.loop-i-init
loop-i-init c =
    let a = c.args in
    (search rules, search rules, refl, pass_start a.h a.records.now a.draft.now)

-- src/lib.rt:301:17
-- LOOK: before
pub returns-in_err-e : goal.returns-in_err-e
returns-in_err-e c =
    let l = c.loop-i in
    let a = c.args in
    let passed_on : c.from_residual.result ≡ Err c.in_err-e.field-0.0 = search rules in
    ap (λ p. told_passed p l.draft) passed_on ∙ pass_refused a.h.count a.h a.records.now l.i l.before l.failed l.draft l.invariant.3 _ _ c.loop-i-test.true
    (sym (ap told_result c.in_err-e.was) ∙ c.judged_at.ensures)

-- src/lib.rt:305:29
-- LOOK: before
pub number_of-requires : goal.number_of-requires
number_of-requires c =
    let l = c.loop-i in
    let a = c.args in
    entry_fit _ (writable a.h.count a.h a.records.now l.i l.before l.failed l.draft l.invariant.3 c.loop-i-test.true _
    (sym (ap told_result c.in_ok-e.was) ∙ c.judged_at.ensures))

-- src/lib.rt:306:9
pub overflow_add-failed : goal.overflow_add-failed
overflow_add-failed c = search rules

-- src/lib.rt:297:5
-- LOOK: before
-- LOOK: κs/given
pub loop-i-preserved : goal.loop-i-preserved
loop-i-preserved c =
    let l = c.loop-i in
    let a = c.args in
    let e = c.in_ok-e.e in
    let judged : given e ≡ judged_after a.h l.i l.before (record_part a.records.now l.i) = sym (ap told_result c.in_ok-e.was) ∙ c.judged_at.ensures in (
      search rules,
      search rules,
      simp length-set l.invariant.2,
      pass_turn a.h.count a.h a.records.now l.i l.before l.failed l.draft l.invariant.3 c.loop-i-test.true e judged _
          (ap (set l.draft l.i) c.number_of.ensures) (omega (arith, l.invariant.2, c.requires.fits)) c.failing-failed.result c.failing-failed.ensures.0,
    )

-- src/lib.rt:288:1
-- LOOK: before
pub returns : goal.returns
returns c =
    let l = c.loop-i in
    let a = c.args in
    pass_end a.h.count a.h a.records.now l.i l.before l.failed l.draft l.invariant.3 (omega arith)
