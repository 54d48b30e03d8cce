-- `checker::records_sound` meets its contract. The loop's invariant: what the records come to from here on is what they come to in all.
use Rattle.std.specs.Prelude.{Err}
use borrow.Author.Rules.{rules}
use mathlib.Core.Path.{◌≡◌, ap, sym, ◌∙◌}
use native.Mathlib.Omega.{arith}
use Rattle.sheet.specs.Refusals.{given, told_result}
use Rattle.checker.specs.Check.{record_part, sound_after}
use Rattle.checker.proofs.Unjudged.{sound_start, sound_refused, sound_turn, sound_end}
use Rattle.checker.proofs.records_sound.Goals as goal

-- src/lib.rt:75:5
pub loop-i-init : goal.loop-i-init
loop-i-init c =
    let a = c.args in
    (search rules, sound_start a.n a.records.now)

-- src/lib.rt:79:17
-- LOOK: before
pub returns-in_err-r : goal.returns-in_err-r
returns-in_err-r c =
    let l = c.loop-i in
    let a = c.args in
    let passed_on : c.from_residual.result ≡ Err c.in_err-r.field-0.0 = search rules in
    ap told_result passed_on ∙ sound_refused a.n a.records.now l.i l.before c.loop-i-test.true _ _ (sym (ap told_result c.in_err-r.was) ∙ c.sound_at.ensures)
    ∙ l.invariant.1

-- src/lib.rt:75:5
-- LOOK: before
-- LOOK: κs/given
pub loop-i-preserved : goal.loop-i-preserved
loop-i-preserved c =
    let l = c.loop-i in
    let a = c.args in
    let r = c.in_ok-r.r in
    let sound : given r ≡ sound_after l.i l.before (record_part a.records.now l.i) = sym (ap told_result c.in_ok-r.was) ∙ c.sound_at.ensures in
    (search rules, sound_turn a.n a.records.now l.i l.before c.loop-i-test.true r sound ∙ l.invariant.1)

-- src/lib.rt:69:1
-- LOOK: before
pub returns : goal.returns
returns c =
    let l = c.loop-i in
    let a = c.args in
    sound_end a.n a.records.now l.i l.before (omega arith) ∙ l.invariant.1
