-- `edit::put_numbers` meets its contract.
use Rattle.std.specs.Prelude.{Err}
use Rattle.std.proofs.Common.{rules}
use mathlib.Core.Path.{◌≡◌, sym, ap, subst, ◌∙◌}
use Rattle.sheet.specs.Refusals.{Answer, told_result}
use Rattle.numbers.specs.laws.Back.{record_numbers_same}
use Rattle.edit.specs.Edit.{After, Edits}
use Rattle.edit.specs.Steps.{Known}
use Rattle.edit.proofs.Answers.{passes_on, known, numbers_turned, numbers_refused, numbers_taken}
use Rattle.edit.proofs.put_numbers.Goals.{In_ok-h}
use Rattle.edit.proofs.put_numbers.Goals as goal

-- the sheet is sound
sheet : (c : In_ok-h) → Known c.args.buf.now c.args.len c.in_ok-h.h
sheet c = known c.args.buf.now c.args.len c.in_ok-h.h (sym (ap told_result c.in_ok-h.was) ∙ c.sheet_at.ensures)

-- src/lib.rt:138:40
pub put_sound-requires : goal.put_sound-requires
put_sound-requires c =
    let a = c.args in
    let r = c.in_ok-r.r in
    (sheet (goal.at.put_sound-requires c).In_ok-h, (record_numbers_same c.in_ok-h.h.count a.f r (sym (sym (ap told_result c.in_ok-r.was) ∙ c.record_from.ensures))).0)

-- src/lib.rt:128:1
pub returns-in_err-h : goal.returns-in_err-h
returns-in_err-h c =
    let a = c.args in
    let passed_on : c.from_residual.result ≡ Err c.in_err-h.field-0.0 = search rules in
    passes_on a.buf.now passed_on (numbers_turned a.buf.now a.len a.f _ (sym (ap told_result c.in_err-h.was) ∙ c.sheet_at.ensures))

-- src/lib.rt:128:1
pub returns-in_err-r : goal.returns-in_err-r
returns-in_err-r c =
    let a = c.args in
    let passed_on : c.from_residual-in_err-r.result ≡ Err c.in_err-r.field-0.0 = search rules in
    passes_on a.buf.now passed_on (numbers_refused a.buf.now a.len c.in_ok-h.h (sheet (goal.at.returns-in_err-r c).In_ok-h) a.f c.in_err-r.field-0.0 (sym (ap told_result c.in_err-r.was) ∙ c.record_from.ensures))

-- src/lib.rt:128:1
pub returns : goal.returns
returns c =
    let a = c.args in
    let r = c.in_ok-r.r in
    let same = numbers_taken a.buf.now a.len c.in_ok-h.h (sheet (goal.at.returns c).In_ok-h) a.f r (sym (ap told_result c.in_ok-r.was) ∙ c.record_from.ensures) in
    subst (λ (x : Answer After). Edits x a.buf.now c.put_sound.result c.put_sound.new.buf) (sym same) c.put_sound.ensures
