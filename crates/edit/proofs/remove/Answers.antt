-- `edit::remove` meets its contract.
use Rattle.std.specs.Prelude.{Err}
use Rattle.std.proofs.Common.{rules}
use mathlib.Core.Path.{◌≡◌, sym, ap, ◌∙◌}
use Rattle.sheet.specs.Refusals.{told_result}
use Rattle.edit.proofs.Answers.{passes_on, known, remove_refused}
use Rattle.edit.proofs.remove.Goals as goal

-- src/lib.rt:166:32
-- LOOK: before
pub remove_sound-requires : goal.remove_sound-requires
remove_sound-requires c =
    let a = c.before.args in
    known a.buf.now a.len c.in_ok-h.h (sym (ap told_result c.in_ok-h.was) ∙ c.sheet_at.ensures)

-- src/lib.rt:160:1
-- LOOK: before
pub returns-in_err-h : goal.returns-in_err-h
returns-in_err-h c =
    let a = c.before.args in
    let passed_on : c.from_residual.result ≡ Err c.in_err-h.field-0.0 = search rules in
    passes_on a.buf.now passed_on (remove_refused a.buf.now a.len a.id _ (sym (ap told_result c.in_err-h.was) ∙ c.sheet_at.ensures))
