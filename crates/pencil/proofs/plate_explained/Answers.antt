-- `pencil::plate_explained` meets its contract: what is given is the work of the member, and a refusal is the same refusal.
use mathlib.Core.Path.{sym, ap, ◌∙◌}
use Rattle.sheet.specs.Record.{of_plate}
use Rattle.sheet.specs.laws.RefusalLaws.{given_same}
use Rattle.verdict.specs.laws.JudgedLaws.{given_sound, sound_given, refused_same}
use Rattle.plating.specs.Work.{work_of, told_worked}
use Rattle.pencil.specs.Trail.{plate_trail, plate_explained}
use Rattle.pencil.proofs.plate_explained.Goals as goal

-- src/lib.rt:217:1
pub returns-in-Err : goal.returns-in-Err
unfolding plate_explained
returns-in-Err c =
    let a = c.args in
    let e = sym c.worked.ensures ∙ ap told_worked c.in-Err.is in
    rw (refused_same a.h (of_plate a.kind a.id a.p) (work_of a.h a.kind a.p) (plate_trail a.h a.kind a.id a.p (work_of a.h a.kind a.p)) _ _ e) c.refused.ensures

-- src/lib.rt:217:1
-- LOOK: κs/given
pub returns-in-Ok : goal.returns-in-Ok
unfolding plate_explained
returns-in-Ok c =
    let a = c.args in
    let e = sym c.worked.ensures ∙ ap told_worked c.in-Ok.is in
    let sound = given_sound a.h (of_plate a.kind a.id a.p) (work_of a.h a.kind a.p) _ e in
    let same = given_same (sym (sound_given a.h (of_plate a.kind a.id a.p) (work_of a.h a.kind a.p) sound) ∙ e) in
    rw (sound_given a.h (of_plate a.kind a.id a.p) (plate_trail a.h a.kind a.id a.p (work_of a.h a.kind a.p)) sound, same) c.plate_work.ensures
