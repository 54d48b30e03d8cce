-- `pencil::member_explained` meets its contract: what is given is the work of the member, and a refusal is the same refusal.
use mathlib.Core.Path.{sym, ap, ◌∙◌}
use Rattle.sheet.specs.Record.{of_member}
use Rattle.sheet.specs.laws.RefusalLaws.{given_same}
use Rattle.verdict.specs.laws.JudgedLaws.{given_sound, sound_given, refused_same}
use Rattle.framing.specs.Work.{work_of, told_worked}
use Rattle.pencil.specs.Trail.{member_trail, member_explained}
use Rattle.pencil.proofs.member_explained.Goals as goal

-- src/lib.rt:227:1
pub returns-in-Err : goal.returns-in-Err
unfolding member_explained
returns-in-Err c =
    let a = c.args in
    let e = sym c.worked.ensures ∙ ap told_worked c.in-Err.is in
    rw (refused_same a.h (of_member a.kind a.id a.m) (work_of a.h a.kind a.m) (member_trail a.h a.kind a.id a.m (work_of a.h a.kind a.m)) _ _ e) c.refused.ensures

-- src/lib.rt:227:1
-- LOOK: κs/given
pub returns-in-Ok : goal.returns-in-Ok
unfolding member_explained
returns-in-Ok c =
    let a = c.args in
    let e = sym c.worked.ensures ∙ ap told_worked c.in-Ok.is in
    let sound = given_sound a.h (of_member a.kind a.id a.m) (work_of a.h a.kind a.m) _ e in
    let same = given_same (sym (sound_given a.h (of_member a.kind a.id a.m) (work_of a.h a.kind a.m) sound) ∙ e) in
    rw (sound_given a.h (of_member a.kind a.id a.m) (member_trail a.h a.kind a.id a.m (work_of a.h a.kind a.m)) sound, same) c.member_work.ensures
