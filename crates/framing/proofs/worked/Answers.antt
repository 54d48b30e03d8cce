-- `framing::worked` meets its contract.
use Rattle.std.specs.Prelude.{ℕ, Err}
use Rattle.std.proofs.Common.{rules}
use mathlib.Core.Path.{◌≡◌, sym, ap, ◌∙◌}
use Rattle.sheet.specs.Refusals.{given}
use Rattle.loads.specs.Sources.{told_load}
use Rattle.sheet.specs.Record.{of_member}
use Rattle.sheet.specs.Ranges.{MemberRanges}
use Rattle.sheet.specs.laws.HeaderLaws.{header_ranges}
use Rattle.sheet.specs.laws.RecordLaws.{member_ranges}
use Rattle.verdict.specs.Judged.{Sound}
use Rattle.verdict.specs.laws.JudgedLaws.{admitted_sound, turned_away, sound_given}
use Rattle.framing.specs.Kinds.{number_of}
use Rattle.framing.specs.Rules.{member_named}
use Rattle.framing.specs.Work.{told_work, work_of, told_worked}
use Rattle.framing.proofs.worked.Goals.{In_ok-admitted_member}
use Rattle.framing.proofs.worked.Goals as goal

-- `framing::worked` meets its contract.
-- Assumes nothing.
-- where nothing is at fault
sound : (c : In_ok-admitted_member) → let a = c.args in Sound a.h (of_member a.kind a.id a.m)
sound c = admitted_sound _ _ _ c.admitted_member.ensures c.in_ok-admitted_member.was

pub returns-in_err-admitted_member : goal.returns-in_err-admitted_member
returns-in_err-admitted_member c =
    let a = c.args in
    let passed_on : c.from_residual.result ≡ Err c.in_err-admitted_member.field-0.0 = search rules in
    ap told_worked passed_on ∙ turned_away a.h (of_member a.kind a.id a.m) _ c.admitted_member.ensures (work_of a.h a.kind a.m) _ c.in_err-admitted_member.was

pub of-kind-requires : goal.of-kind-requires
of-kind-requires c =
    let a = c.args in
    let m = member_ranges a.kind a.id a.m (sound (goal.at.of-kind-requires c).In_ok-admitted_member).body in
    (m.kind_low, m.kind_high)

pub member_work-requires : goal.member_work-requires
member_work-requires c =
    let a = c.args in
    let s = sound (goal.at.member_work-requires c).In_ok-admitted_member in
    let ranges : MemberRanges (number_of c.of-kind.result) a.m = rw c.of-kind.ensures (member_ranges a.kind a.id a.m s.body) in
    let bears : told_load c.member_load.result ≡ member_named a.h (number_of c.of-kind.result) a.m = c.member_load.ensures in
    (header_ranges a.h s.header, ranges, bears)

-- LOOK: κs/given
pub returns : goal.returns
returns c =
    let a = c.args in
    let named : number_of c.of-kind.result ≡ a.kind = c.of-kind.ensures in
    let work : told_work c.member_work.result ≡ work_of a.h (number_of c.of-kind.result) a.m = c.member_work.ensures in
    ap given (work ∙ ap (λ (k : ℕ). work_of a.h k a.m) named) ∙ sym (sound_given a.h (of_member a.kind a.id a.m) (work_of a.h a.kind a.m) (sound (goal.at.returns c).In_ok-admitted_member))
