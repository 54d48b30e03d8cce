-- `plating::worked` meets its contract.
use Rattle.std.specs.Prelude.{ℕ, Err}
use Rattle.std.proofs.Common.{rules}
use mathlib.Core.Path.{◌≡◌, sym, ap, subst, ◌∙◌}
use Rattle.sheet.specs.Refusals.{given}
use Rattle.sheet.specs.Record.{of_plate}
use Rattle.sheet.specs.laws.HeaderLaws.{header_ranges}
use Rattle.sheet.specs.laws.RecordLaws.{plate_ranges}
use Rattle.verdict.specs.Judged.{Sound}
use Rattle.verdict.specs.laws.JudgedLaws.{admitted_sound, turned_away, sound_given}
use Rattle.sheet.specs.Ranges.{PlateRanges}
use Rattle.plating.specs.Kinds.{number_of}
use Rattle.plating.specs.Work.{told_work, work_of, told_worked}
use Rattle.plating.proofs.worked.Goals.{In_ok-admitted_plate}
use Rattle.plating.proofs.worked.Goals as goal

-- `plating::worked` meets its contract.
-- Assumes nothing.
-- where nothing is at fault
sound : (c : In_ok-admitted_plate) → let a = c.args in Sound a.h (of_plate a.kind a.id a.p)
sound c = admitted_sound _ _ _ c.admitted_plate.ensures c.in_ok-admitted_plate.was

-- src/lib.rt:286:9
pub returns-in_err-admitted_plate : goal.returns-in_err-admitted_plate
returns-in_err-admitted_plate c =
    let a = c.args in
    let passed_on : c.from_residual.result ≡ Err c.in_err-admitted_plate.field-0.0 = search rules in
    ap told_worked passed_on ∙ turned_away a.h (of_plate a.kind a.id a.p) _ c.admitted_plate.ensures (work_of a.h a.kind a.p) _ c.in_err-admitted_plate.was

-- src/lib.rt:288:23
pub plate_work-requires : goal.plate_work-requires
plate_work-requires c =
    let a = c.args in
    let s = sound (goal.at.plate_work-requires c).In_ok-admitted_plate in
    let back : a.kind ≡ number_of c.of-kind.result = sym c.of-kind.ensures in
    (header_ranges a.h s.header, subst (λ (k : ℕ). PlateRanges k a.p) back (plate_ranges a.kind a.id a.p 0 s.body), c.load.ensures)

pub of-kind-requires : goal.of-kind-requires
of-kind-requires c =
    let a = c.args in
    let r = plate_ranges a.kind a.id a.p 0 (sound (goal.at.of-kind-requires c).In_ok-admitted_plate).body in
    (r.kind_low, r.kind_high)

-- src/lib.rt:281:1
-- LOOK: κs/given
pub returns : goal.returns
returns c =
    let a = c.args in
    let work : told_work c.plate_work.result ≡ work_of a.h a.kind a.p = c.plate_work.ensures ∙ ap (λ (k : ℕ). work_of a.h k a.p) c.of-kind.ensures in
    ap given work ∙ sym (sound_given a.h (of_plate a.kind a.id a.p) (work_of a.h a.kind a.p) (sound (goal.at.returns c).In_ok-admitted_plate))
