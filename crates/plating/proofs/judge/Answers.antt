-- `plating::judge` meets its contract.
use Rattle.std.specs.Prelude.{ℕ, ◌≤◌, Err}
use Rattle.std.proofs.Common.{rules}
use mathlib.Core.Path.{◌≡◌, ap, sym, subst, ◌∙◌}
use Rattle.loads.specs.Sources.{Named, told_load}
use Rattle.sheet.specs.Record.{of_plate}
use Rattle.sheet.specs.laws.HeaderLaws.{header_ranges}
use Rattle.sheet.specs.laws.RecordLaws.{plate_ranges}
use Rattle.verdict.specs.Judged.{Sound, told_judged}
use Rattle.verdict.specs.laws.JudgedLaws.{admitted_sound, turned_away, found_given}
use Rattle.sheet.specs.Ranges.{PlateRanges}
use Rattle.plating.specs.Kinds.{number_of}
use Rattle.plating.specs.Rules.{plate_pressure, plate_named, plate_verdict, plate_finding}
use Rattle.plating.specs.laws.Laws.{plate_pressure_lem}
use Rattle.plating.proofs.judge.Goals.{After-load-load, In_ok-admitted_plate}
use Rattle.plating.proofs.judge.Goals as goal

-- `plating::judge` meets its contract.
-- Assumes nothing.
-- where nothing is at fault
sound : (c : In_ok-admitted_plate) → let a = c.args in Sound a.h (of_plate a.kind a.id a.p)
sound c = admitted_sound _ _ _ c.admitted_plate.ensures c.in_ok-admitted_plate.was

-- the load's pressure is the one that the rules go by
load_pressure : (c : After-load-load) → let a = c.args in c.load-load.result.pressure.0 ≡ plate_pressure a.h a.kind a.p
load_pressure c =
    let a = c.args in
    let named : told_load c.load-load.result ≡ plate_named a.h a.kind a.p = c.load-load.ensures ∙ ap (λ (k : ℕ). plate_named a.h k a.p) c.of-kind.ensures in
    ap (λ (n : Named). n.pressure) named ∙ plate_pressure_lem a.h a.kind a.p

-- src/lib.rt:297:9
pub returns-in_err-admitted_plate : goal.returns-in_err-admitted_plate
returns-in_err-admitted_plate c =
    let a = c.args in
    let passed_on : c.from_residual.result ≡ Err c.in_err-admitted_plate.field-0.0 = search rules in
    ap told_judged passed_on ∙ turned_away a.h (of_plate a.kind a.id a.p) _ c.admitted_plate.ensures (plate_finding a.h a.kind a.p) _ c.in_err-admitted_plate.was

-- src/lib.rt:301:21
pub plate_verdict-requires : goal.plate_verdict-requires
plate_verdict-requires c =
    let a = c.args in
    let s = sound (goal.at.plate_verdict-requires c).In_ok-admitted_plate in
    let back : a.kind ≡ number_of c.of-kind.result = sym c.of-kind.ensures in
    (header_ranges a.h s.header, subst (λ (k : ℕ). PlateRanges k a.p) back (plate_ranges a.kind a.id a.p 0 s.body), load_pressure c ∙ ap (λ (k : ℕ). plate_pressure a.h k a.p) back)

pub of-kind-requires : goal.of-kind-requires
of-kind-requires c =
    let a = c.args in
    let r = plate_ranges a.kind a.id a.p 0 (sound (goal.at.of-kind-requires c).In_ok-admitted_plate).body in
    (r.kind_low, r.kind_high)

-- src/lib.rt:292:1
-- LOOK: κs/given
pub returns : goal.returns
returns c =
    let a = c.args in
    let judged : c.plate_verdict.result ≡ plate_verdict a.h a.kind a.p = c.plate_verdict.ensures ∙ ap (λ (k : ℕ). plate_verdict a.h k a.p) c.of-kind.ensures in
    let named : told_load c.load-load.result ≡ plate_named a.h a.kind a.p = c.load-load.ensures ∙ ap (λ (k : ℕ). plate_named a.h k a.p) c.of-kind.ensures in
    found_given a.h (of_plate a.kind a.id a.p) (sound (goal.at.returns c).In_ok-admitted_plate) judged (ap (λ (n : Named). n.source) named)
