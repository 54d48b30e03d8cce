-- `framing::judge` meets its contract.
use Rattle.std.specs.Prelude.{ℕ, Err}
use Rattle.std.proofs.Common.{rules}
use mathlib.Core.Path.{◌≡◌, ap, ◌∙◌}
use Rattle.loads.specs.Sources.{Named, told_load}
use Rattle.sheet.specs.Record.{of_member}
use Rattle.sheet.specs.laws.HeaderLaws.{header_ranges}
use Rattle.sheet.specs.laws.RecordLaws.{member_ranges}
use Rattle.verdict.specs.Judged.{Sound, told_judged}
use Rattle.verdict.specs.laws.JudgedLaws.{admitted_sound, turned_away, found_given}
use Rattle.framing.specs.Kinds.{number_of}
use Rattle.framing.specs.Rules.{member_pressure, member_named, member_verdict, member_finding}
use Rattle.framing.specs.laws.Laws.{member_pressure_lem}
use Rattle.framing.proofs.judge.Goals.{After-member_load-load, In_ok-admitted_member}
use Rattle.framing.proofs.judge.Goals as goal

-- `framing::judge` meets its contract.
-- Assumes nothing.
-- where nothing is at fault
sound : (c : In_ok-admitted_member) → let a = c.args in Sound a.h (of_member a.kind a.id a.m)
sound c = admitted_sound _ _ _ c.admitted_member.ensures c.in_ok-admitted_member.was

-- the load's pressure is the one that the rules go by
load_pressure : (c : After-member_load-load) → let a = c.args in c.member_load-load.result.pressure.0 ≡ member_pressure a.h (number_of c.of-kind.result) a.m
load_pressure c =
    let a = c.args in
    let named : told_load c.member_load-load.result ≡ member_named a.h (number_of c.of-kind.result) a.m = c.member_load-load.ensures in
    ap (λ (n : Named). n.pressure) named ∙ member_pressure_lem a.h (number_of c.of-kind.result) a.m

pub returns-in_err-admitted_member : goal.returns-in_err-admitted_member
returns-in_err-admitted_member c =
    let a = c.args in
    let passed_on : c.from_residual.result ≡ Err c.in_err-admitted_member.field-0.0 = search rules in
    ap told_judged passed_on ∙ turned_away a.h (of_member a.kind a.id a.m) _ c.admitted_member.ensures (member_finding a.h a.kind a.m) _ c.in_err-admitted_member.was

pub of-kind-requires : goal.of-kind-requires
of-kind-requires c =
    let a = c.args in
    let m = member_ranges a.kind a.id a.m (sound (goal.at.of-kind-requires c).In_ok-admitted_member).body in
    (m.kind_low, m.kind_high)

pub member_verdict-requires : goal.member_verdict-requires
member_verdict-requires c =
    let a = c.args in
    let s = sound (goal.at.member_verdict-requires c).In_ok-admitted_member in
    (header_ranges a.h s.header, rw c.of-kind.ensures (member_ranges a.kind a.id a.m s.body), load_pressure c)

-- LOOK: κs/given
pub returns : goal.returns
returns c =
    let a = c.args in
    let own : number_of c.of-kind.result ≡ a.kind = c.of-kind.ensures in
    let judged : c.member_verdict.result ≡ member_verdict a.h (number_of c.of-kind.result) a.m = c.member_verdict.ensures in
    let named : told_load c.member_load-load.result ≡ member_named a.h (number_of c.of-kind.result) a.m = c.member_load-load.ensures in
    found_given a.h (of_member a.kind a.id a.m) (sound (goal.at.returns c).In_ok-admitted_member)
    (judged ∙ ap (λ (k : ℕ). member_verdict a.h k a.m) own)
    (ap (λ (n : Named). n.source) named ∙ ap (λ (k : ℕ). (member_named a.h k a.m).source) own)
