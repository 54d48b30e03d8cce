-- `framing::member_work` meets its contract: each number and each shape is that of the member.
use Prim.Native.Nat.{ℕ, ◌≤◌}
use mathlib.Core.Path.{◌≡◌, ap, ◌∙◌}
use Rattle.quantity.specs.Range.{line_load}
use Rattle.gauge.specs.declared.Shape.{Shape}
use Rattle.loads.specs.Loads.{line_load as lineLoadOf}
use Rattle.loads.specs.Sources.{Named, NamedLine, told_load, told_line, line_named}
use Rattle.verdict.specs.declared.Verdict.{Verdict}
use Rattle.framing.specs.Kinds.{number_of}
use Rattle.framing.specs.Rules.{member_line, member_pressure}
use Rattle.framing.specs.laws.Laws.{member_pressure_lem}
use Rattle.framing.specs.laws.BoundLaws.{member_line_high}
use Rattle.framing.specs.Shapes.{shape5, shape6}
use Rattle.framing.specs.Work.{Work}
use Rattle.framing.proofs.member_work.Goals.{After-line_load-borne}
use Rattle.framing.proofs.member_work.Goals as goal

-- q is the line load of the member's pressure
line : (c : After-line_load-borne) → c.line_load-borne.result.load.0 ≡ member_line c.args.h (number_of c.args.kind) c.args.m
unfolding member_line
line c =
    let bears : c.args.load.pressure.0 ≡ member_pressure c.args.h (number_of c.args.kind) c.args.m = ap (λ (n : Named). n.pressure) c.requires.2 ∙ member_pressure_lem c.args.h (number_of c.args.kind) c.args.m in
    let borne : told_line c.line_load-borne.result ≡ line_named (told_load c.args.load) c.args.m.spacing.0 = c.line_load-borne.ensures in
    ap (λ (n : NamedLine). n.load) borne ∙ ap (λ (P : ℕ). lineLoadOf P c.args.m.spacing.0) bears

line_high : (c : After-line_load-borne) → c.line_load-borne.result.load.0 ≤ line_load.high
line_high c =
    rw (line c) (member_line_high c.args.h (number_of c.args.kind) c.args.m c.requires.0 c.requires.1)

-- two workings are equal part by part
parts : {l l₂ : Named} {q q₂ : ℕ} {s s₂ t t₂ u u₂ : Shape} {v v₂ : Verdict}
    → l ≡ l₂ → q ≡ q₂ → s ≡ s₂ → t ≡ t₂ → u ≡ u₂ → v ≡ v₂
    → ◌≡◌ {A = Work} (record { load = l; line = q; web = s; bending = t; shear = u; verdict = v }) (record { load = l₂; line = q₂; web = s₂; bending = t₂; shear = u₂; verdict = v₂ })
parts p1 p2 p3 p4 p5 p6 = rw (p1, p2, p3, p4, p5, p6)

pub rule5-bending-requires : goal.rule5-bending-requires
rule5-bending-requires c =
    let m = c.requires.1 in
    record { ends_high = m.bending_high; eta_high = m.eta_high; load_high = line_high (goal.at.rule5-bending-requires c).After-line_load-borne; span_high = m.span_high }

pub rule6-shear-requires : goal.rule6-shear-requires
rule6-shear-requires c =
    let m = c.requires.1 in
    record { ends_high = m.shear_high; eta_high = m.eta_high; load_high = line_high (goal.at.rule6-shear-requires c).After-line_load-borne; span_high = m.span_high }

pub returns : goal.returns
returns c =
    let a = c.args in
    parts
    c.requires.2
    (line (goal.at.returns c).After-line_load-borne)
    c.rule4-web.ensures
    (c.rule5-bending.ensures ∙ ap (λ (x : ℕ). shape5 (number_of a.kind) a.m.bending a.m.eta a.m.stress x a.m.span.0) (line (goal.at.returns c).After-line_load-borne))
    (c.rule6-shear.ensures ∙ ap (λ (x : ℕ). shape6 (number_of a.kind) a.m.shear a.m.eta x a.m.span.0) (line (goal.at.returns c).After-line_load-borne))
    c.member_verdict-verdict.ensures
