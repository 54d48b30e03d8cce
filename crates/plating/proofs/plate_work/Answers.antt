-- `plating::plate_work` meets its contract: each number and each shape is that of the plate.
use Prim.Native.Nat.{ℕ, ◌≤◌}
use mathlib.Core.Bool.{Bool}
use mathlib.Core.Path.{◌≡◌, ap, ◌∙◌}
use Rattle.gauge.specs.declared.Shape.{Shape}
use Rattle.loads.specs.Sources.{Named}
use Rattle.verdict.specs.declared.Verdict.{Verdict}
use Rattle.plating.specs.Kinds.{number_of}
use Rattle.plating.specs.Rules.{R, plate_modulus, K2, is_second, plate_pressure}
use Rattle.plating.specs.Bounds.{greatest_r}
use Rattle.plating.specs.laws.Laws.{R_high, plate_pressure_lem}
use Rattle.plating.specs.Shapes.{shape2, shape3}
use Rattle.plating.specs.Work.{Work, panel_k2}
use Rattle.plating.proofs.Ranges.{load_high, modulus_some, panel}
use Rattle.plating.proofs.plate_work.Goals.{After-hull_stress-stress, After-plate_modulus-modulus, Start}
use Rattle.plating.proofs.plate_work.Goals as goal

-- `plating::plate_work` meets its contract: each number and each shape is that of the plate.
-- Assumes nothing.
modulus_at : (c : After-plate_modulus-modulus) → 1 ≤ c.plate_modulus-modulus.result
modulus_at c =
    rw c.plate_modulus-modulus.ensures (modulus_some c.args.h (number_of c.args.kind) c.args.p c.requires.0 c.requires.1)

stress_high : (c : After-hull_stress-stress) → c.hull_stress-stress.result ≤ greatest_r
stress_high c = rw c.hull_stress-stress.ensures (R_high c.args.h.moment _ c.requires.0.moment_high (modulus_at c.before))

-- the load's pressure is the one that rule 2 asks of
load_pressure : (c : Start) → c.args.load.pressure.0 ≡ plate_pressure c.args.h (number_of c.args.kind) c.args.p
load_pressure c = ap (λ (n : Named). n.pressure) c.requires.2 ∙ plate_pressure_lem c.args.h (number_of c.args.kind) c.args.p

stress : (c : After-hull_stress-stress) → let a = c.args in c.hull_stress-stress.result ≡ R a.h.moment (plate_modulus a.h (number_of a.kind))
stress c = c.hull_stress-stress.ensures ∙ ap (R c.args.h.moment) c.plate_modulus-modulus.ensures

-- two workings are equal part by part
parts : {l m : Named} {z z₂ r r₂ k k₂ : ℕ} {b b₂ : Bool} {s s₂ t t₂ u u₂ : Shape} {v v₂ : Verdict}
    → l ≡ m → z ≡ z₂ → r ≡ r₂ → k ≡ k₂ → b ≡ b₂ → s ≡ s₂ → t ≡ t₂ → u ≡ u₂ → v ≡ v₂
    → ◌≡◌ {A = Work} (record { load = l; modulus = z; stress = r; k2 = k; is_second = b; first = s; second = t; third = u; verdict = v })
    (record { load = m; modulus = z₂; stress = r₂; k2 = k₂; is_second = b₂; first = s₂; second = t₂; third = u₂; verdict = v₂ })
parts p1 p2 p3 p4 p5 p6 p7 p8 p9 = rw (p1, p2, p3, p4, p5, p6, p7, p8, p9)

-- src/lib.rt:262:9
pub is_second-is_second-requires : goal.is_second-is_second-requires
is_second-is_second-requires c = (c.requires.1.factor_high, stress_high (goal.at.is_second-is_second-requires c).After-hull_stress-stress)

-- src/lib.rt:264:9
pub rule2-second-requires : goal.rule2-second-requires
rule2-second-requires c =
    let p = c.requires.1 in
    (p.factor_high, p.spacing_high, rw (load_pressure (goal.at.rule2-second-requires c).Start) (load_high c.args.h (number_of c.args.kind) c.args.p c.requires.0 p))

-- src/lib.rt:265:9
pub rule3-third-requires : goal.rule3-third-requires
rule3-third-requires c =
    (panel c.args.h (number_of c.args.kind) c.args.p c.requires.0 c.requires.1, c.requires.1.factor_high, stress_high (goal.at.rule3-third-requires c).After-hull_stress-stress)

-- src/lib.rt:266:9
pub plate_verdict-verdict-requires : goal.plate_verdict-verdict-requires
plate_verdict-verdict-requires c = (c.requires.0, c.requires.1, load_pressure (goal.at.plate_verdict-verdict-requires c).Start)

-- src/lib.rt:255:1
pub returns : goal.returns
returns c =
    let a = c.args in
    let side : c.panel_k2-k2.result ≡ panel_k2 (number_of a.kind) a.p.b1.0 a.p.b2.0 = c.panel_k2-k2.ensures in
    parts
    c.requires.2
    c.plate_modulus-modulus.ensures
    (stress (goal.at.returns c).After-hull_stress-stress)
    side
    (c.is_second-is_second.ensures ∙ ap (is_second (number_of a.kind) a.p.factor.0) (stress (goal.at.returns c).After-hull_stress-stress))
    c.rule1-first.ensures
    (c.rule2-second.ensures ∙ ap (shape2 (number_of a.kind) a.p.factor.0 a.p.spacing.0) (load_pressure (goal.at.returns c).Start))
    (c.rule3-third.ensures ∙ ap (shape3 (number_of a.kind) a.p.factor.0 a.p.spacing.0 (K2 a.p.b1.0 a.p.b2.0)) (stress (goal.at.returns c).After-hull_stress-stress))
    c.plate_verdict-verdict.ensures
