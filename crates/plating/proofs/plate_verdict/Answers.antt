-- `plating::plate_verdict` meets its contract: each rule's shape says the rule, and the verdict goes by them in turn.
use Prim.Native.Nat.{ℕ, ◌≤◌}
use mathlib.Core.Bool.{not}
use mathlib.Core.List.{[], ◌∷◌}
use mathlib.Core.Path.{◌≡◌, sym, ap, ◌∙◌}
use Rattle.quantity.specs.Range.{thickness}
use Rattle.gauge.specs.declared.Shape.{Shape}
use Rattle.gauge.specs.Shape.{meets_of}
use Rattle.gauge.specs.laws.ShapeLaws.{said}
use Rattle.verdict.specs.Verdict.{verdict_of, failed_of}
use Rattle.verdict.specs.laws.Steps.{Step, step}
use Rattle.plating.specs.Kinds.{number_of}
use Rattle.plating.specs.Rules.{R, plate_modulus, K2, plate_pressure, asked1, asked2, asked3}
use Rattle.plating.specs.laws.Laws.{R_high}
use Rattle.plating.specs.Shapes.{shape2, shape3}
use Rattle.plating.specs.laws.ShapeLaws.{says1, says2, says3}
use Rattle.plating.proofs.Ranges.{load_high, modulus_some, panel}
use Rattle.std.proofs.Common.{true}
use Rattle.plating.specs.Rules.{plate_rules}
use Rattle.plating.proofs.plate_verdict.Goals.{After-meets, After-meets-2, After-meets-3, After-plate_modulus}
use Rattle.plating.proofs.plate_verdict.Goals as goal

step1 : (c : After-meets) → let a = c.args in Step c.rule1-d1.result (asked1 a.h (number_of a.kind) a.p) (asked2 a.h (number_of a.kind) a.p ∷ asked3 a.h (number_of a.kind) a.p ∷ []) c.meets.result
step1 c =
    let p = c.requires.1 in
    let a = c.args in
    step _ (asked1 a.h (number_of a.kind) a.p) _ (said c.rule1-d1.ensures (says1 (number_of a.kind) a.h.length.0 a.p.factor.0 a.p.spacing.0)) p.thickness_low p.thickness_high c.meets.ensures

step2 : (c : After-meets-2) → let a = c.args in Step c.rule2-d2.result (asked2 a.h (number_of a.kind) a.p) (asked3 a.h (number_of a.kind) a.p ∷ []) c.meets-2.result
step2 c =
    let p = c.requires.1 in
    let a = c.args in
    let asks : ℕ → Shape = shape2 (number_of a.kind) a.p.factor.0 a.p.spacing.0 in
    let is : c.rule2-d2.result ≡ asks (plate_pressure a.h (number_of a.kind) a.p) = c.rule2-d2.ensures ∙ ap asks c.requires.2 in
    step _ (asked2 a.h (number_of a.kind) a.p) _ (said is (says2 (number_of a.kind) a.p.factor.0 a.p.spacing.0 _)) p.thickness_low p.thickness_high c.meets-2.ensures

-- R is that of the modulus at the plate
modulus_at : (c : After-plate_modulus) → 1 ≤ c.plate_modulus.result
modulus_at c = rw c.plate_modulus.ensures (modulus_some c.args.h (number_of c.args.kind) c.args.p c.requires.0 c.requires.1)

step3 : (c : After-meets-3) → let a = c.args in Step c.rule3-d3.result (asked3 a.h (number_of a.kind) a.p) [] c.meets-3.result
step3 c =
    let p = c.requires.1 in
    let a = c.args in
    let asks : ℕ → Shape = shape3 (number_of a.kind) a.p.factor.0 a.p.spacing.0 (K2 a.p.b1.0 a.p.b2.0) in
    let stress : c.hull_stress-r.result ≡ R a.h.moment (plate_modulus a.h (number_of a.kind)) = c.hull_stress-r.ensures ∙ ap (R a.h.moment) c.plate_modulus.ensures in
    let is : c.rule3-d3.result ≡ asks (R a.h.moment (plate_modulus a.h (number_of a.kind))) = c.rule3-d3.ensures ∙ ap asks stress in
    let says = says3 a.p.b2.0 (R a.h.moment (plate_modulus a.h (number_of a.kind))) (panel a.h (number_of a.kind) a.p c.requires.0 p) a.p.factor.0 in
    let tested : c.meets-3.result ≡ meets_of c.rule3-d3.result a.p.thickness.0 = c.meets-3.ensures in
    step c.rule3-d3.result (asked3 a.h (number_of a.kind) a.p) [] (said is says) p.thickness_low p.thickness_high tested

-- the first rule is met, and the first two are
passed1 : (c : After-meets) → c.meets.result ≡ true → let a = c.args in verdict_of (plate_rules a.h (number_of a.kind) a.p) ≡ verdict_of (asked2 a.h (number_of a.kind) a.p ∷ asked3 a.h (number_of a.kind) a.p ∷ [])
passed1 c met = (step1 c).passes (ap not met)

passed2 : (c : After-meets-2) → let a = c.args in verdict_of (plate_rules a.h (number_of a.kind) a.p) ≡ verdict_of (asked2 a.h (number_of a.kind) a.p ∷ asked3 a.h (number_of a.kind) a.p ∷ []) → c.meets-2.result ≡ true → verdict_of (plate_rules a.h (number_of a.kind) a.p) ≡ verdict_of (asked3 a.h (number_of a.kind) a.p ∷ [])
passed2 c first met = first ∙ (step2 c).passes (ap not met)

-- src/lib.rt:203:9
pub returns-then-not-meets : goal.returns-then-not-meets
returns-then-not-meets c =
    let named : c.failed.result ≡ failed_of 1 c.rule1-d1.result thickness.high = c.failed.ensures in
    named ∙ (step1 (goal.at.returns-then-not-meets c).After-meets).fails (ap not c.if-not-meets.true)

-- src/lib.rt:205:9
pub rule2-d2-requires : goal.rule2-d2-requires
rule2-d2-requires c =
    let a = c.args in
    let p = c.requires.1 in
    (p.factor_high, p.spacing_high, rw c.requires.2 (load_high a.h (number_of a.kind) a.p c.requires.0 p))

-- src/lib.rt:207:9
pub returns-then-not-meets-2 : goal.returns-then-not-meets-2
returns-then-not-meets-2 c =
    let at = goal.at.returns-then-not-meets-2 c in
    let named : c.failed-then-not-meets-2.result ≡ failed_of 2 c.rule2-d2.result thickness.high = c.failed-then-not-meets-2.ensures in
    named ∙ (step2 at.After-meets-2).fails (ap not c.if-not-meets-2.true) ∙ sym (passed1 at.After-meets c.if-not-meets.false)

-- src/lib.rt:210:9
pub rule3-d3-requires : goal.rule3-d3-requires
rule3-d3-requires c =
    let a = c.args in
    let h = c.requires.0 in
    let p = c.requires.1 in
    (panel a.h (number_of a.kind) a.p h p, p.factor_high, rw c.hull_stress-r.ensures (R_high a.h.moment _ h.moment_high (modulus_at (goal.at.rule3-d3-requires c).After-plate_modulus)))

-- src/lib.rt:212:9
pub returns-then-not-meets-3 : goal.returns-then-not-meets-3
returns-then-not-meets-3 c =
    let at = goal.at.returns-then-not-meets-3 c in
    let named : c.failed-then-not-meets-3.result ≡ failed_of 3 c.rule3-d3.result thickness.high = c.failed-then-not-meets-3.ensures in
    named ∙ (step3 at.After-meets-3).fails (ap not c.if-not-meets-3.true) ∙ sym (passed2 at.After-meets-2 (passed1 at.After-meets c.if-not-meets.false) c.if-not-meets-2.false)

-- src/lib.rt:195:1
pub returns : goal.returns
returns c =
    let at = goal.at.returns c in
    sym (passed2 at.After-meets-2 (passed1 at.After-meets c.if-not-meets.false) c.if-not-meets-2.false ∙ (step3 at.After-meets-3).passes (ap not c.if-not-meets-3.false))
