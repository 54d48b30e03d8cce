-- `framing::member_verdict` meets its contract: each rule's shape says the rule, and the verdict goes by them in turn.
use mathlib.Core.Bool.{not}
use Prim.Native.Nat.{ℕ, ◌≤◌}
use mathlib.Core.List.{[], ◌∷◌}
use mathlib.Core.Path.{◌≡◌, sym, ap, ◌∙◌}
use Rattle.quantity.specs.Range.{thickness, modulus, shear_area, line_load}
use Rattle.gauge.specs.Shape.{Says}
use Rattle.gauge.specs.laws.ShapeLaws.{said}
use Rattle.loads.specs.Loads.{line_load as lineLoadOf}
use Rattle.loads.specs.Sources.{NamedLine, told_load, told_line, line_named}
use Rattle.verdict.specs.Verdict.{failed_of}
use Rattle.framing.specs.Kinds.{number_of}
use Rattle.framing.specs.Rules.{member_line, web_rule, bending_rule, shear_rule}
use Rattle.framing.specs.laws.BoundLaws.{member_line_high}
use Rattle.framing.specs.Shapes.{shape5, shape6}
use Rattle.framing.specs.laws.ShapeLaws.{says4, says5, says6}
use Rattle.verdict.specs.laws.Steps.{Step, step}
use Rattle.framing.proofs.member_verdict.Goals.{After-line_load-q, After-meets, After-meets-2, After-meets-3}
use Rattle.framing.proofs.member_verdict.Goals as goal

step1 : (c : After-meets) → let a = c.args in Step c.rule4-web.result (web_rule a.h (number_of a.kind) a.m) (bending_rule a.h (number_of a.kind) a.m ∷ shear_rule a.h (number_of a.kind) a.m ∷ []) c.meets.result
step1 c =
    let a = c.args in
    let says : Says c.rule4-web.result thickness.high (web_rule a.h (number_of a.kind) a.m).asks = said c.rule4-web.ensures (says4 (number_of a.kind) a.h.length.0 a.m.factor.0 a.m.spacing.0) in
    step _ (web_rule a.h (number_of a.kind) a.m) _ says c.requires.1.thickness_low c.requires.1.thickness_high c.meets.ensures

-- q is the line load of the member's pressure
line : (c : After-line_load-q) → c.line_load-q.result.load.0 ≡ member_line c.args.h (number_of c.args.kind) c.args.m
unfolding member_line
line c =
    let a = c.args in
    let borne : told_line c.line_load-q.result ≡ line_named (told_load a.load) a.m.spacing.0 = c.line_load-q.ensures in
    ap (λ (n : NamedLine). n.load) borne ∙ ap (λ (P : ℕ). lineLoadOf P a.m.spacing.0) c.requires.2

line_high : (c : After-line_load-q) → c.line_load-q.result.load.0 ≤ line_load.high
line_high c = rw (line c) (member_line_high c.args.h (number_of c.args.kind) c.args.m c.requires.0 c.requires.1)

step2 : (c : After-meets-2) → let a = c.args in c.line_load-q.result.load.0 ≡ member_line a.h (number_of a.kind) a.m → Step c.rule5-bending.result (bending_rule a.h (number_of a.kind) a.m) (shear_rule a.h (number_of a.kind) a.m ∷ []) c.meets-2.result
step2 c e =
    let a = c.args in
    let says : Says c.rule5-bending.result modulus.high (bending_rule a.h (number_of a.kind) a.m).asks =
    said (c.rule5-bending.ensures ∙ ap (λ (q : ℕ). shape5 (number_of a.kind) a.m.bending a.m.eta a.m.stress q a.m.span.0) e) (says5 (number_of a.kind) a.m.bending a.m.eta a.m.stress _ a.m.span.0) in
    step _ (bending_rule a.h (number_of a.kind) a.m) _ says c.requires.1.modulus_low c.requires.1.modulus_high c.meets-2.ensures

step3 : (c : After-meets-3) → let a = c.args in c.line_load-q.result.load.0 ≡ member_line a.h (number_of a.kind) a.m → Step c.rule6-shear.result (shear_rule a.h (number_of a.kind) a.m) [] c.meets-3.result
step3 c e =
    let a = c.args in
    let says : Says c.rule6-shear.result shear_area.high (shear_rule a.h (number_of a.kind) a.m).asks =
    said (c.rule6-shear.ensures ∙ ap (λ (q : ℕ). shape6 (number_of a.kind) a.m.shear a.m.eta q a.m.span.0) e) (says6 (number_of a.kind) a.m.shear a.m.eta _ a.m.span.0) in
    step _ (shear_rule a.h (number_of a.kind) a.m) _ says c.requires.1.area_low c.requires.1.area_high c.meets-3.ensures

pub returns-then-not-meets : goal.returns-then-not-meets
returns-then-not-meets c =
    let named : c.failed.result ≡ failed_of 4 c.rule4-web.result thickness.high = c.failed.ensures in
    named ∙ (step1 (goal.at.returns-then-not-meets c).After-meets).fails (ap not c.if-not-meets.true)

pub rule5-bending-requires : goal.rule5-bending-requires
rule5-bending-requires c =
    let m = c.requires.1 in
    record { ends_high = m.bending_high; eta_high = m.eta_high; load_high = line_high (goal.at.rule5-bending-requires c).After-line_load-q; span_high = m.span_high }

pub returns-then-not-meets-2 : goal.returns-then-not-meets-2
returns-then-not-meets-2 c =
    let at = goal.at.returns-then-not-meets-2 c in
    let named : c.failed-then-not-meets-2.result ≡ failed_of 5 c.rule5-bending.result modulus.high = c.failed-then-not-meets-2.ensures in
    named ∙ (step2 at.After-meets-2 (line at.After-line_load-q)).fails (ap not c.if-not-meets-2.true) ∙ sym ((step1 at.After-meets).passes (ap not c.if-not-meets.false))

pub rule6-shear-requires : goal.rule6-shear-requires
rule6-shear-requires c =
    let m = c.requires.1 in
    record { ends_high = m.shear_high; eta_high = m.eta_high; load_high = line_high (goal.at.rule6-shear-requires c).After-line_load-q; span_high = m.span_high }

pub returns-then-not-meets-3 : goal.returns-then-not-meets-3
returns-then-not-meets-3 c =
    let at = goal.at.returns-then-not-meets-3 c in
    let named : c.failed-then-not-meets-3.result ≡ failed_of 6 c.rule6-shear.result shear_area.high = c.failed-then-not-meets-3.ensures in
    let e = line at.After-line_load-q in
    named ∙ (step3 at.After-meets-3 e).fails (ap not c.if-not-meets-3.true) ∙ sym ((step1 at.After-meets).passes (ap not c.if-not-meets.false) ∙ (step2 at.After-meets-2 e).passes (ap not c.if-not-meets-2.false))

pub returns : goal.returns
returns c =
    let at = goal.at.returns c in
    let e = line at.After-line_load-q in
    sym ((step1 at.After-meets).passes (ap not c.if-not-meets.false) ∙ (step2 at.After-meets-2 e).passes (ap not c.if-not-meets-2.false) ∙ (step3 at.After-meets-3 e).passes (ap not c.if-not-meets-3.false))
