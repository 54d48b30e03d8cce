-- Each pressure, rule and verdict of document 01 is today's, piece by piece, on a header that has nothing of its own.
-- Assumes nothing.
use Rattle.std.specs.Prelude.{ℕ, ◌≡◌, refl, Bool, true, false, cond}
use Rattle.std.proofs.Common.{ap, ap₂, ◌∙◌}
use Rattle.sheet.specs.declared.Header.{Header}
use Rattle.sheet.specs.declared.Own.{Own}
use Rattle.sheet.specs.declared.Own.TheVariants.{One}
use Rattle.sheet.specs.declared.Plate.{Plate}
use Rattle.sheet.specs.declared.Member.{Member}
use Rattle.sheet.specs.declared.Body.{Body}
use Rattle.sheet.specs.declared.Body.TheVariants.{Plate as isPlate, Member as isMember}
use Rattle.sheet.specs.declared.Record.{Record}
use Rattle.sheet.specs.Kinds.{is_bottom, is_deep}
use Rattle.sheet.specs.Header.{inner_of}
use Rattle.loads.specs.Loads.{sea, bottom_pressure, inner_pressure, deep_pressure, line_load}
use Rattle.plating.specs.Rules.{R, K2, rule1, rule2, rule3, plate_modulus, plate_pressure, plate_verdict}
use Rattle.framing.specs.Rules.{rule4, rule5, rule6, member_pressure, member_line, member_verdict}
use Rattle.verdict.specs.declared.Verdict.{Verdict}
use Rattle.hull.specs.Hull.{body_rules, verdict}
use Rattle.verdict.specs.Verdict.{verdict_of}
use Rattle.demands.specs.Document01Rules as doc

-- ---- pressures

sea_same : (D0 H z : ℕ) → sea D0 H z ≡ doc.sea D0 H z
unfolding sea doc.sea
sea_same D0 H z = refl

bottom_same : (D0 H z : ℕ) (ballast : Bool) (zL : ℕ) → bottom_pressure D0 H z ballast zL ≡ doc.on_bottom D0 H z ballast zL
unfolding bottom_pressure doc.on_bottom
bottom_same D0 H z ballast zL = rw (sea_same D0 H z)

inner_same : (cargo z : ℕ) (ballast : Bool) (zL : ℕ) → inner_pressure cargo z ballast zL ≡ doc.on_inner cargo z ballast zL
unfolding inner_pressure doc.on_inner
inner_same cargo z ballast zL = refl

deep_same : (D0 H : ℕ) (two : Bool) → deep_pressure D0 H two ≡ doc.on_deep D0 H two
unfolding deep_pressure doc.on_deep
deep_same D0 H two = refl

load_same : (P S : ℕ) → line_load P S ≡ doc.q P S
unfolding line_load doc.q
load_same P S = refl

plate_pressure_same : (h : Header) (kind : ℕ) (p : Plate) → plate_pressure h kind p ≡ doc.plate_pressure h kind p
plate_pressure_same h kind p =
    ap₂ (cond (is_bottom kind))
    (bottom_same h.draught.0 h.wave.0 p.z.0 p.ballast p.tank_top.0)
    (inner_same p.cargo p.z.0 p.ballast p.tank_top.0)

member_pressure_same : (h : Header) (kind : ℕ) (m : Member) → member_pressure h kind m ≡ doc.member_pressure h kind m
member_pressure_same h kind m =
    ap₂ (cond (is_deep kind)) (deep_same h.draught.0 h.wave.0 h.two_runs) (sea_same h.draught.0 h.wave.0 m.z.0)

line_same : (h : Header) (kind : ℕ) (m : Member) → member_line h kind m ≡ doc.q (doc.member_pressure h kind m) m.spacing.0
unfolding member_line
line_same h kind m =
    load_same (member_pressure h kind m) m.spacing.0 ∙ ap (λ (P : ℕ). doc.q P m.spacing.0) (member_pressure_same h kind m)

-- ---- the six rules, as tests of T, W or A

R_same : (M ZB : ℕ) → R M ZB ≡ doc.R M ZB
R_same M ZB = refl

K2_same : (b1 b2 : ℕ) → K2 b1 b2 ≡ doc.K2 b1 b2
unfolding K2 doc.K2
K2_same b1 b2 = refl

rule1_same : (kind L K S : ℕ) → rule1 kind L K S ≡ doc.rule1 kind L K S
rule1_same kind L K S = refl

rule2_same : (kind K S P : ℕ) → rule2 kind K S P ≡ doc.rule2 kind K S P
rule2_same kind K S P = refl

rule3_same : (kind K S k R : ℕ) → rule3 kind K S k R ≡ doc.rule3 kind K S k R
rule3_same kind K S k R = refl

rule4_same : (kind L K S : ℕ) → rule4 kind L K S ≡ doc.rule4 kind L K S
unfolding rule4 doc.rule4
rule4_same kind L K S = refl

rule5_same : (kind βb η σ1 q l : ℕ) → rule5 kind βb η σ1 q l ≡ doc.rule5 kind βb η σ1 q l
unfolding rule5 doc.rule5
rule5_same kind βb η σ1 q l = refl

rule6_same : (kind βs η q l : ℕ) → rule6 kind βs η q l ≡ doc.rule6 kind βs η q l
unfolding rule6 doc.rule6
rule6_same kind βs η q l = refl

-- ---- the verdict, rules and gauges apart

abbrev plate_by : (T : ℕ) (one two three : ℕ → Bool) → Verdict
plate_by T one two three = doc.asks 1 one 4000 T (doc.asks 2 two 4000 T (doc.asks 3 three 4000 T doc.pass))

abbrev member_by : (T W A : ℕ) (four five six : ℕ → Bool) → Verdict
member_by T W A four five six = doc.asks 4 four 4000 T (doc.asks 5 five 100000 W (doc.asks 6 six 16000 A doc.pass))

three : (by : (a b c : ℕ → Bool) → Verdict) {a a' b b' c c' : ℕ → Bool} → a ≡ a' → b ≡ b' → c ≡ c' → by a b c ≡ by a' b' c'
three by {a} {a'} {b} {b'} {c} {c'} e f g = ap (λ (x : ℕ → Bool). by x b c) e ∙ ap₂ (by a') f g

module _ (h : Header) (bare : h.own ≡ One) where
  -- a header with nothing of its own has ZB for every plate
  one_modulus : (kind : ℕ) → plate_modulus h kind ≡ h.bottom_modulus
  one_modulus kind = ap (λ (o : Own). cond (is_bottom kind) h.bottom_modulus (inner_of h.bottom_modulus o)) bare ∙ go (is_bottom kind)
    where
      go : (t : Bool) → cond t h.bottom_modulus h.bottom_modulus ≡ h.bottom_modulus
      go true = refl
      go false = refl

  -- rules 2 and 3 of a plate
  test2 : (kind : ℕ) (p : Plate) (K S : ℕ) → rule2 kind K S (plate_pressure h kind p) ≡ doc.rule2 kind K S (doc.plate_pressure h kind p)
  test2 kind p K S = ap (rule2 kind K S) (plate_pressure_same h kind p) ∙ rule2_same kind K S (doc.plate_pressure h kind p)

  test3 : (kind K S b1 b2 : ℕ)
      → rule3 kind K S (K2 b1 b2) (R h.moment (plate_modulus h kind)) ≡ doc.rule3 kind K S (doc.K2 b1 b2) (doc.R h.moment h.bottom_modulus)
  test3 kind K S b1 b2 =
      ap₂ (rule3 kind K S) (K2_same b1 b2) (ap (R h.moment) (one_modulus kind) ∙ R_same h.moment h.bottom_modulus)
      ∙ rule3_same kind K S (doc.K2 b1 b2) (doc.R h.moment h.bottom_modulus)

  plate_same : (kind : ℕ) (p : Plate) → plate_verdict h kind p ≡ doc.plate_verdict h kind p
  plate_same kind p =
      let K = p.factor.0 in
      let S = p.spacing.0 in
      three (plate_by p.thickness.0) (rule1_same kind h.length.0 K S) (test2 kind p K S) (test3 kind K S p.b1.0 p.b2.0)

  -- rules 5 and 6 of a member
  test5 : (kind : ℕ) (m : Member) (βb η σ1 l : ℕ) → rule5 kind βb η σ1 (member_line h kind m) l ≡ doc.rule5 kind βb η σ1 (doc.q (doc.member_pressure h kind m) m.spacing.0) l
  test5 kind m βb η σ1 l = ap (λ (q : ℕ). rule5 kind βb η σ1 q l) (line_same h kind m) ∙ rule5_same kind βb η σ1 (doc.q (doc.member_pressure h kind m) m.spacing.0) l

  test6 : (kind : ℕ) (m : Member) (βs η l : ℕ) → rule6 kind βs η (member_line h kind m) l ≡ doc.rule6 kind βs η (doc.q (doc.member_pressure h kind m) m.spacing.0) l
  test6 kind m βs η l = ap (λ (q : ℕ). rule6 kind βs η q l) (line_same h kind m) ∙ rule6_same kind βs η (doc.q (doc.member_pressure h kind m) m.spacing.0) l

  member_same : (kind : ℕ) (m : Member) → member_verdict h kind m ≡ doc.member_verdict h kind m
  member_same kind m =
      three (member_by m.thickness.0 m.modulus.0 m.area.0)
      (rule4_same kind h.length.0 m.factor.0 m.spacing.0)
      (test5 kind m m.bending m.eta m.stress m.span.0)
      (test6 kind m m.shear m.eta m.span.0)

  body_same : (kind : ℕ) (b : Body) → verdict_of (body_rules h kind b) ≡ doc.body_verdict h kind b
  body_same kind (isPlate p) = plate_same kind p
  body_same kind (isMember m) = member_same kind m

  pub verdict_same : (r : Record) → verdict h r ≡ doc.verdict h r
  unfolding doc.verdict
  verdict_same r = body_same r.kind r.body
