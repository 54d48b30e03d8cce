-- Document 01, "Pressures", "The six rules, in order" and the verdict, written out in its own numbers, letters and order. No request changes this file, since it is
-- what today's checker is compared with; of the crates below it uses only what has none of the document's numbers. `-` is cut off at 0.
use Rattle.std.specs.Prelude.{ℕ, ◌+◌, ◌-◌, ◌*◌, ◌/◌, min, max, Bool, false, ◌&&◌, cond, leb, ltb, eqb}
use Rattle.gauge.specs.Ceil.{ceil_of}
use Rattle.gauge.specs.Least.{least_in, number_of}
use Rattle.sheet.specs.declared.Header.{Header}
use Rattle.sheet.specs.declared.Plate.{Plate}
use Rattle.sheet.specs.declared.Member.{Member}
use Rattle.sheet.specs.declared.Body.{Body}
use Rattle.sheet.specs.declared.Body.TheVariants.{Plate as isPlate, Member as isMember}
use Rattle.sheet.specs.declared.Record.{Record}
use Rattle.verdict.specs.declared.Verdict.{Verdict}
use Rattle.demands.specs.Document01Sheet.{bottom, longitudinal, six_or_seven, from_six}

-- ---- pressures

-- sea, z ≤ D0: 98100(D0−z) + 50031H; z > D0: max(50150H, 3,000,000) + wind, where wind is 3400H at H = 120 and 250,000 at H = 0 or 60
unfoldable pub sea : (D0 H z : ℕ) → ℕ
sea D0 H z = cond (leb z D0) (98100 * (D0 - z) + 50031 * H) (max (50150 * H) 3000000 + cond (eqb H 120) (3400 * H) 250000)

-- ballast pB = 98100(zL−z+100)
abbrev pub pB : (zL z : ℕ) → ℕ
pB zL z = 98100 * (zL + 100 - z)

-- relief pM = max(0, 14715D0 − 50031H)
abbrev pub pM : (D0 H : ℕ) → ℕ
pM D0 H = 14715 * D0 - 50031 * H

-- bottom plate: sea, or with ballast max(sea, pB−pM)
unfoldable pub on_bottom : (D0 H z : ℕ) → Bool → (zL : ℕ) → ℕ
on_bottom D0 H z ballast zL = cond ballast (max (sea D0 H z) (pB zL z - pM D0 H)) (sea D0 H z)

-- inner bottom: cargo × 1000, or with ballast max(that, pB)
unfoldable pub on_inner : (cargo z : ℕ) → Bool → (zL : ℕ) → ℕ
on_inner cargo z ballast zL = cond ballast (max (cargo * 1000) (pB zL z)) (cargo * 1000)

-- kinds 6 to 8: 98100·D0 + 50031H in one run; in two runs 56407.5·D0 in place of the first term, rounded up
unfoldable pub on_deep : (D0 H : ℕ) → (two : Bool) → ℕ
on_deep D0 H two = cond two (ceil_of (564075 * D0) 10) (98100 * D0) + 50031 * H

-- q = P·S/1,000,000 rounded up
unfoldable pub q : (P S : ℕ) → ℕ
q P S = ceil_of (P * S) 1000000

-- P on a plate: kinds 1, 2 bottom, 3, 4 inner bottom
abbrev pub plate_pressure : Header → ℕ → Plate → ℕ
plate_pressure h kind p =
    cond (bottom kind) (on_bottom h.draught.0 h.wave.0 p.z.0 p.ballast p.tank_top.0)
    (on_inner p.cargo p.z.0 p.ballast p.tank_top.0)

-- P on a member: kind 5 sea at z, kinds 6 to 8 theirs
abbrev pub member_pressure : Header → ℕ → Member → ℕ
member_pressure h kind m = cond (from_six kind) (on_deep h.draught.0 h.wave.0 h.two_runs) (sea h.draught.0 h.wave.0 m.z.0)

-- ---- the six rules, in order

-- R = 1,000,000·M/ZB rounded up
abbrev pub R : (M ZB : ℕ) → ℕ
R M ZB = ceil_of (1000000 * M) ZB

-- K2 = 1000(b1²+b2²)/b1² rounded down, at most 26,000
unfoldable pub K2 : (b1 b2 : ℕ) → ℕ
K2 b1 b2 = min 26000 (1000 * (b1 * b1 + b2 * b2) / (b1 * b1))

-- X = x − c, X ≥ 0, and aX² ≥ b
abbrev pub square : (a x c b : ℕ) → Bool
square a x c b = leb c x && leb b (a * ((x - c) * (x - c)))

-- 1: X = 100T − c − 36S, X ≥ 0. Kind 1: c = 18500, kind 2: c = 11000, both 1000X² ≥ 9L²K. Kinds 3, 4: c = 15000, 3125X² ≥ 8L²K
abbrev pub c : (kind : ℕ) → ℕ
c kind = cond (eqb kind 1) 18500 (cond (eqb kind 2) 11000 15000)

abbrev pub rule1 : (kind L K S T : ℕ) → Bool
rule1 kind L K S T =
    let X = 100 * T - (c kind + 36 * S) in
    leb (c kind + 36 * S) (100 * T) && cond (bottom kind) (leb (9 * (L * L * K)) (1000 * (X * X))) (leb (8 * (L * L * K)) (3125 * (X * X)))

-- 2: kinds 1, 3: 39,062,500,000·T² ≥ S²KP; kinds 2, 4: 625,000,000,000·T² ≥ 9S²KP
abbrev pub rule2 : (kind K S P T : ℕ) → Bool
rule2 kind K S P T = cond (longitudinal kind) (leb (9 * (S * S * K * P)) (625000000000 * (T * T))) (leb (S * S * K * P) (39062500000 * (T * T)))

-- 3: transverse: 25T²K2² ≥ 1156S²R; longitudinal: 100,000,000·T² ≥ 1521S²R
abbrev pub first3 : (kind S K2 R T : ℕ) → Bool
first3 kind S K2 R T =
    cond (longitudinal kind) (leb (1521 * (S * S) * R) (100000000 * (T * T))) (leb (1156 * (S * S) * R) (25 * (T * T) * (K2 * K2)))

-- the second form: kind 1: T²K2²(210,000−R) ≥ 504,100,000·S²K; kind 2: 10T²(210,000−R) ≥ 1681S²K; at R ≥ 210,000 no T meets it
abbrev pub second3 : (kind K S K2 R T : ℕ) → Bool
second3 kind K S K2 R T =
    ltb R 210000
    && cond (longitudinal kind) (leb (1681 * (S * S * K)) (10 * (T * T) * (210000 - R)))
    (leb (504100000 * (S * S * K)) (T * T * (K2 * K2) * (210000 - R)))

-- it replaces the first: kind 1 when 1156KR > 121,000,000,000; kind 2 when 6084KR > 625,000,000,000
abbrev pub rule3 : (kind K S K2 R T : ℕ) → Bool
rule3 kind K S K2 R T =
    cond (cond (eqb kind 1) (ltb 121000000000 (1156 * K * R)) (cond (eqb kind 2) (ltb 625000000000 (6084 * K * R)) false))
    (second3 kind K S K2 R T)
    (first3 kind S K2 R T)

-- 4: kind 5 under L = 12000: X = 100T − 16300 − 45S ≥ 0, 6250X² ≥ L²K; from 12000: X = 10T − S ≥ 0, X² ≥ 15210K.
-- Kinds 6 to 8: X = 100T − 38000 ≥ 0, 3125X² ≥ 8L²K
unfoldable pub rule4 : (kind L K S T : ℕ) → Bool
rule4 kind L K S T =
    cond (from_six kind)
    (square 3125 (100 * T) 38000 (8 * (L * L) * K))
    (cond (ltb L 12000) (square 6250 (100 * T) (16300 + 45 * S) (L * L * K)) (square 1 (10 * T) S (15210 * K)))

-- 5: kind 5: 10¹¹·W(214−σ1) ≥ 833βbηql²; kinds 6, 7: 5·10⁹·W ≥ 29βbql²; kind 8: 2·10⁹·W(197−σ1) ≥ 25βbηql². At σ1 of 214 or more (197) nothing meets it
unfoldable pub rule5 : (kind βb η σ1 q l W : ℕ) → Bool
rule5 kind βb η σ1 q l W =
    cond (from_six kind)
    (cond (six_or_seven kind)
    (leb (29 * βb * q * (l * l)) (5000000000 * W))
    (ltb σ1 197 && leb (25 * βb * η * q * (l * l)) (2000000000 * W * (197 - σ1))))
    (ltb σ1 214 && leb (833 * βb * η * q * (l * l)) (100000000000 * W * (214 - σ1)))

-- 6: kind 5: 2·10⁹·A ≥ 9βsηql; kinds 6, 7: 2·10⁷·A ≥ 9βsql; kind 8: 12,500,000·A ≥ 7βsql, no η
unfoldable pub rule6 : (kind βs η q l A : ℕ) → Bool
rule6 kind βs η q l A =
    cond (from_six kind)
    (cond (six_or_seven kind) (leb (9 * βs * q * l) (20000000 * A)) (leb (7 * βs * q * l) (12500000 * A)))
    (leb (9 * βs * η * q * l) (2000000000 * A))

-- ---- the verdict: the first rule that fails, with the least number of the gauge 1, 2, .., top that meets it, 0 where none does

-- rule `number` asks this of the number that the member has; where that meets it, the next
abbrev pub asks : (number : ℕ) → (ℕ → Bool) → (top has : ℕ) → Verdict → Verdict
asks number test top has next = cond (test has) next (record { rule = number; required = number_of (least_in test top) })

-- rule 0 is pass
abbrev pub pass : Verdict
pass = record { rule = 0; required = 0 }

-- plates answer to 1, 2, 3, with T from 1 to 4000
abbrev pub plate_verdict : Header → ℕ → Plate → Verdict
plate_verdict h kind p =
    let K = p.factor.0 in
    let S = p.spacing.0 in
    let T = p.thickness.0 in
    asks 1 (rule1 kind h.length.0 K S) 4000 T
    (asks 2 (rule2 kind K S (plate_pressure h kind p)) 4000 T
    (asks 3 (rule3 kind K S (K2 p.b1.0 p.b2.0) (R h.moment h.bottom_modulus)) 4000 T pass))

-- members to 4, 5, 6, with T from 1 to 4000, W from 1 to 100,000 and A from 1 to 16,000
abbrev pub member_verdict : Header → ℕ → Member → Verdict
member_verdict h kind m =
    let S = m.spacing.0 in
    let l = m.span.0 in
    let load = q (member_pressure h kind m) S in
    asks 4 (rule4 kind h.length.0 m.factor.0 S) 4000 m.thickness.0
    (asks 5 (rule5 kind m.bending m.eta m.stress load l) 100000 m.modulus.0
    (asks 6 (rule6 kind m.shear m.eta load l) 16000 m.area.0 pass))

abbrev pub body_verdict : Header → ℕ → Body → Verdict
body_verdict h kind (isPlate p) = plate_verdict h kind p
body_verdict h kind (isMember m) = member_verdict h kind m

unfoldable pub verdict : Header → Record → Verdict
verdict h r = body_verdict h r.kind r.body
