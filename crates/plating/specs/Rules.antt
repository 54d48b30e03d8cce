-- Rules 1, 2 and 3, which plates answer to, in the document's letters and order; each is a test of the thickness T, the last number.
use Rattle.std.specs.Prelude.{ℕ, ◌+◌, ◌-◌, ◌*◌, ◌/◌, min, Bool, false, ◌&&◌, cond, List, [], ◌∷◌, leb, ltb, eqb}
use Rattle.quantity.specs.Range.{thickness}
use Rattle.gauge.specs.Ceil.{ceil_of}
use Rattle.sheet.specs.declared.Header.{Header}
use Rattle.sheet.specs.declared.Plate.{Plate}
use Rattle.sheet.specs.Kinds.{is_long, is_bottom}
use Rattle.sheet.specs.Header.{inner_modulus}
use Rattle.loads.specs.Loads.{bottom_pressure, inner_pressure}
use Rattle.loads.specs.Sources.{Named, on_bottom, on_inner, deciding}
use Rattle.verdict.specs.declared.Verdict.{Verdict}
use Rattle.verdict.specs.Verdict.{Rule, verdict_of}
use Rattle.verdict.specs.Judged.{Finding}

-- R = 1,000,000·M/Z rounded up: the hull's stress where its modulus is Z, thousandths of a N/mm²
abbrev pub R : ℕ → ℕ → ℕ
R M Z = ceil_of (1000000 * M) Z

-- Z: on kinds 1, 2 the bottom's modulus ZB, on kinds 3, 4 the inner bottom's
abbrev pub plate_modulus : Header → ℕ → ℕ
plate_modulus h kind = cond (is_bottom kind) h.bottom_modulus (inner_modulus h)

abbrev pub greatest_k2 : ℕ
greatest_k2 = 26000

-- K2 = 1000(b1² + b2²)/b1² rounded down, at most 26,000
unfoldable pub K2 : ℕ → ℕ → ℕ
K2 b1 b2 = min greatest_k2 (1000 * (b1 * b1 + b2 * b2) / (b1 * b1))

-- c of rule 1
abbrev pub allowance : ℕ → ℕ
allowance kind = cond (eqb kind 1) 18500 (cond (eqb kind 2) 11000 15000)

-- X = 100T − c − 36S, X ≥ 0; kinds 1, 2: 1000X² ≥ 9L²K; kinds 3, 4: 3125X² ≥ 8L²K
abbrev pub rule1 : ℕ → ℕ → ℕ → ℕ → ℕ → Bool
rule1 kind L K S T =
    let short = allowance kind + 36 * S in
    let X = 100 * T - short in
    leb short (100 * T)
    && cond (is_bottom kind) (leb (9 * (L * L * K)) (1000 * (X * X))) (leb (8 * (L * L * K)) (3125 * (X * X)))

-- kinds 1, 3: 39,062,500,000·T² ≥ S²KP; kinds 2, 4: 625,000,000,000·T² ≥ 9S²KP
abbrev pub rule2 : ℕ → ℕ → ℕ → ℕ → ℕ → Bool
rule2 kind K S P T =
    cond (is_long kind) (leb (9 * (S * S * K * P)) (625000000000 * (T * T))) (leb (S * S * K * P) (39062500000 * (T * T)))

-- where the second form of rule 3 replaces the first; kind 1: 1156KR > 121,000,000,000; kind 2: 6084KR > 625,000,000,000; the inner bottom never
abbrev pub is_second : ℕ → ℕ → ℕ → Bool
is_second kind K R =
    cond (eqb kind 1) (ltb 121000000000 (1156 * K * R)) (cond (eqb kind 2) (ltb 625000000000 (6084 * K * R)) false)

-- the stress R that leaves nothing for the plate's own bending
abbrev pub limit : ℕ
limit = 210000

-- the first form; transverse: 25T²K2² ≥ 1156S²R; longitudinal: 100,000,000·T² ≥ 1521S²R
abbrev pub first_form : ℕ → ℕ → ℕ → ℕ → ℕ → Bool
first_form kind S K2 R T =
    cond (is_long kind) (leb (1521 * (S * S) * R) (100000000 * (T * T))) (leb (1156 * (S * S) * R) (25 * (T * T) * (K2 * K2)))

-- the second form; kind 1: T²K2²(210,000−R) ≥ 504,100,000·S²K; kind 2: 10T²(210,000−R) ≥ 1681S²K; at R ≥ 210,000 no T meets it
abbrev pub second_form : ℕ → ℕ → ℕ → ℕ → ℕ → ℕ → Bool
second_form kind K S K2 R T =
    ltb R limit
    && cond (is_long kind) (leb (1681 * (S * S * K)) (10 * (T * T) * (limit - R)))
    (leb (504100000 * (S * S * K)) (T * T * (K2 * K2) * (limit - R)))

-- the second form where it replaces the first, and else the first
abbrev pub rule3 : ℕ → ℕ → ℕ → ℕ → ℕ → ℕ → Bool
rule3 kind K S K2 R T = cond (is_second kind K R) (second_form kind K S K2 R T) (first_form kind S K2 R T)

-- P: on kinds 1, 2 that of the bottom, on kinds 3, 4 that of the inner bottom
abbrev pub plate_pressure : Header → ℕ → Plate → ℕ
plate_pressure h kind p =
    cond (is_bottom kind) (bottom_pressure h.draught.0 h.wave.0 p.z.0 p.ballast p.tank_top.0)
    (inner_pressure p.cargo p.z.0 p.ballast p.tank_top.0)

-- the loads that bear on the plate, and the one of them that decides
abbrev pub plate_loads : Header → ℕ → Plate → List Named
plate_loads h kind p =
    cond (is_bottom kind) (on_bottom h.draught.0 h.wave.0 p.z.0 p.ballast p.tank_top.0)
    (on_inner p.cargo p.z.0 p.ballast p.tank_top.0)

abbrev pub plate_named : Header → ℕ → Plate → Named
plate_named h kind p = deciding (plate_loads h kind p)

-- a rule of this number as the plate has to answer to it, with its thickness
abbrev pub asked : Plate → ℕ → (ℕ → Bool) → Rule
asked p number asks = record { number = number; asks = asks; top = thickness.high; has = p.thickness.0 }

abbrev pub asked1 : Header → ℕ → Plate → Rule
asked1 h kind p = asked p 1 (rule1 kind h.length.0 p.factor.0 p.spacing.0)

abbrev pub asked2 : Header → ℕ → Plate → Rule
asked2 h kind p = asked p 2 (rule2 kind p.factor.0 p.spacing.0 (plate_pressure h kind p))

abbrev pub asked3 : Header → ℕ → Plate → Rule
asked3 h kind p =
    asked p 3 (rule3 kind p.factor.0 p.spacing.0 (K2 p.b1.0 p.b2.0) (R h.moment (plate_modulus h kind)))

-- the rules that a plate answers to, in their order
abbrev pub plate_rules : Header → ℕ → Plate → List Rule
plate_rules h kind p = asked1 h kind p ∷ asked2 h kind p ∷ asked3 h kind p ∷ []

-- the first of them that fails, with what it requires
abbrev pub plate_verdict : Header → ℕ → Plate → Verdict
plate_verdict h kind p = verdict_of (plate_rules h kind p)

-- the verdict, and what the plate's pressure comes from
abbrev pub plate_finding : Header → ℕ → Plate → Finding
plate_finding h kind p = record { verdict = plate_verdict h kind p; source = (plate_named h kind p).source }
