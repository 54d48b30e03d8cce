-- Every larger thickness meets a rule too; and how great K2 and R are.
-- Assumes nothing.
use Rattle.std.specs.Prelude.{ℕ, ◌+◌, ◌-◌, ◌*◌, ◌≤◌, ◌<◌, true, false, cond, List, ◌≡◌, refl, leb, ltb}
use Rattle.std.proofs.Common.{ap, ◌∙◌, arith, mul-le-mul, mul-le-mul_left, mul-pos, le-div_iff_mul-le, lt-ltb, le-ltb}
use Rattle.quantity.specs.Range.{steel_factor}
use Rattle.gauge.specs.laws.CeilLaws.{ceil_most}
use Rattle.gauge.specs.Least.{Monotone}
use Rattle.gauge.specs.laws.Monotone.{Rising, at_least, either, times, timed, squared, square, both_monotone}
use Rattle.loads.specs.Sources.{Named, deciding, bottom_named, inner_named}
use Rattle.truth.specs.laws.Tests.{either_both}
use Rattle.loads.specs.laws.SourceLaws.{bottom_pressure_lem, inner_pressure_lem}
use Rattle.sheet.specs.declared.Header.{Header}
use Rattle.sheet.specs.declared.Plate.{Plate}
use Rattle.sheet.specs.Kinds.{is_long, is_bottom}
use Rattle.plating.specs.Rules.{plate_modulus, R, greatest_k2, K2, allowance, rule1, rule2, rule3, is_second, first_form, second_form, limit, plate_pressure, plate_named, asked1, asked2, asked3}
use Rattle.plating.specs.Bounds.{greatest_r}

-- K2 is at least 1000 and at most the greatest
pub K2_range : (b1 b2 : ℕ) → 0 < b1 → (1000 ≤ K2 b1 b2) × (K2 b1 b2 ≤ greatest_k2)
unfolding K2
K2_range b1 b2 h =
    let q = (le-div_iff_mul-le {x = 1000} {y = 1000 * (b1 * b1 + b2 * b2)} (mul-pos h h)).1 (omega arith) in
    (omega arith, omega arith)

-- R is at most that of the greatest moment on the least modulus
pub R_high : (M ZB : ℕ) → M ≤ 1000000 → 1 ≤ ZB → R M ZB ≤ greatest_r
R_high M ZB m z = ceil_most (1000000 * M) ZB greatest_r z (omega arith)

pub rule1_monotone : (kind L K S : ℕ) → Monotone (rule1 kind L K S)
rule1_monotone kind L K S =
    let short = allowance kind + 36 * S in
    let X : ℕ → ℕ = λ T. 100 * T - short in
    let rising : Rising X = λ x y l. omega arith in
    both_monotone (λ (T : ℕ). leb short (100 * T)) _
    (at_least short (λ (T : ℕ). 100 * T) (λ x y l. omega arith))
    (either (is_bottom kind) _ _
    (at_least _ _ (times _ _ (squared X rising)))
    (at_least _ _ (times _ _ (squared X rising))))

pub rule2_monotone : (kind K S P : ℕ) → Monotone (rule2 kind K S P)
rule2_monotone kind K S P =
    either (is_long kind) _ _ (at_least _ _ (times _ _ square)) (at_least _ _ (times _ _ square))

pub rule3_monotone : (kind K S K2 R : ℕ) → Monotone (rule3 kind K S K2 R)
rule3_monotone kind K S K2 R =
    either (is_second kind K R) (second_form kind K S K2 R) (first_form kind S K2 R)
    (both_monotone (λ (T : ℕ). ltb R limit) _ (λ x y l e. e)
    (either (is_long kind) _ _
    (at_least _ _ (timed (limit - R) _ (times _ _ square)))
    (at_least _ _ (timed (limit - R) _ (timed (K2 * K2) _ square)))))
    (either (is_long kind) _ _
    (at_least _ _ (times _ _ square))
    (at_least _ _ (timed (K2 * K2) _ (times _ _ square))))

-- so with each rule that a plate answers to
pub plate_monotone : (h : Header) (kind : ℕ) (p : Plate) →
    Monotone (asked1 h kind p).asks × Monotone (asked2 h kind p).asks × Monotone (asked3 h kind p).asks
plate_monotone h kind p = (
  rule1_monotone kind h.length.0 p.factor.0 p.spacing.0,
  rule2_monotone kind p.factor.0 p.spacing.0 (plate_pressure h kind p),
  rule3_monotone kind p.factor.0 p.spacing.0 (K2 p.b1.0 p.b2.0) (R h.moment (plate_modulus h kind)),
)

-- at R ≥ 210,000 no thickness meets rule 3 on the bottom: the second form holds there for every steel
pub over_limit : (K S K2 R T : ℕ) → steel_factor.low ≤ K → limit ≤ R → (rule3 1 K S K2 R T ≡ false) × (rule3 2 K S K2 R T ≡ false)
over_limit K S K2 R T k r =
    let p : is_second 1 K R ≡ true = lt-ltb 121000000000 (1156 * K * R) (omega (arith, mul-le-mul (mul-le-mul_left 1156 k) r)) in
    let q : is_second 2 K R ≡ true = lt-ltb 625000000000 (6084 * K * R) (omega (arith, mul-le-mul (mul-le-mul_left 6084 k) r)) in
    (rw (p, le-ltb R limit r), rw (q, le-ltb R limit r))

-- the inner bottom takes the first form always
pub inner_first : (K S K2 R T : ℕ) → (rule3 3 K S K2 R T ≡ first_form 3 S K2 R T) × (rule3 4 K S K2 R T ≡ first_form 4 S K2 R T)
inner_first K S K2 R T = (refl, refl)

-- the load that decides is that of the bottom or of the inner bottom
pub plate_named_lem : (h : Header) (kind : ℕ) (p : Plate)
    → plate_named h kind p
    ≡ cond (is_bottom kind) (bottom_named h.draught.0 h.wave.0 p.z.0 p.ballast p.tank_top.0) (inner_named p.cargo p.z.0 p.ballast p.tank_top.0)
unfolding bottom_named inner_named
plate_named_lem h kind p = either_both (λ (ls : List Named) (n : Named). deciding ls ≡ n) (is_bottom kind) _ _ _ _ refl refl

-- its pressure is the one that rule 2 asks of
pub plate_pressure_lem : (h : Header) (kind : ℕ) (p : Plate) → (plate_named h kind p).pressure ≡ plate_pressure h kind p
plate_pressure_lem h kind p =
    ap (λ (n : Named). n.pressure) (plate_named_lem h kind p)
    ∙ either_both (λ (n : Named) (P : ℕ). n.pressure ≡ P) (is_bottom kind) _ _ _ _
    (bottom_pressure_lem h.draught.0 h.wave.0 p.z.0 p.ballast p.tank_top.0)
    (inner_pressure_lem p.cargo p.z.0 p.ballast p.tank_top.0)
