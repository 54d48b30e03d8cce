-- Pressures in thousandths of a Pa and line loads in N/m: draught D0, wave height H, height z and tank top zL in cm, spacing S in mm.
-- `-` is cut off at 0.
use Rattle.std.specs.Prelude.{ℕ, ◌+◌, ◌-◌, ◌*◌, max, Bool, cond, leb, eqb}
use Rattle.gauge.specs.Ceil.{ceil_of}

-- the pressure of x cm of water
abbrev pub water : ℕ → ℕ
water x = 98100 * x

-- that of the waves, up to the draught
abbrev pub waves : ℕ → ℕ
waves H = 50031 * H

-- 3400H at H = 120, and else 250,000
abbrev pub wind : ℕ → ℕ
wind H = cond (eqb H 120) (3400 * H) 250000

-- that of the waves above the draught: max(50150H, 3,000,000)
abbrev pub crest : ℕ → ℕ
crest H = max (50150 * H) 3000000

-- z ≤ D0: 98100(D0 − z) + 50031H; z > D0: max(50150H, 3,000,000) + wind
unfoldable pub sea : ℕ → ℕ → ℕ → ℕ
sea D0 H z = cond (leb z D0) (water (D0 - z) + waves H) (crest H + wind H)

-- pB = 98100(zL − z + 100), or 0 where that is negative
abbrev pub ballast : ℕ → ℕ → ℕ
ballast zL z = water (zL + 100 - z)

-- pM = max(0, 14715D0 − 50031H)
abbrev pub relief : ℕ → ℕ → ℕ
relief D0 H = 14715 * D0 - waves H

-- bottom plate: sea, or with ballast max(sea, pB − pM); sea is never negative, so the cut-off changes no maximum
unfoldable pub bottom_pressure : ℕ → ℕ → ℕ → Bool → ℕ → ℕ
bottom_pressure D0 H z isBallast zL = cond isBallast (max (sea D0 H z) (ballast zL z - relief D0 H)) (sea D0 H z)

-- inner bottom: cargo × 1000, or with ballast max(that, pB)
unfoldable pub inner_pressure : ℕ → ℕ → Bool → ℕ → ℕ
inner_pressure cargo z isBallast zL = cond isBallast (max (cargo * 1000) (ballast zL z)) (cargo * 1000)

-- 56407.5·x, rounded up
abbrev pub two_run_water : ℕ → ℕ
two_run_water x = ceil_of (564075 * x) 10

-- kinds 6 to 8: 98100·D0 + 50031H; in two runs 56407.5·D0 in place of the first term, rounded up
unfoldable pub deep_pressure : ℕ → ℕ → Bool → ℕ
deep_pressure D0 H two_runs = cond two_runs (two_run_water D0) (water D0) + waves H

-- q = P·S/1,000,000, rounded up
unfoldable pub line_load : ℕ → ℕ → ℕ
line_load P S = ceil_of (P * S) 1000000
