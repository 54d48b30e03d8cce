-- Within the sheet's values the pressures and the line loads lie within the ranges of their quantities.
-- Assumes nothing.
use Rattle.std.specs.Prelude.{ℕ, ◌≤◌, Bool, true, false, cond, ◌≡◌, refl, leb, eqb}
use native.Mathlib.Omega.{arith}
use Rattle.std.proofs.Math.Nat.{max-le}
use Rattle.std.proofs.Common.{mul-le-mul, lit<}
use Rattle.quantity.specs.Range.{spacing, pressure, line_load as lineLoads}
use Rattle.gauge.specs.Ceil.{ceil_of}
use Rattle.gauge.specs.laws.CeilLaws.{ceil_most}
use Rattle.loads.specs.Loads.{water, wind, crest, two_run_water, sea, bottom_pressure, inner_pressure, deep_pressure, line_load}

-- one of two numbers that are at most n
pub either : (b : Bool) (x y n : ℕ) → x ≤ n → y ≤ n → cond b x y ≤ n
either true x y n p q = p
either false x y n p q = q

-- the greatest sea pressure
abbrev pub greatest_sea : ℕ
greatest_sea = 104103720

module _ (D0 H : ℕ) (draught : D0 ≤ 1000) (wave : H ≤ 120) where
  pub sea_bound : (z : ℕ) → sea D0 H z ≤ greatest_sea
  unfolding sea
  sea_bound z =
      let w : wind H ≤ 408000 = either (eqb H 120) _ _ _ (omega arith) (omega arith) in
      let m : crest H ≤ 6018000 = max-le (omega arith) (omega arith) in
      either (leb z D0) _ _ _ (omega arith) (omega arith)

  pub deep_bound : (two_runs : Bool) → deep_pressure D0 H two_runs ≤ greatest_sea
  unfolding deep_pressure
  deep_bound two_runs =
      let c : two_run_water D0 ≤ 56407500 = ceil_most _ 10 _ (lit< tt) (omega arith) in
      let f = either two_runs (two_run_water D0) (water D0) 98100000 (omega arith) (omega arith) in
      omega arith

  pub bottom_bound : (z : ℕ) (is_ballast : Bool) (zL : ℕ) → zL ≤ 1200 → bottom_pressure D0 H z is_ballast zL ≤ pressure.high
  unfolding bottom_pressure
  bottom_bound z is_ballast zL h =
      let s = sea_bound z in
      either is_ballast _ _ _ (max-le (omega arith) (omega arith)) (omega arith)

pub inner_bound : (cargo z : ℕ) (is_ballast : Bool) (zL : ℕ) → cargo ≤ 200000 → zL ≤ 1200 → inner_pressure cargo z is_ballast zL ≤ pressure.high
unfolding inner_pressure
inner_bound cargo z is_ballast zL p h = either is_ballast _ _ _ (max-le (omega arith) (omega arith)) (omega arith)

pub line_bound : (P S : ℕ) → P ≤ greatest_sea → S ≤ spacing.high → line_load P S ≤ lineLoads.high
unfolding line_load
line_bound P S p s = ceil_most _ 1000000 _ (lit< tt) (omega (arith, mul-le-mul p s))

-- the highest pressure and the highest line load are reached
pub highest_pressure : inner_pressure 200000 0 false 0 ≡ pressure.high
unfolding inner_pressure
highest_pressure = refl

pub highest_line_load : line_load (sea 1000 120 0) spacing.high ≡ lineLoads.high
unfolding line_load sea ceil_of
highest_line_load = refl
