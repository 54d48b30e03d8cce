-- What a plate and its header within their values bring: the panel, the modulus and the pressure.
-- Assumes nothing.
use Prim.Native.Nat.{ℕ, ◌≤◌}
use mathlib.Core.Bool.{Bool, true, false, cond}
use native.Mathlib.Omega.{arith}
use Rattle.quantity.specs.Range.{pressure}
use Rattle.loads.specs.laws.Bounds.{either, bottom_bound, inner_bound}
use Rattle.sheet.specs.declared.Header.{Header}
use Rattle.sheet.specs.declared.Plate.{Plate}
use Rattle.sheet.specs.Kinds.{is_bottom}
use Rattle.sheet.specs.Ranges.{HeaderRanges, PlateRanges}
use Rattle.plating.specs.Rules.{plate_modulus, plate_pressure}
use Rattle.plating.specs.Bounds.{Panel}

module _ (h : Header) (kind : ℕ) (p : Plate) (a : HeaderRanges h) (b : PlateRanges kind p) where
  pub load_high : plate_pressure h kind p ≤ pressure.high
  load_high =
      either (is_bottom kind) _ _ _
      (bottom_bound h.draught.0 h.wave.0 a.draught_high a.wave_high p.z.0 p.ballast p.tank_top.0 b.tank_high)
      (inner_bound p.cargo p.z.0 p.ballast p.tank_top.0 b.cargo_high b.tank_high)

  -- the modulus at the plate is not 0
  pub modulus_some : 1 ≤ plate_modulus h kind
  modulus_some = low (is_bottom kind) _ _ a.modulus_low a.inner_low
    where
      low : (t : Bool) (x y : ℕ) → 1 ≤ x → 1 ≤ y → 1 ≤ cond t x y
      low true x y m n = m
      low false x y m n = n

  pub panel : Panel kind p.spacing.0 p.b1.0
  panel = record { spacing_low = b.spacing_low; spacing_high = b.spacing_high; b1_low = λ e. omega (arith, b.b1_low e) }
