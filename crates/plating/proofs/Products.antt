-- Products that fit.
-- Assumes nothing.
use Prim.Native.Nat.{ℕ, ◌*◌, ◌≤◌, ◌<◌}
use mathlib.Core.Path.{◌≡◌}
use native.Mathlib.Nat.{mul-le-mul}
use Rattle.quantity.specs.Range.{steel_factor}
use Rattle.plating.specs.Rules.{K2}
use Rattle.sheet.specs.Lines.{plate_spacing}
use Rattle.plating.specs.laws.Laws.{K2_range}

-- S² and S²K of a plate
pub in_range : {S K : ℕ} → S ≤ plate_spacing.high → K ≤ steel_factor.high → (S * S ≤ 4000000) × (S * S * K ≤ 4000000000)
in_range s k = (mul-le-mul s s, mul-le-mul (mul-le-mul s s) k)

-- K2²
pub sides : {k b1 : ℕ} (b2 : ℕ) → 0 < b1 → k ≡ K2 b1 b2 → (1000000 ≤ k * k) × (k * k ≤ 676000000)
sides {k} {b1} b2 h e =
    let r = K2_range b1 b2 h in
    rw e (mul-le-mul r.0 r.0, mul-le-mul r.1 r.1)
