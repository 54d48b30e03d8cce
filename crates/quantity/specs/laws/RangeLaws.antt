-- What the test of a range says of a number.
-- Assumes nothing.
use Rattle.std.specs.Prelude.{ℕ, ◌≤◌, ◌≡◌, true}
use Rattle.std.proofs.Common.{leb-true, le-leb}
use Rattle.truth.specs.laws.Tests.{both}
use Rattle.quantity.specs.Range.{Range, within}

-- a number within a range lies from its lowest to its highest
pub low_high : (r : Range) (v : ℕ) → within r v ≡ true → (r.low ≤ v) × (v ≤ r.high)
low_high r v e = let h = both _ _ e in (leb-true _ _ h.0, leb-true _ _ h.1)

-- and the other way round
pub lies_within : (r : Range) (v : ℕ) → r.low ≤ v → v ≤ r.high → within r v ≡ true
lies_within r v l h = rw (le-leb _ _ l, le-leb _ _ h)
