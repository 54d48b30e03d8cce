-- `plating::first_form` meets its contract.
use Prim.Native.Nat.{ℕ, ◌*◌, ◌≤◌, ◌<◌}
use mathlib.Core.Path.{sym, ◌∙◌}
use native.Mathlib.Omega.{arith}
use native.Mathlib.Nat.{mul-le-mul}
use Rattle.plating.specs.Bounds.{Panel}
use Rattle.plating.specs.Shapes.{first_shape}
use Rattle.plating.proofs.Products.{sides}
use Rattle.plating.proofs.first_form.Goals.{Else-is_long}
use Rattle.plating.proofs.first_form.Goals as goal

-- the side by which transverse framing divides
side : (c : Else-is_long) → 0 < c.args.b1.0
side c = c.requires.b1_low (sym c.is_long.ensures ∙ c.if-is_long.false)

-- `plating::first_form` meets its contract.
-- Assumes nothing.
-- S²
area : {kind S b1 : ℕ} → Panel kind S b1 → (10000 ≤ S * S) × (S * S ≤ 4000000)
area p = (mul-le-mul p.spacing_low p.spacing_low, mul-le-mul p.spacing_high p.spacing_high)

-- src/lib.rt:148:9
pub returns-then-is_long : goal.returns-then-is_long
unfolding first_shape
returns-then-is_long c =
    rw (sym c.is_long.ensures ∙ c.if-is_long.true) c.square_over.ensures

-- src/lib.rt:151:23
pub overflow_mul-side : goal.overflow_mul-side
overflow_mul-side c = omega (arith, sides _ (side (goal.at.overflow_mul-side c).Else-is_long) c.k2-side.ensures)

-- src/lib.rt:151:17
pub overflow_mul-side-2 : goal.overflow_mul-side-2
overflow_mul-side-2 c = omega (arith, sides _ (side (goal.at.overflow_mul-side-2 c).Else-is_long) c.k2-side.ensures)

-- src/lib.rt:151:5
pub square_over-requires-2 : goal.square_over-requires-2
square_over-requires-2 c = omega (arith, sides _ (side (goal.at.square_over-requires-2 c).Else-is_long) c.k2-side.ensures, area c.requires)

-- src/lib.rt:141:1
pub returns : goal.returns
unfolding first_shape
returns c =
    rw (sym c.is_long.ensures ∙ c.if-is_long.false, ← c.k2-side.ensures) c.square_over-2.ensures
