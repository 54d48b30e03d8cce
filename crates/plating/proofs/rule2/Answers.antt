-- `plating::rule2` meets its contract.
use Prim.Native.Nat.{◌*◌, ◌≤◌}
use mathlib.Core.Path.{sym, ◌∙◌}
use native.Mathlib.Omega.{arith}
use native.Mathlib.Nat.{mul-le-mul}
use Rattle.plating.specs.Shapes.{shape2}
use Rattle.plating.proofs.Products.{in_range}
use Rattle.plating.proofs.rule2.Goals.{Start}
use Rattle.plating.proofs.rule2.Goals as goal

-- `plating::rule2` meets its contract.
-- Assumes nothing.
-- S²KP
load_in_range : (c : Start) → let a = c.args in
    a.spacing.0 * a.spacing.0 * a.factor.0 * a.load.pressure.0 ≤ 800000000000000000
load_in_range c = mul-le-mul (in_range c.requires.1 c.requires.0).1 c.requires.2

-- src/lib.rt:90:13
pub overflow_mul-n-3 : goal.overflow_mul-n-3
overflow_mul-n-3 c = omega (arith, load_in_range (goal.at.overflow_mul-n-3 c).Start)

-- src/lib.rt:92:37
pub overflow_mul-n-then-is_long : goal.overflow_mul-n-then-is_long
overflow_mul-n-then-is_long c = omega (arith, load_in_range (goal.at.overflow_mul-n-then-is_long c).Start)

-- src/lib.rt:92:9
pub returns-then-is_long : goal.returns-then-is_long
unfolding shape2
returns-then-is_long c =
    rw (sym c.is_long.ensures ∙ c.if-is_long.true) c.square.ensures

-- src/lib.rt:84:1
pub returns : goal.returns
unfolding shape2
returns c =
    rw (sym c.is_long.ensures ∙ c.if-is_long.false) c.square-2.ensures
