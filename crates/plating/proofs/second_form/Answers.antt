-- `plating::second_form` meets its contract: below the limit the factors of T² are gathered into one divisor.
use Prim.Native.Nat.{◌-◌, ◌*◌, ◌≤◌, ◌<◌}
use mathlib.Core.Path.{sym, ◌∙◌}
use borrow.Author.Tests.{lt-ltb, le-ltb}
use native.Mathlib.Omega.{arith}
use native.Mathlib.Nat.{mul-le-mul}
use Rattle.plating.specs.Rules.{limit}
use Rattle.plating.specs.Shapes.{second_shape}
use Rattle.plating.proofs.Products.{sides}
use Rattle.plating.proofs.second_form.Goals.{After-k2-side, Else-is_long}
use Rattle.plating.proofs.second_form.Goals as goal

-- the side by which transverse framing divides
side : (c : Else-is_long) → 0 < c.args.b1.0
side c = c.requires.0.b1_low (sym c.is_long.ensures ∙ c.if-is_long.false)

-- K2²(210,000 − R)
divisor : (c : After-k2-side) → let k = c.k2-side.result in let R = c.args.r in
    (k * k ≤ 676000000) × (1 ≤ k * k * (limit - R)) × (k * k * (limit - R) ≤ 676000000 * limit)
divisor c =
    let R = c.args.r in
    let s = sides _ (side c.before) c.k2-side.ensures in
    let low : 1 ≤ limit - R = omega arith in
    let high : limit - R ≤ limit = omega arith in
    let one : 1 ≤ c.k2-side.result * c.k2-side.result = omega arith in
    (s.1, mul-le-mul one low, mul-le-mul s.1 high)

-- LOOK: passes ['Else-is_long']
-- LOOK: before

-- src/lib.rt:160:9
pub returns-then-r-ge-LIMIT : goal.returns-then-r-ge-LIMIT
unfolding second_shape
returns-then-r-ge-LIMIT c = rw (le-ltb _ limit c.if-r-ge-LIMIT.true)

-- src/lib.rt:167:9
pub returns-then-is_long : goal.returns-then-is_long
unfolding second_shape
returns-then-is_long c =
    rw (lt-ltb _ limit c.if-r-ge-LIMIT.false, sym c.is_long.ensures ∙ c.if-is_long.true) c.square.ensures

-- src/lib.rt:170:12
pub overflow_mul-side : goal.overflow_mul-side
overflow_mul-side c = omega (arith, divisor c)

-- src/lib.rt:170:12
pub overflow_mul-side-2 : goal.overflow_mul-side-2
overflow_mul-side-2 c = omega (arith, divisor c)

-- src/lib.rt:155:1
pub returns : goal.returns
unfolding second_shape
returns c =
    rw (lt-ltb _ limit c.if-r-ge-LIMIT.false, sym c.is_long.ensures ∙ c.if-is_long.false, ← c.k2-side.ensures) c.square-2.ensures
