-- `plating::rule1` meets its contract: with numbers of 16 bits nothing can overflow.
use mathlib.Core.Path.{sym, ◌∙◌}
use Rattle.plating.specs.Shapes.{shape1}
use Rattle.plating.proofs.rule1.Goals as goal

-- src/lib.rt:78:9
pub returns-then-is_bottom : goal.returns-then-is_bottom
unfolding shape1
returns-then-is_bottom c =
    rw (sym c.is_bottom.ensures ∙ c.if-is_bottom.true, ← c.allowance.ensures) c.excess.ensures

-- src/lib.rt:69:1
pub returns : goal.returns
unfolding shape1
returns c =
    rw (sym c.is_bottom.ensures ∙ c.if-is_bottom.false, ← c.allowance.ensures) c.excess-2.ensures
