-- `plating::load` meets its contract.
use mathlib.Core.Path.{sym, ◌∙◌}
use Rattle.loads.specs.Sources.{bottom_named, inner_named}
use Rattle.plating.proofs.load.Goals as goal

-- src/lib.rt:189:9
pub returns-then-is_bottom : goal.returns-then-is_bottom
unfolding bottom_named
returns-then-is_bottom c = rw (sym c.is_bottom.ensures ∙ c.if-is_bottom.true) c.bottom.ensures

-- src/lib.rt:185:1
pub returns : goal.returns
unfolding inner_named
returns c = rw (sym c.is_bottom.ensures ∙ c.if-is_bottom.false) c.inner.ensures
