-- `loads::bottom` meets its contract.
use mathlib.Core.Path.{◌≡◌, ap₂, ◌∙◌}
use Rattle.loads.specs.Sources.{told_load, heavier, bottom_named}
use Rattle.loads.proofs.bottom.Goals as goal

pub returns-then-ballast : goal.returns-then-ballast
unfolding bottom_named
returns-then-ballast c =
    let decided : told_load c.heavier.result ≡ heavier (told_load c.sea-outside.result) (told_load c.relieved-inside.result) = c.heavier.ensures in
    rw c.if-ballast.true (decided ∙ ap₂ heavier c.sea-outside.ensures c.relieved-inside.ensures)

pub returns : goal.returns
unfolding bottom_named
returns c = rw c.if-ballast.false c.sea-outside.ensures
