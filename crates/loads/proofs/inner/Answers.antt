-- `loads::inner` meets its contract.
use mathlib.Core.Path.{◌≡◌, ap, ap₂, ◌∙◌}
use Rattle.loads.specs.Sources.{told_load, tank_named, heavier, inner_named}
use Rattle.loads.proofs.inner.Goals as goal

pub returns-then-ballast : goal.returns-then-ballast
unfolding inner_named
returns-then-ballast c =
    let filled : told_load c.load_of.result ≡ tank_named c.tank.result = c.load_of.ensures in
    let decided : told_load c.heavier.result ≡ heavier (told_load c.load_of-loaded.result) (told_load c.load_of.result) = c.heavier.ensures in
    rw c.if-ballast.true (decided ∙ ap₂ heavier c.load_of-loaded.ensures (filled ∙ ap tank_named c.tank.ensures))

pub returns : goal.returns
unfolding inner_named
returns c = rw c.if-ballast.false c.load_of-loaded.ensures
