-- `pencil::plates::plate_second` meets its contract.
use mathlib.Core.Path.{sym, ◌∙◌}
use Rattle.pencil.specs.Trail.{plate_second}
use Rattle.pencil.proofs.plates.plate_second.Goals as goal

-- src/plates.rt:79:9
pub returns-then-is_long : goal.returns-then-is_long
unfolding plate_second
returns-then-is_long c =
    let told = rw (c.times-long.ensures, c.times-n.ensures) at c.ruled.ensures in
    rw (sym c.is_long.ensures ∙ c.if-is_long.true) told

-- src/plates.rt:67:1
pub returns : goal.returns
unfolding plate_second
returns c =
    let told = rw c.times-n.ensures at c.ruled-2.ensures in
    rw (sym c.is_long.ensures ∙ c.if-is_long.false) told
