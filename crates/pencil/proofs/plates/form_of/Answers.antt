-- `pencil::plates::form_of` meets its contract.
use mathlib.Core.Path.{refl}
use Rattle.pencil.specs.Trail.{form_of}
use Rattle.pencil.proofs.plates.form_of.Goals as goal

-- src/plates.rt:136:13
pub returns-then-long : goal.returns-then-long
unfolding form_of
returns-then-long c = rw (c.if-second.true, c.if-long.true) (record { p = refl; a = rw (c.times-a.ensures, c.saturating_sub-left.ensures); panel = refl })

-- src/plates.rt:144:9
pub returns-then-second : goal.returns-then-second
unfolding form_of
returns-then-second c =
    rw (c.if-second.true, c.if-long.false) (record { p = c.times-p.ensures; a = rw (c.times-a-then-second.ensures, c.times-side.ensures, c.saturating_sub-left.ensures); panel = refl })

-- src/plates.rt:148:9
pub returns-then-long-2 : goal.returns-then-long-2
unfolding form_of
returns-then-long-2 c = rw (c.if-second.false, c.if-long-2.true) (record { p = c.times-p-then-long-2.ensures; a = refl; panel = refl })

-- src/plates.rt:124:1
pub returns : goal.returns
unfolding form_of
returns c =
    rw (c.if-second.false, c.if-long-2.false) (record { p = c.times-p-2.ensures; a = rw (c.times-a-2.ensures, c.times-side.ensures); panel = refl })
