-- `framing::rule4` meets its contract: each of its forms is a shape.
use Prim.Native.Nat.{◌<◌, ◌≤◌}
use borrow.Author.Tests.{lt-ltb, le-ltb}
use Rattle.framing.specs.Shapes.{shape4}
use Rattle.framing.proofs.Floors.{deep}
use Rattle.framing.proofs.rule4.Goals as goal

pub returns-in-Longitudinal : goal.returns-in-Longitudinal
unfolding shape4
returns-in-Longitudinal c =
    let short : c.args.length.0 < 12000 = c.if-l-lt12000.true in
    rw (c.squared.ensures, c.in-Longitudinal.is, lt-ltb _ _ short)

pub returns-in-Longitudinal-2 : goal.returns-in-Longitudinal-2
unfolding shape4
returns-in-Longitudinal-2 c =
    let long : 12000 ≤ c.args.length.0 = c.if-l-lt12000.false in
    rw (c.squared-in-Longitudinal-2.ensures, c.in-Longitudinal.is, le-ltb _ _ long)

pub returns-in-Floor : goal.returns-in-Floor
unfolding shape4
returns-in-Floor c = rw (c.squared-in-Floor.ensures, deep c.args.kind c.in-Floor.is)
