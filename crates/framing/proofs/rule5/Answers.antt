-- `framing::rule5` meets its contract: each of its forms is a shape.
use Prim.Native.Nat.{◌*◌}
use mathlib.Core.Path.{◌≡◌, ◌∙◌}
use Rattle.framing.specs.Shapes.{stressed_shape, shape5}
use Rattle.framing.proofs.Floors.{floors, without_η}
use Rattle.framing.proofs.rule5.Goals as goal

pub returns-in-Longitudinal : goal.returns-in-Longitudinal
unfolding shape5
returns-in-Longitudinal c = rw (c.stressed.ensures, ← c.product-p.ensures, c.in-Longitudinal.is)

pub returns-in-Floor : goal.returns-in-Floor
unfolding shape5
returns-in-Floor c =
    let a = c.args in
    let load : c.product.result ≡ 29 * a.m.bending * 1 * a.q.load.0 * (a.m.span.0 * a.m.span.0) = c.product.ensures in
    let floor = floors a.kind c.in-Floor.is in
    rw (c.at_least.ensures, load ∙ without_η (29 * a.m.bending) a.q.load.0 (a.m.span.0 * a.m.span.0), floor.0, floor.1)

pub returns-in-Girder : goal.returns-in-Girder
unfolding shape5
returns-in-Girder c =
    let a = c.args in
    let asked : c.stressed-in-Girder.result ≡ stressed_shape 2000000000 197 a.m.stress c.product-p-in-Girder.result = c.stressed-in-Girder.ensures in
    rw (asked, ← c.product-p-in-Girder.ensures, c.in-Girder.is)
