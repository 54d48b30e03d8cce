-- `framing::rule6` meets its contract: each of its forms is a shape.
use Prim.Native.Nat.{◌*◌}
use mathlib.Core.Path.{◌≡◌, ◌∙◌}
use Rattle.gauge.specs.Ceil.{ceil_of}
use Rattle.gauge.specs.declared.Shape.TheVariants.{Floor}
use Rattle.framing.specs.Shapes.{shape6}
use Rattle.framing.proofs.Floors.{floors, without_η}
use Rattle.framing.proofs.rule6.Goals as goal

pub returns-in-Longitudinal : goal.returns-in-Longitudinal
unfolding shape6
returns-in-Longitudinal c = rw (c.at_least.ensures, c.product.ensures, c.in-Longitudinal.is)

pub returns-in-Floor : goal.returns-in-Floor
unfolding shape6
returns-in-Floor c =
    let a = c.args in
    let load : c.product-in-Floor.result ≡ 9 * a.m.shear * 1 * a.q.load.0 * a.m.span.0 = c.product-in-Floor.ensures in
    let asked : c.at_least-in-Floor.result ≡ Floor (ceil_of c.product-in-Floor.result 20000000) = c.at_least-in-Floor.ensures in
    let floor = floors a.kind c.in-Floor.is in
    rw (asked, load ∙ without_η (9 * a.m.shear) a.q.load.0 a.m.span.0, floor.0, floor.1)

pub returns-in-Girder : goal.returns-in-Girder
unfolding shape6
returns-in-Girder c =
    let a = c.args in
    let load : c.product-in-Girder.result ≡ 7 * a.m.shear * 1 * a.q.load.0 * a.m.span.0 = c.product-in-Girder.ensures in
    rw (c.at_least-in-Girder.ensures, load ∙ without_η (7 * a.m.shear) a.q.load.0 a.m.span.0, c.in-Girder.is)
