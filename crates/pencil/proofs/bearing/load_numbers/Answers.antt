-- `pencil::bearing::load_numbers` meets its contract.
use Prim.Native.Nat.{◌*◌, ◌≤◌}
use native.Mathlib.Omega.{arith}
use lib.Dec.{lit<}
use Rattle.gauge.specs.laws.CeilLaws.{ceil_most}
use Rattle.pencil.specs.Numbers.{load_numbers}
use Rattle.pencil.proofs.bearing.load_numbers.Goals.{After-ceil_div-half}
use Rattle.pencil.proofs.bearing.load_numbers.Goals as goal

half : (c : After-ceil_div-half) → c.ceil_div-half.result ≤ 564075 * 65535
half c =
    let d : c.args.draught.0 ≤ 65535 = omega arith in
    rw c.ceil_div-half.ensures (ceil_most _ 10 _ (lit< tt) (omega arith))

-- src/bearing.rt:55:9
pub overflow_add-result-4 : goal.overflow_add-result-4
overflow_add-result-4 c = omega (arith, half c)

-- src/bearing.rt:21:1
pub returns : goal.returns
unfolding load_numbers
returns c =
    rw (c.ceil_div-half.ensures, c.saturating_sub-net.ensures, c.saturating_sub-relief.ensures, c.saturating_sub-tank.ensures, c.wind-wind.ensures, c.max-crest.ensures, c.saturating_sub-still.ensures)
