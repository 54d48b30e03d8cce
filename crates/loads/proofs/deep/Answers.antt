-- `loads::deep` meets its contract.
use Prim.Native.Nat.{◌≤◌}
use native.Mathlib.Omega.{arith}
use lib.Dec.{lit<}
use Rattle.gauge.specs.laws.CeilLaws.{ceil_most}
use Rattle.loads.specs.Loads.{water, two_run_water, deep_pressure}
use Rattle.loads.specs.laws.Bounds.{either}
use Rattle.loads.proofs.deep.Goals as goal

pub overflow_add-still_water : goal.overflow_add-still_water
overflow_add-still_water c =
    let a = c.args in
    let d : a.draught.0 ≤ 65535 = omega arith in
    let two : two_run_water a.draught.0 ≤ 6428983500 = ceil_most _ 10 _ (lit< tt) (omega arith) in
    let most = either a.two_runs (two_run_water a.draught.0) (water a.draught.0) 6428983500 two (omega arith) in
    omega (arith, c.still_water.ensures, most)

pub returns : goal.returns
unfolding deep_pressure
returns c = rw c.still_water.ensures at c.load_of.ensures
