-- `pencil::plate_work` meets its contract.
use Rattle.pencil.specs.Trail.{plate_trail}
use Rattle.pencil.proofs.plate_work.Goals as goal

-- src/lib.rt:87:1
-- LOOK: κs/given
pub returns : goal.returns
unfolding plate_trail
returns c =
    record { given = rw c.number.ensures; head = c.head_of-head.ensures; one = c.plate_first-one.ensures; two = c.plate_second-two.ensures; three = c.plate_third-three.ensures }
