-- `pencil::member_work` meets its contract.
use Rattle.pencil.specs.Trail.{member_trail}
use Rattle.pencil.proofs.member_work.Goals as goal

-- src/lib.rt:143:1
-- LOOK: κs/given
pub returns : goal.returns
unfolding member_trail
returns c =
    record { given = rw c.number.ensures; head = c.head_of-head.ensures; one = c.member_first-one.ensures; two = c.member_second-two.ensures; three = c.member_third-three.ensures }
