-- `pencil::plates::plate_first` meets its contract.
use borrow.Author.Tests.{ne_eqb}
use Rattle.pencil.specs.Trail.{plate_first}
use Rattle.pencil.proofs.plates.plate_first.Goals as goal

-- src/plates.rt:15:1
pub returns-in-1 : goal.returns-in-1
unfolding plate_first
returns-in-1 c = rw c.in-1.is c.ruled.ensures

-- src/plates.rt:15:1
pub returns-in-2 : goal.returns-in-2
unfolding plate_first
returns-in-2 c = rw c.in-2.is c.ruled-in-2.ensures

-- src/plates.rt:15:1
pub returns-in_default : goal.returns-in_default
unfolding plate_first
returns-in_default c = rw (ne_eqb _ 1 c.in_default.in_default-own.rest.0.1, ne_eqb _ 2 c.in_default.in_default-own.rest.1) c.ruled-in_default.ensures
