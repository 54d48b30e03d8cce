-- `loads::sea` meets its contract.
use borrow.Author.Tests.{le-leb, lt-leb}
use Rattle.loads.specs.Loads.{sea}
use Rattle.loads.proofs.sea.Goals as goal

pub returns-then-at-d : goal.returns-then-at-d
unfolding sea
returns-then-at-d c = rw (le-leb _ _ c.if-at-d.true) c.load_of.ensures

pub returns : goal.returns
unfolding sea
returns c =
    rw (lt-leb _ _ c.if-at-d.false) (rw (c.wind.ensures, c.max.ensures) at c.load_of-2.ensures)
