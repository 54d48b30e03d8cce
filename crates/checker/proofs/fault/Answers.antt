-- `checker::fault` meets its contract: the lines from the last to the first.
use Rattle.checker.specs.Entry.{entry_fault}
use Rattle.checker.proofs.fault.Goals as goal

-- src/lib.rt:58:1
pub returns : goal.returns
unfolding entry_fault
returns c =
    rw (c.fault_unless.ensures, c.fault_unless-f-3.ensures, c.fault_unless-f-2.ensures, c.most_required.ensures, c.fault_unless-f.ensures)
