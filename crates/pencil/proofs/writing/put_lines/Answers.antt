-- `pencil::writing::put_lines` meets its contract. The loop's invariant: the lines that are left give the whole.
use Rattle.pencil.specs.laws.LineLaws.{begin, turn, done}
use Rattle.pencil.proofs.writing.put_lines.Goals as goal

-- src/writing.rt:29:5
pub loop-t-init : goal.loop-t-init
loop-t-init c = begin _ _ _ _ _

-- src/writing.rt:29:5
pub loop-t-preserved : goal.loop-t-preserved
loop-t-preserved c =
    turn c.loop-t.invariant c.loop-t-test.true c.put_line-next.ensures

-- src/writing.rt:24:1
pub returns : goal.returns
returns c = done c.loop-t.invariant c.loop-t-test.false
