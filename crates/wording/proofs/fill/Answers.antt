use Rattle.wording.specs.laws.PiecesLaws.{turn, done}
use Rattle.wording.proofs.fill.Goals as goal

pub loop-byte-preserved : goal.loop-byte-preserved
loop-byte-preserved c = turn c.loop-byte.invariant c.loop-byte-test.true c.mark_behind-mark.ensures c.put_byte-next.ensures

pub returns : goal.returns
returns c = done c.loop-byte.invariant c.loop-byte-test.false
