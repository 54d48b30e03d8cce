use Rattle.std.proofs.Common.{arith, rules}
use Rattle.rows.proofs.Carrying.{turn, finish}
use Rattle.rows.proofs.pack.append.Goals as goal

pub loop-i-preserved : goal.loop-i-preserved
loop-i-preserved c = turn _ _ _ _ _ _ c.loop-i.invariant _ c.turn-t.result (omega arith) c.turn-t.ensures (search rules) (omega arith)

pub returns : goal.returns
returns c = finish _ _ _ _ _ _ c.loop-i.invariant (omega arith)
