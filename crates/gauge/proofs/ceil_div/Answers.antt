-- `gauge::ceil_div` meets its contract.
use native.Mathlib.Omega.{arith}
use Rattle.gauge.specs.laws.CeilLaws.{ceil_zero, ceil_none, ceil_some}
use Rattle.gauge.proofs.ceil_div.Goals as goal

-- src/lib.rt:103:9
pub returns-then-a-eq0 : goal.returns-then-a-eq0
returns-then-a-eq0 c = rw c.if-a-eq0.true (ceil_zero c.args.p)

-- src/lib.rt:106:9
pub returns-then-p-eq0 : goal.returns-then-p-eq0
returns-then-p-eq0 c = rw c.if-p-eq0.true (ceil_none c.args.a (omega arith))

-- src/lib.rt:99:1
pub returns : goal.returns
returns c = ceil_some c.args.p c.args.a (omega arith) (omega arith)
