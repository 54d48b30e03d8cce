use Rattle.report.proofs.Lines.{Putting}
use Rattle.std.proofs.Common.{◌-◌}
use Rattle.report.proofs.put_verdicts.Given as goal

abbrev pub invariant-loop-i : goal.invariant-loop-i
invariant-loop-i l = Putting l.out l.n l.initial.page l.page l.at l.i

-- proposed from the loop's first test
abbrev pub decreases-loop-i : goal.decreases-loop-i
decreases-loop-i l = l.n - l.i
