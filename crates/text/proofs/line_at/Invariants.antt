use Rattle.std.proofs.Common.{◌≤◌, ◌-◌, length}
use Rattle.text.specs.Line.{line_at}
use Rattle.text.proofs.Reading.{Reading}
use Rattle.text.proofs.line_at.Given as goal

-- the numbers stored and then those left of the line are the line's
abbrev pub invariant-loop-num : goal.invariant-loop-num
invariant-loop-num l = (l.count ≤ l.here) × (l.count ≤ length l.text) × Reading (line_at l.text l.at) (line_at l.text l.here) l.initial.nums l.nums l.count

abbrev pub decreases-loop-num : goal.decreases-loop-num
decreases-loop-num l = length l.text - l.here
