-- What came is in the space.
use Rattle.std.proofs.Common.{◌-◌, ◌≤◌, length}
use Rattle.streams.proofs.parts.fill.Given as goal

abbrev pub invariant-loop-got : goal.invariant-loop-got
invariant-loop-got g l = l.got ≤ length l.space

abbrev pub decreases-loop-got : goal.decreases-loop-got
decreases-loop-got g l = length l.initial.space - l.got
