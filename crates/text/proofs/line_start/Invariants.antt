use Rattle.std.proofs.Common.{◌≡◌, ◌-◌}
use Rattle.text.specs.Line.{start_from, line_start}
use Rattle.text.proofs.line_start.Given as goal

-- the lines left to go, from the place on, lead to the line
abbrev pub invariant-loop-i : goal.invariant-loop-i
invariant-loop-i l = start_from (l.line - l.i) l.text l.here ≡ line_start l.text l.line
