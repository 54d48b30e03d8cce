use Rattle.pencil.specs.laws.LineLaws.{Writing}
use Rattle.pencil.proofs.writing.put_lines.Given as goal

abbrev pub invariant-loop-t : goal.invariant-loop-t
invariant-loop-t l = Writing l.lines l.given l.own l.initial.page l.at l.page l.next l.t-index
