use Rattle.std.proofs.Common.{◌≤◌, ◌-◌}
use Rattle.rows.specs.Pack.{fields_from, fields_of}
use Rattle.sheet_csv.specs.Write.{line}
use Rattle.sheet_csv.proofs.Laying.{Laying}
use Rattle.sheet_csv.proofs.page.put_line.Given as goal

-- what is left of the line, laid from the place on, gives the whole
abbrev pub invariant-loop-i : goal.invariant-loop-i
invariant-loop-i l = (l.i ≤ l.last) × Laying l.initial.page l.at (line (fields_of l.count l.nums)) l.page l.here (line (fields_from l.i (l.count - l.i) l.nums))

abbrev pub decreases-loop-i : goal.decreases-loop-i
decreases-loop-i l = l.last - l.i
