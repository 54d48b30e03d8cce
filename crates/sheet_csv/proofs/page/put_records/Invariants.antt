use Rattle.std.proofs.Common.{◌≤◌, ◌+◌, ◌-◌, ◌*◌}
use Rattle.sheet_csv.specs.Steps.{longest_line, records_text}
use Rattle.sheet_csv.proofs.Laying.{Laying}
use Rattle.sheet_csv.proofs.page.put_records.Given as goal

-- what is left of the lines, laid from the place on, gives the whole
abbrev pub invariant-loop-i : goal.invariant-loop-i
invariant-loop-i l = (l.i ≤ l.n) × (l.here ≤ l.at + longest_line * l.i) × Laying l.initial.page l.at (records_text l.records 0 l.n) l.page l.here (records_text l.records l.i (l.n - l.i))

abbrev pub decreases-loop-i : goal.decreases-loop-i
decreases-loop-i l = l.n - l.i
