use Rattle.std.proofs.Common.{◌-◌, length, take}
use Rattle.filling.specs.Filling.{lines_left}
use Rattle.sheet_csv.specs.Read.{records_made}
use Rattle.sheet_csv.proofs.Filling.{Filling}
use Rattle.sheet_csv.proofs.put_records.Given as goal

-- the lines left, behind the bytes that are there, make what all of them make
abbrev pub invariant-loop-row : goal.invariant-loop-row
invariant-loop-row l = Filling (records_made 2 (lines_left l.filled l.text l.at)) (take l.head l.initial.draft) l.filled l.text l.line l.here l.end l.draft

abbrev pub decreases-loop-row : goal.decreases-loop-row
decreases-loop-row l = length l.text - l.here
