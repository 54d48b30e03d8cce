use Rattle.std.specs.Prelude.{Result}
use Rattle.std.proofs.Common.{ℕ, false, List, length}
use Rattle.fields.specs.Lines.{lines_at}
use Rattle.filling.specs.Filling.{lines_left}
use Rattle.sheet_csv.specs.Read.{sheet_of, sheet_from, Converts}
use Rattle.sheet_csv.proofs.read_sheet.Goals as goal
use Rattle.sheet.specs.declared.Refusal.{Refusal}

as_it_is : (s : List ℕ) (room : ℕ) (o : List ℕ) (r : Result ℕ Refusal) (after : List ℕ) → Converts (sheet_of (lines_left false s 0) room) o r after → Converts (sheet_from s room) o r after
unfolding lines_left lines_at sheet_from
as_it_is s room o r after h = h

pub returns : goal.returns
returns c = as_it_is c.args.text.now (length c.args.out.now) c.args.out.now _ _ c.read_lines.ensures
