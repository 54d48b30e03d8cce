use Rattle.std.proofs.Common.{ℕ, ◌≡◌, List, length, ap, ap₂, ◌∙◌}
use Rattle.sheet.specs.Refusals.{Answer}
use Rattle.text.specs.declared.LineEnd.{LineEnd}
use Rattle.text.specs.declared.Line.{Line}
use Rattle.text.specs.Line.{Numbers, Reads}
use Rattle.rows.specs.Rows.{zeros, header_line, row_by, header_row, shown}
use Rattle.rows.specs.laws.RowLaws.{header_held_lem}
use Rattle.rows.proofs.header_at.Goals as goal

-- the numbers that were read say what the line says
same : (line : ℕ) (l : Numbers) (r : Line) (ns : List ℕ) → Reads l (zeros 13) r ns → row_by line r.end (header_line line r.count ns) ≡ header_row line l
unfolding header_row
same line l r ns e =
    ap₂ (λ (x : LineEnd) (a : Answer (List ℕ)). row_by line x a) e.end
    (ap₂ (header_line line) e.count e.numbers ∙ header_held_lem line (length l.values) l.values)

pub returns : goal.returns
returns c = c.header_row.ensures ∙ ap shown (same 1 _ c.line_at-read.result _ c.line_at-read.ensures)
