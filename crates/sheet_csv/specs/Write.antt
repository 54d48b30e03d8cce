-- Comma-separated text from a sheet: a line for the header's fields and one for each record's, numbers in decimal, CR LF after every line.
use Rattle.std.specs.Prelude.{ℕ, ◌+◌, List, [], ◌∷◌, ◌++◌, map, length, take, leb}
use Rattle.decimal.specs.Line.{line_of}
use Rattle.sheet.specs.declared.Header.{Header}
use Rattle.sheet.specs.declared.Record.{Record}
use Rattle.sheet.specs.Versions.{version_of}
use Rattle.sheet.specs.Refusals.{Answer, given}
use Rattle.numbers.specs.Fields.{header_numbers, record_numbers}
use Rattle.rows.specs.Forms.{first_count, own_count, record_count}
use Rattle.checker.specs.Check.{◌then◌, demand, Sheet}
use Rattle.checker.specs.Unjudged.{sound_sheet}

-- the numbers of a header's line, as many as its version has fields that carry something; and of a record's, by its kind
abbrev pub header_cells : Header → List ℕ
header_cells h = take (first_count + own_count (version_of h.own)) (header_numbers h)

abbrev pub record_cells : Record → List ℕ
record_cells r = take (record_count r.kind) (record_numbers r)

-- a line: commas between its numbers, CR LF after the last
abbrev pub line : List ℕ → List ℕ
line ns = line_of 44 (13 ∷ 10 ∷ []) ns

-- lines one after another
unfoldable pub lines_text : List (List ℕ) → List ℕ
lines_text [] = []
lines_text (ns ∷ rest) = line ns ++ lines_text rest

-- the lines of a sheet, and its text
abbrev pub cells_of : Sheet → List (List ℕ)
cells_of t = header_cells t.header ∷ map record_cells t.records

unfoldable pub text_of : Sheet → List ℕ
text_of t = lines_text (cells_of t)

-- the text of a sheet, in an output of so many bytes: the table's own refusals, then 5
unfoldable pub text_from : List ℕ → (room : ℕ) → Answer (List ℕ)
text_from s room = sound_sheet s then λ t. demand (leb (length (text_of t)) room) 5 then λ u. given (text_of t)
