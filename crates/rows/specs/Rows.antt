-- A line of numbers as the bytes of a header or of a record, or why it is none: 15 for a wrong count of fields, 14 for a field that is no number so written
-- or too wide. What is no number counts as one that is too wide.
use Rattle.std.specs.Prelude.{ℕ, ◌+◌, ◌-◌, Bool, cond, not, ◌&&◌, List, [], ◌∷◌, ◌++◌, length, get_or, replicate, eqb, Option, Some, None, Result, Ok, Err}
use Rattle.quantity.specs.Range.{Range, within, from}
use Rattle.layout.specs.Layout.{pack, unpack, bytes}
use Rattle.sheet.specs.Versions.{Version, first_bytes, version_numbers, numbered}
use Rattle.sheet.specs.Lines.{first_widths, own_widths}
use Rattle.sheet.specs.Header.{own_bytes}
use Rattle.sheet.specs.Refusals.{Answer, given, refused, told}
use Rattle.text.specs.declared.LineEnd.{LineEnd}
use Rattle.text.specs.Line.{Numbers}
use Rattle.rows.specs.declared.Row.{Row}
use Rattle.sheet.specs.declared.Refusal.{Refusal}
use Rattle.rows.specs.Pack.{fields_from, fields_of, below, powers}
use Rattle.rows.specs.Forms.{first_count, own_count, record_widths, record_count}

-- so many zeros
abbrev pub zeros : ℕ → List ℕ
zeros n = replicate n 0

-- the kinds of record
abbrev pub kinds : Range
kinds = from 1 8

-- the first number of a line, its version or its kind
abbrev pub first_of : List ℕ → ℕ
first_of vs = get_or vs 0 0

-- the numbers that a line is judged by: where its version or its kind is not known only the first, and what is missing is 0
abbrev pub taken : (known : Bool) → List ℕ → List ℕ
taken known vs = cond known vs (first_of vs ∷ zeros 12)

-- a line: 15 where there are more or fewer fields than its version or kind has; then 14 where a field is too wide
abbrev pub line_by : (line : ℕ) (miscounted fits : Bool) → List ℕ → Answer (List ℕ)
line_by line miscounted fits b = cond miscounted (refused 15 line) (cond fits (given b) (refused 14 line))

-- ---- a header

-- the numbers as values of the fields that every version has, and then their zero bits; behind them those of a version's own
abbrev pub firsts_of : List ℕ → List ℕ
firsts_of vs = fields_of first_count vs ++ 0 ∷ []

abbrev pub owns_of : Version → List ℕ → List ℕ
owns_of v vs = fields_from first_count (length (own_widths v)) vs

-- the bytes of a header with these numbers, whatever they are
abbrev pub header_made : Version → List ℕ → List ℕ
header_made v vs = unpack (bytes first_bytes) (pack first_widths (firsts_of vs)) ++ unpack (bytes (own_bytes v)) (pack (own_widths v) (owns_of v vs))

-- the line of so many fields with these numbers
unfoldable pub header_line : (line count : ℕ) → List ℕ → Answer (List ℕ)
header_line line count vs =
    let v = numbered (first_of vs) in
    let known = within version_numbers (first_of vs) in
    let ns = taken known vs in
    line_by line (known && not (eqb count (first_count + own_count v))) (below (powers first_widths) (firsts_of ns) && below (powers (own_widths v)) (owns_of v ns)) (header_made v ns)

-- ---- a record

-- the numbers as values of its fields; a plate's zero bits, for which a line has no number, are missing
abbrev pub records_of : (kind : ℕ) → List ℕ → List ℕ
records_of kind vs = fields_of (length (record_widths kind)) vs

abbrev pub record_made : (kind : ℕ) → List ℕ → List ℕ
record_made kind vs = unpack (bytes 16) (pack (record_widths kind) (records_of kind vs))

unfoldable pub record_line : (line count : ℕ) → List ℕ → Answer (List ℕ)
record_line line count vs =
    let kind = first_of vs in
    let known = within kinds kind in
    let ns = taken known vs in
    line_by line (known && not (eqb count (record_count kind))) (below (powers (record_widths kind)) (records_of kind ns)) (record_made kind ns)

-- ---- a line of a text

-- its bytes, and how it ends
pub record Made : Type 0 where
  pub bytes : List ℕ
  pub end : LineEnd

-- what becomes of a line that ends so: 14 for a fault of its quotes, before anything else
abbrev pub ended_by : LineEnd → Answer (List ℕ) → Answer Made
ended_by e (given b) = given (record { bytes = b; end = e })
ended_by e (refused k p) = refused k p

abbrev pub row_by : (line : ℕ) → LineEnd → Answer (List ℕ) → Answer Made
row_by line LineEnd.Fault a = refused 14 line
row_by line LineEnd.Last a = ended_by LineEnd.Last a
row_by line (LineEnd.More next) a = ended_by (LineEnd.More next) a

-- the same from its numbers
unfoldable pub header_row : (line : ℕ) → Numbers → Answer Made
header_row line l = row_by line l.end (header_line line (length l.values) l.values)

unfoldable pub record_row : (line : ℕ) → Numbers → Answer Made
record_row line l = row_by line l.end (record_line line (length l.values) l.values)

-- ---- what the code answers

-- the answer, and what stands in the bytes
pub record Shown : Type 0 where
  pub answer : Answer LineEnd
  pub size : ℕ
  pub bytes : List ℕ

-- how a line ends behind which the next one starts at a place, if there is one
abbrev pub end_by : Option ℕ → LineEnd
end_by (Some next) = LineEnd.More next
end_by None = LineEnd.Last

-- what the code's answer says; of a line that is turned away there are no bytes
abbrev pub told_row : Result Row Refusal → Shown
told_row (Ok r) = record { answer = given (end_by r.next); size = r.size; bytes = r.bytes }
told_row (Err x) = record { answer = told x; size = 0; bytes = zeros 20 }

-- a line's bytes in front of zeros; of one that is turned away nothing
abbrev pub shown : Answer Made → Shown
shown (given m) = record { answer = given m.end; size = length m.bytes; bytes = m.bytes ++ zeros (20 - length m.bytes) }
shown (refused k p) = record { answer = refused k p; size = 0; bytes = zeros 20 }
