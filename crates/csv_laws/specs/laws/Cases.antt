-- What some texts are read as, and what they are turned away with: of each statement a case in which its premise holds.
-- Assumes nothing.
use Rattle.std.specs.Prelude.{◌≡◌, refl, true, false, List, [], ◌∷◌, map, ℕ}
use Rattle.sheet.specs.Refusals.{given, refused}
use Rattle.sheet.specs.Header.{raw_fault}
use Rattle.sheet.specs.Record.{plate_fault, member_fault}
use Rattle.sheet.specs.Versions.{longest_sheet}
use Rattle.decimal.specs.Decimal.{digits_in, decimal_of}
use Rattle.decimal.specs.Line.{more_of, line_of}
use Rattle.fields.specs.Number.{longer_of, digit_of, digits_of}
use Rattle.fields.specs.Marks.{outside, marks_at}
use Rattle.fields.specs.Lines.{lines_of, lines_at}
use Rattle.rows.specs.Pack.{below}
use Rattle.rows.specs.Rows.{header_line, record_line}
use Rattle.checker.specs.Check.{Sheet}
use Rattle.checker.specs.laws.Computing.{reading}
use Rattle.checker.specs.Unjudged.{sound_sheet}
use Rattle.sheet_csv.specs.Read.{records_made, sheet_made, sheet_from}
use Rattle.sheet_csv.specs.Write.{lines_text, text_of, text_from}
use Rattle.csv_laws.specs.Form.{fields_text, form_of, written_form}
use Rattle.csv_laws.specs.Variants.{Line, doubled as twice, cells_text, spelling, Variant}

-- all that reading a text computes with, under one name for an `unfolding` line
unfoldable pub converting : Type 0
unfolding sheet_from sheet_made records_made lines_at lines_of marks_at outside digits_of digit_of longer_of header_line record_line below sound_sheet reading raw_fault plate_fault member_fault
converting = Unit {0}

-- the document's two members on vessel V, as a sheet, as text, and as another program may write it: some fields quoted, LF alone, none at the end
abbrev pub sheet : List ℕ
sheet = 23 ∷ 208 ∷ 15 ∷ 163 ∷ 192 ∷ 39 ∷ 16 ∷ 0 ∷ 48 ∷ 212 ∷ 0 ∷ 16 ∷ 32 ∷ 31 ∷ 232 ∷ 0 ∷ 7 ∷ 208 ∷ 150 ∷ 0 ∷ 0 ∷ 0 ∷ 0 ∷ 0 ∷ 0 ∷ 0 ∷ 0 ∷ 0 ∷ 80 ∷ 48 ∷ 0 ∷ 31 ∷ 68 ∷ 176 ∷ 105 ∷ 50 ∷ 100 ∷ 180 ∷ 100 ∷ 2 ∷ 48 ∷ 2 ∷ 163 ∷ 232 ∷ []

abbrev pub text : List ℕ
text = 49 ∷ 44 ∷ 56 ∷ 48 ∷ 48 ∷ 48 ∷ 44 ∷ 50 ∷ 53 ∷ 48 ∷ 44 ∷ 54 ∷ 48 ∷ 44 ∷ 48 ∷ 44 ∷ 50 ∷ 48 ∷ 48 ∷ 48 ∷ 48 ∷ 44 ∷ 50 ∷ 48 ∷ 48 ∷ 48 ∷ 48 ∷ 48 ∷ 44 ∷ 50 ∷ 13 ∷ 10 ∷ 50 ∷ 44 ∷ 55 ∷ 44 ∷ 49 ∷ 48 ∷ 48 ∷ 48 ∷ 44 ∷ 48 ∷ 44 ∷ 53 ∷ 48 ∷ 48 ∷ 44 ∷ 54 ∷ 48 ∷ 48 ∷ 44 ∷ 48 ∷ 44 ∷ 48 ∷ 44 ∷ 48 ∷ 44 ∷ 48 ∷ 44 ∷ 48 ∷ 13 ∷ 10 ∷ 53 ∷ 44 ∷ 49 ∷ 50 ∷ 44 ∷ 48 ∷ 44 ∷ 53 ∷ 48 ∷ 48 ∷ 44 ∷ 51 ∷ 48 ∷ 48 ∷ 44 ∷ 52 ∷ 50 ∷ 48 ∷ 44 ∷ 49 ∷ 48 ∷ 48 ∷ 44 ∷ 49 ∷ 48 ∷ 48 ∷ 44 ∷ 57 ∷ 48 ∷ 44 ∷ 53 ∷ 48 ∷ 44 ∷ 53 ∷ 54 ∷ 48 ∷ 44 ∷ 49 ∷ 54 ∷ 56 ∷ 44 ∷ 49 ∷ 48 ∷ 48 ∷ 48 ∷ 13 ∷ 10 ∷ []

abbrev pub other : List ℕ
other = 34 ∷ 49 ∷ 34 ∷ 44 ∷ 56 ∷ 48 ∷ 48 ∷ 48 ∷ 44 ∷ 50 ∷ 53 ∷ 48 ∷ 44 ∷ 54 ∷ 48 ∷ 44 ∷ 48 ∷ 44 ∷ 34 ∷ 50 ∷ 48 ∷ 48 ∷ 48 ∷ 48 ∷ 34 ∷ 44 ∷ 50 ∷ 48 ∷ 48 ∷ 48 ∷ 48 ∷ 48 ∷ 44 ∷ 34 ∷ 50 ∷ 34 ∷ 10 ∷ 50 ∷ 44 ∷ 55 ∷ 44 ∷ 49 ∷ 48 ∷ 48 ∷ 48 ∷ 44 ∷ 48 ∷ 44 ∷ 53 ∷ 48 ∷ 48 ∷ 44 ∷ 54 ∷ 48 ∷ 48 ∷ 44 ∷ 48 ∷ 44 ∷ 48 ∷ 44 ∷ 48 ∷ 44 ∷ 48 ∷ 44 ∷ 48 ∷ 10 ∷ 34 ∷ 53 ∷ 34 ∷ 44 ∷ 49 ∷ 50 ∷ 44 ∷ 48 ∷ 44 ∷ 53 ∷ 48 ∷ 48 ∷ 44 ∷ 51 ∷ 48 ∷ 48 ∷ 44 ∷ 52 ∷ 50 ∷ 48 ∷ 44 ∷ 49 ∷ 48 ∷ 48 ∷ 44 ∷ 49 ∷ 48 ∷ 48 ∷ 44 ∷ 57 ∷ 48 ∷ 44 ∷ 53 ∷ 48 ∷ 44 ∷ 53 ∷ 54 ∷ 48 ∷ 44 ∷ 49 ∷ 54 ∷ 56 ∷ 44 ∷ 34 ∷ 49 ∷ 48 ∷ 48 ∷ 48 ∷ 34 ∷ []

-- both ways, in outputs that just have room
text_read : sheet_from text 44 ≡ given sheet
unfolding converting
text_read = refl

sheet_written : text_from sheet 109 ≡ given text
unfolding converting digits_in decimal_of more_of line_of lines_text text_of text_from
sheet_written = refl

other_read : (sheet_from other 44 ≡ given sheet) × (written_form other ≡ text)
unfolding converting fields_text form_of
other_read = (refl, refl)

-- the same with every field in quotes, LF alone, and nothing behind the last line
abbrev quoted_line : List ℕ → Line
quoted_line ns = record { cells = map (λ (n : ℕ). record { bytes = decimal_of n; quoted = true }) ns; both = false }

abbrev quoted_lines : List Line
quoted_lines = map quoted_line ((1 ∷ 8000 ∷ 250 ∷ 60 ∷ 0 ∷ 20000 ∷ 200000 ∷ 2 ∷ []) ∷ (2 ∷ 7 ∷ 1000 ∷ 0 ∷ 500 ∷ 600 ∷ 0 ∷ 0 ∷ 0 ∷ 0 ∷ 0 ∷ []) ∷ (5 ∷ 12 ∷ 0 ∷ 500 ∷ 300 ∷ 420 ∷ 100 ∷ 100 ∷ 90 ∷ 50 ∷ 560 ∷ 168 ∷ 1000 ∷ []) ∷ [])

abbrev pub quoted : List ℕ
quoted = 34 ∷ 49 ∷ 34 ∷ 44 ∷ 34 ∷ 56 ∷ 48 ∷ 48 ∷ 48 ∷ 34 ∷ 44 ∷ 34 ∷ 50 ∷ 53 ∷ 48 ∷ 34 ∷ 44 ∷ 34 ∷ 54 ∷ 48 ∷ 34 ∷ 44 ∷ 34 ∷ 48 ∷ 34 ∷ 44 ∷ 34 ∷ 50 ∷ 48 ∷ 48 ∷ 48 ∷ 48 ∷ 34 ∷ 44 ∷ 34 ∷ 50 ∷ 48 ∷ 48 ∷ 48 ∷ 48 ∷ 48 ∷ 34 ∷ 44 ∷ 34 ∷ 50 ∷ 34 ∷ 10 ∷ 34 ∷ 50 ∷ 34 ∷ 44 ∷ 34 ∷ 55 ∷ 34 ∷ 44 ∷ 34 ∷ 49 ∷ 48 ∷ 48 ∷ 48 ∷ 34 ∷ 44 ∷ 34 ∷ 48 ∷ 34 ∷ 44 ∷ 34 ∷ 53 ∷ 48 ∷ 48 ∷ 34 ∷ 44 ∷ 34 ∷ 54 ∷ 48 ∷ 48 ∷ 34 ∷ 44 ∷ 34 ∷ 48 ∷ 34 ∷ 44 ∷ 34 ∷ 48 ∷ 34 ∷ 44 ∷ 34 ∷ 48 ∷ 34 ∷ 44 ∷ 34 ∷ 48 ∷ 34 ∷ 44 ∷ 34 ∷ 48 ∷ 34 ∷ 10 ∷ 34 ∷ 53 ∷ 34 ∷ 44 ∷ 34 ∷ 49 ∷ 50 ∷ 34 ∷ 44 ∷ 34 ∷ 48 ∷ 34 ∷ 44 ∷ 34 ∷ 53 ∷ 48 ∷ 48 ∷ 34 ∷ 44 ∷ 34 ∷ 51 ∷ 48 ∷ 48 ∷ 34 ∷ 44 ∷ 34 ∷ 52 ∷ 50 ∷ 48 ∷ 34 ∷ 44 ∷ 34 ∷ 49 ∷ 48 ∷ 48 ∷ 34 ∷ 44 ∷ 34 ∷ 49 ∷ 48 ∷ 48 ∷ 34 ∷ 44 ∷ 34 ∷ 57 ∷ 48 ∷ 34 ∷ 44 ∷ 34 ∷ 53 ∷ 48 ∷ 34 ∷ 44 ∷ 34 ∷ 53 ∷ 54 ∷ 48 ∷ 34 ∷ 44 ∷ 34 ∷ 49 ∷ 54 ∷ 56 ∷ 34 ∷ 44 ∷ 34 ∷ 49 ∷ 48 ∷ 48 ∷ 48 ∷ 34 ∷ []

quoted_spelled : spelling false quoted_lines ≡ quoted
unfolding digits_in decimal_of twice cells_text spelling
quoted_spelled = refl

quoted_variant : (t : Sheet) × (sound_sheet sheet ≡ given t) × Variant t quoted_lines
unfolding converting
quoted_variant = (_, refl, refl)

quoted_read : sheet_from quoted 44 ≡ given sheet
unfolding converting
quoted_read = refl

-- a byte less
no_room : (sheet_from text 43 ≡ refused 5 0) × (text_from sheet 108 ≡ refused 5 0)
unfolding converting digits_in decimal_of more_of line_of lines_text text_of text_from
no_room = (refl, refl)

-- the empty text
empty : sheet_from ([]) longest_sheet ≡ refused 14 1
unfolding converting
empty = refl

-- an empty line
blank : sheet_from (10 ∷ []) longest_sheet ≡ refused 14 1
unfolding converting
blank = refl

-- an empty line at the end
blank_behind : sheet_from (49 ∷ 44 ∷ 56 ∷ 48 ∷ 48 ∷ 48 ∷ 44 ∷ 50 ∷ 53 ∷ 48 ∷ 44 ∷ 54 ∷ 48 ∷ 44 ∷ 48 ∷ 44 ∷ 50 ∷ 48 ∷ 48 ∷ 48 ∷ 48 ∷ 44 ∷ 50 ∷ 48 ∷ 48 ∷ 48 ∷ 48 ∷ 48 ∷ 44 ∷ 48 ∷ 13 ∷ 10 ∷ 13 ∷ 10 ∷ []) longest_sheet ≡ refused 14 2
unfolding converting
blank_behind = refl

-- a quote that is not closed
unclosed : sheet_from (34 ∷ 49 ∷ 44 ∷ 56 ∷ 48 ∷ 48 ∷ 48 ∷ 10 ∷ []) longest_sheet ≡ refused 14 1
unfolding converting
unclosed = refl

-- a quote inside a plain field
misplaced : sheet_from (49 ∷ 44 ∷ 56 ∷ 48 ∷ 48 ∷ 48 ∷ 44 ∷ 50 ∷ 53 ∷ 48 ∷ 44 ∷ 54 ∷ 48 ∷ 44 ∷ 48 ∷ 44 ∷ 50 ∷ 48 ∷ 48 ∷ 48 ∷ 48 ∷ 44 ∷ 50 ∷ 48 ∷ 48 ∷ 48 ∷ 48 ∷ 48 ∷ 44 ∷ 48 ∷ 10 ∷ 50 ∷ 44 ∷ 55 ∷ 34 ∷ 10 ∷ []) longest_sheet ≡ refused 14 2
unfolding converting
misplaced = refl

-- a blank behind a closing quote
followed : sheet_from (34 ∷ 49 ∷ 34 ∷ 32 ∷ 44 ∷ 56 ∷ 48 ∷ 48 ∷ 48 ∷ []) longest_sheet ≡ refused 14 1
unfolding converting
followed = refl

-- a doubled quote is a byte of its field, which is no number then
doubled : sheet_from (49 ∷ 44 ∷ 56 ∷ 48 ∷ 48 ∷ 48 ∷ 44 ∷ 50 ∷ 53 ∷ 48 ∷ 44 ∷ 54 ∷ 48 ∷ 44 ∷ 48 ∷ 44 ∷ 50 ∷ 48 ∷ 48 ∷ 48 ∷ 48 ∷ 44 ∷ 50 ∷ 48 ∷ 48 ∷ 48 ∷ 48 ∷ 48 ∷ 44 ∷ 34 ∷ 48 ∷ 34 ∷ 34 ∷ 34 ∷ []) longest_sheet ≡ refused 14 1
unfolding converting
doubled = refl

-- a leading zero
leading : sheet_from (49 ∷ 44 ∷ 48 ∷ 56 ∷ 48 ∷ 48 ∷ 48 ∷ 44 ∷ 50 ∷ 53 ∷ 48 ∷ 44 ∷ 54 ∷ 48 ∷ 44 ∷ 48 ∷ 44 ∷ 50 ∷ 48 ∷ 48 ∷ 48 ∷ 48 ∷ 44 ∷ 50 ∷ 48 ∷ 48 ∷ 48 ∷ 48 ∷ 48 ∷ 44 ∷ 48 ∷ []) longest_sheet ≡ refused 14 1
unfolding converting
leading = refl

-- a CR alone
bare : sheet_from (49 ∷ 44 ∷ 56 ∷ 48 ∷ 48 ∷ 48 ∷ 44 ∷ 50 ∷ 53 ∷ 48 ∷ 44 ∷ 54 ∷ 48 ∷ 44 ∷ 48 ∷ 44 ∷ 50 ∷ 48 ∷ 48 ∷ 48 ∷ 48 ∷ 44 ∷ 50 ∷ 48 ∷ 48 ∷ 48 ∷ 48 ∷ 48 ∷ 44 ∷ 48 ∷ 13 ∷ []) longest_sheet ≡ refused 14 1
unfolding converting
bare = refl

-- a byte-order mark
mark : sheet_from (239 ∷ 187 ∷ 191 ∷ 49 ∷ 44 ∷ 56 ∷ 48 ∷ 48 ∷ 48 ∷ 44 ∷ 50 ∷ 53 ∷ 48 ∷ 44 ∷ 54 ∷ 48 ∷ 44 ∷ 48 ∷ 44 ∷ 50 ∷ 48 ∷ 48 ∷ 48 ∷ 48 ∷ 44 ∷ 50 ∷ 48 ∷ 48 ∷ 48 ∷ 48 ∷ 48 ∷ 44 ∷ 48 ∷ []) longest_sheet ≡ refused 14 1
unfolding converting
mark = refl

-- 2 to the power of the field's bits
wide : sheet_from (49 ∷ 44 ∷ 49 ∷ 54 ∷ 51 ∷ 56 ∷ 52 ∷ 44 ∷ 50 ∷ 53 ∷ 48 ∷ 44 ∷ 54 ∷ 48 ∷ 44 ∷ 48 ∷ 44 ∷ 50 ∷ 48 ∷ 48 ∷ 48 ∷ 48 ∷ 44 ∷ 50 ∷ 48 ∷ 48 ∷ 48 ∷ 48 ∷ 48 ∷ 44 ∷ 48 ∷ []) longest_sheet ≡ refused 14 1
unfolding converting
wide = refl

-- runs of one bit
runs : sheet_from (49 ∷ 44 ∷ 56 ∷ 48 ∷ 48 ∷ 48 ∷ 44 ∷ 50 ∷ 53 ∷ 48 ∷ 44 ∷ 54 ∷ 48 ∷ 44 ∷ 50 ∷ 44 ∷ 50 ∷ 48 ∷ 48 ∷ 48 ∷ 48 ∷ 44 ∷ 50 ∷ 48 ∷ 48 ∷ 48 ∷ 48 ∷ 48 ∷ 44 ∷ 48 ∷ []) longest_sheet ≡ refused 14 1
unfolding converting
runs = refl

-- a version of more than four bits
version_wide : sheet_from (49 ∷ 54 ∷ 44 ∷ 56 ∷ 48 ∷ 48 ∷ 48 ∷ []) longest_sheet ≡ refused 14 1
unfolding converting
version_wide = refl

-- a header of two fields
header_count : sheet_from (49 ∷ 44 ∷ 56 ∷ 48 ∷ 48 ∷ 48 ∷ []) longest_sheet ≡ refused 15 1
unfolding converting
header_count = refl

-- version 2 with the fields of version 1
header_count_2 : sheet_from (50 ∷ 44 ∷ 56 ∷ 48 ∷ 48 ∷ 48 ∷ 44 ∷ 50 ∷ 53 ∷ 48 ∷ 44 ∷ 54 ∷ 48 ∷ 44 ∷ 48 ∷ 44 ∷ 50 ∷ 48 ∷ 48 ∷ 48 ∷ 48 ∷ 44 ∷ 50 ∷ 48 ∷ 48 ∷ 48 ∷ 48 ∷ 48 ∷ 44 ∷ 48 ∷ []) longest_sheet ≡ refused 15 1
unfolding converting
header_count_2 = refl

-- a plate of three fields, of which one is no number
plate_count : sheet_from (49 ∷ 44 ∷ 56 ∷ 48 ∷ 48 ∷ 48 ∷ 44 ∷ 50 ∷ 53 ∷ 48 ∷ 44 ∷ 54 ∷ 48 ∷ 44 ∷ 48 ∷ 44 ∷ 50 ∷ 48 ∷ 48 ∷ 48 ∷ 48 ∷ 44 ∷ 50 ∷ 48 ∷ 48 ∷ 48 ∷ 48 ∷ 48 ∷ 44 ∷ 48 ∷ 10 ∷ 50 ∷ 44 ∷ 55 ∷ 44 ∷ 120 ∷ 10 ∷ []) longest_sheet ≡ refused 15 2
unfolding converting
plate_count = refl

-- a member of three
member_count : sheet_from (49 ∷ 44 ∷ 56 ∷ 48 ∷ 48 ∷ 48 ∷ 44 ∷ 50 ∷ 53 ∷ 48 ∷ 44 ∷ 54 ∷ 48 ∷ 44 ∷ 48 ∷ 44 ∷ 50 ∷ 48 ∷ 48 ∷ 48 ∷ 48 ∷ 44 ∷ 50 ∷ 48 ∷ 48 ∷ 48 ∷ 48 ∷ 48 ∷ 44 ∷ 48 ∷ 10 ∷ 50 ∷ 44 ∷ 55 ∷ 44 ∷ 49 ∷ 48 ∷ 48 ∷ 48 ∷ 44 ∷ 48 ∷ 44 ∷ 53 ∷ 48 ∷ 48 ∷ 44 ∷ 54 ∷ 48 ∷ 48 ∷ 44 ∷ 48 ∷ 44 ∷ 48 ∷ 44 ∷ 48 ∷ 44 ∷ 48 ∷ 44 ∷ 48 ∷ 10 ∷ 53 ∷ 44 ∷ 49 ∷ 50 ∷ 44 ∷ 48 ∷ []) longest_sheet ≡ refused 15 3
unfolding converting
member_count = refl

-- a version that is not known, with anything behind it
version : sheet_from (49 ∷ 53 ∷ 44 ∷ 120 ∷ []) longest_sheet ≡ refused 2 0
unfolding converting
version = refl

-- a length that fits its field and is not allowed
value : sheet_from (49 ∷ 44 ∷ 56 ∷ 44 ∷ 50 ∷ 53 ∷ 48 ∷ 44 ∷ 54 ∷ 48 ∷ 44 ∷ 48 ∷ 44 ∷ 50 ∷ 48 ∷ 48 ∷ 48 ∷ 48 ∷ 44 ∷ 50 ∷ 48 ∷ 48 ∷ 48 ∷ 48 ∷ 48 ∷ 44 ∷ 48 ∷ []) longest_sheet ≡ refused 3 2
unfolding converting
value = refl

-- a line of a record too many
lines : sheet_from (49 ∷ 44 ∷ 56 ∷ 48 ∷ 48 ∷ 48 ∷ 44 ∷ 50 ∷ 53 ∷ 48 ∷ 44 ∷ 54 ∷ 48 ∷ 44 ∷ 48 ∷ 44 ∷ 50 ∷ 48 ∷ 48 ∷ 48 ∷ 48 ∷ 44 ∷ 50 ∷ 48 ∷ 48 ∷ 48 ∷ 48 ∷ 48 ∷ 44 ∷ 48 ∷ 10 ∷ 50 ∷ 44 ∷ 55 ∷ 44 ∷ 49 ∷ 48 ∷ 48 ∷ 48 ∷ 44 ∷ 48 ∷ 44 ∷ 53 ∷ 48 ∷ 48 ∷ 44 ∷ 54 ∷ 48 ∷ 48 ∷ 44 ∷ 48 ∷ 44 ∷ 48 ∷ 44 ∷ 48 ∷ 44 ∷ 48 ∷ 44 ∷ 48 ∷ []) longest_sheet ≡ refused 4 0
unfolding converting
lines = refl

-- a kind that is not known, with anything behind it
kind : sheet_from (49 ∷ 44 ∷ 56 ∷ 48 ∷ 48 ∷ 48 ∷ 44 ∷ 50 ∷ 53 ∷ 48 ∷ 44 ∷ 54 ∷ 48 ∷ 44 ∷ 48 ∷ 44 ∷ 50 ∷ 48 ∷ 48 ∷ 48 ∷ 48 ∷ 44 ∷ 50 ∷ 48 ∷ 48 ∷ 48 ∷ 48 ∷ 48 ∷ 44 ∷ 49 ∷ 10 ∷ 57 ∷ 44 ∷ 34 ∷ 97 ∷ 44 ∷ 98 ∷ 34 ∷ []) longest_sheet ≡ refused 6 0
unfolding converting
kind = refl
