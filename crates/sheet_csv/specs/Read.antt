-- A sheet from comma-separated text: the lines in turn, the first faulty one decides; then the table's own refusals on the sheet that they make; then 5.
use Rattle.std.specs.Prelude.{ℕ, ◌+◌, ◌≡◌, cond, List, [], ◌++◌, map, length, drop, leb, ltb, Result, Ok, Err}
use Rattle.sheet.specs.Refusals.{Answer, given, refused, told, told_result}
use Rattle.fields.specs.Lines.{Lines, none, bad, row, lines_in}
use Rattle.text.specs.laws.LinesLaws.{value_in}
use Rattle.rows.specs.Rows.{header_line, record_line}
use Rattle.checker.specs.Check.{◌then◌, demand}
use Rattle.checker.specs.Unjudged.{sound_sheet}
use Rattle.sheet.specs.declared.Refusal.{Refusal}

-- ---- the sheet that the lines make

-- the place of the next line; the highest place of 32 bits stands for all lines past it
abbrev pub next_line : ℕ → ℕ
next_line p = cond (ltb p 4294967295) (p + 1) p

-- the bytes of the records that the lines from one on are, the first of which has the place p
unfoldable pub records_made : (p : ℕ) → Lines → Answer (List ℕ)
records_made p none = given []
records_made p bad = refused 14 p
records_made p (row fs ls) = record_line p (length fs) (map value_in fs) then λ b. records_made (next_line p) ls then λ bs. given (b ++ bs)

-- the bytes of a header and records, whatever their values. Every text has a line
unfoldable pub sheet_made : Lines → Answer (List ℕ)
sheet_made none = refused 14 1
sheet_made bad = refused 14 1
sheet_made (row fs ls) = header_line 1 (length fs) (map value_in fs) then λ b. records_made 2 ls then λ bs. given (b ++ bs)

-- ---- reading

-- the sheet that lines are, in an output of so many bytes
abbrev pub sheet_of : Lines → (room : ℕ) → Answer (List ℕ)
sheet_of ls room =
    sheet_made ls
    then λ b. sound_sheet b
    then λ t. demand (leb (length b) room) 5
    then λ u. given b

-- the sheet that a text is
unfoldable pub sheet_from : List ℕ → (room : ℕ) → Answer (List ℕ)
sheet_from s room = sheet_of (lines_in s) room

-- ---- what is answered and written

abbrev pub length_of : Answer (List ℕ) → Answer ℕ
length_of (given b) = given (length b)
length_of (refused k p) = refused k p

-- the output: as lent on a refusal; else what is given in front, and every other byte as lent
abbrev pub output_by : Answer (List ℕ) → List ℕ → List ℕ
output_by (given b) o = b ++ drop (length b) o
output_by (refused k p) o = o

-- What the contracts say: how many bytes were written, or why none were, and the output's bytes as the function returns.
pub record Converts (a : Answer (List ℕ)) (o : List ℕ) (r : Result ℕ Refusal) (after : List ℕ) : Type 0 where
  pub answer : told_result r ≡ length_of a
  pub bytes : after ≡ output_by a o
