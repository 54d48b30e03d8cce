-- What the programs print of a sheet: the numbers of each line, and the lines as text.
use Rattle.std.specs.Prelude.{ℕ, List, [], ◌∷◌, ◌++◌, map}
use Rattle.decimal.specs.Line.{line_of}
use Rattle.sheet.specs.Refusals.{Answer, given, refused}
use Rattle.checker.specs.Entry.{entry_values}
use Rattle.checker.specs.Check.{◌then◌, Sheet, sheet_in, verdicts, failures}
use Rattle.checker.specs.Unjudged.{room}

-- ---- the numbers

-- a line for each verdict, with the values of its fields, and one with n and the failures
abbrev pub lines_of : Sheet → List (List ℕ)
lines_of t = map entry_values (verdicts t) ++ ((t.header.count ∷ failures (verdicts t) ∷ []) ∷ [])

-- the lines that a sheet is answered with, or the refusal's number and place
unfoldable pub printed : List ℕ → Answer (List (List ℕ))
printed s = sheet_in s room then λ t. given (lines_of t)

-- ---- the text

-- a line: its numbers in decimal, a space between them and a line feed at the end
abbrev pub line : List ℕ → List ℕ
line numbers = line_of 32 (10 ∷ []) numbers

-- the lines one after another
unfoldable pub lines_text : List (List ℕ) → List ℕ
lines_text [] = []
lines_text (numbers ∷ rest) = line numbers ++ lines_text rest

-- `refused` and a space
abbrev pub refused_word : List ℕ
refused_word = 114 ∷ 101 ∷ 102 ∷ 117 ∷ 115 ∷ 101 ∷ 100 ∷ 32 ∷ []

-- the text of an answer
unfoldable pub text_by : Answer (List (List ℕ)) → List ℕ
text_by (given lines) = lines_text lines
text_by (refused number place) = refused_word ++ line (number ∷ place ∷ [])

-- the text of the answer to a sheet
unfoldable pub text_of : List ℕ → List ℕ
text_of s = text_by (printed s)
