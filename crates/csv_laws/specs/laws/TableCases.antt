-- What some tables are read as: filled up, and with what only looks like filling. H stands for a header of one record, P for its plate.
-- Assumes nothing.
use Rattle.std.specs.Prelude.{◌≡◌, refl, List, [], ◌∷◌, ◌++◌, ℕ}
use Rattle.sheet.specs.Refusals.{given, refused}
use Rattle.sheet.specs.Versions.{longest_sheet}
use Rattle.filling.specs.Filling.{blank, unfilled, lines_left}
use Rattle.sheet_csv.specs.Read.{sheet_from}
use Rattle.sheet_csv.specs.Table.{table_from}
use Rattle.csv_laws.specs.laws.Cases.{converting, sheet, text}

-- all that reading a table computes with
unfoldable looking : Type 0
unfolding table_from lines_left unfilled blank converting
looking = Unit {0}

abbrev H : List ℕ
H = 49 ∷ 44 ∷ 56 ∷ 48 ∷ 48 ∷ 48 ∷ 44 ∷ 50 ∷ 53 ∷ 48 ∷ 44 ∷ 54 ∷ 48 ∷ 44 ∷ 48 ∷ 44 ∷ 50 ∷ 48 ∷ 48 ∷ 48 ∷ 48 ∷ 44 ∷ 50 ∷ 48 ∷ 48 ∷ 48 ∷ 48 ∷ 48 ∷ 44 ∷ 49 ∷ []

abbrev P : List ℕ
P = 50 ∷ 44 ∷ 55 ∷ 44 ∷ 49 ∷ 48 ∷ 48 ∷ 48 ∷ 44 ∷ 48 ∷ 44 ∷ 53 ∷ 48 ∷ 48 ∷ 44 ∷ 54 ∷ 48 ∷ 48 ∷ 44 ∷ 48 ∷ 44 ∷ 48 ∷ 44 ∷ 48 ∷ 44 ∷ 48 ∷ 44 ∷ 48 ∷ []

-- the document's sheet, every line filled up to thirteen fields, with CR LF and two lines of nothing else at the end
filled : table_from (49 ∷ 44 ∷ 56 ∷ 48 ∷ 48 ∷ 48 ∷ 44 ∷ 50 ∷ 53 ∷ 48 ∷ 44 ∷ 54 ∷ 48 ∷ 44 ∷ 48 ∷ 44 ∷ 50 ∷ 48 ∷ 48 ∷ 48 ∷ 48 ∷ 44 ∷ 50 ∷ 48 ∷ 48 ∷ 48 ∷ 48 ∷ 48 ∷ 44 ∷ 50 ∷ 44 ∷ 44 ∷ 44 ∷ 44 ∷ 44 ∷ 13 ∷ 10 ∷ 50 ∷ 44 ∷ 55 ∷ 44 ∷ 49 ∷ 48 ∷ 48 ∷ 48 ∷ 44 ∷ 48 ∷ 44 ∷ 53 ∷ 48 ∷ 48 ∷ 44 ∷ 54 ∷ 48 ∷ 48 ∷ 44 ∷ 48 ∷ 44 ∷ 48 ∷ 44 ∷ 48 ∷ 44 ∷ 48 ∷ 44 ∷ 48 ∷ 44 ∷ 44 ∷ 13 ∷ 10 ∷ 53 ∷ 44 ∷ 49 ∷ 50 ∷ 44 ∷ 48 ∷ 44 ∷ 53 ∷ 48 ∷ 48 ∷ 44 ∷ 51 ∷ 48 ∷ 48 ∷ 44 ∷ 52 ∷ 50 ∷ 48 ∷ 44 ∷ 49 ∷ 48 ∷ 48 ∷ 44 ∷ 49 ∷ 48 ∷ 48 ∷ 44 ∷ 57 ∷ 48 ∷ 44 ∷ 53 ∷ 48 ∷ 44 ∷ 53 ∷ 54 ∷ 48 ∷ 44 ∷ 49 ∷ 54 ∷ 56 ∷ 44 ∷ 49 ∷ 48 ∷ 48 ∷ 48 ∷ 13 ∷ 10 ∷ 44 ∷ 44 ∷ 44 ∷ 44 ∷ 44 ∷ 44 ∷ 44 ∷ 44 ∷ 44 ∷ 44 ∷ 44 ∷ 44 ∷ 13 ∷ 10 ∷ 44 ∷ 44 ∷ 44 ∷ 44 ∷ 44 ∷ 44 ∷ 44 ∷ 44 ∷ 44 ∷ 44 ∷ 44 ∷ 44 ∷ 13 ∷ 10 ∷ []) longest_sheet ≡ given sheet
unfolding looking
filled = refl

-- the same with LF, one such line, and no line end behind it
filled_feeds : table_from (49 ∷ 44 ∷ 56 ∷ 48 ∷ 48 ∷ 48 ∷ 44 ∷ 50 ∷ 53 ∷ 48 ∷ 44 ∷ 54 ∷ 48 ∷ 44 ∷ 48 ∷ 44 ∷ 50 ∷ 48 ∷ 48 ∷ 48 ∷ 48 ∷ 44 ∷ 50 ∷ 48 ∷ 48 ∷ 48 ∷ 48 ∷ 48 ∷ 44 ∷ 50 ∷ 44 ∷ 44 ∷ 44 ∷ 44 ∷ 44 ∷ 10 ∷ 50 ∷ 44 ∷ 55 ∷ 44 ∷ 49 ∷ 48 ∷ 48 ∷ 48 ∷ 44 ∷ 48 ∷ 44 ∷ 53 ∷ 48 ∷ 48 ∷ 44 ∷ 54 ∷ 48 ∷ 48 ∷ 44 ∷ 48 ∷ 44 ∷ 48 ∷ 44 ∷ 48 ∷ 44 ∷ 48 ∷ 44 ∷ 48 ∷ 44 ∷ 44 ∷ 10 ∷ 53 ∷ 44 ∷ 49 ∷ 50 ∷ 44 ∷ 48 ∷ 44 ∷ 53 ∷ 48 ∷ 48 ∷ 44 ∷ 51 ∷ 48 ∷ 48 ∷ 44 ∷ 52 ∷ 50 ∷ 48 ∷ 44 ∷ 49 ∷ 48 ∷ 48 ∷ 44 ∷ 49 ∷ 48 ∷ 48 ∷ 44 ∷ 57 ∷ 48 ∷ 44 ∷ 53 ∷ 48 ∷ 44 ∷ 53 ∷ 54 ∷ 48 ∷ 44 ∷ 49 ∷ 54 ∷ 56 ∷ 44 ∷ 49 ∷ 48 ∷ 48 ∷ 48 ∷ 10 ∷ 44 ∷ 44 ∷ 44 ∷ 44 ∷ 44 ∷ 44 ∷ 44 ∷ 44 ∷ 44 ∷ 44 ∷ 44 ∷ 44 ∷ []) longest_sheet ≡ given sheet
unfolding looking
filled_feeds = refl

-- and with no such line and no last line end
filled_last : table_from (49 ∷ 44 ∷ 56 ∷ 48 ∷ 48 ∷ 48 ∷ 44 ∷ 50 ∷ 53 ∷ 48 ∷ 44 ∷ 54 ∷ 48 ∷ 44 ∷ 48 ∷ 44 ∷ 50 ∷ 48 ∷ 48 ∷ 48 ∷ 48 ∷ 44 ∷ 50 ∷ 48 ∷ 48 ∷ 48 ∷ 48 ∷ 48 ∷ 44 ∷ 50 ∷ 44 ∷ 44 ∷ 44 ∷ 44 ∷ 44 ∷ 13 ∷ 10 ∷ 50 ∷ 44 ∷ 55 ∷ 44 ∷ 49 ∷ 48 ∷ 48 ∷ 48 ∷ 44 ∷ 48 ∷ 44 ∷ 53 ∷ 48 ∷ 48 ∷ 44 ∷ 54 ∷ 48 ∷ 48 ∷ 44 ∷ 48 ∷ 44 ∷ 48 ∷ 44 ∷ 48 ∷ 44 ∷ 48 ∷ 44 ∷ 48 ∷ 44 ∷ 44 ∷ 13 ∷ 10 ∷ 53 ∷ 44 ∷ 49 ∷ 50 ∷ 44 ∷ 48 ∷ 44 ∷ 53 ∷ 48 ∷ 48 ∷ 44 ∷ 51 ∷ 48 ∷ 48 ∷ 44 ∷ 52 ∷ 50 ∷ 48 ∷ 44 ∷ 49 ∷ 48 ∷ 48 ∷ 44 ∷ 49 ∷ 48 ∷ 48 ∷ 44 ∷ 57 ∷ 48 ∷ 44 ∷ 53 ∷ 48 ∷ 44 ∷ 53 ∷ 54 ∷ 48 ∷ 44 ∷ 49 ∷ 54 ∷ 56 ∷ 44 ∷ 49 ∷ 48 ∷ 48 ∷ 48 ∷ []) longest_sheet ≡ given sheet
unfolding looking
filled_last = refl

-- a text that is not filled up is read as it is
plain : table_from text longest_sheet ≡ given sheet
unfolding looking
plain = refl

-- while by the letter a line that is filled up has a wrong count
counted : sheet_from (49 ∷ 44 ∷ 56 ∷ 48 ∷ 48 ∷ 48 ∷ 44 ∷ 50 ∷ 53 ∷ 48 ∷ 44 ∷ 54 ∷ 48 ∷ 44 ∷ 48 ∷ 44 ∷ 50 ∷ 48 ∷ 48 ∷ 48 ∷ 48 ∷ 44 ∷ 50 ∷ 48 ∷ 48 ∷ 48 ∷ 48 ∷ 48 ∷ 44 ∷ 50 ∷ 44 ∷ 44 ∷ 44 ∷ 44 ∷ 44 ∷ 13 ∷ 10 ∷ 50 ∷ 44 ∷ 55 ∷ 44 ∷ 49 ∷ 48 ∷ 48 ∷ 48 ∷ 44 ∷ 48 ∷ 44 ∷ 53 ∷ 48 ∷ 48 ∷ 44 ∷ 54 ∷ 48 ∷ 48 ∷ 44 ∷ 48 ∷ 44 ∷ 48 ∷ 44 ∷ 48 ∷ 44 ∷ 48 ∷ 44 ∷ 48 ∷ 44 ∷ 44 ∷ 13 ∷ 10 ∷ 53 ∷ 44 ∷ 49 ∷ 50 ∷ 44 ∷ 48 ∷ 44 ∷ 53 ∷ 48 ∷ 48 ∷ 44 ∷ 51 ∷ 48 ∷ 48 ∷ 44 ∷ 52 ∷ 50 ∷ 48 ∷ 44 ∷ 49 ∷ 48 ∷ 48 ∷ 44 ∷ 49 ∷ 48 ∷ 48 ∷ 44 ∷ 57 ∷ 48 ∷ 44 ∷ 53 ∷ 48 ∷ 44 ∷ 53 ∷ 54 ∷ 48 ∷ 44 ∷ 49 ∷ 54 ∷ 56 ∷ 44 ∷ 49 ∷ 48 ∷ 48 ∷ 48 ∷ 13 ∷ 10 ∷ 44 ∷ 44 ∷ 44 ∷ 44 ∷ 44 ∷ 44 ∷ 44 ∷ 44 ∷ 44 ∷ 44 ∷ 44 ∷ 44 ∷ 13 ∷ 10 ∷ 44 ∷ 44 ∷ 44 ∷ 44 ∷ 44 ∷ 44 ∷ 44 ∷ 44 ∷ 44 ∷ 44 ∷ 44 ∷ 44 ∷ 13 ∷ 10 ∷ []) longest_sheet ≡ refused 15 1
unfolding looking
counted = refl

-- H LF P CR `,,` LF: the last field is 0 and a CR, which is no number
return_before : table_from (H ++ 10 ∷ P ++ 13 ∷ 44 ∷ 44 ∷ 10 ∷ []) longest_sheet ≡ refused 14 2
unfolding looking
return_before = refl

-- H `,,,` LF and P with its last field in quotes, a CR behind them, `,,` LF: nothing may stand behind a closing quote
return_behind_quote : table_from (H ++ 44 ∷ 44 ∷ 44 ∷ 10 ∷ 50 ∷ 44 ∷ 55 ∷ 44 ∷ 49 ∷ 48 ∷ 48 ∷ 48 ∷ 44 ∷ 48 ∷ 44 ∷ 53 ∷ 48 ∷ 48 ∷ 44 ∷ 54 ∷ 48 ∷ 48 ∷ 44 ∷ 48 ∷ 44 ∷ 48 ∷ 44 ∷ 48 ∷ 44 ∷ 48 ∷ 44 ∷ 34 ∷ 48 ∷ 34 ∷ 13 ∷ 44 ∷ 44 ∷ 10 ∷ []) longest_sheet ≡ refused 14 2
unfolding looking
return_behind_quote = refl

-- H `,,,` LF P `,` CR `,` LF: a field that is a CR is one
return_alone : table_from (H ++ 44 ∷ 44 ∷ 44 ∷ 10 ∷ P ++ 44 ∷ 13 ∷ 44 ∷ 10 ∷ []) longest_sheet ≡ refused 15 2
unfolding looking
return_alone = refl

-- an empty field in quotes is no filling
quoted_empty : table_from (H ++ 44 ∷ 44 ∷ 44 ∷ 10 ∷ P ++ 44 ∷ 34 ∷ 34 ∷ 10 ∷ []) longest_sheet ≡ refused 15 2
unfolding looking
quoted_empty = refl

-- and none inside a line is
empty_inside : table_from (H ++ 44 ∷ 44 ∷ 44 ∷ 10 ∷ 50 ∷ 44 ∷ 55 ∷ 44 ∷ 44 ∷ 49 ∷ 48 ∷ 48 ∷ 48 ∷ 44 ∷ 48 ∷ 44 ∷ 53 ∷ 48 ∷ 48 ∷ 44 ∷ 54 ∷ 48 ∷ 48 ∷ 44 ∷ 48 ∷ 44 ∷ 48 ∷ 44 ∷ 48 ∷ 44 ∷ 48 ∷ 44 ∷ 48 ∷ 10 ∷ []) longest_sheet ≡ refused 15 2
unfolding looking
empty_inside = refl

-- nor is a line with another behind it
line_inside : table_from (H ++ 44 ∷ 44 ∷ 44 ∷ 10 ∷ 44 ∷ 44 ∷ 44 ∷ 44 ∷ 44 ∷ 44 ∷ 44 ∷ 44 ∷ 44 ∷ 44 ∷ 10 ∷ P ++ 10 ∷ []) longest_sheet ≡ refused 14 2
unfolding looking
line_inside = refl

-- a plate whose last two fields are empty: 14 as the text stands, and not 15 for the fields that are left
stands : table_from (H ++ 10 ∷ 50 ∷ 44 ∷ 55 ∷ 44 ∷ 49 ∷ 48 ∷ 48 ∷ 48 ∷ 44 ∷ 48 ∷ 44 ∷ 53 ∷ 48 ∷ 48 ∷ 44 ∷ 54 ∷ 48 ∷ 48 ∷ 44 ∷ 48 ∷ 44 ∷ 48 ∷ 44 ∷ 48 ∷ 44 ∷ 44 ∷ 10 ∷ []) longest_sheet ≡ refused 14 2
unfolding looking
stands = refl

-- nothing but filling is one empty line
all_blank : table_from (44 ∷ 44 ∷ 10 ∷ 44 ∷ 44 ∷ 10 ∷ []) longest_sheet ≡ refused 14 1
unfolding looking
all_blank = refl
