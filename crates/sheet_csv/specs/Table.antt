-- A sheet from a table that a spreadsheet program saved: a text that is turned away by a line is looked at again without its filling.
use Rattle.std.specs.Prelude.{ℕ, Bool, true, false, cond, not, ◌&&◌, ◌||◌, List, eqb}
use Rattle.sheet.specs.Refusals.{Answer, given, refused}
use Rattle.filling.specs.Filling.{lines_left}
use Rattle.sheet_csv.specs.Read.{sheet_of, sheet_from}

-- the sheet that a text is without its filling
abbrev pub unfilled_from : List ℕ → (room : ℕ) → Answer (List ℕ)
unfilled_from s room = sheet_of (lines_left true s 0) room

-- whether a refusal is one by a line
abbrev pub by_line : (number : ℕ) → Bool
by_line number = eqb number 14 || eqb number 15

-- whether a refusal by a line stands whatever the second look says: 14, where without its filling the same line has a wrong count of fields
abbrev pub stands : {A : Type 0} → (number line : ℕ) → Answer A → Bool
stands number line (given a) = false
stands number line (refused k p) = eqb number 14 && (eqb k 15 && eqb p line)

-- what is answered, by the first look and the second
abbrev pub of_both : (first second : Answer (List ℕ)) → Answer (List ℕ)
of_both (given b) second = given b
of_both (refused number line) second = cond (by_line number && not (stands number line second)) second (refused number line)

-- the sheet that a table is, in an output of so many bytes
unfoldable pub table_from : List ℕ → (room : ℕ) → Answer (List ℕ)
table_from s room = of_both (sheet_from s room) (unfilled_from s room)
