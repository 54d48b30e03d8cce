-- What a case of texts asks for, and what is printed of its answer.
use Rattle.std.specs.Prelude.{ℕ, ◌≤◌, ◌<◌, ◌≡◌, cond, List, length, take, eqb, Option, Some, None}
use Rattle.sheet.specs.Refusals.{Answer}
use Rattle.sheet_csv.specs.Read.{sheet_from, length_of, output_by}
use Rattle.sheet_csv.specs.Table.{table_from}
use Rattle.sheet_csv.specs.Write.{text_from}
use Rattle.streams.specs.Parts.{line_for}
use Rattle.streams.specs.declared.texts.Task.{Task}
use Rattle.streams.specs.declared.texts.Task.TheVariants.{FromText, ToText, FromTable}

-- what a case asks for, in an output of so many bytes: 0 a text into a sheet, 1 a sheet into text, another number a table into a sheet
unfoldable pub asked : (what : ℕ) (input : List ℕ) (room : ℕ) → Answer (List ℕ)
asked what input room = cond (eqb what 0) (sheet_from input room) (cond (eqb what 1) (text_from input room) (table_from input room))

-- the number by which a case asks for it
abbrev pub number_of : Task → ℕ
number_of FromText = 0
number_of ToText = 1
number_of FromTable = 2

-- what a case's number asks for; past 2 it asks for nothing
abbrev pub IsTask : (number : ℕ) → Option Task → Type 0
IsTask number (Some t) = number ≡ number_of t
IsTask number None = 2 < number

-- What is printed of a case: the line, which is the first bytes of a space, so many of them, and the output.
pub record Answers (a : Answer (List ℕ)) (o after : List ℕ) (end : ℕ) (space : List ℕ) : Type 0 where
  pub inside : end ≤ length space
  pub line : take end space ≡ line_for (length_of a)
  pub bytes : after ≡ output_by a o
