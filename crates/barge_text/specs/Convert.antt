-- What is known of what is made of an input, and what is printed of a text.
use Rattle.std.specs.Prelude.{ℕ, ◌≤◌, ◌≡◌, cond, List, length, take, eqb, Option, Some, None, Result, Ok, Err}
use Rattle.sheet.specs.Versions.{longest_sheet}
use Rattle.sheet.specs.Refusals.{Answer, given, refused}
use Rattle.checker.specs.Check.{◌then◌}
use Rattle.report.specs.declared.Page.{Page}
use Rattle.report.specs.Text.{printed, text_by, text_of}
use Rattle.report.specs.Pieces.{refusal_text}
use Rattle.sheet_csv.specs.Read.{length_of}
use Rattle.sheet_csv.specs.Table.{table_from}
use Rattle.barge_text.specs.declared.Reply.{Reply}
use Rattle.sheet.specs.declared.Refusal.{Refusal}

-- what was made is in an output of so many bytes
abbrev pub MadeInside : Result ℕ Refusal → (size : ℕ) → Type 0
MadeInside (Ok n) size = n ≤ size
MadeInside (Err r) size = Unit {0}

-- the line that an answer is turned away by, which 14 and 15 name; 0 where there is none
abbrev pub line_in : Answer ℕ → ℕ
line_in (given n) = 0
line_in (refused number place) = cond (eqb number 14) place (cond (eqb number 15) place 0)

-- the same, none where there is none
abbrev pub line_of : Answer ℕ → Option ℕ
line_of (given n) = None
line_of (refused number place) = cond (eqb number 14) (Some place) (cond (eqb number 15) (Some place) None)

-- ---- what is printed of a text

-- what `barge` prints of the sheet that it is, looked at again without its filling where a line is at fault, or the refusal
unfoldable pub printed_text : List ℕ → List ℕ
printed_text s = text_by (table_from s longest_sheet then printed)

-- the same by what it was converted to, and the output that this left
abbrev pub printed_by : Result ℕ Refusal → List ℕ → List ℕ
printed_by (Ok n) sheet = text_of (take n sheet)
printed_by (Err r) sheet = refusal_text r

-- a text stands in front of a page
pub record Shows (t : List ℕ) (p : Page) : Type 0 where
  pub inside : p.len ≤ length p.bytes
  pub text : take p.len p.bytes ≡ t

-- What the answer to a text is: what is printed, and the line that it is turned away by.
pub record Replies (s : List ℕ) (r : Reply) : Type 0 where
  pub page : Shows (printed_text s) r.page
  pub line : r.line ≡ line_of (length_of (table_from s longest_sheet))
