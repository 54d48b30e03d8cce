-- The text piece by piece, as it is put together from a check's answer and its output.
use Rattle.std.specs.Prelude.{ℕ, zero, suc, ◌+◌, ◌*◌, ◌≤◌, List, [], ◌∷◌, ◌++◌, length, Result, Ok, Err}
use Rattle.sheet.specs.declared.Refusal.{Refusal}
use Rattle.sheet.specs.Versions.{most_records}
use Rattle.sheet.specs.Refusals.{Answer, given, refused, number_of, place_of}
use Rattle.checker.specs.declared.Entry.{Entry}
use Rattle.checker.specs.Entry.{entry_values, read_entry}
use Rattle.checker.specs.Check.{part}
use Rattle.report.specs.Text.{line, refused_word}
use Rattle.report.specs.Page.{longest, Tells}
use Rattle.checker.specs.declared.Checked.{Checked}

-- the line of a verdict that was read; none where none was
abbrev pub read_text : Answer Entry → List ℕ
read_text (given e) = line (entry_values e)
read_text (refused k p) = []

-- the line of the verdict in four bytes
unfoldable pub verdict_text : List ℕ → List ℕ
verdict_text b = read_text (read_entry b)

-- those of the verdicts i, i + 1, .. in an output, so many of them
unfoldable pub verdicts_text : List ℕ → (i count : ℕ) → List ℕ
verdicts_text out i zero = []
verdicts_text out i (suc count) = verdict_text (part out (4 * i) (4 * i + 4)) ++ verdicts_text out (i + 1) count

-- a refusal's line
unfoldable pub refusal_text : Refusal → List ℕ
refusal_text r = refused_word ++ line (number_of r ∷ place_of r ∷ [])

-- what a check answered, with the output that it left
unfoldable pub checked_text : Result Checked Refusal → List ℕ → List ℕ
checked_text (Ok c) out = verdicts_text out 0 c.n ++ line (c.n ∷ c.failed ∷ [])
checked_text (Err r) out = refusal_text r

-- the counts that a check can answer, and the verdicts are in its output
abbrev pub Counted : Result Checked Refusal → List ℕ → Type 0
Counted (Ok c) out = (4 * c.n ≤ length out) × (c.n ≤ most_records) × (c.failed ≤ most_records)
Counted (Err r) out = Unit

-- and the longest text has room
pub record Roomy (r : Result Checked Refusal) (out page : List ℕ) : Type 0 where
  pub counted : Counted r out
  pub room : longest ≤ length page

-- What the contract of `write_refusal` says: the line is told, and 22 bytes are enough for any.
pub record TellsRefusal (x : Refusal) (o : List ℕ) (r : Result ℕ Refusal) (after : List ℕ) : Type 0 where
  pub most : length (refusal_text x) ≤ 22
  pub tells : Tells (refusal_text x) o r after
