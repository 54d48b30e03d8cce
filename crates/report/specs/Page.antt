-- What the contracts of `page_of` and `write_answer` say.
use Rattle.std.specs.Prelude.{ℕ, ◌+◌, ◌-◌, ◌*◌, ◌≡◌, cond, List, ◌++◌, length, replicate, leb, Result, Ok, Err}
use Rattle.decimal.specs.Put.{put_on}
use Rattle.sheet.specs.Versions.{most_records}
use Rattle.sheet.specs.Refusals.{Answer, given, refused, told, told_result}
use Rattle.report.specs.declared.Page.{Page}
use Rattle.report.specs.Text.{text_of}
use Rattle.sheet.specs.declared.Refusal.{Refusal}

-- the length of a verdict's longest line: four digits, one, six and one, and what stands after each
abbrev pub longest_line : ℕ
longest_line = 16

-- that of the longest text: such a line for each of the most records, and one of 8 bytes
abbrev pub longest : ℕ
longest = most_records * longest_line + 8

-- so many bytes of 0
abbrev pub blank : ℕ → List ℕ
blank n = replicate n 0

-- the text stands in front, and every byte past it is 0
pub record Pages (s : List ℕ) (p : Page) : Type 0 where
  pub len : p.len ≡ length (text_of s)
  pub bytes : p.bytes ≡ text_of s ++ blank (longest - length (text_of s))

-- the text's length, or 5 where the slice is too short for it
unfoldable pub length_in : (text o : List ℕ) → Answer ℕ
length_in text o = cond (leb (length text) (length o)) (given (length text)) (refused 5 0)

-- the length of a text is told, and it stands in front of what stood there; a refusal leaves every byte
pub record Tells (text o : List ℕ) (r : Result ℕ Refusal) (after : List ℕ) : Type 0 where
  pub answer : told_result r ≡ length_in text o
  pub bytes : after ≡ put_on text o
