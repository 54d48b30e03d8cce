-- A printed text read: its lines, and their numbers.
use Rattle.std.specs.Prelude.{ℕ, cond, List, [], map, length, get_or, drop, eqb}
use Rattle.decimal.specs.Line.{pieces, numbers_in}
use Rattle.sheet.specs.Refusals.{Answer, given, refused}
use Rattle.report.specs.Text.{refused_word}

-- the numbers of a text, line by line
unfoldable pub lines_in : List ℕ → List (List ℕ)
lines_in text = map (numbers_in 32) (pieces 10 text)

-- the refusal whose number and place stand on the first line
abbrev pub refusal_in : List (List ℕ) → Answer (List (List ℕ))
refusal_in lines = refused (get_or (get_or lines 0 []) 0 0) (get_or (get_or lines 0 []) 1 0)

-- the answer that a text gives: a refusal where it begins with the r of `refused`, else the numbers of its lines
unfoldable pub answer_in : List ℕ → Answer (List (List ℕ))
answer_in text = cond (eqb (get_or text 0 0) 114) (refusal_in (lines_in (drop (length refused_word) text))) (given (lines_in text))
