-- What is printed of a sheet, by the verdicts on its records.
use Rattle.std.specs.Prelude.{ℕ, ◌+◌, ◌<◌, ◌≡◌, List, [], ◌∷◌, ◌++◌, length, get_or}
use Rattle.sheet.specs.Refusals.{given, refused}
use Rattle.report.specs.Text.{line, lines_text, refused_word, text_of}
use Rattle.report.specs.Reading.{answer_in}
use Rattle.demands.specs.Table.{count_of, id_of, Row, Accepted}
use Rattle.demands.specs.Demands.{entry_on, failed_from}

-- lines of numbers are what is printed, and say the verdicts
pub record VerdictLines (s : List ℕ) (lines : List (List ℕ)) : Type 0 where
  -- they are read in the text, and the text is they: in decimal, with a space between two numbers and a line feed after each line
  pub read : answer_in (text_of s) ≡ given lines
  pub spelled : text_of s ≡ lines_text lines
  -- line i, from 0, has the id of record i, and the rule, the required number and the source of the verdict on it, for every i below n
  pub of_record : (i : ℕ) → i < count_of s → get_or lines i [] ≡ (id_of s i ∷ (entry_on s i).rule ∷ (entry_on s i).required ∷ (entry_on s i).source ∷ [])
  -- the line behind them has n and the number of verdicts with a rule, and is the last
  pub of_all : get_or lines (count_of s) [] ≡ (count_of s ∷ failed_from s 0 (count_of s) ∷ [])
  pub many : length lines ≡ count_of s + 1

-- the line of a refusal is what is printed, and says its number and its place
pub record RefusalLine (s : List ℕ) (k p : ℕ) : Type 0 where
  pub read : answer_in (text_of s) ≡ refused k p
  pub spelled : text_of s ≡ refused_word ++ line (k ∷ p ∷ [])

-- of every sheet, whatever output it is checked with: its verdicts where it is accepted, and where a row holds other than 5, which is the output's, that row's refusal
pub record Printed (s : List ℕ) : Type 0 where
  pub verdicts_printed : (room : ℕ) → Accepted s room → (lines : List (List ℕ)) × VerdictLines s lines
  pub refusal_printed : (room k p : ℕ) → Row s room k p → (k ≡ 5 → ⊥) → RefusalLine s k p
