-- A text made into a sheet, or a sheet into a text, as it crosses to C.
use Rattle.std.specs.Prelude.{◌≡◌, List, ℕ}
use Rattle.sheet.specs.Refusals.{Answer}
use Rattle.sheet_csv.specs.Read.{length_of, output_by}
use Rattle.yard.specs.Editing.{resized}

-- What is promised: the answer, the length of what was written where there is no refusal, and every byte of the output as it returns.
pub record ConvertsPacked (a : Answer (List ℕ)) (before : List ℕ) (r : ℕ) (after : List ℕ) : Type 0 where
  pub answer : r ≡ resized (length_of a)
  pub bytes : after ≡ output_by a before
