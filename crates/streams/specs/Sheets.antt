-- What is printed of a sheet among many.
use Rattle.std.specs.Prelude.{ℕ, ◌≤◌, ◌≡◌, List, [], ◌∷◌, ◌++◌, length, take}
use Rattle.report.specs.Text.{text_of}

-- the first bytes of the space, so many of them, are the text of the sheet and an empty line
pub record Apart (s : List ℕ) (end : ℕ) (space : List ℕ) : Type 0 where
  pub inside : end ≤ length space
  pub text : take end space ≡ text_of s ++ (10 ∷ [])
