-- An edit of a sheet in a lent buffer, as it crosses to C.
use Rattle.std.specs.Prelude.{◌≡◌, List, ℕ}
use Rattle.sheet.specs.Refusals.{Answer}
use Rattle.edit.specs.Edit.{After, size_by, bytes_by}
use Rattle.yard.specs.Packed.{packed_by}

-- an edit that is not refused: the sheet's new length
abbrev pub resized : Answer ℕ → ℕ
resized a = packed_by (λ n. n) a

-- What an edit promises: the answer, and every byte of the buffer as it returns.
pub record EditsPacked (a : Answer After) (before : List ℕ) (r : ℕ) (after : List ℕ) : Type 0 where
  pub answer : r ≡ resized (size_by a)
  pub bytes : after ≡ bytes_by a before
