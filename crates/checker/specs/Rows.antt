-- What an answer can be, whatever the sheet and the output.
use Rattle.std.specs.Prelude.{ℕ, ◌*◌, ◌≤◌, ◌<◌}
use Rattle.sheet.specs.Versions.{most_records}
use Rattle.sheet.specs.Refusals.{Answer, given, refused}
use Rattle.checker.specs.Check.{Sheet, verdicts, failures}

-- a number of the table, and a place within a sheet of the most records
pub record Row (number place : ℕ) : Type 0 where
  pub some : 1 ≤ number
  pub last : number ≤ 9
  pub inside : place < 32 * most_records

-- every refusal is one of these
abbrev pub RefusedBy : (ℕ → ℕ → Type 0) → {A : Type 0} → Answer A → Type 0
RefusedBy P (given a) = Unit {0}
RefusedBy P (refused number place) = P number place

-- every refusal is a row of the table
abbrev pub Refusable : {A : Type 0} → Answer A → Type 0
Refusable x = RefusedBy Row x

-- the counts of a sheet that is not turned away, in an output of so many bytes
pub record Counts (space : ℕ) (t : Sheet) : Type 0 where
  pub inside : 4 * t.header.count ≤ space
  pub records : t.header.count ≤ most_records
  pub failed : failures (verdicts t) ≤ most_records
