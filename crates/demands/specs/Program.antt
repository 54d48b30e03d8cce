-- A program that checks sheets, and what it does on one.
use Rattle.std.specs.Prelude.{ℕ, ◌*◌, ◌≡◌, List, take, drop, Result}
use Rattle.sheet.specs.Refusals.{given, refused}
use Rattle.checker.specs.declared.Entry.{Entry}
use Rattle.checker.specs.Entry.{read_entry}
use Rattle.checker.specs.Check.{four_at, told_checked, Checks}
use Rattle.sheet.specs.declared.Refusal.{Refusal}
use Rattle.checker.specs.declared.Checked.{Checked}

-- what it answers to a sheet and a lent output, and what it leaves in the output
pub record Program : Type 0 where
  pub answer : List ℕ → List ℕ → Result Checked Refusal
  pub after : List ℕ → List ℕ → List ℕ

-- it meets the promise of `check` on every sheet and every output
abbrev pub Meets : Program → Type 0
Meets P = (s out : List ℕ) → Checks s out (P.answer s out) (P.after s out)

-- it refuses the sheet with this number and this place
abbrev pub Refuses : Program → (s out : List ℕ) (k p : ℕ) → Type 0
Refuses P s out k p = told_checked (P.answer s out) ≡ refused k p

-- the verdict that it leaves for record i
abbrev pub Leaves : Program → (s out : List ℕ) (i : ℕ) → Entry → Type 0
Leaves P s out i e = read_entry (four_at i (P.after s out)) ≡ given e
