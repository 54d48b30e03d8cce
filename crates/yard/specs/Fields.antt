-- Fields as numbers in layout order, as they cross to C.
use Rattle.std.specs.Prelude.{ℕ, List}
use Rattle.sheet.specs.Refusals.{Answer, given, refused}

-- an answer whose content is given as numbers
abbrev pub numbered : {A : Type 0} → (A → List ℕ) → Answer A → Answer (List ℕ)
numbered numbers (given a) = given (numbers a)
numbered numbers (refused k p) = refused k p
