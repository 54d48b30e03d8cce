-- What the contract of a writer says.
use Rattle.std.specs.Prelude.{◌≡◌, List, ℕ}
use Rattle.sheet.specs.Refusals.{Answer, Wrote}

-- the answer is the one told, and the bytes are those that stand there afterwards
pub record Writes (w : Wrote) (told : Answer (Unit {0})) (after : List ℕ) : Type 0 where
  pub answer : told ≡ w.answer
  pub bytes : after ≡ w.bytes
