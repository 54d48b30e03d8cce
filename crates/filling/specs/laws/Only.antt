-- Two lines, and what they leave in the numbers, that meet the promise of `line_at` are equal.
-- Assumes nothing.
use Rattle.std.specs.Prelude.{ℕ, ◌≡◌, Bool, List}
use Rattle.text.specs.declared.Line.{Line}
use Rattle.text.specs.Line.{Reads}
use Rattle.text.specs.laws.Only as text
use Rattle.filling.specs.Filling.{line_left}

pub line_at_only : (s : List ℕ) (at : ℕ) (filled : Bool) (nums : List ℕ) (q r : Line) (a b : List ℕ)
    → Reads (line_left filled s at) nums q a → Reads (line_left filled s at) nums r b → (q ≡ r) × (a ≡ b)
line_at_only s at filled nums q r a b e f = text.line_at_only (line_left filled s at) nums q r a b e f
