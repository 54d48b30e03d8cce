-- What the functions of this crate say to each other. No promise to a caller rests on this.
use Rattle.std.specs.Prelude.{◌≡◌, length}
use Rattle.text.specs.Line.{Numbers}
use Rattle.text.specs.declared.Line.{Line}

-- a line that was counted: how many numbers, and how it ends
pub record Counts (l : Numbers) (r : Line) : Type 0 where
  pub count : r.count ≡ length l.values
  pub end : r.end ≡ l.end
