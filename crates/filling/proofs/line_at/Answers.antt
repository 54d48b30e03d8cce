use Rattle.std.proofs.Common.{ℕ, ◌≡◌, Bool, false, List, sym, subst}
use Rattle.text.specs.declared.Line.{Line}
use Rattle.text.specs.Line.{Reads, line_at}
use Rattle.filling.specs.Filling.{line_left}
use Rattle.filling.proofs.line_at.Goals as goal

as_it_is : (filled : Bool) (s : List ℕ) (at : ℕ) (nums : List ℕ) (r : Line) (after : List ℕ) → filled ≡ false → Reads (line_at s at) nums r after → Reads (line_left filled s at) nums r after
unfolding line_at line_left
as_it_is filled s at nums r after e h = subst (λ (t : Bool). Reads (line_left t s at) nums r after) (sym e) h

pub returns : goal.returns
returns c = as_it_is _ _ _ _ _ _ c.if-filled.false c.line_at.ensures
