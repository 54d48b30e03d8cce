use Rattle.std.proofs.Common.{ℕ, ◌≡◌, List, sym, ap, ◌∙◌}
use Rattle.text.specs.declared.LineEnd.{LineEnd}
use Rattle.text.specs.Line.{line_at, next_by, next_of}
use Rattle.text.proofs.next_start.Goals as goal

-- the place by how the line ends
by_end : (s : List ℕ) (at : ℕ) (e f : LineEnd) → f ≡ e → f ≡ (line_at s at).end → next_by e at ≡ next_of s at
unfolding next_of
by_end s at e f p q = ap (λ (x : LineEnd). next_by x at) (sym p ∙ q)

pub returns-in-More : goal.returns-in-More
returns-in-More c = by_end c.args.text.now c.args.at _ c.line_at-line.result.end c.in-More.is c.line_at-line.ensures.end

pub returns-in-Last : goal.returns-in-Last
returns-in-Last c = by_end c.args.text.now c.args.at _ c.line_at-line.result.end c.in-Last.is c.line_at-line.ensures.end

pub returns-in-Fault : goal.returns-in-Fault
returns-in-Fault c = by_end c.args.text.now c.args.at _ c.line_at-line.result.end c.in-Fault.is c.line_at-line.ensures.end
