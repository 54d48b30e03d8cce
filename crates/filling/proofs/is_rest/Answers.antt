use Rattle.std.proofs.Common.{ℕ, ◌≡◌, ◌<◌, ◌+◌, Bool, true, false, ◌&&◌, List, length, drop, sym, ap, ◌∙◌}
use Rattle.filling.specs.Filling.{blank}
use Rattle.filling.specs.laws.StepLaws.{empty_at, rest_step, rest_end}
use Rattle.filling.proofs.is_rest.Goals as goal

-- by the field that starts here
by_empty : (s : List ℕ) (here : ℕ) (r t : Bool) → here < length s → r ≡ t → r ≡ empty_at s here → (t && blank true (drop (here + 1) s)) ≡ blank true (drop here s)
by_empty s here r t l e f = ap (λ (x : Bool). x && blank true (drop (here + 1) s)) (sym e ∙ f) ∙ sym (rest_step s here l)

pub returns-then-not-is_empty : goal.returns-then-not-is_empty
returns-then-not-is_empty c =
    by_empty c.args.text.now c.loop-here.here c.is_empty.result false c.loop-here-test.true c.if-not-is_empty.true c.is_empty.ensures ∙ c.loop-here.invariant

pub loop-here-preserved : goal.loop-here-preserved
loop-here-preserved c =
    by_empty c.args.text.now c.loop-here.here c.is_empty.result true c.loop-here-test.true c.if-not-is_empty.false c.is_empty.ensures ∙ c.loop-here.invariant

pub returns : goal.returns
returns c = sym (rest_end _ _ c.loop-here-test.false) ∙ c.loop-here.invariant
