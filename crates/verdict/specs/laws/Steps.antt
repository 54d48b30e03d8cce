-- A verdict, one rule at a time: a rule that a shape says is failed, or met and left to the later ones, as the shape is.
-- Assumes nothing.
use Rattle.std.specs.Prelude.{◌≤◌, Bool, true, false, not, List, ◌∷◌, ◌≡◌}
use Rattle.std.proofs.Common.{sym, ◌∙◌}
use Rattle.std.proofs.lemmas.Bool.{not-true, not-false}
use Rattle.gauge.specs.declared.Shape.{Shape}
use Rattle.gauge.specs.Shape.{meets_of, Says}
use Rattle.gauge.specs.laws.ShapeLaws.{least_said}
use Rattle.verdict.specs.Verdict.{Rule, verdict_of, failed_of}

-- what the first rule's shape tells of the verdict
pub record Step (d : Shape) (r : Rule) (rs : List Rule) (meets : Bool) : Type 0 where
  pub fails : not meets ≡ true → failed_of r.number d r.top ≡ verdict_of (r ∷ rs)
  pub passes : not meets ≡ false → verdict_of (r ∷ rs) ≡ verdict_of rs

pub step : (d : Shape) (r : Rule) (rs : List Rule) {meets : Bool} → Says d r.top r.asks → 1 ≤ r.has → r.has ≤ r.top → meets ≡ meets_of d r.has → Step d r rs meets
step d r rs {meets} says low high is =
    let asked : r.asks r.has ≡ meets = sym (says r.has low high) ∙ sym is in
    record {
      fails = λ e. rw (asked ∙ not-true meets e, least_said d r.top r.asks says);
      passes = λ e. rw (asked ∙ not-false meets e);
    }
