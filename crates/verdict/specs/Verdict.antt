-- The verdict on one member: the first rule that fails, in their order, with the least number of the gauge that meets it.
use Rattle.std.specs.Prelude.{ℕ, Bool, false, cond, List, [], ◌∷◌, eqb}
use Rattle.gauge.specs.declared.Shape.{Shape}
use Rattle.gauge.specs.Least.{least_in, number_of}
use Rattle.gauge.specs.Shape.{least_of}
use Rattle.verdict.specs.declared.Verdict.{Verdict}

-- a rule as one member has to answer to it: its number, what it asks of the scantling, the gauge's top, and the scantling that the member has
pub record Rule : Type 0 where
  pub number : ℕ
  pub asks : ℕ → Bool
  pub top : ℕ
  pub has : ℕ

-- rule 0, nothing required
abbrev pub pass : Verdict
pass = record { rule = 0; required = 0 }

-- a failed rule and the least number of the gauge that meets it, 0 where none does
abbrev pub failing : Rule → Verdict
failing r = record { rule = r.number; required = number_of (least_in r.asks r.top) }

-- the first rule that fails, in their order
abbrev pub verdict_of : List Rule → Verdict
verdict_of [] = pass
verdict_of (r ∷ rs) = cond (r.asks r.has) (verdict_of rs) (failing r)

-- whether the rule of this number is met, among these
abbrev pub met_in : ℕ → List Rule → Bool
met_in k [] = false
met_in k (r ∷ rs) = cond (eqb r.number k) (r.asks r.has) (met_in k rs)

-- a failed rule given as a shape
abbrev pub failed_of : ℕ → Shape → ℕ → Verdict
failed_of number d top = record { rule = number; required = number_of (least_of d top) }
