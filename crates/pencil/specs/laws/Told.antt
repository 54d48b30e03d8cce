-- A rule whose test a shape says: what is told of its least number is so.
-- Assumes nothing.
use Rattle.std.specs.Prelude.{ℕ, suc, ◌+◌, ◌≤◌, Bool, true, false, ◌≡◌, leb, Some}
use Rattle.std.proofs.Common.{sym, ap, ◌∙◌, arith, le-leb}
use Rattle.std.proofs.Math.Decide.{dec_le}
use Rattle.std.proofs.lemmas.Bool.{lt-leb}
use Rattle.gauge.specs.declared.Shape.{Shape}
use Rattle.gauge.specs.Least.{least_in, number_of, IsLeast}
use Rattle.gauge.specs.laws.LeastLaws.{least_is_lem, smaller_fails, larger_passes, none_passes, number_zero, number_least}
use Rattle.gauge.specs.Shape.{meets_of, least_of, Says}
use Rattle.gauge.specs.laws.ShapeLaws.{least_said, monotone}
use Rattle.gauge.specs.Worked.{first_in}
use Rattle.gauge.specs.laws.WorkedLaws.{first_near}

module _ (d : Shape) (top : ℕ) (test : ℕ → Bool) (says : Says d top test) where
  -- the least number that is told is the least of the gauge that meets the rule
  pub least_told : number_of (least_of d top) ≡ number_of (least_in test top)
  least_told = ap number_of (least_said d top test says)

  -- `k meets the rule, k − 1 does not`
  pub told_meets : (k : ℕ) → number_of (least_of d top) ≡ suc k → test (suc k) ≡ true
  told_meets k e = (least_is_lem test top (suc k) (number_least test top k (sym least_told ∙ e))).passes

  pub told_less : (k : ℕ) → number_of (least_of d top) ≡ suc k → 1 ≤ k → test k ≡ false
  told_less k e l = smaller_fails test top (suc k) (number_least test top k (sym least_told ∙ e)) k l (omega arith)

  -- `x does not meet the rule, k does`: where the least number is not the one from the rounding, it is the next
  pub told_next : (k : ℕ) → number_of (least_of d top) ≡ suc k → (suc k ≡ first_in d → ⊥) → first_in d ≡ k
  told_next k e n =
      let near = first_near d top (suc k) (least_said d top test says ∙ number_least test top k (sym least_told ∙ e)) in
      go (dec_le (first_in d) k) near
    where
      go : Dec (first_in d ≤ k) → (first_in d ≤ suc k) × (suc k ≤ first_in d + 1) → first_in d ≡ k
      go (yes l) near = omega (arith, near.0, near.1)
      go (no l) near = absurd (n (omega (arith, near.0, near.1)))

  -- `has x: met` or `has x: fails`: a scantling meets the rule exactly where it is no less than the least number
  pub told_met : (k : ℕ) → number_of (least_of d top) ≡ suc k → (x : ℕ) → 1 ≤ x → x ≤ top → test x ≡ leb (suc k) x
  told_met k e x l h = go (dec_le (suc k) x)
    where
      at : least_in test top ≡ Some (suc k)
      at = number_least test top k (sym least_told ∙ e)

      go : Dec (suc k ≤ x) → test x ≡ leb (suc k) x
      go (yes m) = sym (says x l h) ∙ larger_passes (meets_of d) (monotone d) top (suc k) (least_said d top test says ∙ at) x m ∙ sym (le-leb (suc k) x m)
      go (no m) = smaller_fails test top (suc k) at x l (omega arith) ∙ sym (lt-leb (suc k) x (omega arith))

  -- `the gauge's last does not meet the rule`: nor does any other
  pub told_none : number_of (least_of d top) ≡ 0 → (j : ℕ) → 1 ≤ j → j ≤ top → test j ≡ false
  told_none e = none_passes test top (number_zero test top (sym least_told ∙ e))

  -- `least k`
  pub told_least : (k : ℕ) → number_of (least_of d top) ≡ suc k → IsLeast test 1 (top + 1) (suc k)
  told_least k e = least_is_lem test top (suc k) (number_least test top k (sym least_told ∙ e))
