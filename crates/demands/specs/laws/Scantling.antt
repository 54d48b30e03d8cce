-- A record with x in place of the scantling that its failing rule speaks of: that rule is met, and the verdict is a pass or a later rule, exactly when x is not
-- below the number required.
-- Assumes nothing.
use Rattle.std.specs.Prelude.{ℕ, zero, suc, ◌≤◌, ◌<◌, ◌≡◌, refl, Bool, true, false}
use Rattle.std.proofs.Common.{sym, ap, ◌∙◌, arith}
use Rattle.std.proofs.Math.Decide.{dec_lt}
use Rattle.truth.specs.laws.Tests.{clash}
use Rattle.sheet.specs.declared.Header.{Header}
use Rattle.sheet.specs.declared.Record.{Record}
use Rattle.sheet.specs.Exactly.{Exactly}
use Rattle.verdict.specs.declared.Verdict.{Verdict}
use Rattle.verdict.specs.Verdict.{met_in}
use Rattle.verdict.specs.Raising.{Failing, Later, AllMonotone, Required, the_rule}
use Rattle.verdict.specs.laws.RaisingLaws.{failing_of, failing_above, names, has_under}
use Rattle.verdict.specs.laws.PutLaws.{put_met, put_later, put_fails}
use Rattle.hull.specs.Hull.{rules_of, verdict}
use Rattle.hull.specs.Raising.{put_record, gauge_top, InGauge, base, OwnRule}
use Rattle.hull.specs.laws.PutLaws.{rules_rising, failing_own, rule_top, body_put}
use Rattle.hull.specs.laws.RaisingLaws.{rules_monotone}
use Rattle.demands.specs.Raise.{Reaches}

pub rule_above : (h : Header) (r : Record) → Failing (verdict h r) (rules_of h r) → 1 ≤ (verdict h r).rule
rule_above h r f = omega (arith, failing_above (base r.body) (verdict h r) (rules_of h r) (rules_rising h r.kind r.body) f)

module _ (h : Header) (r : Record) (some : 1 ≤ (verdict h r).rule) where
  failing_rule : Failing (verdict h r) (rules_of h r)
  failing_rule = failing_of (rules_of h r) (λ p. omega (arith, ap (λ (v : Verdict). v.rule) p))

  monotone : AllMonotone (rules_of h r)
  monotone = rules_monotone h r.kind r.body

  least : Required (the_rule failing_rule).asks (the_rule failing_rule).top (verdict h r).required
  least = (names failing_rule monotone).least

  top : (the_rule failing_rule).top ≡ gauge_top (verdict h r).rule
  top = rule_top h r.kind r.body (verdict h r) failing_rule

  -- the rule named is the record's own
  pub named_own : OwnRule r.body (verdict h r).rule
  named_own = failing_own h r.kind r.body (verdict h r) failing_rule

  -- the number is in the gauge
  pub number_in_gauge : (verdict h r).required ≤ gauge_top (verdict h r).rule
  number_in_gauge = go (verdict h r).required refl
    where
      go : (n : ℕ) → (verdict h r).required ≡ n → n ≤ gauge_top (verdict h r).rule
      go zero e = omega arith
      go (suc n) e = omega (arith, least.within (omega arith), top)

  module _ (x : ℕ) (gauge : InGauge (verdict h r).rule x) where
    -- what the rule says of x
    asked : (the_rule failing_rule).asks x ≡ met_in (verdict h r).rule (rules_of h (put_record (verdict h r).rule x r))
    asked =
        sym
        (put_met x ((the_rule failing_rule).has ≤ x) (verdict h r) (base r.body) (rules_of h r) (rules_of h (put_record (verdict h r).rule x r)) (rules_rising h r.kind r.body)
        (body_put h r.kind r.body (verdict h r) failing_rule x)
        failing_rule)

    -- x meets the rule exactly when it is not below the number
    asks_exactly : Exactly ((the_rule failing_rule).asks x ≡ true) (Reaches (verdict h r).required x)
    asks_exactly = (λ e. go (verdict h r).required refl e, λ b. least.larger b.0 x b.1)
      where
        go : (n : ℕ) → (verdict h r).required ≡ n → (the_rule failing_rule).asks x ≡ true → Reaches n x
        go zero e t = clash t (least.none e x gauge.0 (omega (arith, gauge.1, top)))
        go (suc n) e t = (omega arith, inside (dec_lt x (suc n)))
          where
            inside : Dec (x < suc n) → suc n ≤ x
            inside (yes l) = clash t (least.smaller x gauge.0 (omega arith))
            inside (no l) = omega arith

    pub met_exactly : Exactly (met_in (verdict h r).rule (rules_of h (put_record (verdict h r).rule x r)) ≡ true) (Reaches (verdict h r).required x)
    met_exactly = (λ e. asks_exactly.0 (asked ∙ e), λ b. sym asked ∙ asks_exactly.1 b)

    -- and then the verdict is a pass or a later rule
    pub later_exactly : Exactly (Later (verdict h r).rule (verdict h (put_record (verdict h r).rule x r))) (Reaches (verdict h r).required x)
    later_exactly = (λ w. go ((the_rule failing_rule).asks x) refl w, back)
      where
        go : (b : Bool) → (the_rule failing_rule).asks x ≡ b → Later (verdict h r).rule (verdict h (put_record (verdict h r).rule x r)) → Reaches (verdict h r).required x
        go true e w = asks_exactly.0 e
        go false e w =
            absurd
            (put_fails x ((the_rule failing_rule).has ≤ x) (verdict h r) (base r.body) (rules_of h r) (rules_of h (put_record (verdict h r).rule x r)) (rules_rising h r.kind r.body)
            (body_put h r.kind r.body (verdict h r) failing_rule x)
            failing_rule
            e
            w)

        back : Reaches (verdict h r).required x → Later (verdict h r).rule (verdict h (put_record (verdict h r).rule x r))
        back b =
            put_later x ((the_rule failing_rule).has ≤ x) (verdict h r) (base r.body) (rules_of h r) (rules_of h (put_record (verdict h r).rule x r)) (rules_rising h r.kind r.body) monotone
            (body_put h r.kind r.body (verdict h r) failing_rule x)
            (omega (arith, (has_under failing_rule monotone b.0).0))
            failing_rule
            (asks_exactly.1 b)
