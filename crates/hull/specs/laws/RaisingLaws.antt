-- A record whose failing scantling is raised stays within its values, and passes or fails a later rule; three raisings are enough.
-- Assumes nothing.
use Rattle.std.specs.Prelude.{ℕ, zero, suc, ◌+◌, ◌≤◌, ◌<◌, ◌≡◌, refl, Bool, true, false, cond, eqb}
use Rattle.std.proofs.Common.{ap, arith, eqb-true}
use Rattle.std.proofs.lemmas.Bool.{eqb-false}
use Rattle.sheet.specs.declared.Header.{Header}
use Rattle.sheet.specs.declared.Body.{Body}
use Rattle.sheet.specs.declared.Body.TheVariants.{Plate as isPlate, Member as isMember}
use Rattle.sheet.specs.declared.Record.{Record}
use Rattle.sheet.specs.Record.{record_fault}
use Rattle.verdict.specs.declared.Verdict.{Verdict}
use Rattle.verdict.specs.Raising.{AllMonotone, Failing, Later, passed, above}
use Rattle.verdict.specs.laws.RaisingLaws.{failing_of, failing_above, has_under}
use Rattle.verdict.specs.laws.PutLaws.{raised_later}
use Rattle.plating.specs.laws.Laws.{plate_monotone}
use Rattle.framing.specs.Rules.{member_line}
use Rattle.framing.specs.laws.Laws.{rule4_monotone, rule5_monotone, rule6_monotone}
use Rattle.hull.specs.Hull.{body_rules, rules_of, verdict}
use Rattle.hull.specs.Raising.{raised_body, raised, base, raised_once, raised_times}
use Rattle.hull.specs.laws.PutLaws.{rules_rising, failing_own, rule_top, body_put, own_sound}

-- every rule of the hull is monotone in its scantling
pub rules_monotone : (h : Header) (kind : ℕ) (b : Body) → AllMonotone (body_rules h kind b)
rules_monotone h kind (isPlate p) = let m = plate_monotone h kind p in (m.0, (m.1, (m.2, tt)))
rules_monotone h kind (isMember m) = (
  rule4_monotone kind h.length.0 m.factor.0 m.spacing.0,
  (
    rule5_monotone kind m.bending m.eta m.stress (member_line h kind m) m.span.0,
    (rule6_monotone kind m.shear m.eta (member_line h kind m) m.span.0, tt),
  ),
)

-- ---- a later rule

module _ (h : Header) (r : Record) where
  -- a verdict with a number is that of a rule which fails
  pub with_number : 1 ≤ (verdict h r).required → Failing (verdict h r) (rules_of h r)
  with_number q = failing_of (rules_of h r) (λ p. omega (arith, ap (λ (v : Verdict). v.required) p))

  -- put the number in place of the failing scantling: the verdict is a pass or a later rule
  pub raising_later : 1 ≤ (verdict h r).required → Failing (verdict h r) (rules_of h r) → Later (verdict h r).rule (verdict h (raised (verdict h r) r))
  raising_later q f =
      raised_later (base r.body) (verdict h r) (rules_of h r) (rules_of h (raised (verdict h r) r)) f (rules_rising h r.kind r.body) (rules_monotone h r.kind r.body)
      (body_put h r.kind r.body (verdict h r) f (verdict h r).required) q

  -- and the record stays within its values
  pub raising_sound : 1 ≤ (verdict h r).required → Failing (verdict h r) (rules_of h r) → record_fault r 0 ≡ 0 → record_fault (raised (verdict h r) r) 0 ≡ 0
  raising_sound q f e =
      own_sound r.kind r.id r.body (verdict h r).rule (verdict h r).required (failing_own h r.kind r.body (verdict h r) f)
      (q, omega (arith, (has_under f (rules_monotone h r.kind r.body) q).1, rule_top h r.kind r.body (verdict h r) f)) e

-- ---- three raisings are enough

same_base : (v : Verdict) (b : Body) → base (raised_body v b) ≡ base b
same_base v (isPlate p) = refl
same_base v (isMember m) = refl

-- with a number, so many raisings are enough as there are rules from the one that fails on
Enough : ℕ → Header → Record → Type 0
Enough k h r = 1 ≤ (verdict h r).required → base r.body + 3 < (verdict h r).rule + k

settles : (k : ℕ) (h : Header) (r : Record) → Enough k h r → (verdict h (raised_times k h r)).required ≡ 0
unfolding Enough raised_times raised_once
settles zero h r e = go (verdict h r).required refl
  where
    go : (q : ℕ) → (verdict h r).required ≡ q → q ≡ 0
    go zero z = refl
    go (suc q) z =
        let l : 1 ≤ (verdict h r).required = omega arith in
        absurd (omega (arith, e l, (failing_own h r.kind r.body (verdict h r) (with_number h r l)).1))
settles (suc k) h r e = go (eqb (verdict h r).required 0) refl (settles k h r) (settles k h (raised (verdict h r) r))
  where
    go : (b : Bool) → eqb (verdict h r).required 0 ≡ b → (Enough k h r → (verdict h (raised_times k h r)).required ≡ 0)
        → (Enough k h (raised (verdict h r) r) → (verdict h (raised_times k h (raised (verdict h r) r))).required ≡ 0)
        → (verdict h (raised_times k h (cond b r (raised (verdict h r) r)))).required ≡ 0
    go true z stays moves = stays (λ l. absurd (omega (arith, eqb-true (verdict h r).required 0 z)))
    go false z stays moves =
        let l : 1 ≤ (verdict h r).required = omega (arith, eqb-false (verdict h r).required 0 z) in
        moves (λ q. after q (raising_later h r l (with_number h r l)) (e l))
      where
        after : 1 ≤ (verdict h (raised (verdict h r) r)).required → Later (verdict h r).rule (verdict h (raised (verdict h r) r))
            → base r.body + 3 < (verdict h r).rule + suc k → base (raised_body (verdict h r) r.body) + 3 < (verdict h (raised (verdict h r) r)).rule + k
        after q (passed p) m = absurd (omega (arith, ap (λ (v : Verdict). v.required) p))
        after q (above n) m = omega (arith, same_base (verdict h r) r.body)

-- after at most three raisings the record passes or stands at a rule with no number
pub three_raisings : (h : Header) (r : Record) → (verdict h (raised_times 3 h r)).required ≡ 0
unfolding Enough
three_raisings h r =
    settles 3 h r (λ q. omega (arith, failing_above (base r.body) (verdict h r) (rules_of h r) (rules_rising h r.kind r.body) (with_number h r q)))
