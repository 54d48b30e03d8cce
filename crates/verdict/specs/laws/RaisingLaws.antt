-- What a verdict says of the rules, over any list of them.
-- Assumes nothing.
use Rattle.std.specs.Prelude.{ℕ, ◌≤◌, ◌<◌, ◌≡◌, refl, Bool, true, false, List, [], ◌∷◌, Option, Some, None}
use Rattle.std.proofs.Common.{sym, ap, subst, ◌∙◌, arith}
use Rattle.gauge.specs.Least.{least_in, number_of, Monotone}
use Rattle.gauge.specs.laws.LeastLaws.{least_is_lem, smaller_fails, none_passes, none_given, larger_passes, fails_below}
use Rattle.verdict.specs.declared.Verdict.{Verdict}
use Rattle.verdict.specs.Verdict.{Rule, pass, failing, verdict_of}
use Rattle.verdict.specs.Raising.{Required, All, AllMonotone, Failing, here, there, the_rule, Names, Found, passes, fails, Rising, Later, passed, above}

-- ---- the number required

pub required : (asks : ℕ → Bool) (top : ℕ) → Monotone asks → Required asks top (number_of (least_in asks top))
required asks top m = go (least_in asks top) refl
  where
    go : (l : Option ℕ) → least_in asks top ≡ l → Required asks top (number_of l)
    go (Some k) e =
        let i = least_is_lem asks top k e in
        record {
          within = λ h. omega (arith, i.within);
          meets = λ h. i.passes;
          larger = λ h. larger_passes asks m top k e;
          smaller = smaller_fails asks top k e;
          none = λ z. absurd (omega (arith, i.from));
          zero = λ f. let z : Some k ≡ None = sym e ∙ none_given asks top f in ap number_of z;
        }
    go None e =
        record {
          within = λ h. absurd (omega arith);
          meets = λ h. absurd (omega arith);
          larger = λ h. absurd (omega arith);
          smaller = λ j l h. absurd (omega arith);
          none = λ z. none_passes asks top e;
          zero = λ f. refl;
        }

-- a scantling that fails is below the number required, where there is one
pub fails_under : (asks : ℕ → Bool) (top x : ℕ) → Monotone asks → asks x ≡ false → 1 ≤ number_of (least_in asks top) → x < number_of (least_in asks top)
fails_under asks top x m f = go (least_in asks top) refl
  where
    go : (l : Option ℕ) → least_in asks top ≡ l → 1 ≤ number_of l → x < number_of l
    go (Some k) e h = fails_below asks m top k x e f
    go None e h = absurd (omega arith)

-- ---- the first rule that fails

pub found : (rs : List Rule) → Found rs
found [] = passes tt refl
found (r ∷ rs) = go (r.asks r.has) refl (found rs)
  where
    go : (b : Bool) → r.asks r.has ≡ b → Found rs → Found (r ∷ rs)
    go true e (passes m p) = passes (e, m) (rw e p)
    go true e (fails f) =
        let same : verdict_of rs ≡ verdict_of (r ∷ rs) = rw e in
        fails (there {r = r} {rs = rs} e (subst (λ (v : Verdict). Failing v rs) same f))
    go false e w = let v : verdict_of (r ∷ rs) ≡ failing r = rw e in fails (here {r = r} {rs = rs} e v)

-- a verdict that is no pass is that of a rule which fails
pub failing_of : (rs : List Rule) → (verdict_of rs ≡ pass → ⊥) → Failing (verdict_of rs) rs
failing_of rs n = go (found rs)
  where
    go : Found rs → Failing (verdict_of rs) rs
    go (passes m p) = absurd (n p)
    go (fails f) = f

-- what holds of every rule holds of the one named
pub all_at : (P : Rule → Type 0) {v : Verdict} {rs : List Rule} → All P rs → (f : Failing v rs) → P (the_rule f)
all_at P a (here f e) = a.0
all_at P a (there t f) = all_at P a.1 f

pub number_of_lem : {v : Verdict} {rs : List Rule} (f : Failing v rs) → v.rule ≡ (the_rule f).number
number_of_lem (here f e) = ap (λ (w : Verdict). w.rule) e
number_of_lem (there t f) = number_of_lem f

pub names : {v : Verdict} {rs : List Rule} (f : Failing v rs) → AllMonotone rs → Names v (the_rule f)
names (here {r} f e) m =
    record {
      number = ap (λ (w : Verdict). w.rule) e;
      fails = f;
      least = subst (λ (q : ℕ). Required r.asks r.top q) (sym (ap (λ (w : Verdict). w.required) e)) (required r.asks r.top m.0);
    }
names (there t f) m = names f m.1

-- the scantling that fails is below the number, where there is one, and the number is in the gauge
pub has_under : {v : Verdict} {rs : List Rule} (f : Failing v rs) → AllMonotone rs → 1 ≤ v.required → ((the_rule f).has < v.required) × (v.required ≤ (the_rule f).top)
has_under {v} (here {r} f e) m q =
    let s : v.required ≡ number_of (least_in r.asks r.top) = ap (λ (w : Verdict). w.required) e in
    (omega (arith, fails_under r.asks r.top r.has m.0 f (omega arith)), omega (arith, (required r.asks r.top m.0).within (omega arith)))
has_under (there t f) m q = has_under f m.1 q

-- ---- numbers in their order

-- a verdict with a rule has the number of one of them
pub failing_above : (n : ℕ) (v : Verdict) (rs : List Rule) → Rising n rs → Failing v rs → n < v.rule
failing_above n v (r ∷ rs) o (here f e) = subst (λ (w : Verdict). n < w.rule) (sym e) o.0
failing_above n v (r ∷ rs) o (there t f) = omega (arith, failing_above r.number v rs o.1 f, o.0)
failing_above n v [] o x'' = elim x'' [ ]

pub later_of : (n : ℕ) (rs : List Rule) → Rising n rs → Later n (verdict_of rs)
later_of n rs o = go (found rs)
  where
    go : Found rs → Later n (verdict_of rs)
    go (passes m p) = passed p
    go (fails f) = above (failing_above n (verdict_of rs) rs o f)
