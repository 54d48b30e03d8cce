-- What another number in place of a scantling does to the verdict, over any list of rules: it is a pass or a later rule exactly where the rule named is met.
-- Assumes nothing.
use Rattle.std.specs.Prelude.{ℕ, ◌≤◌, ◌<◌, ◌≡◌, Bool, true, false, cond, List, [], ◌∷◌}
use Rattle.std.proofs.Common.{sym, ap, subst, ◌∙◌, arith, eq-eqb, ne_eqb}
use Rattle.verdict.specs.declared.Verdict.{Verdict}
use Rattle.verdict.specs.Verdict.{Rule, failing, verdict_of, met_in}
use Rattle.verdict.specs.Raising.{AllMonotone, Failing, here, there, the_rule, Rising, Later, passed, above, AllPut}
use Rattle.verdict.specs.laws.RaisingLaws.{failing_above, later_of, names, has_under}

rising_put : (n k x : ℕ) (low : Type 0) (rs ss : List Rule) → AllPut k x low rs ss → Rising n rs → Rising n ss
rising_put n k x low [] [] a o = tt
rising_put n k x low (r ∷ rs) (s ∷ ss) a o =
    (omega (arith, a.0.number, o.0), subst (λ (m : ℕ). Rising m ss) (sym a.0.number) (rising_put r.number k x low rs ss a.1 o.1))
rising_put n k x low [] (s ∷ ss) a o = elim a [ ]
rising_put n k x low (r ∷ rs) [] a o = elim a [ ]

-- the verdict of a rule that is not above k is not later than k
not_later : (n k : ℕ) (s : Rule) → n < s.number → s.number ≤ k → Later k (failing s) → ⊥
not_later n k s l m (passed p) = omega (arith, ap (λ (v : Verdict). v.rule) p)
not_later n k s l m (above a) = omega arith

module _ (x : ℕ) (low : Type 0) (v : Verdict) where
  -- the rule named asks of x what it asked before
  pub put_met : (n : ℕ) (rs ss : List Rule) → Rising n rs → AllPut v.rule x low rs ss → (f : Failing v rs) → met_in v.rule ss ≡ (the_rule f).asks x
  put_met n (r ∷ rs) (s ∷ ss) o a (here f e) =
      let number : r.number ≡ v.rule = sym (ap (λ (w : Verdict). w.rule) e) in
      let same : s.asks s.has ≡ r.asks x = ap (λ (g : ℕ → Bool). g s.has) a.0.asks ∙ ap r.asks (a.0.named number) in
      rw (eq-eqb s.number v.rule (a.0.number ∙ number)) same
  put_met n (r ∷ rs) (s ∷ ss) o a (there t f) =
      let l = failing_above r.number v rs o.1 f in
      rw (ne_eqb s.number v.rule (λ e. omega (arith, a.0.number))) (put_met r.number rs ss o.1 a.1 f)
  put_met n [] ss o a f = elim f [ ]
  put_met n (r ∷ rs) [] o a f = elim a [ ]

  -- where it is met, the verdict is a pass or a later rule
  pub put_later : (n : ℕ) (rs ss : List Rule) → Rising n rs → AllMonotone rs → AllPut v.rule x low rs ss → low → (f : Failing v rs) → (the_rule f).asks x ≡ true → Later v.rule (verdict_of ss)
  put_later n (r ∷ rs) (s ∷ ss) o m a l (here f e) t =
      let number : v.rule ≡ r.number = ap (λ (w : Verdict). w.rule) e in
      let met : s.asks s.has ≡ true = ap (λ (g : ℕ → Bool). g s.has) a.0.asks ∙ ap r.asks (a.0.named (sym number)) ∙ t in
      rw met (subst (λ (j : ℕ). Later j (verdict_of ss)) (sym number) (later_of r.number ss (rising_put r.number v.rule x low rs ss a.1 o.1)))
  put_later n (r ∷ rs) (s ∷ ss) o m a l (there u f) t =
      let met : s.asks s.has ≡ true = ap (λ (g : ℕ → Bool). g s.has) a.0.asks ∙ m.0 r.has s.has (a.0.no_lower l) u in
      rw met (put_later r.number rs ss o.1 m.1 a.1 l f t)
  put_later n [] ss o m a l f t = elim f [ ]
  put_later n (r ∷ rs) [] o m a l f t = elim a [ ]

  -- and where it is not, it is neither
  pub put_fails : (n : ℕ) (rs ss : List Rule) → Rising n rs → AllPut v.rule x low rs ss → (f : Failing v rs) → (the_rule f).asks x ≡ false → Later v.rule (verdict_of ss) → ⊥
  put_fails n (r ∷ rs) (s ∷ ss) o a (here f e) t w =
      let number : v.rule ≡ r.number = ap (λ (w : Verdict). w.rule) e in
      let not : s.asks s.has ≡ false = ap (λ (g : ℕ → Bool). g s.has) a.0.asks ∙ ap r.asks (a.0.named (sym number)) ∙ t in
      not_later n v.rule s (omega (arith, a.0.number, o.0)) (omega (arith, a.0.number)) (rw not at w)
  put_fails n (r ∷ rs) (s ∷ ss) o a (there u f) t w = go (s.asks s.has) (put_fails r.number rs ss o.1 a.1 f t) w
    where
      go : (b : Bool) → (Later v.rule (verdict_of ss) → ⊥) → Later v.rule (cond b (verdict_of ss) (failing s)) → ⊥
      go true on z = on z
      go false on z = not_later n v.rule s (omega (arith, a.0.number, o.0)) (omega (arith, a.0.number, failing_above r.number v rs o.1 f)) z
  put_fails n [] ss o a f t w = elim f [ ]
  put_fails n (r ∷ rs) [] o a f t w = elim a [ ]

-- raised to the number required, the verdict is a pass or a later rule
pub raised_later : (n : ℕ) (v : Verdict) (rs ss : List Rule) (f : Failing v rs) → Rising n rs → AllMonotone rs
    → AllPut v.rule v.required ((the_rule f).has ≤ v.required) rs ss → 1 ≤ v.required → Later v.rule (verdict_of ss)
raised_later n v rs ss f o m a q = put_later v.required ((the_rule f).has ≤ v.required) v n rs ss o m a (omega (arith, (has_under f m q).0)) f ((names f m).least.meets q)
