-- A record with another number in place of the scantling that a rule of its own speaks of: that rule asks of it what it asked before, and the record stays within its values.
-- Assumes nothing.
use Rattle.std.specs.Prelude.{ℕ, ◌+◌, ◌≤◌, ◌≡◌, refl, Bool, true, false, eqb}
use Rattle.std.proofs.Common.{sym, subst, ◌∙◌, arith, lit<, lit≤, ne_eqb}
use Rattle.std.proofs.Math.Path.{ap}
use Rattle.std.proofs.Math.Decide.{ℕ_discrete}
use Rattle.std.proofs.lemmas.Bool.{eqb-false}
use Rattle.quantity.specs.Range.{within, thickness, modulus, shear_area}
use Rattle.quantity.specs.laws.RangeLaws.{lies_within}
use Rattle.layout.specs.laws.LineLaws.{all_none}
use Rattle.sheet.specs.declared.Header.{Header}
use Rattle.sheet.specs.declared.Plate.{Plate}
use Rattle.sheet.specs.declared.Member.{Member}
use Rattle.sheet.specs.declared.Body.{Body}
use Rattle.sheet.specs.declared.Body.TheVariants.{Plate as isPlate, Member as isMember}
use Rattle.sheet.specs.Lines.{plate_lines, member_lines}
use Rattle.sheet.specs.Record.{plate_values, member_values, plate_fault, member_fault, body_fault}
use Rattle.sheet.specs.laws.RecordLaws.{plate_allowed, member_allowed}
use Rattle.verdict.specs.declared.Verdict.{Verdict}
use Rattle.verdict.specs.Verdict.{Rule}
use Rattle.verdict.specs.Raising.{All, Failing, here, there, the_rule, Rising, Put, AllPut}
use Rattle.verdict.specs.laws.RaisingLaws.{failing_above, all_at, number_of_lem}
use Rattle.framing.specs.Rules.{member_rules, member_line}
use Rattle.hull.specs.Hull.{body_rules}
use Rattle.hull.specs.Raising.{raised_plate, with_scantlings, put_body, gauge_top, InGauge, base, OwnRule}

-- ---- the rules of a body

pub rules_rising : (h : Header) (kind : ℕ) (b : Body) → Rising (base b) (body_rules h kind b)
rules_rising h kind (isPlate p) = (lit< tt, (lit< tt, (lit< tt, tt)))
rules_rising h kind (isMember m) = (lit< tt, (lit< tt, (lit< tt, tt)))

-- the rules are three, each with the gauge of its number
Numbered : Body → Rule → Type 0
Numbered b r = (r.number ≤ base b + 3) × (r.top ≡ gauge_top r.number)

rules_numbered : (h : Header) (kind : ℕ) (b : Body) → All (Numbered b) (body_rules h kind b)
unfolding Numbered
rules_numbered h kind (isPlate p) = ((lit≤ tt, refl), ((lit≤ tt, refl), ((lit≤ tt, refl), tt)))
rules_numbered h kind (isMember m) = ((lit≤ tt, refl), ((lit≤ tt, refl), ((lit≤ tt, refl), tt)))

module _ (h : Header) (kind : ℕ) (b : Body) (v : Verdict) (f : Failing v (body_rules h kind b)) where
  -- a rule that fails is one of the body's own
  pub failing_own : OwnRule b v.rule
  unfolding Numbered
  failing_own = (
    omega (arith, failing_above (base b) v (body_rules h kind b) (rules_rising h kind b) f),
    omega (arith, number_of_lem f, (all_at (Numbered b) (rules_numbered h kind b) f).0),
  )

  -- its gauge is that of its number
  pub rule_top : (the_rule f).top ≡ gauge_top v.rule
  unfolding Numbered
  rule_top = (all_at (Numbered b) (rules_numbered h kind b) f).1 ∙ ap gauge_top (sym (number_of_lem f))

-- a rule whose scantling is x now, and one that keeps its own
exchanged : (k x number top has : ℕ) (asks : ℕ → Bool)
    → Put k x (has ≤ x) (record { number = number; asks = asks; top = top; has = has }) (record { number = number; asks = asks; top = top; has = x })
exchanged k x number top has asks = record { number = refl; asks = refl; named = λ e. refl; no_lower = λ l. l }

kept : (k x number top has : ℕ) (low : Type 0) (asks : ℕ → Bool) → eqb number k ≡ false
    → Put k x low (record { number = number; asks = asks; top = top; has = has }) (record { number = number; asks = asks; top = top; has = has })
kept k x number top has low asks n = record { number = refl; asks = refl; named = λ e. absurd (eqb-false number k n e); no_lower = λ l. omega arith }

-- the rules of a body with x in that place
pub body_put : (h : Header) (kind : ℕ) (b : Body) (v : Verdict) (f : Failing v (body_rules h kind b)) (x : ℕ)
    → AllPut v.rule x ((the_rule f).has ≤ x) (body_rules h kind b) (body_rules h kind (put_body v.rule x b))
unfolding member_line
body_put h kind (isPlate p) v (there t (there u (there _ x25))) x = elim x25 [ ]
body_put h kind (isMember m) v (there t (there u (there _ x26))) x = elim x26 [ ]
body_put h kind (isPlate p) v (here f e) x = (exchanged _ x _ _ _ _, (exchanged _ x _ _ _ _, (exchanged _ x _ _ _ _, tt)))
body_put h kind (isPlate p) v (there t (here f e)) x = (exchanged _ x _ _ _ _, (exchanged _ x _ _ _ _, (exchanged _ x _ _ _ _, tt)))
body_put h kind (isPlate p) v (there t (there u (here f e))) x = (exchanged _ x _ _ _ _, (exchanged _ x _ _ _ _, (exchanged _ x _ _ _ _, tt)))
body_put h kind (isMember m) v (here f e) x =
    subst (λ (k : ℕ). AllPut k x (m.thickness.0 ≤ x) (member_rules h kind m) (body_rules h kind (put_body k x (isMember m)))) (sym (ap (λ (w : Verdict). w.rule) e))
    (exchanged 4 x _ _ _ _, (kept 4 x _ _ _ _ _ refl, (kept 4 x _ _ _ _ _ refl, tt)))
body_put h kind (isMember m) v (there t (here f e)) x =
    subst (λ (k : ℕ). AllPut k x (m.modulus.0 ≤ x) (member_rules h kind m) (body_rules h kind (put_body k x (isMember m)))) (sym (ap (λ (w : Verdict). w.rule) e))
    (kept 5 x _ _ _ _ _ refl, (exchanged 5 x _ _ _ _, (kept 5 x _ _ _ _ _ refl, tt)))
body_put h kind (isMember m) v (there t (there u (here f e))) x =
    subst (λ (k : ℕ). AllPut k x (m.area.0 ≤ x) (member_rules h kind m) (body_rules h kind (put_body k x (isMember m)))) (sym (ap (λ (w : Verdict). w.rule) e))
    (kept 6 x _ _ _ _ _ refl, (kept 6 x _ _ _ _ _ refl, (exchanged 6 x _ _ _ _, tt)))

-- ---- within its values

-- a member with other scantlings within their values
member_sound : (kind id : ℕ) (m : Member) (T W A : ℕ) → member_fault kind id m ≡ 0 → within thickness T ≡ true → within modulus W ≡ true → within shear_area A ≡ true
    → member_fault kind id (with_scantlings T W A m) ≡ 0
unfolding member_fault
member_sound kind id m T W A e t w a =
    let b = member_allowed kind id m e in
    let c = b.1.1.1.1.1 in
    all_none 1 (member_lines kind) (member_values kind id (with_scantlings T W A m))
    (b.0, (b.1.0, (b.1.1.0, (b.1.1.1.0, (b.1.1.1.1.0, (t, (c.1.0, (c.1.1.0, (c.1.1.1.0, (c.1.1.1.1.0, (w, (a, c.1.1.1.1.1.1.1))))))))))))

-- a plate with another thickness within its values
plate_sound : (kind id : ℕ) (p : Plate) (T : ℕ) → plate_fault kind id p 0 ≡ 0 → within thickness T ≡ true → plate_fault kind id (raised_plate T p) 0 ≡ 0
unfolding plate_fault
plate_sound kind id p T e t =
    let a = plate_allowed kind id p 0 e in
    all_none 1 (plate_lines kind p.ballast p.z.0) (plate_values kind id (raised_plate T p) 0)
    (a.0, (a.1.0, (a.1.1.0, (a.1.1.1.0, (a.1.1.1.1.0, (t, a.1.1.1.1.1.1))))))

-- with x of its gauge in place of the scantling that a rule of the body speaks of
pub own_sound : (kind id : ℕ) (b : Body) (k x : ℕ) → OwnRule b k → InGauge k x → body_fault kind id b 0 ≡ 0 → body_fault kind id (put_body k x b) 0 ≡ 0
own_sound kind id (isPlate p) k x own g e = plate_sound kind id p x e (lies_within thickness x g.0 (rw (ne_eqb k 5 (λ f. omega (arith, own.1)), ne_eqb k 6 (λ f. omega (arith, own.1))) at g.1))
own_sound kind id (isMember m) k x own g e = go (ℕ_discrete k 4) (ℕ_discrete k 5)
  where
    T : within thickness m.thickness.0 ≡ true
    T = (member_allowed kind id m e).1.1.1.1.1.0

    W : within modulus m.modulus.0 ≡ true
    W = (member_allowed kind id m e).1.1.1.1.1.1.1.1.1.1.0

    A : within shear_area m.area.0 ≡ true
    A = (member_allowed kind id m e).1.1.1.1.1.1.1.1.1.1.1.0

    -- rule k is rule j
    at : (j : ℕ) → k ≡ j → (x ≤ gauge_top j → body_fault kind id (put_body j x (isMember m)) 0 ≡ 0) → body_fault kind id (put_body k x (isMember m)) 0 ≡ 0
    at j q z = subst (λ (i : ℕ). body_fault kind id (put_body i x (isMember m)) 0 ≡ 0) (sym q) (z (subst (λ (i : ℕ). x ≤ gauge_top i) q g.1))

    go : Dec (k ≡ 4) → Dec (k ≡ 5) → body_fault kind id (put_body k x (isMember m)) 0 ≡ 0
    go (yes q) five = at 4 q (λ n. member_sound kind id m x m.modulus.0 m.area.0 e (lies_within thickness x g.0 n) W A)
    go (no q) (yes f) = at 5 f (λ n. member_sound kind id m m.thickness.0 x m.area.0 e T (lies_within modulus x g.0 n) A)
    go (no q) (no f) = at 6 (omega (arith, own)) (λ n. member_sound kind id m m.thickness.0 m.modulus.0 x e T W (lies_within shear_area x g.0 n))
