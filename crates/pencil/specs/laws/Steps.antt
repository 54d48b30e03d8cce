-- The last step and the result of a rule whose test a shape says.
-- Assumes nothing.
use Prim.Native.Nat.{ℕ, zero, suc, ◌+◌, ◌-◌, ◌*◌, ◌≤◌, ◌<◌}
use Rattle.std.specs.Prelude.{Bool, true, ◌≡◌, List, leb, eqb}
use Rattle.std.proofs.Math.Bool.{false, cond}
use Rattle.std.proofs.Math.Path.{refl, subst}
use Rattle.std.proofs.Common.{sym, ap, ◌∙◌, mul-le-mul_left}
use native.Mathlib.Omega.{arith}
use Rattle.std.proofs.Math.Decide.{dec_le}
use mir.Val.{bool_byte}
use borrow.Author.Tests.{le-leb, lt-leb, leb-true, leb-false, lt-ltb, le-ltb, eqb-true, eqb-false, eq-eqb, ne_eqb}
use Rattle.truth.specs.laws.Tests.{both, clash}
use Rattle.root.specs.Root.{root_of}
use Rattle.gauge.specs.declared.Shape.{Shape}
use Rattle.gauge.specs.declared.Shape.TheVariants.{Floor, Square}
use Rattle.gauge.specs.Ceil.{ceil_of}
use Rattle.gauge.specs.laws.CeilLaws.{ceil_covers}
use Rattle.gauge.specs.Least.{number_of, IsLeast}
use Rattle.gauge.specs.Shape.{meets_of, least_of, Says}
use Rattle.gauge.specs.Worked.{LastStep}
use Rattle.gauge.specs.laws.WorkedLaws.{square_step}
use Rattle.pencil.specs.Registers.{Registers}
use Rattle.pencil.specs.Glossary.{Facts}
use Rattle.pencil.specs.Templates.{templates, says}
use Rattle.pencil.specs.Numbers.{product, rule_numbers}
use Rattle.pencil.specs.Trail.{step_line, result_line}
use Rattle.pencil.specs.laws.Divided.{product_fits}
use Rattle.pencil.specs.laws.Told.{told_meets, told_less, told_next, told_met, told_none, told_least}

-- ---- which line

result_none : (base has : ℕ) → result_line base 0 has ≡ base
result_none base has = omega arith

result_met : (base k has : ℕ) → suc k ≤ has → result_line base (suc k) has ≡ base + 1
result_met base k has l = rw (lt-ltb 0 (suc k) (omega arith), le-ltb has (suc k) l)

result_fails : (base k has : ℕ) → has < suc k → result_line base (suc k) has ≡ base + 2
result_fails base k has l = rw (lt-ltb 0 (suc k) (omega arith), lt-ltb has (suc k) l)

module _ (f : Facts) (g : List ℕ) (p a per : ℕ) (d : Shape) (more : List ℕ) where
  -- the registers of the rule
  abbrev pub regs : Registers
  regs = record { given = g; own = rule_numbers p a per d f.rule.top f.rule.has more }

  abbrev n : ℕ
  n = number_of (least_of d f.rule.top)

  module _ (fair : Says d f.rule.top f.rule.asks) (low : 1 ≤ f.rule.has) (high : f.rule.has ≤ f.rule.top) where
    -- ---- the result

    pub result_holds : (base : ℕ) → (says 77 f regs → says base f regs) → (says 78 f regs → says (base + 1) f regs) → (says 79 f regs → says (base + 2) f regs)
        → says (result_line base n f.rule.has) f regs
    unfolding says templates rule_numbers
    result_holds base u v w = go n refl
      where
        go : (k : ℕ) → n ≡ k → says (result_line base k f.rule.has) f regs
        go zero e =
            let none = told_none d f.rule.top f.rule.asks fair e in
            subst (λ (t : ℕ). says t f regs) (sym (result_none base f.rule.has)) (u (tt, (none, (tt, ((refl, none f.rule.has low high), (tt, tt))))))
        go (suc k) e = by (dec_le (suc k) f.rule.has)
          where
            least : IsLeast f.rule.asks 1 (f.rule.top + 1) n
            least = subst (IsLeast f.rule.asks 1 (f.rule.top + 1)) (sym e) (told_least d f.rule.top f.rule.asks fair k e)

            met : f.rule.asks f.rule.has ≡ leb (suc k) f.rule.has
            met = told_met d f.rule.top f.rule.asks fair k e f.rule.has low high

            by : Dec (suc k ≤ f.rule.has) → says (result_line base (suc k) f.rule.has) f regs
            by (yes l) =
                subst (λ (t : ℕ). says t f regs) (sym (result_met base k f.rule.has l))
                (v (tt, (least, (tt, ((refl, met ∙ le-leb (suc k) f.rule.has l), (tt, (margin, (tt, tt))))))))
              where
                margin : f.rule.has ≡ n + cond (leb n f.rule.has) (f.rule.has - n) (n - f.rule.has)
                margin = rw (le-leb n f.rule.has (omega (arith, e, l))) (omega (arith, e, l))
            by (no l) =
                subst (λ (t : ℕ). says t f regs) (sym (result_fails base k f.rule.has (omega arith)))
                (w (tt, (least, (tt, ((refl, met ∙ lt-leb (suc k) f.rule.has (omega arith)), (tt, (short, (tt, tt))))))))
              where
                short : n ≡ f.rule.has + cond (leb n f.rule.has) (f.rule.has - n) (n - f.rule.has)
                short = rw (lt-leb n f.rule.has (omega (arith, e, l))) (omega (arith, e, l))

-- ---- the last step of a floor: its right side is the least number itself

module _ (f : Facts) (g : List ℕ) (p a per m : ℕ) (more : List ℕ) where
  abbrev floor_regs : Registers
  floor_regs = regs f g p a per (Floor m) more

  module _ (fair : Says (Floor m) f.rule.top f.rule.asks) (low : 1 ≤ f.rule.top) where
    pub floor_holds : (unit : ℕ) → (says 71 f floor_regs → says (71 + unit) f floor_regs) → (says 74 f floor_regs → says (74 + unit) f floor_regs)
        → says (step_line 0 unit false m (number_of (least_of (Floor m) f.rule.top)) f.rule.top) f floor_regs
    unfolding says templates rule_numbers
    floor_holds unit u v = go (number_of (least_of (Floor m) f.rule.top)) refl
      where
        go : (k : ℕ) → number_of (least_of (Floor m) f.rule.top) ≡ k → says (step_line 0 unit false m k f.rule.top) f floor_regs
        go zero e = by (dec_le m f.rule.top)
          where
            by : Dec (m ≤ f.rule.top) → says (step_line 0 unit false m 0 f.rule.top) f floor_regs
            by (yes l) =
                clash (sym (fair f.rule.top low (omega arith)) ∙ le-leb m f.rule.top l) (told_none (Floor m) f.rule.top f.rule.asks fair e f.rule.top low (omega arith))
            by (no l) =
                let past : f.rule.top < m = omega arith in
                let line : step_line 0 unit false m 0 f.rule.top ≡ 74 + unit = rw (lt-ltb f.rule.top m past) in
                subst (λ (t : ℕ). says t f floor_regs) (sym line) (v (tt, ((refl, past), (tt, tt))))
        go (suc zero) e = u (tt, (told_meets (Floor m) f.rule.top f.rule.asks fair 0 e, (tt, tt)))
        go (suc (suc k)) e =
            let least = told_least (Floor m) f.rule.top f.rule.asks fair (suc k) e in
            let meets = leb-true m (suc (suc k)) (fair (suc (suc k)) (omega arith) (omega (arith, least.within)) ∙ least.passes) in
            let fails = leb-false m (suc k) (fair (suc k) (omega arith) (omega (arith, least.within)) ∙ told_less (Floor m) f.rule.top f.rule.asks fair (suc k) e (omega arith)) in
            let same : suc (suc k) ≡ m = omega arith in
            let line : step_line 0 unit false m (suc (suc k)) f.rule.top ≡ 0
            = rw (ne_eqb (suc (suc k)) 1 (λ e. omega arith), ne_eqb (suc (suc k)) 0 (λ e. omega arith), eq-eqb (suc (suc k)) m same) in
            subst (λ (t : ℕ). says t f floor_regs) (sym line) tt

-- ---- that of a square

module _ (f : Facts) (g : List ℕ) (p a per st sh m : ℕ) (more : List ℕ) where
  abbrev square_regs : Registers
  square_regs = regs f g p a per (Square st sh m) more

  -- X of a number, as the registers have it
  abbrev X : ℕ → ℕ
  X t = product st t - sh

  module _ (fair : Says (Square st sh m) f.rule.top f.rule.asks) (low : 1 ≤ f.rule.top) (some : 0 < st) (small : st * f.rule.top < 4294967296) (positive : (t : ℕ) → st * t < sh → 0 < m) where
    abbrev least : ℕ
    least = number_of (least_of (Square st sh m) f.rule.top)

    abbrev start : ℕ
    start = ceil_of (sh + root_of m) st

    module _ (t : ℕ) (l : t ≤ f.rule.top) where
      under : st * t ≤ st * f.rule.top
      under = mul-le-mul_left st l

      exact : X t ≡ st * t - sh
      exact = ap (λ (x : ℕ). x - sh) (product_fits st t st f.rule.top (omega arith) l (omega arith))

      square_exact : product (X t) (X t) ≡ X t * X t
      square_exact = product_fits (X t) (X t) 4294967295 4294967295 (omega (arith, exact, under)) (omega (arith, exact, under)) (omega arith)

      squares : product (X t) (X t) ≡ (st * t - sh) * (st * t - sh)
      squares = square_exact ∙ ap (λ (x : ℕ). x * x) exact

      met : 1 ≤ t → f.rule.asks t ≡ true → m ≤ product (X t) (X t)
      met i e = omega (arith, squares, leb-true m ((st * t - sh) * (st * t - sh)) (both (leb sh (st * t)) (leb m ((st * t - sh) * (st * t - sh))) (fair t i l ∙ e)).1)

      not_met : 1 ≤ t → f.rule.asks t ≡ false → product (X t) (X t) < m
      not_met i e = go (dec_le m ((st * t - sh) * (st * t - sh))) (dec_le sh (st * t))
        where
          go : Dec (m ≤ (st * t - sh) * (st * t - sh)) → Dec (sh ≤ st * t) → product (X t) (X t) < m
          go (yes k) (yes j) =
              let meets : meets_of (Square st sh m) t ≡ true = rw (le-leb sh (st * t) j, le-leb m ((st * t - sh) * (st * t - sh)) k) in
              clash meets (fair t i l ∙ e)
          go (yes k) (no j) =
              let zero_x : st * t - sh ≡ 0 = omega arith in
              absurd (omega (arith, positive t (omega arith), k, ap (λ (x : ℕ). x * x) zero_x))
          go (no k) j = omega (arith, squares)

    -- where the first number is the gauge's last and does not meet the rule
    last : least ≡ 0 → start ≤ f.rule.top → f.rule.top < start + 1
    last e l =
        let reach : sh + root_of m ≤ st * f.rule.top = omega (arith, ceil_covers (sh + root_of m) st some, mul-le-mul_left st l) in
        go (square_step st sh m f.rule.top reach) (dec_le (start + 1) f.rule.top)
      where
        go : LastStep (Square st sh m) start → Dec (start + 1 ≤ f.rule.top) → f.rule.top < start + 1
        go s (yes h) = clash (sym (fair (start + 1) (omega arith) h) ∙ s.next) (told_none (Square st sh m) f.rule.top f.rule.asks fair e (start + 1) (omega arith) h)
        go s (no h) = omega arith

    pub square_holds : (tried : ℕ) → (says 65 f square_regs → says tried f square_regs) → (says 66 f square_regs → says (tried + 1) f square_regs) → (says 67 f square_regs → says (tried + 2) f square_regs)
        → says (step_line tried 0 false start least f.rule.top) f square_regs
    unfolding says templates rule_numbers
    square_holds tried u v w = go least refl
      where
        go : (k : ℕ) → least ≡ k → says (step_line tried 0 false start k f.rule.top) f square_regs
        go zero e = by (dec_le start f.rule.top)
          where
            by : Dec (start ≤ f.rule.top) → says (step_line tried 0 false start 0 f.rule.top) f square_regs
            by (yes l) =
                let past = last e l in
                let i : 1 ≤ start = omega arith in
                let fails = told_none (Square st sh m) f.rule.top f.rule.asks fair e start i l in
                let line : step_line tried 0 false start 0 f.rule.top ≡ tried + 2 = rw (le-ltb f.rule.top start l) in
                subst (λ (t : ℕ). says t f square_regs) (sym line)
                (w (tt, (((exact start l, square_exact start l), not_met start l i fails, fails), (tt, ((refl, past), (tt, tt))))))
            by (no l) =
                let past : f.rule.top < start = omega arith in
                let line : step_line tried 0 false start 0 f.rule.top ≡ 74 = rw (lt-ltb f.rule.top start past) in
                subst (λ (t : ℕ). says t f square_regs) (sym line) (tt, ((refl, past), (tt, tt)))
        go (suc zero) e = (tt, (told_meets (Square st sh m) f.rule.top f.rule.asks fair 0 e, (tt, tt)))
        go (suc (suc k)) e = subst (λ (t : ℕ). says t f square_regs) (sym line) (by (eqb (suc (suc k)) start) refl)
          where
            line : step_line tried 0 false start (suc (suc k)) f.rule.top ≡ cond (eqb (suc (suc k)) start) tried (tried + 1)
            line = rw (ne_eqb (suc (suc k)) 1 (λ e. omega arith), ne_eqb (suc (suc k)) 0 (λ e. omega arith))

            is : IsLeast f.rule.asks 1 (f.rule.top + 1) (suc (suc k))
            is = told_least (Square st sh m) f.rule.top f.rule.asks fair (suc k) e

            fewer : f.rule.asks (suc k) ≡ false
            fewer = told_less (Square st sh m) f.rule.top f.rule.asks fair (suc k) e (omega arith)

            by : (b : Bool) → eqb (suc (suc k)) start ≡ b → says (cond b tried (tried + 1)) f square_regs
            by true q =
                let same = eqb-true (suc (suc k)) start q in
                let bit : eqb least start ≡ true = ap (λ (i : ℕ). eqb i start) e ∙ q in
                let o : least - bool_byte (eqb least start) ≡ suc k = ap (λ (b : Bool). least - bool_byte b) bit ∙ omega (arith, e) in
                let l : start ≤ f.rule.top = omega (arith, same, is.within) in
                let j : least - bool_byte (eqb least start) ≤ f.rule.top = omega (arith, o, is.within) in
                let yes_first : f.rule.asks start ≡ true = ap f.rule.asks (sym same) ∙ is.passes in
                let no_other : f.rule.asks (least - bool_byte (eqb least start)) ≡ false = ap f.rule.asks o ∙ fewer in
                u (tt, (((exact start l, square_exact start l), met start l (omega (arith, same)) yes_first, yes_first), (tt, (omega (arith, o, same), (((exact _ j, square_exact _ j), not_met _ j (omega (arith, o)) no_other, no_other), (tt, tt))))))
            by false q =
                let next = told_next (Square st sh m) f.rule.top f.rule.asks fair (suc k) e (eqb-false _ _ q) in
                let bit : eqb least start ≡ false = ap (λ (i : ℕ). eqb i start) e ∙ q in
                let o : least - bool_byte (eqb least start) ≡ suc (suc k) = ap (λ (b : Bool). least - bool_byte b) bit ∙ omega (arith, e) in
                let l : start ≤ f.rule.top = omega (arith, next, is.within) in
                let j : least - bool_byte (eqb least start) ≤ f.rule.top = omega (arith, o, is.within) in
                let no_first : f.rule.asks start ≡ false = ap f.rule.asks next ∙ fewer in
                let yes_other : f.rule.asks (least - bool_byte (eqb least start)) ≡ true = ap f.rule.asks o ∙ is.passes in
                v (tt, (((exact start l, square_exact start l), not_met start l (omega (arith, next)) no_first, no_first), (tt, (omega (arith, o, next), (((exact _ j, square_exact _ j), met _ j (omega (arith, o)) yes_other, yes_other), (tt, tt))))))

-- ---- that of a thickness alone: X is T

module _ (f : Facts) (g : List ℕ) (p a per m : ℕ) (more : List ℕ) where
  abbrev thick_regs : Registers
  thick_regs = regs f g p a per (Square 1 0 m) more

  alone : (h : ℕ) {i j : ℕ} → i ≡ 1 * h - 0 → j ≡ i * i → j ≡ h * h
  alone h {i} {j} e q = let s : i ≡ h = omega (arith, e) in q ∙ ap (λ (x : ℕ). x * x) s

  pub thick_holds : Says (Square 1 0 m) f.rule.top f.rule.asks → 1 ≤ f.rule.top → f.rule.top < 4294967296
      → says (step_line 68 0 false (ceil_of (0 + root_of m) 1) (number_of (least_of (Square 1 0 m) f.rule.top)) f.rule.top) f thick_regs
  unfolding says templates rule_numbers
  thick_holds fair low small =
      square_holds f g p a per 1 0 m more fair low (omega arith) (omega arith) (λ t l. absurd (omega arith)) 68
      (λ x. let u = x.1.0 in let v = x.1.1.1.1.0 in (tt, ((alone start u.0.0 u.0.1, u.1, u.2), (tt, (x.1.1.1.0, ((alone beside v.0.0 v.0.1, v.1, v.2), (tt, tt)))))))
      (λ x. let u = x.1.0 in let v = x.1.1.1.1.0 in (tt, ((alone start u.0.0 u.0.1, u.1, u.2), (tt, (x.1.1.1.0, ((alone beside v.0.0 v.0.1, v.1, v.2), (tt, tt)))))))
      (λ x. let u = x.1.0 in (tt, ((alone start u.0.0 u.0.1, u.1, u.2), (tt, (x.1.1.1.0, (tt, tt))))))
    where
      start : ℕ
      start = ceil_of (0 + root_of m) 1

      beside : ℕ
      beside = let n = number_of (least_of (Square 1 0 m) f.rule.top) in n - bool_byte (eqb n (ceil_of (0 + root_of m) 1))
