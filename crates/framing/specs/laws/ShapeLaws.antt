-- The shape of each rule of a member says what the rule does.
-- Assumes nothing.
use Rattle.std.specs.Prelude.{ℕ, ◌+◌, ◌-◌, ◌*◌, ◌<◌, Bool, true, false, ◌&&◌, cond, ◌≡◌, refl, leb, ltb}
use Rattle.std.proofs.Common.{ap, ◌∙◌, arith, mul_right_comm, mul-pos, lit<, ltb-true}
use Rattle.gauge.specs.Ceil.{ceil_of}
use Rattle.gauge.specs.Shape.{meets_of, Says}
use Rattle.gauge.specs.laws.ShapeLaws.{either_says, over_floor, excess}
use Rattle.gauge.specs.declared.Shape.TheVariants.{Never, Floor}
use Rattle.quantity.specs.Range.{thickness, modulus, shear_area}
use Rattle.sheet.specs.Kinds.{is_floor, is_deep}
use Rattle.framing.specs.Rules.{stressed, is_short, rule4, rule5, rule6}
use Rattle.framing.specs.Shapes.{stressed_shape, shape4, shape5, shape6}

pub stressed_said : (a limit σ1 p W : ℕ) → 0 < a → meets_of (stressed_shape a limit σ1 p) W ≡ stressed a limit σ1 W p
stressed_said a limit σ1 p W h = go (ltb σ1 limit) refl
  where
    go : (b : Bool) → ltb σ1 limit ≡ b → meets_of (cond b (Floor (ceil_of p (a * (limit - σ1)))) Never) W ≡ (b && leb p (a * W * (limit - σ1)))
    go true e =
        let s : 0 < limit - σ1 = omega (arith, ltb-true σ1 limit e) in
        over_floor (a * (limit - σ1)) p W (mul-pos h s) ∙ ap (leb p) (mul_right_comm a (limit - σ1) W)
    go false e = refl

-- ---- each says what the rule does

pub says4 : (kind L K S : ℕ) → Says (shape4 kind L K S) thickness.high (rule4 kind L K S)
unfolding shape4 rule4
says4 kind L K S =
    either_says (is_deep kind) _ _ _ _ thickness.high
    (λ e T m n. excess 100 38000 (8 * (L * L) * K) 3125 T (lit< tt))
    (λ e. either_says (is_short L) _ _ _ _ thickness.high
    (λ f T m n. excess 100 (16300 + 45 * S) (L * L * K) 6250 T (lit< tt))
    (λ f T m n. excess 10 S (15210 * K) 1 T (lit< tt)))

pub says5 : (kind βb η σ1 q l : ℕ) → Says (shape5 kind βb η σ1 q l) modulus.high (rule5 kind βb η σ1 q l)
unfolding shape5 rule5
says5 kind βb η σ1 q l =
    either_says (is_deep kind) _ _ _ _ modulus.high
    (λ e. either_says (is_floor kind) _ _ _ _ modulus.high
    (λ f W m n. over_floor 5000000000 (29 * βb * q * (l * l)) W (lit< tt))
    (λ f W m n. stressed_said 2000000000 197 σ1 (25 * βb * η * q * (l * l)) W (lit< tt)))
    (λ e W m n. stressed_said 100000000000 214 σ1 (833 * βb * η * q * (l * l)) W (lit< tt))

pub says6 : (kind βs η q l : ℕ) → Says (shape6 kind βs η q l) shear_area.high (rule6 kind βs η q l)
unfolding shape6 rule6
says6 kind βs η q l =
    either_says (is_deep kind) _ _ _ _ shear_area.high
    (λ e. either_says (is_floor kind) _ _ _ _ shear_area.high
    (λ f A m n. over_floor 20000000 (9 * βs * q * l) A (lit< tt))
    (λ f A m n. over_floor 12500000 (7 * βs * q * l) A (lit< tt)))
    (λ e A m n. over_floor 2000000000 (9 * βs * η * q * l) A (lit< tt))
