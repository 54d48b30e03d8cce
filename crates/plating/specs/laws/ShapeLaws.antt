-- The shape of each rule says on the gauge what the rule does.
-- Assumes nothing.
use Rattle.std.specs.Prelude.{ℕ, ◌+◌, ◌-◌, ◌*◌, ◌/◌, ◌≤◌, ◌<◌, Bool, ◌&&◌, ◌≡◌, leb}
use Rattle.std.proofs.Math.Bool.{true, false, cond}
use Rattle.std.proofs.Math.Path.{refl, ap}
use Rattle.std.proofs.Common.{◌∙◌, arith, mul_comm, mul_right_comm, mul-pos, lit<}
use Rattle.std.proofs.Math.Nat.{mul-le-mul}
use Rattle.std.proofs.Math.Dec.{ltb}
use borrow.Author.Tests.{ltb-true}
use Rattle.quantity.specs.Range.{thickness}
use Rattle.gauge.specs.declared.Shape.TheVariants.{Never}
use Rattle.gauge.specs.Shape.{Says}
use Rattle.gauge.specs.laws.ShapeLaws.{either_says, over_never, over_square, excess}
use Rattle.sheet.specs.Kinds.{is_long, is_bottom}
use Rattle.plating.specs.Rules.{K2, allowance, rule1, rule2, is_second, limit, first_form, second_form, rule3}
use Rattle.plating.specs.Bounds.{Panel}
use Rattle.plating.specs.laws.Laws.{K2_range}
use Rattle.plating.specs.Shapes.{over_shape, square_shape, excess_shape, shape1, shape2, first_shape, second_shape, shape3}

pub says1 : (kind L K S : ℕ) → Says (shape1 kind L K S) thickness.high (rule1 kind L K S)
unfolding shape1
says1 kind L K S = go (is_bottom kind)
  where
    go : (b : Bool) → let short = allowance kind + 36 * S in
        Says (cond b (excess_shape short 1000 (9 * (L * L * K))) (excess_shape short 3125 (8 * (L * L * K)))) thickness.high
        (λ (T : ℕ). let X = 100 * T - short in leb short (100 * T) && cond b (leb (9 * (L * L * K)) (1000 * (X * X))) (leb (8 * (L * L * K)) (3125 * (X * X))))
    go true T m n = excess 100 (allowance kind + 36 * S) (9 * (L * L * K)) 1000 T (lit< tt)
    go false T m n = excess 100 (allowance kind + 36 * S) (8 * (L * L * K)) 3125 T (lit< tt)

pub says2 : (kind K S P : ℕ) → Says (shape2 kind K S P) thickness.high (rule2 kind K S P)
unfolding shape2
says2 kind K S P =
    either_says (is_long kind) _ _ _ _ thickness.high
    (λ e T m n. over_square 625000000000 (9 * (S * S * K * P)) T (lit< tt))
    (λ e T m n. over_square 39062500000 (S * S * K * P) T (lit< tt))

-- a·T² ≥ b·c, where the product may be past the gauge
over_says : (a b c : ℕ) → 0 < a → 0 < b → Says (over_shape a b c) thickness.high (λ (T : ℕ). leb (b * c) (a * (T * T)))
over_says a b c p q = go (ltb (a * (thickness.high * thickness.high) / b) c) refl
  where
    go : (t : Bool) → ltb (a * (thickness.high * thickness.high) / b) c ≡ t → Says (cond t Never (square_shape a (b * c))) thickness.high (λ (T : ℕ). leb (b * c) (a * (T * T)))
    go true e = over_never a b c thickness.high q (ltb-true _ _ e)
    go false e = λ T m n. over_square a (b * c) T p

module _ {kind S b1 : ℕ} (b2 R : ℕ) (p : Panel kind S b1) where
  -- K2² is not 0 under transverse framing
  sides : is_long kind ≡ false → 1 ≤ K2 b1 b2 * K2 b1 b2
  sides e = let r = (K2_range b1 b2 (p.b1_low e)).0 in omega (arith, mul-le-mul r r)

  says_first : Says (first_shape kind S (K2 b1 b2) R) thickness.high (first_form kind S (K2 b1 b2) R)
  unfolding first_shape
  says_first =
      let s = mul-le-mul p.spacing_low p.spacing_low in
      either_says (is_long kind) _ _ _ _ thickness.high
      (λ e. over_says 100000000 (1521 * (S * S)) R (lit< tt) (omega arith))
      (λ e T m n. over_says (25 * (K2 b1 b2 * K2 b1 b2)) (1156 * (S * S)) R (omega (arith, sides e)) (omega arith) T m n ∙ ap (leb (1156 * (S * S) * R)) (mul_right_comm 25 (K2 b1 b2 * K2 b1 b2) (T * T)))

  says_second : (K : ℕ) → Says (second_shape kind K S (K2 b1 b2) R) thickness.high (second_form kind K S (K2 b1 b2) R)
  unfolding second_shape
  says_second K = go (ltb R limit) refl
    where
      go : (t : Bool) → ltb R limit ≡ t → Says (cond t (cond (is_long kind) (square_shape (10 * (limit - R)) (1681 * (S * S * K))) (square_shape (K2 b1 b2 * K2 b1 b2 * (limit - R)) (504100000 * (S * S * K)))) Never) thickness.high
          (λ (T : ℕ). t && cond (is_long kind) (leb (1681 * (S * S * K)) (10 * (T * T) * (limit - R))) (leb (504100000 * (S * S * K)) (T * T * (K2 b1 b2 * K2 b1 b2) * (limit - R))))
      go true e =
          let left : 1 ≤ limit - R = omega (arith, ltb-true R limit e) in
          let k = K2 b1 b2 * K2 b1 b2 in
          either_says (is_long kind) _ _ _ _ thickness.high
          (λ f T m n. over_square (10 * (limit - R)) (1681 * (S * S * K)) T (omega arith) ∙ ap (leb (1681 * (S * S * K))) (mul_right_comm 10 (limit - R) (T * T)))
          (λ f T m n. over_square (k * (limit - R)) (504100000 * (S * S * K)) T (mul-pos (sides f) left)
          ∙ ap (leb (504100000 * (S * S * K))) (mul_right_comm k (limit - R) (T * T) ∙ ap (λ (x : ℕ). x * (limit - R)) (mul_comm k (T * T))))
      go false e = λ T m n. refl

  pub says3 : (K : ℕ) → Says (shape3 kind K S (K2 b1 b2) R) thickness.high (rule3 kind K S (K2 b1 b2) R)
  unfolding shape3
  says3 K = either_says (is_second kind K R) _ _ _ _ thickness.high (λ e. says_second K) (λ e. says_first)
