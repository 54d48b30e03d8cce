-- Quotients and what remains of them; products that 64 bits hold.
-- Assumes nothing.
use Rattle.std.specs.Prelude.{ℕ, ◌+◌, ◌-◌, ◌*◌, ◌/◌, ◌%◌, ◌≤◌, ◌<◌, Bool, true, false, cond, ◌≡◌, refl, eqb}
use Rattle.std.proofs.Common.{sym, ap, ◌∙◌, arith, mod-lt, add_comm, mul-le-mul, lt-ltb, eqb-true}
use Rattle.std.proofs.Math.Nat.{div-add-mod, mul-add-div, add-div_right, div-eq_of_lt}
use Rattle.std.proofs.lemmas.Bool.{eqb-false}
use Rattle.gauge.specs.Ceil.{ceil_of}
use Rattle.pencil.specs.Glossary.{rounded_up, Divides}
use Rattle.pencil.specs.Numbers.{product}

pub divided : (p a : ℕ) → 0 < a → Divides p a (p / a) (p % a)
divided p a h = (sym (div-add-mod p a), mod-lt p h)

-- a quotient rounded up is the quotient, or one more where something remains
pub ceil_up : (p a : ℕ) → 0 < a → ceil_of p a ≡ rounded_up (p / a) (p % a)
unfolding ceil_of
ceil_up p a h = go (eqb (p % a) 0) refl
  where
    parts : p + (a - 1) ≡ a * (p / a) + (p % a + (a - 1))
    parts = omega (arith, div-add-mod p a)

    sum : (p + (a - 1)) / a ≡ p / a + (p % a + (a - 1)) / a
    sum = ap (λ (n : ℕ). n / a) parts ∙ mul-add-div h (p / a) (p % a + (a - 1))

    go : (b : Bool) → eqb (p % a) 0 ≡ b → (p + (a - 1)) / a ≡ cond b (p / a) (p / a + 1)
    go true e =
        let z = eqb-true (p % a) 0 e in
        let n : (p % a + (a - 1)) / a ≡ 0 = div-eq_of_lt (omega arith) in
        omega (arith, sum, n)
    go false e =
        let z = eqb-false (p % a) 0 e in
        let f : p % a + (a - 1) ≡ p % a - 1 + a = omega arith in
        let n : (p % a - 1) / a ≡ 0 = div-eq_of_lt (omega (arith, mod-lt p h)) in
        let m = ap (λ (n : ℕ). n / a) f ∙ add-div_right (p % a - 1) h in
        omega (arith, sum, n, m)

-- the same where both are other words for p and a
pub divided_as : {p b : ℕ} (q a : ℕ) → p ≡ q → b ≡ a → 0 < a → Divides q a (p / b) (p % b)
divided_as {p} {b} q a e f h = rw (e, f) (divided q a h)

pub ceil_as : {p b : ℕ} (q a : ℕ) → p ≡ q → b ≡ a → 0 < a → ceil_of q a ≡ rounded_up (p / b) (p % b)
ceil_as {p} {b} q a e f h = rw (e, f) (ceil_up q a h)

-- root and what is taken off, over the step
pub over_divided : (root short step : ℕ) → 0 < step → Divides (root + short) step ((short + root) / step) ((short + root) % step)
over_divided root short step h = (add_comm root short ∙ sym (div-add-mod (short + root) step), mod-lt (short + root) h)

-- a product that 64 bits hold
pub product_is : (a b : ℕ) → a * b < 18446744073709551616 → product a b ≡ a * b
unfolding product
product_is a b h = rw (lt-ltb (a * b) 18446744073709551616 h)

pub product_fits : (a b m n : ℕ) → a ≤ m → b ≤ n → m * n < 18446744073709551616 → product a b ≡ a * b
product_fits a b m n p q h = product_is a b (omega (arith, mul-le-mul p q))
