-- A product's quotient, rounded up, formed from the quotient and the rest of one factor.
-- Assumes nothing.
use Prim.Native.Nat.{ℕ, ◌+◌, ◌-◌, ◌*◌, ◌/◌, ◌%◌, ◌<◌}
use mathlib.Core.Path.{◌≡◌, ap, sym, ◌∙◌}
use native.Mathlib.Omega.{arith}
use native.Mathlib.Nat.{mul-add-div_right, mul_right_comm, add-mul, div-add-mod'}
use Rattle.gauge.specs.Ceil.{ceil_of}

-- whole multiples of the divisor come out of a quotient that is rounded up
pub ceil_whole : (k m a : ℕ) → 0 < a → ceil_of (k * a + m) a ≡ k + ceil_of m a
unfolding ceil_of
ceil_whole k m a h =
    let e : k * a + m + (a - 1) ≡ k * a + (m + (a - 1)) = omega arith in
    ap (λ (n : ℕ). n / a) e ∙ mul-add-div_right h k (m + (a - 1))

pub ceil_parts : (p s a : ℕ) → 0 < a → p / a * s + ceil_of (p % a * s) a ≡ ceil_of (p * s) a
ceil_parts p s a h =
    let e : p / a * s * a + p % a * s ≡ p * s =
    ap (λ (n : ℕ). n + p % a * s) (mul_right_comm (p / a) s a) ∙ sym (add-mul (p / a * a) (p % a) s) ∙ ap (λ (n : ℕ). n * s) (div-add-mod' p a) in
    sym (ceil_whole (p / a * s) (p % a * s) a h) ∙ ap (λ (n : ℕ). ceil_of n a) e
