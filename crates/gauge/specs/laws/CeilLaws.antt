-- Laws of division rounded up.
-- Assumes nothing.
use Rattle.std.specs.Prelude.{ℕ, suc, ◌+◌, ◌-◌, ◌*◌, ◌/◌, ◌≤◌, ◌<◌, ◌≡◌, leb}
use Rattle.std.proofs.Common.{ap, sym, ◌∙◌, arith, div-lt_iff_lt-mul, mul_comm, suc-mul, le-leb, leb-true}
use Rattle.std.proofs.Math.Decide.{dec_le}
use Rattle.std.proofs.Math.Nat.{div-eq_of_lt, div-zero, add-div_right}
use Rattle.std.proofs.lemmas.Bool.{lt-leb}
use Rattle.gauge.specs.Ceil.{ceil_of}

-- two comparisons that hold together
pub leb_same : (m n p q : ℕ) → (m ≤ n → p ≤ q) → (p ≤ q → m ≤ n) → leb m n ≡ leb p q
leb_same m n p q f g = go (dec_le m n)
  where
    go : Dec (m ≤ n) → leb m n ≡ leb p q
    go (yes h) = rw (le-leb m n h, le-leb p q (f h))
    go (no h) =
        let k : p ≤ q → ⊥ = λ l. h (g l) in
        rw (lt-leb m n (omega arith), lt-leb p q (omega arith))

-- a quotient rounded up is at most y exactly where the dividend is at most a·y
pub ceil_le : (p a y : ℕ) → 0 < a → leb (ceil_of p a) y ≡ leb p (a * y)
unfolding ceil_of
ceil_le p a y h =
    let e = div-lt_iff_lt-mul {x = p + (a - 1)} {y = suc y} h in
    leb_same ((p + (a - 1)) / a) y p (a * y)
    (λ l. omega (arith, e.0 (omega arith), suc-mul y a, mul_comm y a))
    (λ l. omega (arith, e.1 (omega (arith, suc-mul y a, mul_comm y a))))

-- the quotient rounded up is at most y where the dividend is at most a·y
pub ceil_most : (p a y : ℕ) → 0 < a → p ≤ a * y → ceil_of p a ≤ y
ceil_most p a y h l = leb-true _ _ (ceil_le p a y h ∙ le-leb _ _ l)

-- the dividend is at most the divisor times the quotient rounded up
pub ceil_covers : (p a : ℕ) → 0 < a → p ≤ a * ceil_of p a
ceil_covers p a h = leb-true _ _ (sym (ceil_le p a (ceil_of p a) h) ∙ le-leb (ceil_of p a) (ceil_of p a) (omega arith))

pub ceil_none : (a : ℕ) → 0 < a → 0 ≡ ceil_of 0 a
unfolding ceil_of
ceil_none a h = sym (div-eq_of_lt (omega arith))

pub ceil_some : (p a : ℕ) → 0 < p → 0 < a → (p - 1) / a + 1 ≡ ceil_of p a
unfolding ceil_of
ceil_some p a h k =
    let e : p - 1 + a ≡ p + (a - 1) = omega arith in
    sym (add-div_right (p - 1) k) ∙ ap (λ (n : ℕ). n / a) e

pub ceil_zero : (p : ℕ) → 0 ≡ ceil_of p 0
unfolding ceil_of
ceil_zero p = sym (div-zero (p + (0 - 1)))
