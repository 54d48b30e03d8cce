-- Products and bits that fit.
-- Assumes nothing.
use Prim.Native.Nat.{ℕ, ◌+◌, ◌*◌, ◌≤◌, ◌<◌}
use mathlib.Core.Bool.{Bool, true, false}
use native.Mathlib.Omega.{arith}
use native.Mathlib.Nat.{mul-le-mul}
use mir.Val.{bool_byte}

pub under : {a b : ℕ} (m n : ℕ) {k : ℕ} → a ≤ m → b ≤ n → m * n < k → a * b < k
under m n p q h = omega (arith, mul-le-mul p q)

pub bit : (b : Bool) → bool_byte b ≤ 1
bit true = omega arith
bit false = omega arith

-- a number and a bit
pub with_bit : (n : ℕ) (b : Bool) → n + bool_byte b ≤ n + 1
with_bit n b = omega (arith, bit b)
