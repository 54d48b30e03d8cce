-- `framing::product` meets its contract: its factors are small enough.
use Prim.Native.Nat.{ℕ, ◌*◌, ◌≤◌}
use native.Mathlib.Omega.{arith}
use native.Mathlib.Nat.{mul-le-mul}
use Rattle.framing.specs.Bounds.{Product}
use Rattle.framing.proofs.product.Goals as goal

-- `framing::product` meets its contract: its factors are small enough.
-- Assumes nothing.
record InRange (n ends eta q x : ℕ) : Type 0 where
  first : n * ends ≤ 100000
  second : n * ends * eta ≤ 10000000
  third : n * ends * eta * q ≤ 4164150000000
  whole : n * ends * eta * q * x ≤ 4164150000000000000

in_range : {n ends eta q x : ℕ} → Product n ends eta q x → InRange n ends eta q x
in_range h =
    let a = mul-le-mul h.n_high h.ends_high in
    let b = mul-le-mul a h.eta_high in
    let c = mul-le-mul b h.load_high in
    record { first = a; second = b; third = c; whole = mul-le-mul c h.x_high }

pub overflow_mul-result-4 : goal.overflow_mul-result-4
overflow_mul-result-4 c = omega (arith, in_range c.requires)
