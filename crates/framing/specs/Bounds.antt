-- The bounds that keep the rules' products within 64 bits.
use Rattle.std.specs.Prelude.{ℕ, ◌≤◌}
use Rattle.quantity.specs.Range.{line_load}

-- an end coefficient, η, q and l
pub record Bounded (ends eta q l : ℕ) : Type 0 where
  pub ends_high : ends ≤ 100
  pub eta_high : eta ≤ 100
  pub load_high : q ≤ line_load.high
  pub span_high : l ≤ 1000

-- the factors of the right-hand side of a rule: n·β·η·q·l or n·β·η·q·l²
pub record Product (n ends eta q x : ℕ) : Type 0 where
  pub n_high : n ≤ 1000
  pub ends_high : ends ≤ 100
  pub eta_high : eta ≤ 100
  pub load_high : q ≤ line_load.high
  pub x_high : x ≤ 1000000
