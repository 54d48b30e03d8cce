-- What a maker answers: the number held, or a refusal.
use Rattle.std.specs.Prelude.{ℕ, ◌≤◌, ◌≡◌, cond, Option, Some, None}
use Rattle.quantity.specs.Range.{Range, from, within}

-- a number that is held, or none
pub data Held : Type 0 where
  held : ℕ → Held
  refused : Held

-- x is held exactly when it lies within the range
abbrev pub held_of : Range → ℕ → Held
held_of r x = cond (within r x) (held x) refused

-- What the contract of a maker says: the type's two constants are the range's ends, and the answer is what the range says of x.
pub record Makes (r : Range) (low high x : ℕ) (answer : Held) : Type 0 where
  pub lowest : low ≡ r.low
  pub highest : high ≡ r.high
  pub answered : answer ≡ held_of r x

-- a maker's answer, where this is the number that a quantity holds
abbrev pub told : {A : Type 0} → (A → ℕ) → Option A → Held
told number (Some a) = held (number a)
told number None = refused

-- a number above the highest for which there is room as that highest
abbrev pub held_below : (top x : ℕ) → ℕ
held_below top x = cond (within (from 0 top) x) x top

-- What a type of quantities keeps: its constants are the range's ends, it has room for the range in at most 64 bits, and each number makes one value,
-- which holds it.
pub record Holds {A : Type 0} (r : Range) (low high top : ℕ) (of : ℕ → A) (number : A → ℕ) : Type 0 where
  pub lowest : low ≡ r.low
  pub highest : high ≡ r.high
  pub room : high ≤ top
  pub narrow : top ≤ 18446744073709551615
  pub number_of : (x : ℕ) → number (of x) ≡ x
  pub of_number : (a : A) → of (number a) ≡ a
