-- A type of quantities keeps what it has to, where its room ends neither below its range nor past 64 bits.
-- Assumes nothing.
use Rattle.std.specs.Prelude.{ℕ, ◌≡◌, true, leb, refl}
use Rattle.std.proofs.Common.{leb-true}
use Rattle.quantity.specs.Range.{Range}
use Rattle.quantity.specs.Made.{Holds}

pub holds : {A : Type 0} {r : Range} {top : ℕ} {of : ℕ → A} {number : A → ℕ}
    → leb r.high top ≡ true → leb top 18446744073709551615 ≡ true
    → ((x : ℕ) → number (of x) ≡ x) → ((a : A) → of (number a) ≡ a) → Holds r r.low r.high top of number
holds enough bits there back =
    record { lowest = refl; highest = refl; room = leb-true _ _ enough; narrow = leb-true _ _ bits; number_of = there; of_number = back }
