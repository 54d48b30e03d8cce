-- The laws of tests that are true or false.
-- Assumes nothing.
use Rattle.std.specs.Prelude.{ℕ, ◌≡◌, refl, Bool, true, false, ◌&&◌, cond}
use Rattle.std.proofs.Common.{arith}

-- both halves of a conjunction
pub both : (a b : Bool) → (a && b) ≡ true → (a ≡ true) × (b ≡ true)
both true b e = (refl, e)
both false b e = (e, cc)

-- no test is true and false
pub clash : {A : Type 0} {b : Bool} → b ≡ true → b ≡ false → A
clash p q = let z : ◌≡◌ {A = ℕ} 0 1 = cc in absurd (omega arith)

-- one that is not true is false
pub false_of : (b : Bool) → (b ≡ true → ⊥) → b ≡ false
false_of true n = absurd (n refl)
false_of false n = refl

-- what holds of both holds of the one that a test takes
pub either_of : {A : Type 0} (P : A → Type 0) (b : Bool) (x y : A) → P x → P y → P (cond b x y)
either_of P true x y p q = p
either_of P false x y p q = q

-- and what holds between two pairs, between the two that it takes
pub either_both : {A B : Type 0} (R : A → B → Type 0) (b : Bool) (x y : A) (m n : B) → R x m → R y n → R (cond b x y) (cond b m n)
either_both R true x y m n p q = p
either_both R false x y m n p q = q
