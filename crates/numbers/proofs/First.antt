-- The first fault of numbers from the first fault of what they are held as and the first fault of the fields that are tested by themselves.
-- Assumes nothing.
use Prim.Native.Nat.{ℕ, suc, ◌≤◌, ◌<◌}
use mathlib.Core.Path.{◌≡◌, refl, sym, ap, ◌∙◌}
use mathlib.Core.Bool.{Bool, true, false, cond, ◌&&◌}
use mathlib.Core.List.{List, [], ◌∷◌}
use native.Mathlib.Omega.{arith}
use lib.Dec.{eqb}
use borrow.Author.Tests.{eqb-true, eqb-false, ne_eqb, lt-ltb, le-ltb}
use Rattle.layout.specs.Line.{Line, allows}
use Rattle.numbers.specs.Held.{first_of}

-- ---- the lower of two numbers, 0 being none

pub first_none : (a : ℕ) → first_of a 0 ≡ a
first_none a = go (eqb a 0) refl
  where
    go : (t : Bool) → eqb a 0 ≡ t → cond t 0 a ≡ a
    go true e = sym (eqb-true a 0 e)
    go false e = refl

pub first_left : (a b : ℕ) → 0 < a → a < b → first_of a b ≡ a
first_left a b p l = rw (ne_eqb a 0 (λ e. absurd (omega arith)), ne_eqb b 0 (λ e. absurd (omega arith)), lt-ltb a b l)

pub first_right : (a b : ℕ) → 0 < b → b ≤ a → first_of a b ≡ b
first_right a b p l = rw (ne_eqb a 0 (λ e. absurd (omega arith)), ne_eqb b 0 (λ e. absurd (omega arith)), le-ltb a b l)

-- a number with nothing below it, on either side
under_left : (k x : ℕ) → 0 < k → (0 < x → k < x) → first_of k x ≡ k
under_left k x p h = go (eqb x 0) refl
  where
    go : (t : Bool) → eqb x 0 ≡ t → first_of k x ≡ k
    go true e = ap (first_of k) (eqb-true x 0 e) ∙ first_none k
    go false e = let n = eqb-false x 0 e in first_left k x p (h (omega (arith, n)))

under_right : (k x : ℕ) → 0 < k → (0 < x → k < x) → first_of x k ≡ k
under_right k x p h = go (eqb x 0) refl
  where
    go : (t : Bool) → eqb x 0 ≡ t → first_of x k ≡ k
    go true e = ap (λ (y : ℕ). first_of y k) (eqb-true x 0 e)
    go false e = let n = eqb-false x 0 e in first_right x k p (omega (arith, h (omega (arith, n))))

-- ---- the first test that fails

-- which lines allow their values
abbrev pub okays : List Line → List ℕ → List Bool
okays [] vs = []
okays (l ∷ ls) [] = []
okays (l ∷ ls) (v ∷ vs) = allows l v ∷ okays ls vs

-- the number of the first test that fails, the first of them being k; 0 where there is none
abbrev pub fault_of : ℕ → List Bool → ℕ
fault_of k [] = 0
fault_of k (b ∷ bs) = cond b (fault_of (suc k) bs) k

past : (k : ℕ) (bs : List Bool) → 0 < fault_of (suc k) bs → k < fault_of (suc k) bs
past k [] h = absurd (omega arith)
past k (b ∷ bs) h = go b (past (suc k) bs) h
  where
    rest : ℕ
    rest = fault_of (suc (suc k)) bs

    go : (b : Bool) → (0 < rest → suc k < rest) → 0 < cond b rest (suc k) → k < cond b rest (suc k)
    go true on h = omega (arith, on h)
    go false on h = omega arith

-- a number is allowed exactly when its own test and that of what it is held as are passed, as long as every earlier number is allowed
abbrev pub Agree : (os xs ss : List Bool) → Type 0
Agree [] [] [] = Unit {0}
Agree [] [] (s ∷ ss) = ⊥
Agree [] (x ∷ xs) ss = ⊥
Agree (a ∷ os) [] ss = ⊥
Agree (a ∷ os) (x ∷ xs) [] = ⊥
Agree (a ∷ os) (x ∷ xs) (s ∷ ss) = (a ≡ (x && s)) × (a ≡ true → Agree os xs ss)

pub agree_fault : (k : ℕ) (os xs ss : List Bool) → Agree os xs ss → fault_of (suc k) os ≡ first_of (fault_of (suc k) ss) (fault_of (suc k) xs)
agree_fault k [] [] (s ∷ ss) h = elim h [ ]
agree_fault k [] (x ∷ xs) ss h = elim h [ ]
agree_fault k (a ∷ os) [] ss h = elim h [ ]
agree_fault k (a ∷ os) (x ∷ xs) [] h = elim h [ ]
agree_fault k [] [] [] h = refl
agree_fault k (a ∷ os) (x ∷ xs) (s ∷ ss) h = go x s a h.0 (λ t. agree_fault (suc k) os xs ss (h.1 t))
  where
    A : ℕ
    A = fault_of (suc (suc k)) os

    X : ℕ
    X = fault_of (suc (suc k)) xs

    S : ℕ
    S = fault_of (suc (suc k)) ss

    go : (x s a : Bool) → a ≡ (x && s) → (a ≡ true → A ≡ first_of S X) → cond a A (suc k) ≡ first_of (cond s S (suc k)) (cond x X (suc k))
    go true true a e on = ap (λ (t : Bool). cond t A (suc k)) e ∙ on e
    go true false a e on = ap (λ (t : Bool). cond t A (suc k)) e ∙ sym (under_left (suc k) X (omega arith) (past (suc k) xs))
    go false true a e on = ap (λ (t : Bool). cond t A (suc k)) e ∙ sym (under_right (suc k) S (omega arith) (past (suc k) ss))
    go false false a e on = ap (λ (t : Bool). cond t A (suc k)) e ∙ sym (first_right (suc k) (suc k) (omega arith) (omega arith))
