-- What was read of an input whose bytes are known, and that a status and an answer about a reader are fixed by their promises.
-- Assumes nothing.
use Rattle.std.specs.Prelude.{ℕ, ◌≤◌, ◌<◌, ◌≡◌, ◌⊎◌, ◌↔◌, Bool, true, false, List, ◌++◌, length, take, Option, None, Some}
use Rattle.std.proofs.Common.{inl, inr, refl, sym, ap, ◌∙◌, arith, append-nil, take_all, take_at, length-take-le}
use Rattle.std.proofs.Math.Decide.{dec_lt}
use Rattle.console.specs.Console.{Came}

-- it is the input, or as much of it as the space holds
pub came_front : (input : List ℕ) (new : Option (List ℕ)) (n : ℕ) (space : List ℕ) → n ≤ length space → Came (Some input) new (Some n) space → take n space ≡ take (length space) input
came_front input None n space l c = absurd c.0
came_front input (Some rest) n space l c = go (dec_lt n (length space))
  where
    read : List ℕ
    read = take n space

    size : length read ≡ n
    size = length-take-le n space l

    go : Dec (n < length space) → take n space ≡ take (length space) input
    go (yes h) =
        let all : input ≡ take n space = c.0 ∙ ap (λ (t : List ℕ). take n space ++ t) (c.1 h) ∙ append-nil (take n space) in
        sym (ap (take (length space)) all ∙ take_all (length space) (take n space) (omega (arith, size, l)))
    go (no h) =
        let full : length (take n space) ≡ length space = omega (arith, size, l) in
        sym (ap (take (length space)) c.0 ∙ take_at (take n space) rest (length space) full)

-- two statuses that meet the promise of `status` are one
pub status_only : (m n : ℕ) {P : Type 0} → (m ≡ 0) ⊎ (m ≡ 141) → (m ≡ 141) ↔ P → (n ≡ 0) ⊎ (n ≡ 141) → (n ≡ 141) ↔ P → m ≡ n
status_only m n (inl a) f (inl b) g = a ∙ sym b
status_only m n (inl a) f (inr b) g = f.1 (g.0 b) ∙ sym b
status_only m n (inr a) f (inl b) g = a ∙ sym (g.1 (f.0 a))
status_only m n (inr a) f (inr b) g = a ∙ sym b

-- two answers that meet the promise of `is_read` are one
pub is_read_only : (a b : Bool) {P : Type 0} → (a ≡ false) ↔ P → (b ≡ false) ↔ P → a ≡ b
is_read_only true true f g = refl
is_read_only true false f g = f.1 (g.0 refl)
is_read_only false true f g = sym (g.1 (f.0 refl))
is_read_only false false f g = refl
