-- A part that goes to the end of its slice: what it holds, and what the slice holds once it has come back.
-- Assumes nothing.
use Rattle.std.specs.Prelude.{ℕ, ◌-◌, ◌≤◌, ◌≡◌, List, ◌++◌, length, take, drop}
use Rattle.std.proofs.Common.{ap, ◌∙◌, append-nil, arith, length-drop, drop_of_length-le, take_all}
use borrow.Rule.Slice.PartMut.{mid_of, put_mid}

pub mid_tail : (a : ℕ) (xs : List ℕ) → mid_of a (length xs - a) xs ≡ drop a xs
mid_tail a xs = take_all (length xs - a) (drop a xs) (omega (arith, length-drop a xs))

-- the same from a place that is known by another name
pub mid_past : (k a : ℕ) (xs : List ℕ) → k ≡ a → mid_of k (length xs - k) xs ≡ drop a xs
mid_past k a xs e = ap (λ (n : ℕ). mid_of n (length xs - n) xs) e ∙ mid_tail a xs

pub put_tail : (a : ℕ) (xs ys : List ℕ) → a ≤ length xs → put_mid a (length xs - a) xs ys ≡ take a xs ++ ys
put_tail a xs ys h =
    ap (λ (t : List ℕ). take a xs ++ (ys ++ t)) (drop_of_length-le (drop a xs) {i = length xs - a} (omega (arith, length-drop a xs))) ∙ ap (λ (t : List ℕ). take a xs ++ t) (append-nil ys)
