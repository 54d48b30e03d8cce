-- What moving bytes leaves: upwards turn by turn, downwards at once.
-- Assumes nothing.
use Prim.Native.Nat.{ℕ, suc, ◌+◌, ◌-◌, ◌≤◌, ◌<◌}
use mathlib.Core.Path.{◌≡◌, sym, ap, ap₂, ◌∙◌}
use mathlib.Core.List.{List, ◌∷◌, ◌++◌}
use native.Mathlib.Omega.{arith}
use lib.ListN.{length, get_or, take, drop, set, length-take, take-append-drop, drop_of_length-le, get_or-append}
use lib.Seq.{length-take-le, take-append-add, drop-cons, append_snoc, get_or-take, set-append_left, take-set-lt, take-suc-set}
use Rattle.std.specs.List.{copy_within}
use Rattle.edit.specs.Steps.{opened, without, closed}

-- a store at the last of the first suc m elements
store_last : (xs r : List ℕ) (m v : ℕ) → m < length xs → set (take (suc m) xs ++ r) m v ≡ take m xs ++ (v ∷ r)
store_last xs r m v h =
    let s : m < length (take (suc m) xs) = simp length-take (omega arith) in
    set-append_left (take (suc m) xs) r m v s
    ∙ ap (λ (l : List ℕ). l ++ r) (sym (take-set-lt (suc m) xs m v (omega arith)) ∙ take-suc-set xs m v h)
    ∙ append_snoc (take m xs) v r

-- Moving up: nothing has moved yet; one byte more has.
pub open_none : (xs : List ℕ) (end : ℕ) → end + 16 ≤ length xs → xs ≡ opened xs end end
unfolding opened
open_none xs end h =
    let n : length (take end xs) ≤ end = simp length-take (omega arith) in
    rw (drop_of_length-le (take end xs) n) (sym (take-append-drop (end + 16) xs))

pub open_turn : (xs : List ℕ) (k j end : ℕ) → k ≡ suc j → j < end → end + 16 ≤ length xs
    → set (opened xs k end) (j + 16) (get_or (opened xs k end) j 0) ≡ opened xs j end
unfolding opened
open_turn xs k j end e h l =
    let f : suc j + 16 ≡ suc (j + 16) = omega arith in
    let s : j < length (take (suc (j + 16)) xs) = simp length-take (omega arith) in
    let t : j < length (take end xs) = simp length-take (omega arith) in
    let r = drop (suc j) (take end xs) ++ drop (end + 16) xs in
    let byte : get_or (take (suc (j + 16)) xs ++ r) j 0 ≡ get_or xs j 0 = get_or-append (take (suc (j + 16)) xs) r 0 j s ∙ get_or-take (suc (j + 16)) xs j 0 (omega arith) in
    let next : drop j (take end xs) ≡ get_or xs j 0 ∷ drop (suc j) (take end xs) = drop-cons (take end xs) j 0 t ∙ ap (λ (v : ℕ). v ∷ drop (suc j) (take end xs)) (get_or-take end xs j 0 h) in
    rw (e, f, byte, next) (store_last xs r (j + 16) (get_or xs j 0) (omega arith))

module _ (xs : List ℕ) (at end : ℕ) where
  -- sixteen places down
  pub moved_down : at + 16 ≤ end → end ≤ length xs → copy_within xs (at + 16) end at ≡ closed xs at (end - 16)
  unfolding closed
  moved_down h l =
      let n = end - (at + 16) in
      let front : length (take at xs) ≡ at = length-take-le at xs (omega arith) in
      let kept : length (take at xs) + n ≡ end - 16 = omega arith in
      let behind : at + n ≡ end - 16 = omega arith in
      ap₂ (λ (m : List ℕ) (k : ℕ). m ++ drop k xs) (sym (take-append-add (take at xs) (drop (at + 16) xs) n) ∙ ap (λ (k : ℕ). take k (without at xs)) kept) behind
