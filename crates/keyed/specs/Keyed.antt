-- A list of things that rise in their keys, as a map from keys to things.
use Rattle.std.specs.Prelude.{ℕ, suc, ◌<◌, Bool, true, false, cond, ◌&&◌, List, [], ◌∷◌, ltb, eqb}
use Rattle.std.proofs.Math.Option.{Option, none, some}

module _ {A : Type 0} (key : A → ℕ) where
  -- each key is above the one before
  unfoldable pub rises : (before : ℕ) → List A → Bool
  rises before [] = true
  rises before (r ∷ rs) = let rest = rises (key r) rs in ltb before (key r) && rest

  -- how many come before the first whose key is not below k: the place of the one with key k, or where such a one goes in
  unfoldable pub position_of : (k : ℕ) → List A → ℕ
  position_of k [] = 0
  position_of k (r ∷ rs) = let rest = position_of k rs in cond (ltb (key r) k) (suc rest) 0

  -- whether one has the key k
  unfoldable pub has_of : (k : ℕ) → List A → Bool
  has_of k [] = false
  has_of k (r ∷ rs) = let rest = has_of k rs in cond (ltb (key r) k) rest (eqb (key r) k)

  -- ---- the map

  -- what it holds at k
  unfoldable pub lookup : (k : ℕ) → List A → Option A
  lookup k [] = none
  lookup k (r ∷ rs) = let rest = lookup k rs in cond (eqb (key r) k) (some r) rest

  -- a thing in the place of the one with its key, or at its place in the order
  unfoldable pub put_of : A → List A → List A
  put_of new [] = new ∷ []
  put_of new (r ∷ rs) = let rest = put_of new rs in cond (ltb (key r) (key new)) (r ∷ rest) (cond (eqb (key r) (key new)) (new ∷ rs) (new ∷ r ∷ rs))

  -- the one with the key k taken out
  unfoldable pub out_of : (k : ℕ) → List A → List A
  out_of k [] = []
  out_of k (r ∷ rs) = let rest = out_of k rs in cond (eqb (key r) k) rs (r ∷ rest)

  -- ---- edits

  pub data Edit : Type 0 where
    put : A → Edit
    out : (k : ℕ) → Edit

  -- a plain map after an edit: the new thing at its key, or nothing at the key; every other key as before
  unfoldable pub map_after : Edit → (ℕ → Option A) → ℕ → Option A
  map_after (put new) m k = cond (eqb (key new) k) (some new) (m k)
  map_after (out j) m k = cond (eqb j k) none (m k)

  -- and after edits in turn
  unfoldable pub map_all : List Edit → (ℕ → Option A) → ℕ → Option A
  map_all [] m = m
  map_all (e ∷ es) m = map_all es (map_after e m)

  -- the list after an edit, and after edits in turn
  unfoldable pub list_after : Edit → List A → List A
  list_after (put new) rs = put_of new rs
  list_after (out j) rs = out_of j rs

  unfoldable pub list_all : List Edit → List A → List A
  list_all [] rs = rs
  list_all (e ∷ es) rs = list_all es (list_after e rs)

  -- every thing that is put in has a key above 0
  abbrev pub Keys : List Edit → Type 0
  Keys [] = Unit {0}
  Keys (put new ∷ es) = (0 < key new) × Keys es
  Keys (out j ∷ es) = Keys es
