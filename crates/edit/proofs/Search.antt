-- The search for an id, record by record.
-- Assumes nothing.
use Prim.Native.Nat.{ℕ, zero, suc, ◌+◌, ◌-◌, ◌≤◌, ◌<◌}
use mathlib.Core.Path.{◌≡◌, refl, sym, ap, ◌∙◌}
use mathlib.Core.Bool.{Bool, true, false, cond}
use mathlib.Core.List.{List, [], ◌∷◌}
use native.Mathlib.Omega.{arith}
use native.Mathlib.Nat.{sub-zero}
use lib.Dec.{ltb, eqb}
use lib.ListN.{length, get_or}
use borrow.Author.Tests.{le-ltb, lt-ltb}
use Rattle.checker.specs.Check.{record_part, parts_from}
use Rattle.keyed.specs.Keyed.{position_of, has_of}
use Rattle.edit.specs.Steps.{id_in, place_in, has_in}
use Rattle.checker.specs.laws.Parts.{parts_length}

-- the place among the records from record i on, of n
unfoldable pub place_from : List ℕ → (n id i : ℕ) → ℕ
place_from s n id i = position_of id_in id (parts_from s i (n - i))

pub place_start : (s : List ℕ) (n id : ℕ) → place_from s n id 0 ≡ place_in s n id
unfolding place_from place_in
place_start s n id = rw sub-zero

module _ (s : List ℕ) (n id i : ℕ) where
  rest_step : i < n → parts_from s i (n - i) ≡ record_part s i ∷ parts_from s (i + 1) (n - (i + 1))
  unfolding parts_from
  rest_step l =
      let e : n - i ≡ suc (n - (i + 1)) = omega arith in
      rw e

  pub place_here : i < n → id ≤ id_in (record_part s i) → place_from s n id i ≡ 0
  unfolding place_from position_of
  place_here l m = rw (rest_step l, le-ltb (id_in (record_part s i)) id m)

  pub place_next : i < n → id_in (record_part s i) < id → place_from s n id i ≡ suc (place_from s n id (i + 1))
  unfolding place_from position_of
  place_next l m = rw (rest_step l, lt-ltb (id_in (record_part s i)) id m)

  pub place_end : n ≤ i → place_from s n id i ≡ 0
  unfolding place_from position_of parts_from
  place_end l =
      let e : n - i ≡ 0 = omega arith in
      rw e

-- ---- whether the id is there, by its place

-- record k of those from record i on
part_at : (s : List ℕ) (i m k : ℕ) → k < m → get_or (parts_from s i m) k [] ≡ record_part s (i + k)
unfolding parts_from
part_at s i zero k l = absurd (omega arith)
part_at s i (suc m) zero l = let e : i ≡ i + 0 = omega arith in ap (record_part s) e
part_at s i (suc m) (suc k) l = let e : i + 1 + k ≡ i + suc k = omega arith in part_at s (i + 1) m k (omega arith) ∙ ap (record_part s) e

module _ (id : ℕ) where
  past : (ps : List (List ℕ)) → length ps ≤ position_of id_in id ps → has_of id_in id ps ≡ false
  unfolding position_of has_of
  past [] l = refl
  past (p ∷ ps) l = go (past ps) (ltb (id_in p) id) l
    where
      go : (length ps ≤ position_of id_in id ps → has_of id_in id ps ≡ false) → (b : Bool) → suc (length ps) ≤ cond b (suc (position_of id_in id ps)) 0 → cond b (has_of id_in id ps) (eqb (id_in p) id) ≡ false
      go h true m = h (omega arith)
      go h false m = absurd (omega arith)

  here : (ps : List (List ℕ)) → position_of id_in id ps < length ps → eqb (id_in (get_or ps (position_of id_in id ps) [])) id ≡ has_of id_in id ps
  unfolding position_of has_of
  here [] l = absurd (omega arith)
  here (p ∷ ps) l = go (here ps) (ltb (id_in p) id) l
    where
      go : (position_of id_in id ps < length ps → eqb (id_in (get_or ps (position_of id_in id ps) [])) id ≡ has_of id_in id ps) → (b : Bool) → cond b (suc (position_of id_in id ps)) 0 < suc (length ps)
          → eqb (id_in (get_or (p ∷ ps) (cond b (suc (position_of id_in id ps)) 0) [])) id ≡ cond b (has_of id_in id ps) (eqb (id_in p) id)
      go h true m = h (omega arith)
      go h false m = refl

module _ (s : List ℕ) (n id place : ℕ) (found : place ≡ place_in s n id) where
  pub not_there : n ≤ place → false ≡ has_in s n id
  unfolding place_in has_in
  not_there l = sym (past id (parts_from s 0 n) (omega (arith, parts_length s 0 n, found)))

  pub there : place < n → eqb (id_in (record_part s place)) id ≡ has_in s n id
  unfolding place_in has_in
  there l =
      let e : 0 + place ≡ place = omega arith in
      let ps = parts_from s 0 n in
      ap (λ (b : List ℕ). eqb (id_in b) id) (sym (part_at s 0 n place l ∙ ap (record_part s) e) ∙ ap (λ (k : ℕ). get_or ps k []) found)
      ∙ here id ps (omega (arith, parts_length s 0 n, found))
