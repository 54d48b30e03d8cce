-- A list that rises in its keys holds what the map holds, after any edits.
-- Assumes nothing.
use Rattle.std.specs.Prelude.{ℕ, ◌<◌, ◌≤◌, Bool, ◌&&◌, ltb}
use Rattle.std.proofs.Math.Path.{◌≡◌, refl, ap}
use Rattle.std.proofs.Common.{◌∙◌}
use Rattle.std.proofs.Math.Bool.{true, false, cond}
use mathlib.Core.List.{List, [], ◌∷◌}
use Rattle.std.proofs.Math.Option.{Option, none, some}
use native.Mathlib.Omega.{arith}
use Rattle.std.proofs.Math.Dec.{eqb}
use borrow.Author.Tests.{ltb-true, ltb-false, lt-ltb, eqb-true, eqb-false, ne_eqb}
use Rattle.truth.specs.laws.Tests.{both}
use Rattle.keyed.specs.Keyed.{rises, lookup, put_of, out_of, Edit, put, out, map_after, map_all, list_after, list_all, Keys}

module _ {A : Type 0} (key : A → ℕ) where
  -- the first of a rising list is above what stands before, and the others rise from it
  pub rises_head : (before : ℕ) (r : A) (rs : List A) → rises key before (r ∷ rs) ≡ true → (before < key r) × (rises key (key r) rs ≡ true)
  unfolding rises
  rises_head before r rs e =
      let h = both (ltb before (key r)) (rises key (key r) rs) e in
      (ltb-true before (key r) h.0, h.1)

  -- after a put the map holds the new record at its key, and what it held at every other
  pub put_lookup : (j : ℕ) (new : A) (rs : List A) → lookup key j (put_of key new rs) ≡ cond (eqb (key new) j) (some new) (lookup key j rs)
  unfolding lookup put_of
  put_lookup j new [] = refl
  put_lookup j new (r ∷ rs) = go (put_lookup j new rs) (ltb (key r) (key new)) refl (eqb (key r) (key new)) refl
    where
      past : (p q : Bool) (a b : Option A) → (p ≡ true → q ≡ true → ⊥) → cond p a (cond q b (lookup key j rs)) ≡ cond q b (cond p a (lookup key j rs))
      past true true a b n = absurd (n refl refl)
      past true false a b n = refl
      past false q a b n = refl

      over : (p q : Bool) (a b : Option A) → p ≡ q → cond q b (lookup key j rs) ≡ cond q b (cond p a (lookup key j rs))
      over true true a b e = refl
      over false false a b e = refl
      over true false a b e = let z : ◌≡◌ {A = ℕ} 0 1 = cc in absurd (omega arith)
      over false true a b e = refl

      go : lookup key j (put_of key new rs) ≡ cond (eqb (key new) j) (some new) (lookup key j rs) → (s : Bool) → ltb (key r) (key new) ≡ s → (t : Bool) → eqb (key r) (key new) ≡ t
          → lookup key j (cond s (r ∷ put_of key new rs) (cond t (new ∷ rs) (new ∷ r ∷ rs))) ≡ cond (eqb (key new) j) (some new) (cond (eqb (key r) j) (some r) (lookup key j rs))
      go i true e t f =
          rw i
          (past (eqb (key r) j) (eqb (key new) j) (some r) (some new) (λ a b. omega (arith, ltb-true (key r) (key new) e, eqb-true (key r) j a, eqb-true (key new) j b)))
      go i false e true f = over (eqb (key r) j) (eqb (key new) j) (some r) (some new) (ap (λ n. eqb n j) (eqb-true _ _ f))
      go i false e false f = refl

  -- keys go on rising
  pub put_rises : (before : ℕ) (new : A) (rs : List A) → rises key before rs ≡ true → before < key new → rises key before (put_of key new rs) ≡ true
  unfolding rises put_of
  put_rises before new [] e l = rw (lt-ltb _ _ l)
  put_rises before new (r ∷ rs) e l = go (put_rises (key r) new rs) (ltb (key r) (key new)) refl (eqb (key r) (key new)) refl
    where
      h : (before < key r) × (rises key (key r) rs ≡ true)
      h = rises_head before r rs e

      go : (rises key (key r) rs ≡ true → key r < key new → rises key (key r) (put_of key new rs) ≡ true) → (s : Bool) → ltb (key r) (key new) ≡ s → (t : Bool) → eqb (key r) (key new) ≡ t
          → rises key before (cond s (r ∷ put_of key new rs) (cond t (new ∷ rs) (new ∷ r ∷ rs))) ≡ true
      go i true d t f = rw (lt-ltb _ _ h.0) (i h.1 (ltb-true _ _ d))
      go i false d true f = rw (lt-ltb _ _ l, ← eqb-true (key r) (key new) f) h.1
      go i false d false f =
          let n = eqb-false (key r) (key new) f in
          let m = ltb-false (key r) (key new) d in
          let u : key new < key r = omega arith in
          rw (lt-ltb _ _ l, lt-ltb _ _ u) h.1

  -- a key below all of a rising list is not in it
  pub none_below : (j before : ℕ) (rs : List A) → rises key before rs ≡ true → j ≤ before → lookup key j rs ≡ none
  unfolding rises lookup
  none_below j before [] e l = refl
  none_below j before (r ∷ rs) e l =
      let h = rises_head before r rs e in
      rw (ne_eqb (key r) j (λ q. omega arith)) (none_below j (key r) rs h.1 (omega arith))

  -- after a removal the map holds nothing at the key, and what it held at every other
  pub out_lookup : (j k before : ℕ) (rs : List A) → rises key before rs ≡ true → lookup key j (out_of key k rs) ≡ cond (eqb k j) none (lookup key j rs)
  unfolding lookup out_of rises
  out_lookup j k before [] e = same (eqb k j)
    where
      same : (b : Bool) → ◌≡◌ {A = Option A} none (cond b none none)
      same true = refl
      same false = refl
  out_lookup j k before (r ∷ rs) e =
      let h = rises_head before r rs e in
      go (out_lookup j k (key r) rs h.1) h.1 (eqb (key r) k) refl
    where
      here : rises key (key r) rs ≡ true → key r ≡ k → (p q : Bool) → eqb (key r) j ≡ p → eqb k j ≡ q → lookup key j rs ≡ cond q none (cond p (some r) (lookup key j rs))
      here u d true true a b = none_below j (key r) rs u (omega (arith, eqb-true (key r) j a))
      here u d true false a b = absurd (eqb-false k j b (omega (arith, eqb-true (key r) j a)))
      here u d false true a b = absurd (eqb-false (key r) j a (omega (arith, eqb-true k j b)))
      here u d false false a b = refl

      there : (key r ≡ k → ⊥) → (p q : Bool) → eqb (key r) j ≡ p → eqb k j ≡ q → cond p (some r) (cond q none (lookup key j rs)) ≡ cond q none (cond p (some r) (lookup key j rs))
      there d true true a b = absurd (d (omega (arith, eqb-true (key r) j a, eqb-true k j b)))
      there d true false a b = refl
      there d false q a b = refl

      go : lookup key j (out_of key k rs) ≡ cond (eqb k j) none (lookup key j rs) → rises key (key r) rs ≡ true → (t : Bool) → eqb (key r) k ≡ t
          → lookup key j (cond t rs (r ∷ out_of key k rs)) ≡ cond (eqb k j) none (cond (eqb (key r) j) (some r) (lookup key j rs))
      go i u true f = here u (eqb-true _ _ f) (eqb (key r) j) (eqb k j) refl refl
      go i u false f = rw i (there (eqb-false _ _ f) (eqb (key r) j) (eqb k j) refl refl)

  rises_more : (a b : ℕ) (rs : List A) → a ≤ b → rises key b rs ≡ true → rises key a rs ≡ true
  unfolding rises
  rises_more a b [] l e = refl
  rises_more a b (r ∷ rs) l e =
      let h = rises_head b r rs e in
      let n : a < key r = omega arith in
      rw (lt-ltb _ _ n) h.1

  pub out_rises : (before k : ℕ) (rs : List A) → rises key before rs ≡ true → rises key before (out_of key k rs) ≡ true
  unfolding rises out_of
  out_rises before k [] e = refl
  out_rises before k (r ∷ rs) e =
      let h = rises_head before r rs e in
      go (out_rises (key r) k rs h.1) h.0 h.1 (eqb (key r) k)
    where
      go : rises key (key r) (out_of key k rs) ≡ true → before < key r → rises key (key r) rs ≡ true → (t : Bool) → rises key before (cond t rs (r ∷ out_of key k rs)) ≡ true
      go i m u true = rises_more before (key r) rs (omega arith) u
      go i m u false = rw (lt-ltb _ _ m) i

  -- maps that hold the same hold the same after any edits
  map_same : (es : List (Edit key)) (m n : ℕ → Option A) → ((j : ℕ) → m j ≡ n j) → (j : ℕ) → map_all key es m j ≡ map_all key es n j
  unfolding map_all map_after
  map_same [] m n h j = h j
  map_same (put new ∷ es) m n h j = map_same es _ _ (λ i. ap (cond (eqb (key new) i) (some new)) (h i)) j
  map_same (out k ∷ es) m n h j = map_same es _ _ (λ i. ap (cond (eqb k i) none) (h i)) j

  -- after any edits the list holds what the map does
  pub edits : (es : List (Edit key)) (rs : List A) → Keys key es → rises key 0 rs ≡ true → (j : ℕ) → lookup key j (list_all key es rs) ≡ map_all key es (λ i. lookup key i rs) j
  unfolding map_all map_after list_all list_after
  edits [] rs s e j = refl
  edits (put new ∷ es) rs s e j = edits es (put_of key new rs) s.1 (put_rises 0 new rs e s.0) j ∙ map_same es _ _ (λ i. put_lookup i new rs) j
  edits (out k ∷ es) rs s e j = edits es (out_of key k rs) s (out_rises 0 k rs e) j ∙ map_same es _ _ (λ i. out_lookup i k 0 rs e) j
