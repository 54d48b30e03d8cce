-- Putting in and taking out of a list that rises in its keys, by the place of the key.
-- Assumes nothing.
use Prim.Native.Nat.{ℕ, zero, suc, ◌+◌, ◌<◌, ◌≤◌}
use Rattle.std.proofs.Math.Path.{◌≡◌, refl, ap}
use Rattle.std.proofs.Common.{sym, ◌∙◌}
use Rattle.std.specs.Prelude.{Bool}
use Rattle.std.proofs.Math.Bool.{true, false, cond}
use mathlib.Core.List.{List, [], ◌∷◌, ◌++◌}
use native.Mathlib.Omega.{arith}
use Rattle.std.proofs.Math.Dec.{ltb, eqb}
use Rattle.std.proofs.Math.ListN.{length, take, drop}
use borrow.Author.Tests.{ltb-true, lt-ltb, le-ltb, eqb-true, eq-eqb, ne_eqb}
use Rattle.keyed.specs.Keyed.{rises, position_of, has_of, put_of, out_of}
use Rattle.keyed.specs.laws.MapLaws.{rises_head}

module _ {A : Type 0} (key : A → ℕ) where
  pub place_le : (j : ℕ) (rs : List A) → position_of key j rs ≤ length rs
  unfolding position_of
  place_le j [] = omega arith
  place_le j (r ∷ rs) = go (place_le j rs) (ltb (key r) j)
    where
      go : position_of key j rs ≤ length rs → (b : Bool) → cond b (suc (position_of key j rs)) 0 ≤ suc (length rs)
      go i true = omega arith
      go i false = omega arith

  pub has_lt : (j : ℕ) (rs : List A) → has_of key j rs ≡ true → position_of key j rs < length rs
  unfolding position_of has_of
  has_lt j [] e = let z : ◌≡◌ {A = ℕ} 0 1 = cc in absurd (omega arith)
  has_lt j (r ∷ rs) e = go (has_lt j rs) (ltb (key r) j) e
    where
      go : (has_of key j rs ≡ true → position_of key j rs < length rs) → (b : Bool) → cond b (has_of key j rs) (eqb (key r) j) ≡ true → cond b (suc (position_of key j rs)) 0 < suc (length rs)
      go i true e = omega (arith, i e)
      go i false e = omega arith

  -- a put, by the place
  pub put_at : (new : A) (rs : List A)
      → put_of key new rs ≡ take (position_of key (key new) rs) rs ++ (new ∷ drop (cond (has_of key (key new) rs) (suc (position_of key (key new) rs)) (position_of key (key new) rs)) rs)
  unfolding put_of position_of has_of
  put_at new [] = refl
  put_at new (r ∷ rs) = go (put_at new rs) (ltb (key r) (key new)) (eqb (key r) (key new))
    where
      go : put_of key new rs ≡ take (position_of key (key new) rs) rs ++ (new ∷ drop (cond (has_of key (key new) rs) (suc (position_of key (key new) rs)) (position_of key (key new) rs)) rs)
          → (s t : Bool)
          → cond s (r ∷ put_of key new rs) (cond t (new ∷ rs) (new ∷ r ∷ rs))
          ≡ take (cond s (suc (position_of key (key new) rs)) 0) (r ∷ rs)
          ++ (new ∷ drop (cond (cond s (has_of key (key new) rs) t) (suc (cond s (suc (position_of key (key new) rs)) 0)) (cond s (suc (position_of key (key new) rs)) 0)) (r ∷ rs))
      go i true t = ap (λ (l : List A). r ∷ l) (i ∙ later (has_of key (key new) rs) (position_of key (key new) rs))
        where
          later : (b : Bool) (k : ℕ) → take k rs ++ (new ∷ drop (cond b (suc k) k) rs) ≡ take k rs ++ (new ∷ drop (cond b (suc (suc k)) (suc k)) (r ∷ rs))
          later true k = refl
          later false k = refl
      go i false true = refl
      go i false false = refl

  -- how many there are once it is in
  pub put_length : (new : A) (rs : List A) → length (put_of key new rs) ≡ cond (has_of key (key new) rs) (length rs) (length rs + 1)
  unfolding put_of has_of
  put_length new [] = refl
  put_length new (r ∷ rs) = go (put_length new rs) (ltb (key r) (key new)) (eqb (key r) (key new))
    where
      go : length (put_of key new rs) ≡ cond (has_of key (key new) rs) (length rs) (length rs + 1) → (s t : Bool)
          → length (cond s (r ∷ put_of key new rs) (cond t (new ∷ rs) (new ∷ r ∷ rs))) ≡ cond (cond s (has_of key (key new) rs) t) (suc (length rs)) (suc (length rs) + 1)
      go i true t = ap suc i ∙ later (has_of key (key new) rs)
        where
          later : (b : Bool) → suc (cond b (length rs) (length rs + 1)) ≡ cond b (suc (length rs)) (suc (length rs) + 1)
          later true = refl
          later false = omega arith
      go i false true = refl
      go i false false = omega arith

  -- a removal, by the place
  pub out_at : (j : ℕ) (rs : List A) → has_of key j rs ≡ true → out_of key j rs ≡ take (position_of key j rs) rs ++ drop (suc (position_of key j rs)) rs
  unfolding out_of position_of has_of
  out_at j [] e = let z : ◌≡◌ {A = ℕ} 0 1 = cc in absurd (omega arith)
  out_at j (r ∷ rs) e = go (out_at j rs) (ltb (key r) j) refl e
    where
      go : (has_of key j rs ≡ true → out_of key j rs ≡ take (position_of key j rs) rs ++ drop (suc (position_of key j rs)) rs) → (s : Bool) → ltb (key r) j ≡ s → cond s (has_of key j rs) (eqb (key r) j) ≡ true
          → cond (eqb (key r) j) rs (r ∷ out_of key j rs) ≡ take (cond s (suc (position_of key j rs)) 0) (r ∷ rs) ++ drop (suc (cond s (suc (position_of key j rs)) 0)) (r ∷ rs)
      go i true d h = rw (ne_eqb (key r) j (λ q. omega (arith, ltb-true (key r) j d))) (ap (λ (l : List A). r ∷ l) (i h))
      go i false d h = rw h

  -- what is put in new and taken out again leaves the list as it was
  pub put_out : (new : A) (rs : List A) → has_of key (key new) rs ≡ false → out_of key (key new) (put_of key new rs) ≡ rs
  unfolding put_of out_of has_of
  put_out new [] e = rw (eq-eqb (key new) (key new) refl)
  put_out new (r ∷ rs) e = go (put_out new rs) (ltb (key r) (key new)) refl (eqb (key r) (key new)) refl e
    where
      go : (has_of key (key new) rs ≡ false → out_of key (key new) (put_of key new rs) ≡ rs) → (s : Bool) → ltb (key r) (key new) ≡ s → (t : Bool) → eqb (key r) (key new) ≡ t
          → cond s (has_of key (key new) rs) t ≡ false → out_of key (key new) (cond s (r ∷ put_of key new rs) (cond t (new ∷ rs) (new ∷ r ∷ rs))) ≡ r ∷ rs
      go i true d t f h = rw (ne_eqb (key r) (key new) (λ q. omega (arith, ltb-true (key r) (key new) d))) (ap (λ (l : List A). r ∷ l) (i h))
      go i false d true f h = absurd (let z : ◌≡◌ {A = ℕ} 0 1 = cc in omega arith)
      go i false d false f h = rw (eq-eqb (key new) (key new) refl)

  -- what is put in is there, at the place that was its key's
  pub put_has : (new : A) (rs : List A) → has_of key (key new) (put_of key new rs) ≡ true
  unfolding put_of has_of
  put_has new [] = rw (le-ltb (key new) (key new) (omega arith), eq-eqb (key new) (key new) refl)
  put_has new (r ∷ rs) = go (put_has new rs) (ltb (key r) (key new)) refl (eqb (key r) (key new))
    where
      go : has_of key (key new) (put_of key new rs) ≡ true → (s : Bool) → ltb (key r) (key new) ≡ s → (t : Bool) → has_of key (key new) (cond s (r ∷ put_of key new rs) (cond t (new ∷ rs) (new ∷ r ∷ rs))) ≡ true
      go h true d t = rw (d, h)
      go h false d true = rw (le-ltb (key new) (key new) (omega arith), eq-eqb (key new) (key new) refl)
      go h false d false = rw (le-ltb (key new) (key new) (omega arith), eq-eqb (key new) (key new) refl)

  pub put_place : (new : A) (rs : List A) → position_of key (key new) (put_of key new rs) ≡ position_of key (key new) rs
  unfolding put_of position_of
  put_place new [] = rw (le-ltb (key new) (key new) (omega arith))
  put_place new (r ∷ rs) = go (put_place new rs) (ltb (key r) (key new)) refl (eqb (key r) (key new))
    where
      go : position_of key (key new) (put_of key new rs) ≡ position_of key (key new) rs → (s : Bool) → ltb (key r) (key new) ≡ s → (t : Bool)
          → position_of key (key new) (cond s (r ∷ put_of key new rs) (cond t (new ∷ rs) (new ∷ r ∷ rs))) ≡ cond s (suc (position_of key (key new) rs)) 0
      go h true d t = rw (d, h)
      go h false d true = rw (le-ltb (key new) (key new) (omega arith))
      go h false d false = rw (le-ltb (key new) (key new) (omega arith))

  -- ---- the others stay

  -- x is the i-th of a list, from 0
  abbrev pub At : List A → ℕ → A → Type 0
  At [] i x = ⊥
  At (y ∷ ys) zero x = y ≡ x
  At (y ∷ ys) (suc i) x = At ys i x

  pub put_keeps : (new : A) (rs : List A) (i : ℕ) (q : A) → (key q ≡ key new → ⊥) → At rs i q → (j : ℕ) × At (put_of key new rs) j q
  unfolding put_of
  put_keeps new [] i q n a = absurd a
  put_keeps new (r ∷ rs) i q n a = go (put_keeps new rs) (ltb (key r) (key new)) (eqb (key r) (key new)) refl i a
    where
      go : ((i : ℕ) (q : A) → (key q ≡ key new → ⊥) → At rs i q → (j : ℕ) × At (put_of key new rs) j q) → (s t : Bool) → eqb (key r) (key new) ≡ t → (i : ℕ) → At (r ∷ rs) i q
          → (j : ℕ) × At (cond s (r ∷ put_of key new rs) (cond t (new ∷ rs) (new ∷ r ∷ rs))) j q
      go rest true t e zero b = (0, b)
      go rest true t e (suc i) b = let c = rest i q n b in (suc c.0, c.1)
      go rest false true e zero b = absurd (n (ap key (sym b) ∙ eqb-true (key r) (key new) e))
      go rest false true e (suc i) b = (suc i, b)
      go rest false false e i b = (suc i, b)

  pub out_keeps : (k : ℕ) (rs : List A) (i : ℕ) (q : A) → (key q ≡ k → ⊥) → At rs i q → (j : ℕ) × At (out_of key k rs) j q
  unfolding out_of
  out_keeps k [] i q n a = absurd a
  out_keeps k (r ∷ rs) i q n a = go (out_keeps k rs) (eqb (key r) k) refl i a
    where
      go : ((i : ℕ) (q : A) → (key q ≡ k → ⊥) → At rs i q → (j : ℕ) × At (out_of key k rs) j q) → (t : Bool) → eqb (key r) k ≡ t → (i : ℕ) → At (r ∷ rs) i q
          → (j : ℕ) × At (cond t rs (r ∷ out_of key k rs)) j q
      go rest true e zero b = absurd (n (ap key (sym b) ∙ eqb-true (key r) k e))
      go rest true e (suc i) b = (i, b)
      go rest false e zero b = (0, b)
      go rest false e (suc i) b = let c = rest i q n b in (suc c.0, c.1)

  -- ---- who is there

  -- one of the list has the key k
  abbrev pub Present : (k : ℕ) → List A → Type 0
  Present k rs = (i : ℕ) × (q : A) × At rs i q × (key q ≡ k)

  pub has_present : (k : ℕ) (rs : List A) → has_of key k rs ≡ true → Present k rs
  unfolding has_of
  has_present k [] e = absurd (let z : ◌≡◌ {A = ℕ} 0 1 = cc in omega arith)
  has_present k (r ∷ rs) e = go (has_present k rs) (ltb (key r) k) e
    where
      go : (has_of key k rs ≡ true → Present k rs) → (s : Bool) → cond s (has_of key k rs) (eqb (key r) k) ≡ true → Present k (r ∷ rs)
      go rest true f = let p = rest f in (suc p.0, p.1, p.2, p.3)
      go rest false f = (0, r, refl, eqb-true (key r) k f)

  -- all of a rising list are above what stands before
  above : (rs : List A) (before i : ℕ) (q : A) → rises key before rs ≡ true → At rs i q → before < key q
  above [] before i q f a = absurd a
  above (r ∷ rs) before zero q f a = omega (arith, (rises_head key before r rs f).0, ap key a)
  above (r ∷ rs) before (suc i) q f a = let m = rises_head key before r rs f in omega (arith, m.0, above rs (key r) i q m.1 a)

  pub present_has : (k before : ℕ) (rs : List A) → rises key before rs ≡ true → Present k rs → has_of key k rs ≡ true
  unfolding rises has_of
  present_has k before [] e p = absurd p.2
  present_has k before (r ∷ rs) e p = go (present_has k (key r) rs) p.0 p.1 p.2 p.3
    where
      h : (before < key r) × (rises key (key r) rs ≡ true)
      h = rises_head key before r rs e

      go : (rises key (key r) rs ≡ true → Present k rs → has_of key k rs ≡ true) → (i : ℕ) (q : A) → At (r ∷ rs) i q → key q ≡ k → cond (ltb (key r) k) (has_of key k rs) (eqb (key r) k) ≡ true
      go rest zero q a f = rw (le-ltb (key r) k (omega (arith, ap key a, f)), eq-eqb (key r) k (ap key a ∙ f))
      go rest (suc i) q a f = rw (lt-ltb (key r) k (omega (arith, above rs (key r) i q h.1 a, f))) (rest h.1 (i, q, a, f))

-- places and what is there rest on the keys alone
module _ {A B : Type 0} (f : A → ℕ) (g : B → ℕ) (k : ℕ) where
  -- two lists with the same keys
  pub data SameKeys : List A → List B → Type 0 where
    none : SameKeys [] []
    next : {x : A} {y : B} {xs : List A} {ys : List B} → f x ≡ g y → SameKeys xs ys → SameKeys (x ∷ xs) (y ∷ ys)

  pub same_place : (xs : List A) (ys : List B) → SameKeys xs ys → position_of f k xs ≡ position_of g k ys
  unfolding position_of
  same_place [] [] none = refl
  same_place [] (y ∷ ys) s = elim s [ ]
  same_place (x ∷ xs) [] s = elim s [ ]
  same_place (x ∷ xs) (y ∷ ys) (next e s) = rw (e, same_place xs ys s)

  pub same_has : (xs : List A) (ys : List B) → SameKeys xs ys → has_of f k xs ≡ has_of g k ys
  unfolding has_of
  same_has [] [] none = refl
  same_has [] (y ∷ ys) s = elim s [ ]
  same_has (x ∷ xs) [] s = elim s [ ]
  same_has (x ∷ xs) (y ∷ ys) (next e s) = rw (e, same_has xs ys s)
