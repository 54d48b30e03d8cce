-- The laws of lines, over any list of them.
-- Assumes nothing.
use Rattle.std.specs.Prelude.{ℕ, zero, suc, ◌+◌, ◌^◌, ◌<◌, ◌≤◌, ◌≡◌, refl, Bool, true, false, cond, ◌||◌, List, [], ◌∷◌, length, ltb}
use Rattle.std.proofs.Common.{ap, ◌∙◌, arith, ltb-true}
use Rattle.truth.specs.laws.Tests.{both, clash}
use Rattle.quantity.specs.Range.{Range, within}
use Rattle.quantity.specs.laws.RangeLaws.{low_high}
use Rattle.layout.specs.Layout.{Fit}
use Rattle.layout.specs.Line.{Line, among, allows, widths, Allowed, allows_at, fault_from, FirstFault, end_below, lines_fit}

-- no fault, exactly when every value is allowed
pub none_all : (k : ℕ) (ls : List Line) (vs : List ℕ) → fault_from (suc k) ls vs ≡ 0 → Allowed ls vs
none_all k [] [] e = tt
none_all k [] (v ∷ vs) e = absurd (omega arith)
none_all k (l ∷ ls) [] e = absurd (omega arith)
none_all k (l ∷ ls) (v ∷ vs) e = go (allows l v) refl (none_all (suc k) ls vs) e
  where
    go : (b : Bool) → allows l v ≡ b → (fault_from (suc (suc k)) ls vs ≡ 0 → Allowed ls vs) → cond b (fault_from (suc (suc k)) ls vs) (suc k) ≡ 0
        → (allows l v ≡ true) × Allowed ls vs
    go true q on f = (q, on f)
    go false q on f = absurd (omega arith)

pub all_none : (k : ℕ) (ls : List Line) (vs : List ℕ) → Allowed ls vs → fault_from k ls vs ≡ 0
all_none k [] [] a = refl
all_none k (l ∷ ls) (v ∷ vs) a = rw a.0 (all_none (suc k) ls vs a.1)
all_none k [] (v ∷ vs) a = elim a [ ]
all_none k (l ∷ ls) [] a = elim a [ ]

-- a fault is never numbered below the first field
past : (k : ℕ) (ls : List Line) (vs : List ℕ) → 0 < fault_from (suc k) ls vs → k < fault_from (suc k) ls vs
past k [] [] h = absurd (omega arith)
past k [] (v ∷ vs) h = omega arith
past k (l ∷ ls) [] h = omega arith
past k (l ∷ ls) (v ∷ vs) h = go (allows l v) (past (suc k) ls vs) h
  where
    rest : ℕ
    rest = fault_from (suc (suc k)) ls vs

    go : (b : Bool) → (0 < rest → suc k < rest) → 0 < cond b rest (suc k) → k < cond b rest (suc k)
    go true on h = omega (arith, on h)
    go false on h = omega arith

-- the first faulty field is faulty, and every earlier one is not
pub first_faulty : (k i : ℕ) (ls : List Line) (vs : List ℕ) → fault_from (suc k) ls vs ≡ suc (k + i)
    → (allows_at i ls vs ≡ false) × ((j : ℕ) → j < i → allows_at j ls vs ≡ true)
first_faulty k i [] [] e = absurd (omega arith)
first_faulty k i [] (v ∷ vs) e = (refl, λ j m. absurd (omega arith))
first_faulty k i (l ∷ ls) [] e = (refl, λ j m. absurd (omega arith))
first_faulty k zero (l ∷ ls) (v ∷ vs) e = go (allows l v) refl (past (suc k) ls vs) e
  where
    rest : ℕ
    rest = fault_from (suc (suc k)) ls vs

    go : (b : Bool) → allows l v ≡ b → (0 < rest → suc k < rest) → cond b rest (suc k) ≡ suc (k + 0)
        → (allows l v ≡ false) × ((j : ℕ) → j < 0 → allows_at j (l ∷ ls) (v ∷ vs) ≡ true)
    go true q on f = absurd (omega (arith, on (omega arith)))
    go false q on f = (q, λ j m. absurd (omega arith))
first_faulty k (suc i) (l ∷ ls) (v ∷ vs) e = go (allows l v) refl (first_faulty (suc k) i ls vs) e
  where
    earlier : (j : ℕ) → j < suc i → allows l v ≡ true → ((n : ℕ) → n < i → allows_at n ls vs ≡ true) → allows_at j (l ∷ ls) (v ∷ vs) ≡ true
    earlier zero m q g = q
    earlier (suc j) m q g = g j (omega arith)

    go : (b : Bool) → allows l v ≡ b → (fault_from (suc (suc k)) ls vs ≡ suc (suc k + i)
        → (allows_at i ls vs ≡ false) × ((j : ℕ) → j < i → allows_at j ls vs ≡ true))
        → cond b (fault_from (suc (suc k)) ls vs) (suc k) ≡ suc (k + suc i)
        → (allows_at i ls vs ≡ false) × ((j : ℕ) → j < suc i → allows_at j (l ∷ ls) (v ∷ vs) ≡ true)
    go true q on f = let r = on (omega arith) in (r.0, λ j m. earlier j m q r.1)
    go false q on f = absurd (omega arith)

-- nor past the last
most : (k : ℕ) (ls : List Line) (vs : List ℕ) → length vs ≡ length ls → 0 < fault_from (suc k) ls vs → fault_from (suc k) ls vs ≤ k + length ls
most k [] [] h l = absurd (omega arith)
most k [] (v ∷ vs) h l = absurd (omega arith)
most k (l ∷ ls) [] h m = absurd (omega arith)
most k (l ∷ ls) (v ∷ vs) h m = go (allows l v) (most (suc k) ls vs (omega arith)) m
  where
    rest : ℕ
    rest = fault_from (suc (suc k)) ls vs

    go : (b : Bool) → (0 < rest → rest ≤ suc k + length ls) → 0 < cond b rest (suc k) → cond b rest (suc k) ≤ k + length (l ∷ ls)
    go true on n = omega (arith, on n)
    go false on n = omega arith

-- and the other way round: a faulty field with no earlier one is the first
pub faulty_first : (k i : ℕ) (ls : List Line) (vs : List ℕ) → length vs ≡ length ls → i < length ls
    → allows_at i ls vs ≡ false → ((j : ℕ) → j < i → allows_at j ls vs ≡ true) → fault_from (suc k) ls vs ≡ suc (k + i)
faulty_first k i [] vs h l f g = absurd (omega arith)
faulty_first k i (l ∷ ls) [] h m f g = absurd (omega arith)
faulty_first k zero (l ∷ ls) (v ∷ vs) h m f g = rw f (omega arith)
faulty_first k (suc i) (l ∷ ls) (v ∷ vs) h m f g =
    rw (g zero (omega arith)) (faulty_first (suc k) i ls vs (omega arith) (omega arith) f (λ j n. g (suc j) (omega arith)) ∙ omega arith)

-- a value among ranges that end below a number is below it
pub among_below : (m : ℕ) (rs : List Range) (v : ℕ) → end_below m rs ≡ true → among rs v ≡ true → v < m
among_below m [] v f a = clash a refl
among_below m (r ∷ []) v f a = omega (arith, ltb-true r.high m (both _ (end_below m []) f).0, (low_high r v a).1)
among_below m (r ∷ s ∷ rs) v f a = go (within r v) refl (among_below m (s ∷ rs) v (both (ltb r.high m) (end_below m (s ∷ rs)) f).1) a
  where
    go : (b : Bool) → within r v ≡ b → (among (s ∷ rs) v ≡ true → v < m) → (b || among (s ∷ rs) v) ≡ true → v < m
    go true q on e = omega (arith, ltb-true r.high m (both _ (end_below m (s ∷ rs)) f).0, (low_high r v q).1)
    go false q on e = on e

-- there are as many widths as lines
pub length_widths : (ls : List Line) → length (widths ls) ≡ length ls
length_widths [] = refl
length_widths (l ∷ ls) = ap suc (length_widths ls)

-- allowed values fit their widths
pub allowed_fit : (ls : List Line) (vs : List ℕ) → lines_fit ls ≡ true → Allowed ls vs → Fit (widths ls) vs
allowed_fit [] [] f a = tt
allowed_fit (l ∷ ls) (v ∷ vs) f a =
    let h = both _ _ f in
    (among_below (2 ^ l.width) l.values v h.0 a.0, allowed_fit ls vs h.1 a.1)
allowed_fit [] (v ∷ vs) f a = elim a [ ]
allowed_fit (l ∷ ls) [] f a = elim a [ ]

-- the fault is numbered i + 1 exactly when the field at i is the first at fault
module _ (ls : List Line) (vs : List ℕ) (same : length vs ≡ length ls) (i : ℕ) where
  pub fault_first : fault_from 1 ls vs ≡ suc i → FirstFault i ls vs
  fault_first e =
      let r = first_faulty 0 i ls vs (e ∙ omega arith) in
      record { inside = omega (arith, most 0 ls vs same (omega arith)); faulty = r.0; earlier = r.1 }

  pub first_fault : FirstFault i ls vs → fault_from 1 ls vs ≡ suc i
  first_fault f = faulty_first 0 i ls vs same f.inside f.faulty f.earlier ∙ omega arith
