-- The least number that meets a shape is the first that may meet it, or the one after it.
-- Assumes nothing.
use Rattle.std.specs.Prelude.{ℕ, zero, suc, ◌+◌, ◌-◌, ◌*◌, ◌≤◌, ◌<◌, true, false, ◌≡◌, refl, leb, Some, None}
use Rattle.std.proofs.Common.{arith, mul-le-mul_left, mul-add, mul-one, le-leb, leb-true, leb-false}
use Rattle.std.proofs.Math.Decide.{dec_le}
use Rattle.std.proofs.lemmas.Bool.{lt-leb}
use Rattle.root.specs.Root.{root_of}
use Rattle.root.specs.laws.RootLaws.{root_is, root_least, root_past}
use Rattle.gauge.specs.declared.Shape.{Shape}
use Rattle.gauge.specs.declared.Shape.TheVariants.{Never, Floor, Square}
use Rattle.gauge.specs.Ceil.{ceil_of}
use Rattle.gauge.specs.laws.CeilLaws.{ceil_most, ceil_covers, ceil_zero}
use Rattle.gauge.specs.Shape.{meets_of, least_of}
use Rattle.truth.specs.laws.Tests.{false_of, clash, both}
use Rattle.gauge.specs.laws.LeastLaws.{no_less, least_only, least_is_lem, none_passes, none_below}
use Rattle.gauge.specs.laws.ShapeLaws.{monotone}
use Rattle.gauge.specs.Worked.{first_in, LastStep}

-- ---- the last step

module _ (d : Shape) (first top : ℕ) (s : LastStep d first) where
  -- a first number past the gauge
  pub past_top : least_of (Floor first) top ≡ None → None ≡ least_of d top
  past_top e =
      least_only (meets_of d) top None
      (λ j l h. s.below j (leb-false first j (none_passes (leb first) top e j l (omega arith))))

  module _ (x : ℕ) (e : least_of (Floor first) top ≡ Some x) where
    -- no number of the gauge below the one that is tested meets the shape
    least_below : (j : ℕ) → 1 ≤ j → j < x → meets_of d j ≡ false
    least_below j l h = s.below j (leb-false first j ((least_is_lem (leb first) top x e).least j l h))

    -- and where that one does not either, it is the first itself, and not 1 in its place
    first_tested : meets_of d x ≡ false → x ≡ first
    first_tested f = go (dec_le x first)
      where
        go : Dec (x ≤ first) → x ≡ first
        go (yes h) = omega (arith, leb-true first x (least_is_lem (leb first) top x e).passes)
        go (no h) = clash (monotone d (first + 1) x (omega arith) s.next) f

    pub tested_at : meets_of d x ≡ true → Some x ≡ least_of d top
    tested_at p =
        let i = least_is_lem (leb first) top x e in
        least_only (meets_of d) top (Some x) (record { from = i.from; within = i.within; passes = p; least = least_below })

    pub tested_last : x ≡ top → meets_of d x ≡ false → None ≡ least_of d top
    tested_last t f =
        least_only (meets_of d) top None (λ j l h. none_below (meets_of d) (monotone d) x f j (omega arith))

    pub tested_next : x < top → meets_of d x ≡ false → Some (x + 1) ≡ least_of d top
    tested_next t f =
        let z = first_tested f in
        least_only (meets_of d) top (Some (x + 1)) (record { from = omega arith; within = omega arith; passes = rw z s.next; least = λ j l h. none_below (meets_of d) (monotone d) x f j (omega arith) })

  -- the least number is the first, or the one after it
  pub near_first : (k : ℕ) → least_of d top ≡ Some k → (first ≤ k) × (k ≤ first + 1)
  near_first k e =
      let i = least_is_lem (meets_of d) top k e in
      (go (dec_le first k), no_less (meets_of d) 1 (top + 1) k (first + 1) i (omega arith) s.next)
    where
      go : Dec (first ≤ k) → first ≤ k
      go (yes h) = h
      go (no h) = clash (least_is_lem (meets_of d) top k e).passes (s.below k (omega arith))

-- ---- a square and its root

module _ (step short n : ℕ) where
  -- what does not reach short and the root does not meet the square
  under_root : (x : ℕ) → step * x < short + root_of n → meets_of (Square step short n) x ≡ false
  under_root x h =
      false_of (meets_of (Square step short n) x)
      (λ e.
      let t = both _ _ e in
      let l = leb-true short (step * x) t.0 in
      let m = root_least n (root_of n) (step * x - short) (root_is n) (leb-true n _ t.1) in
      omega arith)

  -- and what goes past them does
  past_root : (x : ℕ) → short + root_of n < step * x → meets_of (Square step short n) x ≡ true
  past_root x h =
      let l : short ≤ step * x = omega arith in
      let m = root_past n (root_of n) (step * x - short) (root_is n) (omega arith) in
      rw (le-leb short (step * x) l, le-leb n ((step * x - short) * (step * x - short)) m)

  -- no number where the gauge's last does not reach them
  pub none_over : (top : ℕ) → step * top < short + root_of n → None ≡ least_of (Square step short n) top
  none_over top h =
      least_only (meets_of (Square step short n)) top None
      (λ j l k. under_root j (omega (arith, mul-le-mul_left {m = j} {n = top} step (omega arith))))

-- a step of 0 reaches short and the root only where both are 0, and then every number meets the square
unreached : (short n top : ℕ) → short + root_of n ≤ 0 * top → (x : ℕ) → meets_of (Square 0 short n) x ≡ true
unreached short n top h x =
    let z : root_of n ≡ 0 = omega arith in
    let m : n < (0 + 1) * (0 + 1) = rw z at (root_is n).high in
    rw (le-leb short (0 * x) (omega arith), le-leb n ((0 * x - short) * (0 * x - short)) (omega arith))

-- short and the root over the step, rounded up, leave the last step alone to be tested
pub square_step : (step short n top : ℕ) → short + root_of n ≤ step * top → LastStep (Square step short n) (ceil_of (short + root_of n) step)
square_step zero short n top h =
    record { below = λ j l. absurd (omega (arith, ceil_zero (short + root_of n))); next = unreached short n top h (ceil_of (short + root_of n) 0 + 1) }
square_step (suc s) short n top h =
    let p : ℕ = short + root_of n in
    let over = ceil_covers p (suc s) (omega arith) in
    record {
      below = λ j l. under_root (suc s) short n j (reach j l);
      next = past_root (suc s) short n (ceil_of p (suc s) + 1) (omega (arith, over, mul-add (suc s) (ceil_of p (suc s)) 1, mul-one (suc s)));
    }
  where
    reach : (j : ℕ) → j < ceil_of (short + root_of n) (suc s) → suc s * j < short + root_of n
    reach j l = go (dec_le (short + root_of n) (suc s * j))
      where
        go : Dec (short + root_of n ≤ suc s * j) → suc s * j < short + root_of n
        go (yes k) = absurd (omega (arith, ceil_most (short + root_of n) (suc s) j (omega arith) k))
        go (no k) = omega arith

-- of a floor the last step is no step
floor_step : (n : ℕ) → LastStep (Floor n) n
floor_step n = record { below = λ j l. lt-leb n j l; next = le-leb n (n + 1) (omega arith) }

-- the least number that meets a shape is the first that may, or the one after it
pub first_near : (d : Shape) (top k : ℕ) → least_of d top ≡ Some k → (first_in d ≤ k) × (k ≤ first_in d + 1)
first_near Never top k e = clash (least_is_lem (meets_of Never) top k e).passes refl
first_near (Floor n) top k e = near_first (Floor n) n top (floor_step n) k e
first_near (Square step short n) top k e = go (dec_le (short + root_of n) (step * top))
  where
    go : Dec (short + root_of n ≤ step * top) → (first_in (Square step short n) ≤ k) × (k ≤ first_in (Square step short n) + 1)
    go (yes h) = near_first (Square step short n) (ceil_of (short + root_of n) step) top (square_step step short n top h) k e
    go (no h) =
        let o = none_over step short n top (omega arith) in
        let z : ◌≡◌ {A = ℕ} 0 1 = cc in
        absurd (omega arith)
