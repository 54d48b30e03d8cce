-- One list that holds several texts, and where each begins.
-- Assumes nothing.
use Rattle.std.specs.Prelude.{ℕ, zero, suc, ◌+◌, ◌-◌, ◌≤◌, ◌<◌, ◌≡◌, refl, Bool, true, ◌&&◌, List, [], ◌∷◌, ◌++◌, length, take, drop, get_or, leb}
use Rattle.std.proofs.Common.{sym, ap, ap₂, ◌∙◌, arith, not-suc-le-zero, length-append, take_at, leb-true}
use Rattle.std.proofs.Math.Seq.{drop-append-add}
use Rattle.truth.specs.laws.Tests.{both}
use Rattle.wording.specs.Words.{most}
use Rattle.pencil.specs.Trail.{longest}

abbrev pub joined : List (List ℕ) → List ℕ
joined [] = []
joined (t ∷ ts) = t ++ joined ts

abbrev pub ends_of : ℕ → List (List ℕ) → List ℕ
ends_of a [] = a ∷ []
ends_of a (t ∷ ts) = a ∷ ends_of (a + length t) ts

-- the k-th text stands between the k-th number and the next
pub record Cut (texts ends : List ℕ) (a k : ℕ) (text : List ℕ) : Type 0 where
  pub low : a ≤ get_or ends k 0
  pub order : get_or ends k 0 ≤ get_or ends (suc k) 0
  pub high : get_or ends (suc k) 0 ≤ a + length texts
  pub part : take (get_or ends (suc k) 0 - get_or ends k 0) (drop (get_or ends k 0 - a) texts) ≡ text

begins : (ts : List (List ℕ)) (a : ℕ) → get_or (ends_of a ts) 0 0 ≡ a
begins [] a = refl
begins (t ∷ ts) a = refl

pub cut : (ts : List (List ℕ)) (a k : ℕ) → k < length ts → Cut (joined ts) (ends_of a ts) a k (get_or ts k [])
cut [] a k h = absurd (not-suc-le-zero h)
cut (t ∷ ts) a zero h =
    let e = begins ts (a + length t) in
    let n : get_or (ends_of (a + length t) ts) 0 0 - a ≡ length t = omega arith in
    let z : a - a ≡ 0 = omega arith in
    record {
      low = omega arith;
      order = omega arith;
      high = omega (arith, length-append t (joined ts));
      part = ap₂ (λ (x y : ℕ). take x (drop y (t ++ joined ts))) n z ∙ take_at t (joined ts) (length t) refl;
    }
cut (t ∷ ts) a (suc k) h =
    let c = cut ts (a + length t) k (omega arith) in
    let low = c.low in
    let e = get_or (ends_of (a + length t) ts) k 0 in
    let n : e - a ≡ length t + (e - (a + length t)) = omega arith in
    record {
      low = omega arith;
      order = c.order;
      high = omega (arith, c.high, length-append t (joined ts));
      part = ap (λ (y : ℕ). take (get_or (ends_of (a + length t) ts) (suc k) 0 - e) (drop y (t ++ joined ts))) n
          ∙ ap (take (get_or (ends_of (a + length t) ts) (suc k) 0 - e)) (drop-append-add t (joined ts) (e - (a + length t)))
          ∙ c.part;
    }

-- ---- one test bounds every text

abbrev pub all_short : List (List ℕ) → Bool
all_short [] = true
all_short (t ∷ ts) = leb (most 0 t) longest && all_short ts

pub short_at : (ts : List (List ℕ)) → all_short ts ≡ true → (k : ℕ) → most 0 (get_or ts k []) ≤ longest
unfolding most
short_at [] e k = omega arith
short_at (t ∷ ts) e zero = leb-true (most 0 t) longest (both (leb (most 0 t) longest) (all_short ts) e).0
short_at (t ∷ ts) e (suc k) = short_at ts (both (leb (most 0 t) longest) (all_short ts) e).1 k

-- ---- as code cuts it

pub record Piece (texts ends : List ℕ) (k : ℕ) (text : List ℕ) : Type 0 where
  pub order : get_or ends k 0 ≤ get_or ends (k + 1) 0
  pub high : get_or ends (k + 1) 0 ≤ length texts
  pub part : take (get_or ends (k + 1) 0 - get_or ends k 0) (drop (get_or ends k 0) texts) ≡ text

pub piece : (ts : List (List ℕ)) (k : ℕ) → k < length ts → Piece (joined ts) (ends_of 0 ts) k (get_or ts k [])
piece ts k h =
    let c = cut ts 0 k h in
    let e = ends_of 0 ts in
    let n : suc k ≡ k + 1 = omega arith in
    let z : get_or e k 0 ≡ get_or e k 0 - 0 = omega arith in
    record {
      order = rw n at c.order;
      high = omega (arith, ap (λ (i : ℕ). get_or e i 0) n, c.high);
      part = ap (λ (y : ℕ). take (get_or e (k + 1) 0 - get_or e k 0) (drop y (joined ts))) z
          ∙ ap (λ (i : ℕ). take (get_or e i 0 - get_or e k 0) (drop (get_or e k 0 - 0) (joined ts))) (sym n)
          ∙ c.part;
    }

pub get_d_past : (ts : List (List ℕ)) (k : ℕ) → length ts ≤ k → get_or ts k [] ≡ []
get_d_past [] k h = refl
get_d_past (t ∷ ts) zero h = absurd (not-suc-le-zero h)
get_d_past (t ∷ ts) (suc k) h = get_d_past ts k (omega arith)
