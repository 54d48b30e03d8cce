-- The laws of least numbers, over any test; those that speak of larger numbers ask that the test is monotone.
-- Assumes nothing.
use Prim.Native.Nat.{ℕ, zero, suc, ◌+◌, ◌≤◌, ◌<◌}
use Rattle.std.specs.Prelude.{Bool, cond, ◌≡◌, Option, Some, None}
use Rattle.std.proofs.Math.Bool.{true, false}
use Rattle.std.proofs.Math.Path.{refl}
use Rattle.std.proofs.Common.{ap, sym, subst, ⊎_elim, arith, eq-or-lt_of_le}
use Rattle.std.proofs.Math.Decide.{dec_le}
use Rattle.truth.specs.laws.Tests.{clash, false_of}
use Rattle.gauge.specs.Least.{first_from, least_in, number_of, Monotone, Agree, IsLeast, Answer}

module _ (test : ℕ → Bool) where
  -- a number that fails may stand in front
  in_front : (x end : ℕ) (r : Option ℕ) → test x ≡ false → Answer test (suc x) end r → Answer test x end r
  in_front x end (Some k) q a =
      record { from = omega arith; within = a.within; passes = a.passes; least = λ j m n. ⊎_elim (λ e. cc) (λ l. a.least j l n) (eq-or-lt_of_le m) }
  in_front x end None q a = λ j m n. ⊎_elim (λ e. cc) (λ l. a j l n) (eq-or-lt_of_le m)

  -- the search gives the answer
  answered : (count x end : ℕ) → end ≡ x + count → Answer test x end (first_from test count x)
  unfolding first_from
  answered zero x end f = λ j m n. absurd (omega arith)
  answered (suc count) x end f = go (test x) refl (answered count (suc x) end (omega arith))
    where
      go : (b : Bool) → test x ≡ b → Answer test (suc x) end (first_from test count (suc x)) →
          Answer test x end (cond b (Some x) (first_from test count (suc x)))
      go true q a = record { from = omega arith; within = omega arith; passes = q; least = λ j m n. absurd (omega arith) }
      go false q a = in_front x end (first_from test count (suc x)) q a

  -- no number that passes is below the least
  pub no_less : (lo end k m : ℕ) → IsLeast test lo end k → lo ≤ m → test m ≡ true → k ≤ m
  no_less lo end k m a l p = go (dec_le k m)
    where
      go : Dec (k ≤ m) → k ≤ m
      go (yes h) = h
      go (no h) = clash p (a.least m l (omega arith))

  -- two answers are equal
  unique : (lo end : ℕ) (r s : Option ℕ) → Answer test lo end r → Answer test lo end s → r ≡ s
  unique lo end (Some k) (Some m) a b =
      ap Some (omega (arith, no_less lo end k m a b.from b.passes, no_less lo end m k b a.from a.passes))
  unique lo end (Some k) None a b = clash a.passes (b k a.from a.within)
  unique lo end None (Some m) a b = clash b.passes (a m b.from b.within)
  unique lo end None None a b = refl

  module _ (top : ℕ) where
    -- `least_in` is an answer, and the only one
    pub least_answers : Answer test 1 (top + 1) (least_in test top)
    unfolding least_in
    least_answers = answered top 1 (top + 1) (omega arith)

    pub least_only : (r : Option ℕ) → Answer test 1 (top + 1) r → r ≡ least_in test top
    least_only r a = unique 1 (top + 1) r (least_in test top) a least_answers

    -- an answer that is a number: it is in the gauge and passes, and nothing smaller does
    pub least_is_lem : (k : ℕ) → least_in test top ≡ Some k → IsLeast test 1 (top + 1) k
    least_is_lem k e = subst (Answer test 1 (top + 1)) e least_answers

    pub smaller_fails : (k : ℕ) → least_in test top ≡ Some k → (j : ℕ) → 1 ≤ j → j < k → test j ≡ false
    smaller_fails k e = (least_is_lem k e).least

    -- no answer only where nothing in the gauge passes, and always there
    pub none_passes : least_in test top ≡ None → (j : ℕ) → 1 ≤ j → j ≤ top → test j ≡ false
    none_passes e j l h =
        let a : Answer test 1 (top + 1) None = subst (Answer test 1 (top + 1)) e least_answers in
        a j l (omega arith)

    pub none_given : ((j : ℕ) → 1 ≤ j → j ≤ top → test j ≡ false) → least_in test top ≡ None
    none_given f = sym (least_only None (λ j l h. f j l (omega arith)))

    -- the number of an answer is 0 exactly where there is none
    pub number_zero : number_of (least_in test top) ≡ 0 → least_in test top ≡ None
    number_zero = go (least_in test top) refl
      where
        go : (r : Option ℕ) → least_in test top ≡ r → number_of r ≡ 0 → r ≡ None
        go (Some k) e z = absurd (omega (arith, (least_is_lem k e).from))
        go None e z = refl

    -- and else the number is the answer
    pub number_least : (k : ℕ) → number_of (least_in test top) ≡ suc k → least_in test top ≡ Some (suc k)
    number_least k = go (least_in test top)
      where
        go : (r : Option ℕ) → number_of r ≡ suc k → r ≡ Some (suc k)
        go (Some m) z = ap Some z
        go None z = absurd (omega arith)

  module _ (m : Monotone test) where
    -- what one number does not pass no smaller one passes
    pub none_below : (x : ℕ) → test x ≡ false → (j : ℕ) → j ≤ x → test j ≡ false
    none_below x q j l = false_of (test j) (λ e. clash (m j x l e) q)

    -- every larger number passes too
    pub larger_passes : (top k : ℕ) → least_in test top ≡ Some k → (y : ℕ) → k ≤ y → test y ≡ true
    larger_passes top k e y l = m k y l (least_is_lem top k e).passes

    -- a number that fails is below the least that passes
    pub fails_below : (top k x : ℕ) → least_in test top ≡ Some k → test x ≡ false → x < k
    fails_below top k x e q = go (dec_le k x)
      where
        go : Dec (k ≤ x) → x < k
        go (yes h) = clash (larger_passes top k e x h) q
        go (no h) = omega arith

-- two searches whose tests agree give one answer
first_same : (f g : ℕ → Bool) (count x end : ℕ) → end ≡ x + count →
    ((j : ℕ) → x ≤ j → j < end → f j ≡ g j) → first_from f count x ≡ first_from g count x
unfolding first_from
first_same f g zero x end e h = refl
first_same f g (suc count) x end e h =
    rw (h x (omega arith) (omega arith), first_same f g count (suc x) end (omega arith) (λ j m n. h j (omega arith) n))

pub least_same : (f g : ℕ → Bool) (top : ℕ) → Agree top f g → least_in f top ≡ least_in g top
unfolding least_in
least_same f g top h = first_same f g top 1 (top + 1) (omega arith) (λ j m n. h j m (omega arith))
