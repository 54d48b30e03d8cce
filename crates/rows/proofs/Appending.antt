-- Fields appended one after another: what is left of them, appended to what the bytes hold, gives the whole.
-- Assumes nothing.
use Prim.Native.Nat.{ℕ, zero, suc, ◌+◌, ◌*◌, ◌<◌, ◌≤◌, min}
use mathlib.Core.Path.{◌≡◌, refl, sym, ap, ◌∙◌}
use mathlib.Core.List.{List, [], ◌∷◌}
use mathlib.Core.Bool.{Bool, true, false, ◌&&◌}
use native.Mathlib.Omega.{arith}
use lib.ListN.{length, get_or, take, drop, length-drop}
use lib.Seq.{drop-cons}
use Rattle.std.proofs.Common.{add-one}
use lib.Dec.{ltb}
use borrow.Author.Tests.{lt-ltb, ltb-true}
use Rattle.layout.specs.Layout.{pack, unpack, bytes, Fit}
use Rattle.layout.specs.laws.Laws.{unpack_pack}
use Rattle.rows.specs.Pack.{appended, fields_from, fields_of, below, joined, packed_on}
use Rattle.rows.specs.laws.PackLaws.{appended_number}

-- the first fields of a list that has as many
pub fields_taken : (n : ℕ) (ns : List ℕ) → n ≤ length ns → take n ns ≡ fields_of n ns
fields_taken n ns h = from 0 n (omega arith)
  where
    from : (i m : ℕ) → i + m ≤ length ns → take m (drop i ns) ≡ fields_from i m ns
    from i zero h = refl
    from i (suc m) h =
        ap (take (suc m)) (drop-cons ns i 0 (omega arith))
        ∙ ap (λ (k : ℕ). get_or ns i 0 ∷ take m (drop k ns)) (sym (add-one i))
        ∙ ap (λ (t : List ℕ). get_or ns i 0 ∷ t) (from (i + 1) m (omega arith))

-- the elements from i on
next_one : (ns : List ℕ) (i : ℕ) → i < length ns → drop i ns ≡ get_or ns i 0 ∷ drop (i + 1) ns
next_one ns i h = drop-cons ns i 0 h ∙ ap (λ (k : ℕ). get_or ns i 0 ∷ drop k ns) (sym (add-one i))

-- ---- each below its limit

both_left : (a b : Bool) → (a && b) ≡ true → a ≡ true
both_left true b e = refl
both_left false b e = e

both_right : (a b : Bool) → (a && b) ≡ true → b ≡ true
both_right true b e = e
both_right false b e = cc

pub all_below : (ls vs : List ℕ) → length vs ≡ length ls → ((k : ℕ) → k < length vs → get_or vs k 0 < get_or ls k 0) → below ls vs ≡ true
unfolding below
all_below [] [] e f = refl
all_below [] (v ∷ vs) e f = absurd (omega arith)
all_below (l ∷ ls) [] e f = absurd (omega arith)
all_below (l ∷ ls) (v ∷ vs) e f = rw (lt-ltb v l (f zero (omega arith))) (all_below ls vs (omega arith) (λ k h. f (suc k) (omega arith)))

pub each_below : (ls vs : List ℕ) → below ls vs ≡ true → (k : ℕ) → k < length vs → get_or vs k 0 < get_or ls k 0
unfolding below
each_below [] [] e k h = absurd (omega arith)
each_below [] (v ∷ vs) e k h = cc
each_below (l ∷ ls) [] e k h = absurd (omega arith)
each_below (l ∷ ls) (v ∷ vs) e zero h = ltb-true v l (both_left (ltb v l) (below ls vs) e)
each_below (l ∷ ls) (v ∷ vs) e (suc k) h = each_below ls vs (both_right (ltb v l) (below ls vs) e) k (omega arith)

-- two answers that are both true or neither
pub same : (a b : Bool) → (a ≡ true → b ≡ true) → (b ≡ true → a ≡ true) → a ≡ b
same true b f g = sym (f refl)
same false true f g = g refl
same false false f g = refl

-- ---- appended

-- the bytes of a slice are below 256
pub slice_fit : (o : List ℕ) → ((i : ℕ) → get_or o i 0 < 256) → Fit (bytes (length o)) o
slice_fit [] f = tt
slice_fit (b ∷ o) f = (f zero, slice_fit o (λ i. f (suc i)))

-- where either list is at its end
joined_short : (ls vs : List ℕ) (n : ℕ) → min (length ls) (length vs) ≡ 0 → joined ls vs n ≡ n
unfolding joined
joined_short [] vs n e = refl
joined_short (l ∷ ls) [] n e = refl
joined_short (l ∷ ls) (v ∷ vs) n e = absurd (omega arith)

-- the numbers from i on are left
pub record Appending (o₀ ls vs o : List ℕ) (i : ℕ) : Type 0 where
  pub holds : ℕ
  pub bytes_are : o ≡ unpack (bytes (length o₀)) holds
  pub rest : joined (drop i ls) (drop i vs) holds ≡ joined ls vs (pack (bytes (length o₀)) o₀)

pub begin : (o ls vs : List ℕ) → Fit (bytes (length o)) o → Appending o ls vs o 0
begin o ls vs f =
    record {
      holds = pack (bytes (length o)) o;
      bytes_are = sym (unpack_pack (bytes (length o)) o f);
      rest = refl;
    }

module _ (o₀ ls vs o : List ℕ) (i : ℕ) (a : Appending o₀ ls vs o i) where
  pub turn : i < length ls → i < length vs → (after : List ℕ) → after ≡ appended (get_or ls i 0) (get_or vs i 0) o → Appending o₀ ls vs after (i + 1)
  unfolding joined
  turn h k after e =
      record {
        holds = a.holds * get_or ls i 0 + get_or vs i 0;
        bytes_are = e ∙ ap (appended (get_or ls i 0) (get_or vs i 0)) a.bytes_are ∙ appended_number (length o₀) a.holds (get_or ls i 0) (get_or vs i 0);
        rest = rw (next_one ls i h, next_one vs i k) at a.rest;
      }

  pub finish : i ≡ min (length ls) (length vs) → o ≡ packed_on ls vs o₀
  unfolding packed_on
  finish e =
      let short : min (length (drop i ls)) (length (drop i vs)) ≡ 0 = omega (arith, length-drop i ls, length-drop i vs) in
      a.bytes_are ∙ ap (unpack (bytes (length o₀))) (sym (joined_short (drop i ls) (drop i vs) a.holds short) ∙ a.rest)
