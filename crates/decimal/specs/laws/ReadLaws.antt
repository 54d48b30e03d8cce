-- A text read byte by byte; a written number reads back; and that two results which meet the promise of the reader are equal.
-- Assumes nothing.
use Rattle.std.specs.Prelude.{ℕ, ◌+◌, ◌-◌, ◌*◌, ◌≤◌, ◌<◌, ◌≡◌, refl, Bool, true, false, cond, ◌&&◌, List, [], ◌∷◌, length, get_or, drop, Option, Some, None}
use Rattle.std.proofs.Common.{sym, ap, ◌∙◌, arith, add-one, drop_of_length-le, drop-cons}
use Rattle.std.proofs.Math.Decide.{dec_le}
use borrow.Author.Tests.{le-leb, lt-leb}
use Rattle.decimal.specs.Decimal.{decimal_of, value_from, value_of}
use Rattle.decimal.specs.laws.DecimalLaws.{Digits, none, next, decimal_back, decimal_digits, decimal_some}
use Rattle.decimal.specs.Read.{held, is_digit, all_digits, read_number, behind}

-- ---- held at the highest

pub held_low : (n : ℕ) → n ≤ 4294967295 → held n ≡ n
held_low n l = rw (le-leb n 4294967295 l)

pub held_high : (n : ℕ) → 4294967295 < n → held n ≡ 4294967295
held_high n l = rw (lt-leb n 4294967295 l)

-- a digit behind a held number is held as one behind the number itself
held_digit : (n d : ℕ) → held (10 * held n + d) ≡ held (10 * n + d)
held_digit n d = go (dec_le n 4294967295)
  where
    go : Dec (n ≤ 4294967295) → held (10 * held n + d) ≡ held (10 * n + d)
    go (yes l) = ap (λ (v : ℕ). held (10 * v + d)) (held_low n l)
    go (no l) = ap (λ (v : ℕ). held (10 * v + d)) (held_high n (omega arith)) ∙ held_high (10 * 4294967295 + d) (omega arith) ∙ sym (held_high (10 * n + d) (omega arith))

-- ---- byte by byte

pub behind_none : (b : ℕ) → behind None b ≡ None
unfolding behind
behind_none b = refl

module _ (n b : ℕ) where
  pub behind_low : b < 48 → behind (Some n) b ≡ None
  unfolding behind
  behind_low l = rw (lt-leb 48 b l)

  pub behind_high : 57 < b → behind (Some n) b ≡ None
  unfolding behind
  behind_high l = rw (le-leb 48 b (omega arith), lt-leb b 57 l)

  pub behind_digit : 48 ≤ b → b ≤ 57 → behind (Some n) b ≡ Some (held (10 * n + (b - 48)))
  unfolding behind
  behind_digit l h = rw (le-leb 48 b l, le-leb b 57 h)

-- what a text makes of what is read before it
unfoldable pub read_from : Option ℕ → List ℕ → Option ℕ
read_from x [] = x
read_from x (b ∷ bs) = read_from (behind x b) bs

pub from_none : (bs : List ℕ) → read_from None bs ≡ None
unfolding read_from behind
from_none [] = refl
from_none (b ∷ bs) = from_none bs

from_value : (n : ℕ) (bs : List ℕ) → read_from (Some (held n)) bs ≡ cond (all_digits bs) (Some (held (value_from n bs))) None
unfolding read_from behind all_digits value_from
from_value n [] = refl
from_value n (b ∷ bs) = go (is_digit b) (from_value (10 * n + (b - 48)) bs)
  where
    go : (t : Bool) → read_from (Some (held (10 * n + (b - 48)))) bs ≡ cond (all_digits bs) (Some (held (value_from (10 * n + (b - 48)) bs))) None
        → read_from (cond t (Some (held (10 * held n + (b - 48)))) None) bs ≡ cond (t && all_digits bs) (Some (held (value_from (10 * n + (b - 48)) bs))) None
    go true e = ap (λ (v : ℕ). read_from (Some v) bs) (held_digit n (b - 48)) ∙ e
    go false e = from_none bs

-- the byte at i, and then those after it
pub from_next : (x : Option ℕ) (s : List ℕ) (i : ℕ) → i < length s → read_from (behind x (get_or s i 0)) (drop (i + 1) s) ≡ read_from x (drop i s)
unfolding read_from
from_next x s i l = sym (ap (read_from x) (drop-cons s i 0 l) ∙ ap (λ (k : ℕ). read_from (behind x (get_or s i 0)) (drop k s)) (sym (add-one i)))

-- past the last byte there is nothing more
pub from_end : (x : Option ℕ) (s : List ℕ) (i : ℕ) → length s ≤ i → read_from x (drop i s) ≡ x
unfolding read_from
from_end x s i l = ap (read_from x) (drop_of_length-le s {i = i} l)

-- from 0 on it is the number that the text is, but of the empty text
pub read_all : (bs : List ℕ) → 1 ≤ length bs → read_from (Some 0) bs ≡ read_number bs
unfolding read_number value_of
read_all [] l = absurd (omega arith)
read_all (b ∷ bs) l = from_value 0 (b ∷ bs)

-- ---- a written number reads back

digits_all : {bs : List ℕ} → Digits bs → all_digits bs ≡ true
unfolding all_digits
digits_all none = refl
digits_all (next {b = b} l h d) = rw (le-leb 48 b l, le-leb b 57 h) (digits_all d)

-- digits are the number that they spell, or the highest
pub digits_read : (bs : List ℕ) → Digits bs → 1 ≤ length bs → read_number bs ≡ Some (held (value_of bs))
unfolding read_number
digits_read [] d l = absurd (omega arith)
digits_read (b ∷ bs) d l = rw (digits_all d)

pub decimal_read : (n : ℕ) → n < 4294967296 → read_number (decimal_of n) ≡ Some n
decimal_read n l =
    digits_read (decimal_of n) (decimal_digits n) (decimal_some n) ∙ ap (λ (v : ℕ). Some (held v)) (decimal_back n) ∙ ap Some (held_low n (omega arith))

pub empty_read : (bs : List ℕ) → length bs ≡ 0 → None ≡ read_number bs
unfolding read_number
empty_read [] e = refl
empty_read (b ∷ bs) e = absurd (omega arith)

-- ---- one answer only

pub read_number_only : (text : List ℕ) (q r : Option ℕ) → q ≡ read_number text → r ≡ read_number text → q ≡ r
read_number_only text q r f g = f ∙ sym g
