-- A line reads back as its numbers.
-- Assumes nothing.
use Rattle.std.specs.Prelude.{ℕ, ◌≤◌, ◌<◌, ◌≡◌, refl, List, [], ◌∷◌, ◌++◌, map, length}
use Rattle.std.proofs.Common.{sym, ap, ap₂, ◌∙◌, append_assoc, append-nil, arith, eq-eqb, ne_eqb}
use Rattle.decimal.specs.Decimal.{decimal_of, value_of}
use Rattle.decimal.specs.laws.DecimalLaws.{Digits, decimal_back, decimal_digits, decimal_some}
use Rattle.decimal.specs.Line.{more_of, line_of, onto, pieces, numbers_in}

-- ---- a text taken apart

-- a text in which a byte does not stand
pub data Without (at : ℕ) : List ℕ → Type 0 where
  none : Without at []
  next : {b : ℕ} {bs : List ℕ} → (b ≡ at → ⊥) → Without at bs → Without at (b ∷ bs)

pub without_append : {at : ℕ} {a b : List ℕ} → Without at a → Without at b → Without at (a ++ b)
without_append none w = w
without_append (next n v) w = next n (without_append v w)

-- a byte that is no digit stands in no number
digits_without : {at : ℕ} {ds : List ℕ} → at < 48 → Digits ds → Without at ds
digits_without l Digits.none = none
digits_without {at} l (Digits.next {b = b} m h d) = next (λ (e : b ≡ at). omega arith) (digits_without l d)

-- a piece that the byte ends
pub pieces_first : {at : ℕ} {x : List ℕ} → Without at x → (y : List ℕ) → pieces at (x ++ at ∷ y) ≡ x ∷ pieces at y
unfolding pieces
pieces_first {at} none y = rw (eq-eqb at at refl)
pieces_first {at} (next {b = b} n w) y = rw (ne_eqb b at n) (ap (onto b) (pieces_first w y))

-- the piece past the last of them
pub pieces_last : {at : ℕ} {x : List ℕ} → Without at x → 1 ≤ length x → pieces at x ≡ x ∷ []
unfolding pieces
pieces_last none l = absurd (omega arith)
pieces_last {at} (next {b = b} n none) l = rw (ne_eqb b at n)
pieces_last {at} (next {b = b} n (next m w)) l = rw (ne_eqb b at n) (ap (onto b) (pieces_last (next m w) (omega arith)))

-- ---- a line of numbers

-- a line of one number, and of more
pub line_one : (separator : ℕ) (end : List ℕ) (n : ℕ) → line_of separator end (n ∷ []) ≡ decimal_of n ++ end
unfolding line_of more_of
line_one separator end n = refl

pub line_more : (separator : ℕ) (end : List ℕ) (n m : ℕ) (ns : List ℕ) → line_of separator end (n ∷ m ∷ ns) ≡ (decimal_of n ++ (separator ∷ [])) ++ line_of separator end (m ∷ ns)
unfolding line_of more_of
line_more separator end n m ns = sym (append_assoc (decimal_of n) (separator ∷ []) (line_of separator end (m ∷ ns)))

-- a line is the line with no end, and then its end
more_end : (separator : ℕ) (end ns : List ℕ) → more_of separator end ns ≡ more_of separator [] ns ++ end
unfolding more_of
more_end separator end [] = refl
more_end separator end (n ∷ ns) =
    ap (λ (t : List ℕ). separator ∷ (decimal_of n ++ t)) (more_end separator end ns)
    ∙ ap (λ (t : List ℕ). separator ∷ t) (sym (append_assoc (decimal_of n) (more_of separator [] ns) end))

pub line_end : (separator : ℕ) (end ns : List ℕ) → line_of separator end ns ≡ line_of separator [] ns ++ end
unfolding line_of
line_end separator end [] = refl
line_end separator end (n ∷ ns) =
    ap (λ (t : List ℕ). decimal_of n ++ t) (more_end separator end ns) ∙ sym (append_assoc (decimal_of n) (more_of separator [] ns) end)

-- a byte that is neither a digit nor the separator does not stand in it
more_without : (at separator : ℕ) (ns : List ℕ) → at < 48 → (separator ≡ at → ⊥) → Without at (more_of separator [] ns)
unfolding more_of
more_without at separator [] l d = none
more_without at separator (n ∷ ns) l d = next d (without_append (digits_without l (decimal_digits n)) (more_without at separator ns l d))

pub line_without : (at separator : ℕ) (ns : List ℕ) → at < 48 → (separator ≡ at → ⊥) → Without at (line_of separator [] ns)
unfolding line_of
line_without at separator [] l d = none
line_without at separator (n ∷ ns) l d = without_append (digits_without l (decimal_digits n)) (more_without at separator ns l d)

-- the numbers are read back, whatever the separator is that is no digit
pub line_back : (separator n : ℕ) (ns : List ℕ) → separator < 48 → numbers_in separator (line_of separator [] (n ∷ ns)) ≡ n ∷ ns
unfolding numbers_in line_of more_of
line_back separator n [] l =
    ap (λ (t : List ℕ). map value_of (pieces separator t)) (append-nil (decimal_of n))
    ∙ ap (map value_of) (pieces_last (digits_without l (decimal_digits n)) (decimal_some n))
    ∙ ap (λ (k : ℕ). k ∷ []) (decimal_back n)
line_back separator n (m ∷ ns) l =
    ap (map value_of) (pieces_first (digits_without l (decimal_digits n)) (decimal_of m ++ more_of separator [] ns))
    ∙ ap₂ {C = List ℕ} (λ k ks. k ∷ ks) (decimal_back n) (line_back separator m ns l)
