-- Digits with no zero in front are those of the number that they spell, so that a number has one spelling.
-- Assumes nothing.
use Rattle.std.specs.Prelude.{ℕ, ◌+◌, ◌-◌, ◌*◌, ◌/◌, ◌≤◌, ◌≡◌, List, [], ◌∷◌, ◌++◌, length}
use Rattle.std.proofs.Common.{sym, ap, ap₂, ◌∙◌, append_assoc, append-nil, arith}
use Rattle.decimal.specs.Decimal.{last_digit, decimal_of, value_from, value_of}
use Rattle.decimal.specs.laws.DecimalLaws.{decimal_one, decimal_more, Digits, none, next}

-- a digit behind the digits of a number that is not 0
one_behind : (v b : ℕ) → 1 ≤ v → 48 ≤ b → b ≤ 57 → decimal_of v ++ (b ∷ []) ≡ decimal_of (10 * v + (b - 48))
one_behind v b p l h =
    let n = 10 * v + (b - 48) in
    let front : v ≡ n / 10 = omega arith in
    let last : b ≡ last_digit n = omega arith in
    ap₂ {C = List ℕ} (λ k d. decimal_of k ++ (d ∷ [])) front last ∙ sym (decimal_more n (omega arith))

-- and any number of them
all_behind : (v : ℕ) {ds : List ℕ} → 1 ≤ v → Digits ds → decimal_of v ++ ds ≡ decimal_of (value_from v ds)
unfolding value_from
all_behind v p none = append-nil (decimal_of v)
all_behind v p (next {b = b} {bs = bs} l h d) =
    sym (append_assoc (decimal_of v) (b ∷ []) bs) ∙ ap (λ (t : List ℕ). t ++ bs) (one_behind v b p l h) ∙ all_behind (10 * v + (b - 48)) (omega arith) d

one_digit : (b : ℕ) → 48 ≤ b → b ≤ 57 → b ∷ [] ≡ decimal_of (b - 48)
one_digit b l h =
    let last : b ≡ last_digit (b - 48) = omega arith in
    ap (λ (d : ℕ). d ∷ []) last ∙ sym (decimal_one (b - 48) (omega arith))

-- the bytes that spell a number are its digits: one digit, or more of which the first is not `0`
pub spelled : (b : ℕ) (bs : List ℕ) → Digits (b ∷ bs) → (1 ≤ length bs → 49 ≤ b) → b ∷ bs ≡ decimal_of (value_of (b ∷ bs))
unfolding value_of value_from
spelled b [] (next l h d) first =
    let same : b - 48 ≡ 10 * 0 + (b - 48) = omega arith in
    one_digit b l h ∙ ap decimal_of same
spelled b (c ∷ bs) (next l h d) first =
    let same : b - 48 ≡ 10 * 0 + (b - 48) = omega arith in
    ap (λ (t : List ℕ). t ++ (c ∷ bs)) (one_digit b l h) ∙ all_behind (b - 48) (omega (arith, first (omega arith))) d ∙ ap (λ (v : ℕ). decimal_of (value_from v (c ∷ bs))) same
