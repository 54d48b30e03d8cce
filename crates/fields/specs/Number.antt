-- The number that a field's bytes spell: digits only, no leading zero, at most nine of them, which is more than any field of a sheet is wide.
use Rattle.std.specs.Prelude.{ℕ, ◌+◌, ◌-◌, ◌*◌, List, [], ◌∷◌, cond, ltb, eqb}
use Rattle.fields.specs.declared.Num.{Num}
use Rattle.fields.specs.declared.Num.TheVariants.{Empty, Value, Bad}

-- the digit d behind the number v: none follows a leading 0, nor nine digits
unfoldable pub longer_of : (v d : ℕ) → Num
longer_of v d = cond (eqb v 0) Bad (cond (ltb v 100000000) (Value (10 * v + d)) Bad)

-- the digit d behind what was read so far
abbrev pub next : Num → (d : ℕ) → Num
next Empty d = Value d
next (Value v) d = longer_of v d
next Bad d = Bad

-- the byte b behind what was read so far
unfoldable pub digit_of : Num → (b : ℕ) → Num
digit_of n b = cond (ltb b 48) Bad (cond (ltb 57 b) Bad (next n (b - 48)))

-- the bytes bs behind what was read so far
unfoldable pub digits_of : Num → List ℕ → Num
digits_of n [] = n
digits_of n (b ∷ bs) = digits_of (digit_of n b) bs

-- what the bytes of a field spell
abbrev pub number_of : List ℕ → Num
number_of bs = digits_of Empty bs

-- the same as a plain number: what is none counts as 1,000,000,000, for which no field is wide enough
abbrev pub value_of : Num → ℕ
value_of Empty = 1000000000
value_of (Value v) = v
value_of Bad = 1000000000
