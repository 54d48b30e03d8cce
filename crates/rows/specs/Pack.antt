-- Numbers appended to a number that stands in bytes, one field after another.
use Rattle.std.specs.Prelude.{ℕ, zero, suc, ◌+◌, ◌*◌, ◌^◌, Bool, true, false, ◌&&◌, List, [], ◌∷◌, map, length, get_or, ltb}
use Rattle.layout.specs.Layout.{pack, unpack, bytes}

-- the bytes o as one number, times a limit and a value more, in as many bytes
unfoldable pub appended : (limit value : ℕ) → List ℕ → List ℕ
appended l v o = unpack (bytes (length o)) (pack (bytes (length o)) o * l + v)

-- so many elements of a list from the one at i on
abbrev pub fields_from : (i count : ℕ) → List ℕ → List ℕ
fields_from i zero ns = []
fields_from i (suc count) ns = get_or ns i 0 ∷ fields_from (i + 1) count ns

abbrev pub fields_of : (count : ℕ) → List ℕ → List ℕ
fields_of count ns = fields_from 0 count ns

-- whether each value is below its limit, and there are as many of them
unfoldable pub below : (limits values : List ℕ) → Bool
below [] [] = true
below [] (v ∷ vs) = false
below (l ∷ ls) [] = false
below (l ∷ ls) (v ∷ vs) = ltb v l && below ls vs

-- a number with values appended to it
unfoldable pub joined : (limits values : List ℕ) → ℕ → ℕ
joined [] vs n = n
joined (l ∷ ls) [] n = n
joined (l ∷ ls) (v ∷ vs) n = joined ls vs (n * l + v)

-- the same in bytes
unfoldable pub packed_on : (limits values : List ℕ) → List ℕ → List ℕ
packed_on ls vs o = unpack (bytes (length o)) (joined ls vs (pack (bytes (length o)) o))

-- two to the power of each width
abbrev pub powers : List ℕ → List ℕ
powers ws = map (λ w. 2 ^ w) ws
