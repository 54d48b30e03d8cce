-- Words with marks for numbers, and the pieces of text that they become.
use Rattle.std.specs.Prelude.{ℕ, ◌+◌, ◌/◌, ◌%◌, Bool, ◌&&◌, cond, List, [], ◌∷◌, ◌++◌, get_or, leb, ltb, eqb, Option, Some, None}
use Prim.Native.Char.{code}
use Prim.Native.String.{String, [] as end, ◌∷◌ as ◌and◌}
use Rattle.decimal.specs.Decimal.{decimal_of}
use Rattle.wording.specs.declared.Mark.{Mark}
use Rattle.wording.specs.declared.Mark.TheVariants.{Number, Thickness, Modulus, Area}

-- ---- a text as bytes

-- the bytes of a character below 65,536, by its number
abbrev pub utf8 : ℕ → List ℕ
utf8 c =
    cond (ltb c 128) (c ∷ [])
    (cond (ltb c 2048) ((192 + c / 64) ∷ (128 + c % 64) ∷ []) ((224 + c / 4096) ∷ (128 + c / 64 % 64) ∷ (128 + c % 64) ∷ []))

-- those of a text
abbrev pub bytes : String → List ℕ
bytes end = []
bytes (c and s) = utf8 (code c) ++ bytes s

-- ---- marks

-- # a number, $ a thickness, % a modulus, & an area; the letter behind it names the register
abbrev pub is_mark : ℕ → Bool
is_mark b = leb 35 b && leb b 38

-- the byte that a kind of mark is, and 0 for none
abbrev pub byte_of : Mark → ℕ
byte_of Number = 35
byte_of Thickness = 36
byte_of Modulus = 37
byte_of Area = 38

abbrev pub mark_byte : Option Mark → ℕ
mark_byte None = 0
mark_byte (Some m) = byte_of m

-- a number of hundredths, as it is and with the point, and then its unit
abbrev pub hundredths : ℕ → List ℕ → List (List ℕ)
hundredths n unit =
    (decimal_of n ++ bytes " (") ∷ (decimal_of (n / 100) ++ bytes ".") ∷ (decimal_of (n / 10 % 10) ++ []) ∷ (decimal_of (n % 10) ++ unit) ∷ []

-- the same of tenths
abbrev pub tenths : ℕ → List ℕ → List (List ℕ)
tenths n unit = (decimal_of n ++ bytes " (") ∷ (decimal_of (n / 10) ++ bytes ".") ∷ (decimal_of (n % 10) ++ unit) ∷ []

-- what a mark becomes
unfoldable pub shown : ℕ → ℕ → List (List ℕ)
shown mark n =
    cond (eqb mark 36) (hundredths n (bytes " mm)"))
    (cond (eqb mark 37) (tenths n (bytes " cm³)")) (cond (eqb mark 38) (hundredths n (bytes " cm²)")) ((decimal_of n ++ []) ∷ [])))

-- the register that a byte names, by its last five bits: below 96, where the capitals are, one of the given numbers, and else one of the section's own
abbrev pub named : (given own : List ℕ) (b : ℕ) → ℕ
named given own b = cond (ltb b 96) (get_or given (b % 32) 0) (get_or own (b % 32) 0)

-- what a byte of the words becomes: behind a mark it names a register, a mark becomes nothing, any other byte itself
unfoldable pub piece_of : (given own : List ℕ) (mark b : ℕ) → List (List ℕ)
piece_of given own mark b = cond (eqb mark 0) (cond (is_mark b) [] ((b ∷ []) ∷ [])) (shown mark (named given own b))

-- the mark that the next byte stands behind, 0 where it stands behind none
abbrev pub behind : (mark b : ℕ) → ℕ
behind mark b = cond (eqb mark 0) (cond (is_mark b) b 0) 0

-- the words with the registers that they name
unfoldable pub pieces : (given own : List ℕ) (mark : ℕ) (words : List ℕ) → List (List ℕ)
pieces given own mark [] = []
pieces given own mark (b ∷ w) = piece_of given own mark b ++ pieces given own (behind mark b) w

-- ---- how long it can be

-- the longest text of a mark: a number of twenty digits, or four, and what stands between and behind them
abbrev pub longest_mark : ℕ → ℕ
longest_mark mark = cond (eqb mark 35) 20 96

-- the longest text of a byte
abbrev pub room_of : ℕ → ℕ
room_of mark = cond (eqb mark 0) 1 (longest_mark mark)

-- the longest text of words
unfoldable pub most : (mark : ℕ) (words : List ℕ) → ℕ
most mark [] = 0
most mark (b ∷ w) = room_of mark + most (behind mark b) w
