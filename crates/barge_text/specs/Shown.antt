-- A line of a text as it is shown: only bytes that print, any other by its number.
use Rattle.std.specs.Prelude.{ℕ, ◌+◌, ◌/◌, ◌%◌, ◌≤◌, ◌≡◌, Bool, false, cond, List, [], ◌∷◌, ◌++◌, length, take, eqb, ltb}
use Rattle.fields.specs.Marks.{feeds}

-- ---- the line

-- whether a text begins with a line end: LF, or CR and LF
abbrev pub ends_here : List ℕ → Bool
ends_here [] = false
ends_here (b ∷ s) = cond (eqb b 13) (feeds s) (eqb b 10)

-- what stands before the first line end, or all
unfoldable pub line_of : List ℕ → List ℕ
line_of [] = []
line_of (b ∷ s) = cond (ends_here (b ∷ s)) [] (b ∷ line_of s)

-- it is the first bytes, so many of them
pub record IsLine (s : List ℕ) (n : ℕ) : Type 0 where
  pub inside : n ≤ length s
  pub line : take n s ≡ line_of s

-- ---- its bytes

abbrev pub is_printed : ℕ → Bool
is_printed b = cond (ltb b 32) false (ltb b 127)

-- a digit of base 16: 0 to 9, A to F
abbrev pub hex_digit : ℕ → ℕ
hex_digit n = cond (ltb n 10) (48 + n) (55 + n)

-- a byte that prints, or else `\x` and its two digits
unfoldable pub shown_byte : ℕ → List ℕ
shown_byte b = cond (is_printed b) (b ∷ []) (92 ∷ 120 ∷ hex_digit (b / 16) ∷ hex_digit (b % 16) ∷ [])

unfoldable pub shown : List ℕ → List ℕ
shown [] = []
shown (b ∷ s) = shown_byte b ++ shown s
