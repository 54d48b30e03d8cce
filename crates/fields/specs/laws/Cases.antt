-- What some texts say.
-- Assumes nothing.
use Rattle.std.specs.Prelude.{◌≡◌, refl, [], ◌∷◌}
use Rattle.fields.specs.Marks.{outside, marks_at}
use Rattle.fields.specs.Number.{number_of, digits_of, digit_of, longer_of}
use Rattle.fields.specs.Lines.{lines_of, lines_at, lines_in, none, bad, row}
use Rattle.fields.specs.declared.Num.TheVariants.{Empty, Value, Bad}

-- the empty text is one line with one empty field, and so is a line end alone
empty : (lines_in [] ≡ row ([] ∷ []) none) × (lines_in (10 ∷ []) ≡ row ([] ∷ []) none) × (lines_in (13 ∷ 10 ∷ []) ≡ row ([] ∷ []) none)
unfolding lines_at lines_of marks_at outside
empty = (refl, refl, refl)

-- `1,"2"CRLF"a""b"LF`: two lines, and no third
two : lines_in (49 ∷ 44 ∷ 34 ∷ 50 ∷ 34 ∷ 13 ∷ 10 ∷ 34 ∷ 97 ∷ 34 ∷ 34 ∷ 98 ∷ 34 ∷ 10 ∷ []) ≡ row ((49 ∷ []) ∷ (50 ∷ []) ∷ []) (row ((97 ∷ 34 ∷ 98 ∷ []) ∷ []) none)
unfolding lines_at lines_of marks_at outside
two = refl

-- LF LF: two lines of one empty field
blank : lines_in (10 ∷ 10 ∷ []) ≡ row ([] ∷ []) (row ([] ∷ []) none)
unfolding lines_at lines_of marks_at outside
blank = refl

-- `1LF2"`: a line, then a quote out of place
misplaced : lines_in (49 ∷ 10 ∷ 50 ∷ 34 ∷ []) ≡ row ((49 ∷ []) ∷ []) bad
unfolding lines_at lines_of marks_at outside
misplaced = refl

-- `"1" ,`: a blank behind a closing quote; `"1`: a quote that is not closed
followed : (lines_in (34 ∷ 49 ∷ 34 ∷ 32 ∷ 44 ∷ []) ≡ bad) × (lines_in (34 ∷ 49 ∷ []) ≡ bad)
unfolding lines_at lines_of marks_at outside
followed = (refl, refl)

-- a CR that no LF follows is a byte of its field, also behind a closing quote, where none may be
bare : (lines_in (49 ∷ 13 ∷ 50 ∷ []) ≡ row ((49 ∷ 13 ∷ 50 ∷ []) ∷ []) none) × (lines_in (34 ∷ 49 ∷ 34 ∷ 13 ∷ 44 ∷ []) ≡ bad)
unfolding lines_at lines_of marks_at outside
bare = (refl, refl)

-- a comma and a line end inside quotes are bytes of their field
within : lines_in (34 ∷ 44 ∷ 13 ∷ 10 ∷ 34 ∷ []) ≡ row ((44 ∷ 13 ∷ 10 ∷ []) ∷ []) none
unfolding lines_at lines_of marks_at outside
within = refl

-- `0` is a number, and so are nine nines; `01`, ten digits, `+1` and nothing are none
number_cases : (number_of (48 ∷ []) ≡ Value 0) × (number_of (57 ∷ 57 ∷ 57 ∷ 57 ∷ 57 ∷ 57 ∷ 57 ∷ 57 ∷ 57 ∷ []) ≡ Value 999999999)
unfolding digits_of digit_of longer_of
number_cases = (refl, refl)

no_numbers : (number_of (48 ∷ 49 ∷ []) ≡ Bad) × (number_of (49 ∷ 48 ∷ 48 ∷ 48 ∷ 48 ∷ 48 ∷ 48 ∷ 48 ∷ 48 ∷ 48 ∷ []) ≡ Bad) × (number_of (43 ∷ 49 ∷ []) ≡ Bad) × (number_of [] ≡ Empty)
unfolding digits_of digit_of longer_of
no_numbers = (refl, refl, refl, refl)
