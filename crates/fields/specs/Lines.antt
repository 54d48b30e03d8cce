-- The lines of a text, each a list of fields, each field its bytes; up to the first line with a quote that is unclosed or out of place.
use Rattle.std.specs.Prelude.{ℕ, List, [], ◌∷◌}
use Rattle.fields.specs.Marks.{Marks, marks_at}

-- no line more; a line whose quotes are at fault, after which nothing is read; a line of fields, and those after it
pub data Lines : Type 0 where
  none : Lines
  bad : Lines
  row : List (List ℕ) → Lines → Lines

-- a byte in front of the first field
abbrev pub onto : ℕ → List (List ℕ) → List (List ℕ)
onto b [] = (b ∷ []) ∷ []
onto b (f ∷ fs) = (b ∷ f) ∷ fs

-- the same of the first line's
abbrev pub onto_line : ℕ → Lines → Lines
onto_line b none = none
onto_line b bad = bad
onto_line b (row fs ls) = row (onto b fs) ls

-- an empty field in front of the first line's
abbrev pub field_more : Lines → Lines
field_more none = none
field_more bad = bad
field_more (row fs ls) = row ([] ∷ fs) ls

-- the lines of some marks
unfoldable pub lines_of : Marks → Lines
lines_of (Marks.byte b m) = onto_line b (lines_of m)
lines_of (Marks.comma next m) = field_more (lines_of m)
lines_of (Marks.line next m) = row ([] ∷ []) (lines_of m)
lines_of Marks.end = row ([] ∷ []) none
lines_of Marks.fault = bad

-- the lines of a text from a line's start at `at` on
unfoldable pub lines_at : List ℕ → (at : ℕ) → Lines
lines_at s at = lines_of (marks_at s at)

-- the lines of a text
abbrev pub lines_in : List ℕ → Lines
lines_in s = lines_at s 0
