-- The written form of a text: its fields with their quotes taken away, a comma between two of a line, CR LF after every line.
use Rattle.std.specs.Prelude.{ℕ, List, [], ◌∷◌, ◌++◌}
use Rattle.fields.specs.Lines.{Lines, none, bad, row, lines_in}

-- a line of fields
unfoldable pub fields_text : List (List ℕ) → List ℕ
fields_text [] = 13 ∷ 10 ∷ []
fields_text (f ∷ []) = f ++ 13 ∷ 10 ∷ []
fields_text (f ∷ g ∷ fs) = f ++ 44 ∷ fields_text (g ∷ fs)

-- the lines, up to one whose quotes are at fault
unfoldable pub form_of : Lines → List ℕ
form_of none = []
form_of bad = []
form_of (row fs ls) = fields_text fs ++ form_of ls

-- the written form of a text
abbrev pub written_form : List ℕ → List ℕ
written_form x = form_of (lines_in x)
