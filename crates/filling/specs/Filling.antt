-- The filling of a text that a spreadsheet program saved as a rectangle: the empty fields without quotes at the ends of its rows, and the rows at its end that
-- have nothing else.
use Rattle.std.specs.Prelude.{ℕ, Bool, true, false, cond, List, [], ◌∷◌, drop}
use Rattle.fields.specs.Marks.{Marks, seen, marks_at}
use Rattle.fields.specs.Lines.{Lines, lines_of}
use Rattle.fields.specs.declared.Num.TheVariants.{Empty}
use Rattle.fields.specs.declared.Seen.{Seen}
use Rattle.fields.specs.declared.Seen.TheVariants.{End, Comma, Line, Skip, Quote, Data}
use Rattle.text.specs.Line.{Numbers, line_of}

-- whether nothing but commas comes before the row's end, or with `all` nothing but commas and line ends before the text's: by what stands first and by the rest
abbrev pub blank_by : (all : Bool) → Seen → (rest : Bool) → Bool
blank_by all End rest = true
blank_by all Comma rest = rest
blank_by all Line rest = cond all rest true
blank_by all Skip rest = rest
blank_by all Quote rest = false
blank_by all (Data b) rest = false

-- so of bytes that begin with a field
unfoldable pub blank : (all : Bool) → List ℕ → Bool
blank all [] = true
blank all (b ∷ s) = blank_by all (seen b s) (blank all s)

-- the marks of the text s without its filling: no comma behind which its row is blank, and no line end behind which the text is
unfoldable pub unfilled : List ℕ → Marks → Marks
unfilled s (Marks.byte b m) = Marks.byte b (unfilled s m)
unfilled s (Marks.comma next m) = cond (blank false (drop next s)) (unfilled s m) (Marks.comma next (unfilled s m))
unfilled s (Marks.line next m) = cond (blank true (drop next s)) Marks.end (Marks.line next (unfilled s m))
unfilled s Marks.end = Marks.end
unfilled s Marks.fault = Marks.fault

-- the marks of a text from a field's start on, with its filling or without
abbrev pub marks_left : (filled : Bool) → List ℕ → (at : ℕ) → Marks
marks_left filled s at = cond filled (unfilled s (marks_at s at)) (marks_at s at)

-- the line that starts there, and the lines from there on
unfoldable pub line_left : (filled : Bool) → List ℕ → (at : ℕ) → Numbers
line_left filled s at = line_of (marks_left filled s at) Empty

unfoldable pub lines_left : (filled : Bool) → List ℕ → (at : ℕ) → Lines
lines_left filled s at = lines_of (marks_left filled s at)
