-- A field of a text: its number, how it ends, and where the next one starts.
use Rattle.std.specs.Prelude.{ℕ, List}
use Rattle.fields.specs.Number.{digit_of}
use Rattle.fields.specs.Marks.{Marks, marks_at}
use Rattle.fields.specs.declared.Num.{Num}
use Rattle.fields.specs.declared.Num.TheVariants.{Empty}
use Rattle.fields.specs.declared.Field.{Field}
use Rattle.fields.specs.declared.Field.TheVariants.{Comma, Line, End, Fault}

-- the first field of some marks, behind what was read of it so far
unfoldable pub field_of : Marks → Num → Field
field_of (Marks.byte b m) n = field_of m (digit_of n b)
field_of (Marks.comma next m) n = Comma n next
field_of (Marks.line next m) n = Line n next
field_of Marks.end n = End n
field_of Marks.fault n = Fault

-- the field of the text s that starts at the place `at`
unfoldable pub field_at : List ℕ → (at : ℕ) → Field
field_at s at = field_of (marks_at s at) Empty
