-- What a text says, its quotes taken away: the bytes of its fields, and its commas and line ends.
use Rattle.std.specs.Prelude.{ℕ, ◌+◌, List, [], ◌∷◌, Bool, false, cond, ◌&&◌, eqb, drop}
use Rattle.fields.specs.declared.Seen.{Seen}
use Rattle.fields.specs.declared.Seen.TheVariants.{End, Comma, Line, Skip, Quote, Data}
use Rattle.fields.specs.declared.Place.{Place}
use Rattle.fields.specs.declared.Place.TheVariants.{Start, Inside, Closed}

-- a byte of a field; a comma or a line end, with the place right past it; the text's end; a quote that is unclosed, out of place, or followed by anything
-- but a comma, a line end or the text's end
pub data Marks : Type 0 where
  byte : ℕ → Marks → Marks
  comma : ℕ → Marks → Marks
  line : ℕ → Marks → Marks
  end : Marks
  fault : Marks

-- whether a line feed comes next
abbrev pub feeds : List ℕ → Bool
feeds [] = false
feeds (b ∷ s) = eqb b 10

-- what a line feed before the bytes s is: a line end, but with nothing behind it the text's
abbrev pub after_feed : List ℕ → Seen
after_feed [] = End
after_feed (b ∷ s) = Line

-- what the byte b before the bytes s is, outside quotes. A CR belongs to the line end where a LF follows it, and is a byte like any other where none does
abbrev pub seen : ℕ → List ℕ → Seen
seen b s = cond (eqb b 44) Comma (cond (eqb b 34) Quote (cond (eqb b 10) (after_feed s) (cond (eqb b 13 && feeds s) Skip (Data b))))

unfoldable pub seen_at : List ℕ → Seen
seen_at [] = End
seen_at (b ∷ s) = seen b s

-- the marks from a place outside quotes on: next is the place after it, `out` the marks from there outside quotes, `ins` those inside quotes. A quote opens
-- a field at its start, doubles itself right past one that closed it, and is out of place inside a plain field
abbrev pub by : Seen → Place → (next : ℕ) → (out : Place → Marks) → (ins : Marks) → Marks
by End p next out ins = end
by Comma p next out ins = comma next (out Start)
by Line p next out ins = line next (out Start)
by Skip p next out ins = out p
by Quote Start next out ins = ins
by Quote Inside next out ins = fault
by Quote Closed next out ins = byte 34 ins
by (Data b) Start next out ins = byte b (out Inside)
by (Data b) Inside next out ins = byte b (out Inside)
by (Data b) Closed next out ins = fault

unfoldable mutual
  -- the marks of a text from the place `at` on, outside quotes
  pub outside : List ℕ → (at : ℕ) → Place → Marks
  outside [] at p = end
  outside (b ∷ s) at p = by (seen b s) p (at + 1) (outside s (at + 1)) (inside s (at + 1))

  -- the same inside quotes
  pub inside : List ℕ → (at : ℕ) → Marks
  inside [] at = fault
  inside (b ∷ s) at = cond (eqb b 34) (outside s (at + 1) Closed) (byte b (inside s (at + 1)))

-- the marks of the text s from a field's start at `at` on
unfoldable pub marks_at : List ℕ → (at : ℕ) → Marks
marks_at s at = outside (drop at s) at Start
