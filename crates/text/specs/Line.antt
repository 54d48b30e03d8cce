-- A line of a text as numbers, and how it ends.
use Rattle.std.specs.Prelude.{ℕ, zero, suc, ◌-◌, ◌≡◌, List, [], ◌∷◌, length}
use Rattle.fields.specs.Number.{digit_of, value_of}
use Rattle.fields.specs.Marks.{Marks, marks_at}
use Rattle.fields.specs.declared.Num.{Num}
use Rattle.fields.specs.declared.Num.TheVariants.{Empty}
use Rattle.text.specs.declared.LineEnd.{LineEnd}
use Rattle.text.specs.declared.LineEnd.TheVariants.{More, Last, Fault}
use Rattle.text.specs.declared.Line.{Line}

-- the numbers of its fields, up to a fault of its quotes, and how it ends
pub record Numbers : Type 0 where
  pub values : List ℕ
  pub end : LineEnd

-- a number in front
abbrev pub behind : ℕ → Numbers → Numbers
behind v l = record { values = v ∷ l.values; end = l.end }

-- the first line of some marks, behind what was read of its first field so far
unfoldable pub line_of : Marks → Num → Numbers
line_of (Marks.byte b m) n = line_of m (digit_of n b)
line_of (Marks.comma next m) n = behind (value_of n) (line_of m Empty)
line_of (Marks.line next m) n = record { values = value_of n ∷ []; end = More next }
line_of Marks.end n = record { values = value_of n ∷ []; end = Last }
line_of Marks.fault n = record { values = []; end = Fault }

-- the line of a text that starts at `at`
unfoldable pub line_at : List ℕ → (at : ℕ) → Numbers
line_at s at = line_of (marks_at s at) Empty

-- numbers over the first of others, as far as these go
abbrev pub over : List ℕ → List ℕ → List ℕ
over [] ns = ns
over (v ∷ vs) [] = []
over (v ∷ vs) (n ∷ ns) = v ∷ over vs ns

-- what the contract of `line_at` says: how many fields, how the line ends, and what the lent numbers are as it returns
pub record Reads (l : Numbers) (nums : List ℕ) (r : Line) (after : List ℕ) : Type 0 where
  pub count : r.count ≡ length l.values
  pub end : r.end ≡ l.end
  pub numbers : after ≡ over l.values nums

-- ---- where a line starts

abbrev pub next_by : LineEnd → (at : ℕ) → ℕ
next_by (More next) at = next
next_by Last at = at
next_by Fault at = at

-- the start of the line behind the one at `at`, or `at` where there is none
unfoldable pub next_of : List ℕ → (at : ℕ) → ℕ
next_of s at = next_by (line_at s at).end at

-- so many lines on
unfoldable pub start_from : (count : ℕ) → List ℕ → (at : ℕ) → ℕ
start_from zero s at = at
start_from (suc count) s at = start_from count s (next_of s at)

-- the start of a line, the first being 1
abbrev pub line_start : List ℕ → (line : ℕ) → ℕ
line_start s line = start_from (line - 1) s 0
