-- What the words of a command are, and what is known of an edit.
use Rattle.std.specs.Prelude.{ℕ, ◌-◌, ◌/◌, ◌≤◌, ◌≡◌, cond, List, length, take, ltb, Result, Ok, Err}
use Rattle.sheet.specs.Refusals.{Answer, refused, told_result}
use Rattle.edit.specs.Edit.{header_of, After, Edits}
use Rattle.sheet.specs.declared.Refusal.{Refusal}

-- how many numbers a record is: 11 for a plate, whose kind is up to 4, and 13 for a member
unfoldable pub fields_of : ℕ → ℕ
fields_of kind = cond (ltb kind 5) 11 13

-- how many records a sheet of so many bytes has: whatever its header takes past twelve bytes is less than a record, and the division leaves it over
abbrev pub record_count : ℕ → ℕ
record_count len = (len - 12) / 16

-- the new sheet is in a buffer of so many bytes
abbrev pub EditInside : Result ℕ Refusal → (size : ℕ) → Type 0
EditInside (Ok n) size = n ≤ size
EditInside (Err r) size = Unit {0}

-- An edit of an input of which the buffer b has the first `got` bytes, all or as many as it holds: it answers x, and what the whole is turned away for
-- it is turned away for.
pub record OfFile (x : Answer After) (b : List ℕ) (got : ℕ) (e : Result ℕ Refusal) (after : List ℕ) : Type 0 where
  pub edits : Edits x b e after
  pub whole : (input : List ℕ) → take got b ≡ take (length b) input → (k p : ℕ) → header_of input (length input) ≡ refused k p → told_result e ≡ refused k p
