-- An edit as it stands in a stream, and what comes of it.
use Rattle.std.specs.Prelude.{ℕ, ◌≡◌, ◌<◌, List, Option, Some, None, Result, Ok, Err}
use Rattle.sheet.specs.Refusals.{Answer}
use Rattle.edit.specs.Edit.{After, put_numbers_in, remove_in}
use Rattle.streams.specs.Parts.{number_at, fields_in}
use Rattle.sheet.specs.declared.Refusal.{Refusal}
use Rattle.streams.specs.declared.edits.Edit.{Edit}
use Rattle.streams.specs.declared.edits.Edit.TheVariants.{Put, Remove}

-- the edit that a form asks for: 0 puts the record of its thirteen numbers, 1 removes one by its id, and past 1 it asks for none
abbrev pub IsEdit : (form : List ℕ) → Option Edit → Type 0
IsEdit form (Some (Put fields)) = (number_at form 0 ≡ 0) × (fields ≡ fields_in form)
IsEdit form (Some (Remove id)) = (number_at form 0 ≡ 1) × (id ≡ number_at form 1)
IsEdit form None = 1 < number_at form 0

-- what an edit makes of a buffer with a sheet of so many bytes
abbrev pub edit_of : Edit → (buffer : List ℕ) (len : ℕ) → Answer After
edit_of (Put fields) b len = put_numbers_in b len fields
edit_of (Remove id) b len = remove_in b len id

-- the sheet's length after an edit: a refusal leaves it
abbrev pub length_after : ℕ → Result ℕ Refusal → ℕ
length_after len (Ok n) = n
length_after len (Err r) = len
