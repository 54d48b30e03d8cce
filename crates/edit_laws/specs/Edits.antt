-- Edits of the sheet in a buffer: one of them, several in turn, and what is said of the sheet afterwards.
use Rattle.std.specs.Prelude.{ℕ, ◌≡◌, true, List, [], ◌∷◌, length, take}
use Rattle.sheet.specs.declared.Header.{Header}
use Rattle.sheet.specs.declared.Record.{Record}
use Rattle.sheet.specs.Refusals.{Answer, given, refused}
use Rattle.checker.specs.Check.{Sheet}
use Rattle.keyed.specs.Keyed.{rises, lookup, Edit, put, out, map_all}
use Rattle.edit.specs.Edit.{sheet_at, id_of, counting, After, put_in, remove_in}
use Rattle.edit_laws.specs.Rows.{Slender}

-- the sheet in the buffer
abbrev pub sheet_of : After → List ℕ
sheet_of a = take a.size a.bytes

-- the id that an edit is about
abbrev pub edited : Edit id_of → ℕ
edited (put r) = r.id
edited (out id) = id

-- a sheet that holds these records, which its header counts
abbrev pub holding : Header → List Record → Sheet
holding h rs = record { header = counting (length rs) h; records = rs }

-- the sheet in a buffer is one of a hull that is too slender
abbrev pub IsSlender : After → Type 0
IsSlender a = Slender a.bytes a.size

-- an edit of the sheet in the buffer: a record put in, or the one of an id taken out
abbrev pub edit_in : Edit id_of → After → Answer After
edit_in (put r) a = put_in a.bytes a.size r
edit_in (out id) a = remove_in a.bytes a.size id

-- bytes and length afterwards: a refusal leaves both
abbrev pub after_by : Answer After → After → After
after_by (given x) a = x
after_by (refused k p) a = a

-- and after edits in turn
unfoldable pub after_all : List (Edit id_of) → After → After
after_all [] a = a
after_all (e ∷ es) a = after_all es (after_by (edit_in e a) a)

-- an edit in front of others, where it is done
abbrev pub done_by : Answer After → Edit id_of → List (Edit id_of) → List (Edit id_of)
done_by (given x) e es = e ∷ es
done_by (refused k p) e es = es

-- those of the edits that are not refused
unfoldable pub done_all : List (Edit id_of) → After → List (Edit id_of)
done_all [] a = []
done_all (e ∷ es) a = done_by (edit_in e a) e (done_all es (after_by (edit_in e a) a))

-- A sheet that is not turned away, after any edits: it is not turned away either; no field of its header but the count has changed, and that counts its
-- records; these rise in their ids; and at every id stands what a plain map holds after the edits that are done.
pub record AnyEdits (es : List (Edit id_of)) (a : After) (t : Sheet) : Type 0 where
  pub sheet : Sheet
  pub sound : sheet_at (after_all es a).bytes (after_all es a).size ≡ given sheet
  pub header : sheet.header ≡ counting (length sheet.records) t.header
  pub order : rises id_of 0 sheet.records ≡ true
  pub map : (id : ℕ) → lookup id_of id sheet.records ≡ map_all id_of (done_all es a) (λ j. lookup id_of j t.records) id
