-- When an edit is turned away: the cases, over the table's own rows on the sheet and the lines of the new record's fields.
use Rattle.std.specs.Prelude.{ℕ, ◌+◌, ◌*◌, ◌≤◌, ◌<◌, ◌≡◌, true, false, List, length, take}
use Rattle.keyed.specs.laws.Places.{Present}
use Rattle.layout.specs.Line.{Allowed}
use Rattle.sheet.specs.declared.Header.{Header}
use Rattle.sheet.specs.declared.Record.{Record}
use Rattle.sheet.specs.Versions.{Under}
use Rattle.sheet.specs.Header.{version_field, version_in, read_header}
use Rattle.sheet.specs.Slender.{too_slender}
use Rattle.sheet.specs.Refusals.{given, refused}
use Rattle.sheet.specs.Record.{belongs, lines_of, values_of}
use Rattle.sheet.specs.Exactly.{LaterFault}
use Rattle.checker.specs.Check.{Sheet}
use Rattle.checker.specs.Unjudged.{sound_sheet}
use Rattle.edit.specs.Edit.{sheet_at, highest, id_of}

-- 1: the stated length is over the buffer; else a row of the table without 5, on the sheet
pub data SheetRow (b : List ℕ) (len k p : ℕ) : Type 0 where
  over : length b < len → k ≡ 1 → p ≡ 0 → SheetRow b len k p
  own : len ≤ length b → sound_sheet (take len b) ≡ refused k p → SheetRow b len k p

-- no room for one more record: the sheet plus 16 exceeds the buffer, or n stands at its version's highest
pub data Full (h : Header) (len size : ℕ) : Type 0 where
  buffer : size < len + 16 → Full h len size
  count : highest h ≤ h.count → Full h len size

-- a put: the sheet's own; then, of a sheet t that is not turned away, 6 and 7 on the new record with n as its record, and 11
pub data PutRow (b : List ℕ) (len : ℕ) (r : Record) (k p : ℕ) : Type 0 where
  sheet : SheetRow b len k p → PutRow b len r k p
  -- 6: the kind is not 1..8, or what the record carries does not belong to it
  kind : (t : Sheet) → sheet_at b len ≡ given t → belongs r.kind r.body ≡ false → k ≡ 6 → p ≡ t.header.count → PutRow b len r k p
  -- 7: another field is outside its values, the first such
  field : (t : Sheet) → sheet_at b len ≡ given t → LaterFault (λ f. 32 * t.header.count + f) (lines_of r) (values_of r) p → k ≡ 7 → PutRow b len r k p
  -- 11: no record has its id, and there is no room for one more
  no_room : (t : Sheet) → sheet_at b len ≡ given t → Allowed (lines_of r) (values_of r) → (Present id_of r.id t.records → ⊥) → Full t.header len (length b) → k ≡ 11 → p ≡ 0
      → PutRow b len r k p

-- a removal: the sheet's own; then 10
pub data RemoveRow (b : List ℕ) (len id k p : ℕ) : Type 0 where
  sheet : SheetRow b len k p → RemoveRow b len id k p
  -- 10: no record has the id
  absent : (t : Sheet) → sheet_at b len ≡ given t → (Present id_of id t.records → ⊥) → k ≡ 10 → p ≡ 0 → RemoveRow b len id k p

-- the stated length is over the buffer, or under the header
pub data Short (b : List ℕ) (len : ℕ) : Type 0 where
  over_buffer : length b < len → Short b len
  under_header : Under len (version_field (take len b)) (version_in (take len b)) → Short b len

-- the sheet is within the buffer, its header is read, and its hull is too slender
pub record Slender (b : List ℕ) (len : ℕ) : Type 0 where
  pub fits : len ≤ length b
  pub header : Header
  pub read : read_header (take len b) ≡ given header
  pub slender : too_slender header ≡ true
