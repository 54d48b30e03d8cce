-- When a call is refused: over the table's rows and the fields of the sheet's bytes, which are in crates/demands/specs/Table.antt, and the numbers that are put in.
use Rattle.std.specs.Prelude.{ℕ, suc, ◌+◌, ◌*◌, ◌≤◌, ◌<◌, ◌≡◌, false, List, length, get_or, take}
use Rattle.quantity.specs.Range.{within, from}
use Rattle.layout.specs.Line.{Allowed, FirstFault}
use Rattle.sheet.specs.Header.{version_in}
use Rattle.numbers.specs.laws.Exactly.{record_fields, record_lines}
use Rattle.checker.specs.Unjudged.{room}
use Rattle.demands.specs.Table.{count_of, id_of, Row, Accepted}
use Rattle.edit_laws.specs.Calls.{Call, put_fields, remove_id}

-- the stated length is within the buffer, and no row of the table holds for the sheet there; `room` is as much output as any sheet needs
pub record Accepts (b : List ℕ) (len : ℕ) : Type 0 where
  pub inside : len ≤ length b
  pub rows : Accepted (take len b) room

-- a record of the sheet has the id
pub record Has (b : List ℕ) (len id : ℕ) : Type 0 where
  pub index : ℕ
  pub inside : index < count_of (take len b)
  pub same : id_of (take len b) index ≡ id

-- there is no room for one record more: the sheet plus 16 exceeds the buffer, or n stands at its version's highest
pub data NoRoom (b : List ℕ) (len : ℕ) : Type 0 where
  short : length b < len + 16 → NoRoom b len
  most : (version_in (take len b)).most ≤ count_of (take len b) → NoRoom b len

-- why the sheet is turned away
pub data SheetRefused (b : List ℕ) (len : ℕ) : (k p : ℕ) → Type 0 where
  -- 1: the stated length exceeds the buffer
  exceeds : length b < len → SheetRefused b len 1 0
  -- a row of the table; 5 never holds with that room
  row : {k p : ℕ} → len ≤ length b → Row (take len b) room k p → SheetRefused b len k p

-- why a put of these numbers is: the sheet's own; then
pub data PutRefused (b : List ℕ) (len : ℕ) (ns : List ℕ) : (k p : ℕ) → Type 0 where
  sheet_first : {k p : ℕ} → SheetRefused b len k p → PutRefused b len ns k p
  -- 6: the first number is not 1..8; place: n
  no_kind : Accepts b len → within (from 1 8) (get_or ns 0 0) ≡ false → PutRefused b len ns 6 (count_of (take len b))
  -- 7: another is outside the values of its field, the first such; place: 32n + field, kind being 1
  no_field : (f : ℕ) → Accepts b len → FirstFault (suc f) (record_lines ns) (record_fields ns) → PutRefused b len ns 7 (32 * count_of (take len b) + (f + 2))
  -- 11: each is within them, the id, which is the second, is new, and there is no room
  full : Accepts b len → Allowed (record_lines ns) (record_fields ns) → (Has b len (get_or ns 1 0) → ⊥) → NoRoom b len → PutRefused b len ns 11 0

-- why a removal is: the sheet's own; then
pub data RemoveRefused (b : List ℕ) (len id : ℕ) : (k p : ℕ) → Type 0 where
  sheet_before : {k p : ℕ} → SheetRefused b len k p → RemoveRefused b len id k p
  -- 10: no record has the id
  not_there : Accepts b len → (Has b len id → ⊥) → RemoveRefused b len id 10 0

-- why a call is
abbrev pub CallRefused : Call → (b : List ℕ) (len k p : ℕ) → Type 0
CallRefused (put_fields ns) b len k p = PutRefused b len ns k p
CallRefused (remove_id id) b len k p = RemoveRefused b len id k p
