-- Calls of the functions that edit a sheet, as people make them: one after another, on one buffer.
use Rattle.std.specs.Prelude.{ℕ, ◌+◌, ◌/◌, ◌%◌, max, ◌≤◌, ◌<◌, ◌≡◌, Bool, true, cond, List, [], ◌∷◌, length, get_or, take, ltb, Result}
use Rattle.std.proofs.Math.Option.{Option}
use Rattle.numbers.specs.From.{record_of_numbers}
use Rattle.sheet.specs.declared.Record.{Record}
use Rattle.sheet.specs.Refusals.{given, told_result}
use Rattle.sheet.specs.Header.{header_size}
use Rattle.checker.specs.Check.{part, Sheet}
use Rattle.keyed.specs.Keyed.{rises, position_of, lookup, Edit, put, out, map_all}
use Rattle.edit.specs.Edit.{sheet_at, start, id_of, counting, After, put_numbers_in, remove_in, Edits}
use Rattle.yard.specs.Packed.{number_unit}
use Rattle.yard.specs.Editing.{resized, EditsPacked}
use Rattle.edit_laws.specs.Edits.{edited}
use Rattle.sheet.specs.declared.Refusal.{Refusal}

-- ---- the functions

-- a call: the record that fields are is put in, or the one of an id taken out
pub data Call : Type 0 where
  put_fields : (fields : List ℕ) → Call
  remove_id : (id : ℕ) → Call

-- Two functions of the library, one for each kind of call: the number that they answer, and what they leave in the buffer, for every buffer and every stated
-- length. A compiled function is called with bytes, with 13 numbers of 32 bits and with lengths of 64 bits, and meets its promise in every such call; for other
-- lists and numbers, with which it cannot be called, what the promise says may stand for it.
pub record Editor : Type 0 where
  pub answer : Call → (buffer : List ℕ) (len : ℕ) → ℕ
  pub after : Call → (buffer : List ℕ) (len : ℕ) → List ℕ

-- they meet the promises of `yard_put` and `yard_remove`
pub record MeetsEditor (E : Editor) : Type 0 where
  pub puts : (b : List ℕ) (len : ℕ) (ns : List ℕ) → EditsPacked (put_numbers_in b len ns) b (E.answer (put_fields ns) b len) (E.after (put_fields ns) b len)
  pub removes : (b : List ℕ) (len id : ℕ) → EditsPacked (remove_in b len id) b (E.answer (remove_id id) b len) (E.after (remove_id id) b len)

-- the same of the crate `edit`, whose answers are not packed yet
pub record Office : Type 0 where
  pub answer : Call → (buffer : List ℕ) (len : ℕ) → Result ℕ Refusal
  pub after : Call → (buffer : List ℕ) (len : ℕ) → List ℕ

-- they meet the promises of `put_numbers` and `remove`
pub record MeetsOffice (O : Office) : Type 0 where
  pub puts : (b : List ℕ) (len : ℕ) (ns : List ℕ) → Edits (put_numbers_in b len ns) b (O.answer (put_fields ns) b len) (O.after (put_fields ns) b len)
  pub removes : (b : List ℕ) (len id : ℕ) → Edits (remove_in b len id) b (O.answer (remove_id id) b len) (O.after (remove_id id) b len)

-- those functions with their answers packed
abbrev pub packing : Office → Editor
packing O = record { answer = λ c b len. resized (told_result (O.answer c b len)); after = O.after }

-- ---- what the caller does with an answer

-- whether a call is done: a number from 2⁴⁰ on is a refusal, as `yard_is_refused` of include/praithong.h has it
abbrev pub is_done : (answer : ℕ) → Bool
is_done answer = ltb answer number_unit

-- the answer to a call on the buffer and the length that the caller has
abbrev pub answered : Editor → Call → After → ℕ
answered E c a = E.answer c a.bytes a.size

-- Buffer and length after a call. The buffer is as the function leaves it; the caller states the answered length from then on where the call is done, and the
-- length that it stated before where it is refused. Nothing else writes into the buffer.
abbrev pub called : Editor → Call → After → After
called E c a = record { size = cond (is_done (answered E c a)) (answered E c a) a.size; bytes = E.after c a.bytes a.size }

-- and after calls in turn
unfoldable pub called_all : Editor → List Call → After → After
called_all E [] a = a
called_all E (c ∷ cs) a = called_all E cs (called E c a)

-- ---- what the calls are to a map

-- the edit that a call asks for; where its fields are no record it is not done
abbrev pub edit_of : Call → Edit id_of
edit_of (put_fields ns) = put (record_of_numbers ns)
edit_of (remove_id id) = out id

-- the edits of those calls that are done
unfoldable pub done_calls : Editor → List Call → After → List (Edit id_of)
done_calls E [] a = []
done_calls E (c ∷ cs) a = let rest = done_calls E cs (called E c a) in cond (is_done (answered E c a)) (edit_of c ∷ rest) rest

-- none of them is about the id
abbrev pub Untouched : (id : ℕ) → List (Edit id_of) → Type 0
Untouched id [] = Unit {0}
Untouched id (e ∷ es) = (id ≡ edited e → ⊥) × Untouched id es

-- what a plain map from ids to records holds after the calls that are done, where it held the records of a sheet before
abbrev pub map_of : Editor → List Call → After → Sheet → ℕ → Option Record
map_of E cs a t = map_all id_of (done_calls E cs a) (λ j. lookup id_of j t.records)

-- A sheet that is not turned away, after any calls: it is not turned away either; no field of its header but the count has changed, and that counts its
-- records; these rise in their ids; and at every id stands what the map holds.
pub record AnyCalls (E : Editor) (cs : List Call) (a : After) (t : Sheet) : Type 0 where
  pub sheet : Sheet
  pub sound : sheet_at (called_all E cs a).bytes (called_all E cs a).size ≡ given sheet
  pub header : sheet.header ≡ counting (length sheet.records) t.header
  pub order : rises id_of 0 sheet.records ≡ true
  pub map : (id : ℕ) → lookup id_of id sheet.records ≡ map_of E cs a t id

-- The header of so many bytes has all bits but the nine of its count as before. The count is the last four bits of byte 10 and the first five of byte 11, from 0:
-- what stands before it is in the first ten bytes and the upper half of byte 10, and what stands after it in the last three bits of byte 11 and the bytes from 12 on.
pub record HeaderKept (size : ℕ) (before after : List ℕ) : Type 0 where
  pub front : take 10 after ≡ take 10 before
  pub upper : get_or after 10 0 / 16 ≡ get_or before 10 0 / 16
  pub lower : get_or after 11 0 % 8 ≡ get_or before 11 0 % 8
  pub own : part after 12 size ≡ part before 12 size

-- ---- the bytes of the buffer

-- byte i
abbrev pub byte : List ℕ → ℕ → ℕ
byte b i = get_or b i 0

-- where the record stands that a call is about, or where it would go in
abbrev pub call_place : Call → Sheet → ℕ
call_place c t = start t.header (position_of id_of (edited (edit_of c)) t.records)

-- byte i is none of the sixteen at a place
pub data Apart (i place : ℕ) : Type 0 where
  before_it : i < place → Apart i place
  behind_it : place + 16 ≤ i → Apart i place

-- What one call leaves in the buffer, of a sheet t that is not turned away.
pub record CallLeaves (c : Call) (t : Sheet) (before after : After) : Type 0 where
  -- the records before the call's place are as they were
  pub in_front : (i : ℕ) → header_size t.header ≤ i → i < call_place c t → byte after.bytes i ≡ byte before.bytes i
  -- where the sheet's length is what it was, as after a replacement, so is every byte but the sixteen at the place
  pub others : after.size ≡ before.size → (i : ℕ) → Apart i (call_place c t) → byte after.bytes i ≡ byte before.bytes i
  -- what was of the sheet and is not any more is zero
  pub freed : (i : ℕ) → after.size ≤ i → i < before.size → byte after.bytes i ≡ 0
  -- past both sheets every byte is as it was, and the buffer is as long
  pub past : (i : ℕ) → before.size ≤ i → after.size ≤ i → byte after.bytes i ≡ byte before.bytes i
  pub long : length after.bytes ≡ length before.bytes

-- the length of the longest sheet on the way, the first and the last among them
unfoldable pub longest : Editor → List Call → After → ℕ
longest E [] a = a.size
longest E (c ∷ cs) a = let rest = longest E cs (called E c a) in max a.size rest

-- What calls in turn leave past the sheet: zeros up to the end of the longest sheet on the way, and behind it every byte as it was lent; the buffer is as long.
pub record LeavesPast (E : Editor) (cs : List Call) (a : After) : Type 0 where
  pub zeros : (i : ℕ) → (called_all E cs a).size ≤ i → i < longest E cs a → byte (called_all E cs a).bytes i ≡ 0
  pub lent : (i : ℕ) → longest E cs a ≤ i → byte (called_all E cs a).bytes i ≡ byte a.bytes i
  pub long : length (called_all E cs a).bytes ≡ length a.bytes
