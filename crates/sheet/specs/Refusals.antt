-- When the sheet is turned away: the number and the place of each refusal, as the document counts them.
use Rattle.std.specs.Prelude.{ℕ, ◌+◌, ◌*◌, cond, List, eqb, Result, Ok, Err}
use Rattle.sheet.specs.declared.Header.{Header}
use Rattle.sheet.specs.declared.Record.{Record}
use Rattle.sheet.specs.declared.Refusal.{Refusal}
use Rattle.sheet.specs.declared.Refusal.TheVariants.{SheetShort, Version, HeaderField, TooSlender, SheetLength, OutputShort, Kind, Field, Order, NoSuchId, NoRoom, Text, FieldCount}

-- what was asked for, or a refusal's number and place
pub data Answer (A : Type 0) : Type 0 where
  given : A → Answer A
  refused : (number place : ℕ) → Answer A

-- the table's number of a refusal
abbrev pub number_of : Refusal → ℕ
number_of SheetShort = 1
number_of Version = 2
number_of (HeaderField p) = 3
number_of TooSlender = 9
number_of SheetLength = 4
number_of OutputShort = 5
number_of (Kind p) = 6
number_of (Field p) = 7
number_of (Order p) = 8
number_of NoSuchId = 10
number_of NoRoom = 11
number_of (Text p) = 14
number_of (FieldCount p) = 15

-- its place, 0 unless the table names one
abbrev pub place_of : Refusal → ℕ
place_of SheetShort = 0
place_of Version = 0
place_of (HeaderField p) = p
place_of TooSlender = 0
place_of SheetLength = 0
place_of OutputShort = 0
place_of (Kind p) = p
place_of (Field p) = p
place_of (Order p) = p
place_of NoSuchId = 0
place_of NoRoom = 0
place_of (Text p) = p
place_of (FieldCount p) = p

-- what the code's answers say
abbrev pub told : {A : Type 0} → Refusal → Answer A
told r = refused (number_of r) (place_of r)

abbrev pub told_as : {A B : Type 0} → (A → B) → Result A Refusal → Answer B
told_as f (Ok a) = given (f a)
told_as f (Err r) = told r

abbrev pub told_result : {A : Type 0} → Result A Refusal → Answer A
told_result = told_as (λ a. a)

-- by the first faulty field, 0 being none: one refusal for the first field of all, another, by the field, for a later one
abbrev pub refused_at : {A : Type 0} → Answer A → (ℕ → Answer A) → ℕ → Answer A → Answer A
refused_at first later f fine = cond (eqb f 0) fine (cond (eqb f 1) first (later f))

-- a header: 2 for the version, 3 with the field for another
abbrev pub header_refused : {A : Type 0} → ℕ → Answer A → Answer A
header_refused f fine = refused_at (refused 2 0) (λ k. refused 3 k) f fine

-- record i of a sheet: 6 with the record for the kind, 7 with 32 × record + field for another
abbrev pub record_refused : {A : Type 0} → ℕ → ℕ → Answer A → Answer A
record_refused i f fine = refused_at (refused 6 i) (λ k. refused 7 (32 * i + k)) f fine

-- an answer and what the lent bytes hold afterwards
pub record Wrote : Type 0 where
  pub answer : Answer (Unit {0})
  pub bytes : List ℕ
