-- Exactly when: the case in which an answer is given, over any lines, by the first faulty field, and for a slice that may be too short.
use Rattle.std.specs.Prelude.{ℕ, suc, ◌+◌, ◌*◌, ◌≡◌, refl, false, cond, List, length, ltb, eqb}
use Rattle.layout.specs.Line.{Line, fault_from, FirstFault}
use Rattle.sheet.specs.Refusals.{Answer, given, refused, refused_at}

-- the one holds exactly when the other does
abbrev pub Exactly : Type 0 → Type 0 → Type 0
Exactly A B = (A → B) × (B → A)

-- a field past the first is the first at fault, and p is the place that goes with its number
pub record LaterFault (place : ℕ → ℕ) (ls : List Line) (vs : List ℕ) (p : ℕ) : Type 0 where
  pub index : ℕ
  pub fault : FirstFault (suc index) ls vs
  pub at : p ≡ place (suc (suc index))

-- what is refused of a header, or of a record: so many bytes are needed; the number for the first field, and its place; and for a later one
pub record Cases : Type 0 where
  pub size : ℕ
  pub first : ℕ
  pub at : ℕ
  pub later : ℕ
  pub place : ℕ → ℕ
  pub apart : eqb first later ≡ false

-- the answer by the number of the first faulty field, 0 being none; by the lines and the values; and before
-- that, with the number for a slice that is too short, by its length
abbrev pub by_fault : {A : Type 0} → Cases → ℕ → A → Answer A
by_fault c f a = refused_at (refused c.first c.at) (λ k. refused c.later (c.place k)) f (given a)

abbrev pub by_fields : {A : Type 0} → Cases → List Line → List ℕ → A → Answer A
by_fields c ls vs a = by_fault c (fault_from 1 ls vs) a

abbrev pub by_slice : {A : Type 0} (short : ℕ) → Cases → List ℕ → Answer A → Answer A
by_slice short c s inner = cond (ltb (length s) c.size) (refused short 0) inner

-- a header that needs so many bytes: 2 for the version, 3 with the field for another
abbrev pub header_cases : ℕ → Cases
header_cases size =
    record {
      size = size;
      first = 2;
      at = 0;
      later = 3;
      place = λ k. k;
      apart = refl;
    }

-- record i: 16 bytes, 6 with the record for the kind, 7 with 32 × record + field for another
abbrev pub record_cases : ℕ → Cases
record_cases i =
    record {
      size = 16;
      first = 6;
      at = i;
      later = 7;
      place = λ k. 32 * i + k;
      apart = refl;
    }
