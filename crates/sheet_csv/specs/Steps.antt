-- What the functions of this crate say to each other. No promise to a caller rests on this.
use Rattle.std.specs.Prelude.{ℕ, zero, suc, ◌+◌, ◌≤◌, ◌⊎◌, ◌≡◌, List, [], ◌++◌, length, take, drop, leb, Result, Ok, Err}
use Rattle.decimal.specs.Put.{put_count, put_on}
use Rattle.sheet.specs.declared.Record.{Record}
use Rattle.sheet.specs.Refusals.{Answer, given, refused, told}
use Rattle.sheet.specs.Record.{read_record}
use Rattle.sheet.specs.Versions.{longest_sheet, enough}
use Rattle.checker.specs.Check.{◌then◌, demand, record_part}
use Rattle.checker.specs.Unjudged.{sound_sheet}
use Rattle.rows.specs.Pack.{fields_of}
use Rattle.rows.specs.Rows.{zeros}
use Rattle.sheet_csv.specs.Write.{line, record_cells}
use Rattle.sheet.specs.declared.Refusal.{Refusal}

-- ---- reading

-- the bytes of the draft: a record more than the longest sheet has
abbrev pub draft_size : ℕ
draft_size = longest_sheet + 16

-- the front of the bytes `whole` stands in the draft up to `end`: all of them, or more than any sheet has
pub record Held (whole : List ℕ) (end : ℕ) (draft : List ℕ) : Type 0 where
  pub front : take end draft ≡ take end whole
  pub inside : end ≤ length draft
  pub within : end ≤ length whole
  pub much : (end ≡ length whole) ⊎ (enough ≤ end)

-- bytes were put behind `end`, where there was room for them, and the next go to `next`
pub record PutsBehind (b draft : List ℕ) (end next : ℕ) (after : List ℕ) : Type 0 where
  pub place : next ≡ end + put_count b (drop end draft)
  pub bytes : after ≡ take end draft ++ put_on b (drop end draft)

-- what is answered of the bytes that the lines make, behind `front`
abbrev pub Fills : Answer (List ℕ) → (front : List ℕ) → Result ℕ Refusal → (draft : List ℕ) → Type 0
Fills (given b) front (Ok end) draft = Held (front ++ b) end draft
Fills (given b) front (Err x) draft = ⊥
Fills (refused k p) front (Ok end) draft = ⊥
Fills (refused k p) front (Err x) draft = told {A = ℕ} x ≡ refused k p

-- bytes in an output of so many: 5 where it is too short for them
abbrev pub fits_in : List ℕ → (room : ℕ) → Answer (List ℕ)
fits_in b room = demand (leb (length b) room) 5 then λ u. given b

-- the same of a sheet, behind the table's own
abbrev pub sound_in : List ℕ → (room : ℕ) → Answer (List ℕ)
sound_in b room = sound_sheet b then λ t. fits_in b room

-- ---- writing

-- the line of a record that was read; none where none was
abbrev pub read_text : Answer Record → List ℕ
read_text (given r) = line (record_cells r)
read_text (refused k p) = []

-- the line of the record in sixteen bytes
unfoldable pub record_text : List ℕ → List ℕ
record_text b = read_text (read_record 0 b)

-- those of the records i, i + 1, .. among the bytes of all, so many of them
unfoldable pub records_text : List ℕ → (i count : ℕ) → List ℕ
records_text b i zero = []
records_text b i (suc count) = record_text (record_part b i) ++ records_text b (i + 1) count

-- the longest line: thirteen numbers of at most nine digits, and what stands after each
abbrev pub longest_line : ℕ
longest_line = 131

-- the ten numbers of a header, and three that are 0
abbrev pub thirteen : List ℕ → List ℕ
thirteen ns = fields_of 10 ns ++ zeros 3
