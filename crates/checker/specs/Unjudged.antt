-- A sheet that is read and not judged: the table without 5, since there is no output.
use Rattle.std.specs.Prelude.{ℕ, ◌*◌, List}
use Rattle.sheet.specs.declared.Header.{Header}
use Rattle.sheet.specs.Versions.{most_records}
use Rattle.sheet.specs.Refusals.{Answer, given}
use Rattle.checker.specs.Check.{◌then◌, parts_from, records_in, Sheet, sheet_in}

-- an output that has room for the verdicts of every sheet: four bytes for each of the most records
abbrev pub room : ℕ
room = 4 * most_records

-- every row but 5, which never holds with that room
unfoldable pub sound_sheet : List ℕ → Answer Sheet
sound_sheet s = sheet_in s room

-- the header of such a sheet
unfoldable pub sound_header : List ℕ → Answer Header
sound_header s = sound_sheet s then λ t. given t.header

-- rows 6 to 8 over the first n records, by the bytes of all of them; the promise of `sound_header` does not rest on it
unfoldable pub records_sound : List ℕ → (n : ℕ) → Answer (Unit {0})
records_sound b n = records_in 0 0 (parts_from b 0 n) then λ rs. given tt
