-- Another number in place of a scantling, on a sheet of bytes; and raising a scantling to the number that a program names for it.
use Rattle.std.specs.Prelude.{ℕ, zero, suc, ◌+◌, ◌≤◌, Bool, cond, List, ◌++◌, take, drop, eqb}
use Rattle.sheet.specs.declared.Header.{Header}
use Rattle.sheet.specs.declared.Record.{Record}
use Rattle.sheet.specs.Refusals.{Answer, given, refused}
use Rattle.sheet.specs.Header.{header_of}
use Rattle.sheet.specs.Record.{record_bytes, record_at}
use Rattle.verdict.specs.Verdict.{met_in}
use Rattle.hull.specs.Hull.{rules_of}
use Rattle.hull.specs.Raising.{put_record}
use Rattle.checker.specs.declared.Entry.{Entry}
use Rattle.checker.specs.Entry.{read_entry}
use Rattle.demands.specs.Table.{record_start, number_of}
use Rattle.checker.specs.Check.{four_at}
use Rattle.demands.specs.Program.{Program}

-- the header that the sheet's fields are
abbrev pub the_header : List ℕ → Header
the_header s = header_of s

-- record i of the sheet, as its fields are
abbrev pub the_record : List ℕ → ℕ → Record
the_record s i = record_at (number_of s i)

-- the sheet with these bytes in place of record i's
unfoldable pub replaced : (i : ℕ) → List ℕ → List ℕ → List ℕ
replaced i b s = take (record_start s i) s ++ (b ++ drop (record_start s i + 16) s)

-- the sheet with x in place of the scantling of record i that rule k speaks of: T for rules 1 to 4, W for rule 5, A for rule 6
unfoldable pub with_scantling : (i k x : ℕ) → List ℕ → List ℕ
with_scantling i k x s = replaced i (record_bytes (put_record k x (the_record s i))) s

-- there is a number q, 0 being none, and x is not below it
abbrev pub Reaches : (q x : ℕ) → Type 0
Reaches q x = (1 ≤ q) × (q ≤ x)

-- whether record i of the sheet meets rule k
abbrev pub meets_rule : List ℕ → (i k : ℕ) → Bool
meets_rule s i k = met_in k (rules_of (the_header s) (the_record s i))

-- by the verdict that is read for record i: the number that it names in place of the scantling that fails; as it stands where there is no number
abbrev pub raised_by : (i : ℕ) → List ℕ → Answer Entry → List ℕ
raised_by i s (given e) = cond (eqb e.required 0) s (with_scantling i e.rule e.required s)
raised_by i s (refused k p) = s

-- the sheet after so many raisings of record i, each by the four bytes that the program leaves for it
unfoldable pub raised_times : Program → (out : List ℕ) (count i : ℕ) → List ℕ → List ℕ
raised_times P out zero i s = s
raised_times P out (suc count) i s = raised_times P out count i (raised_by i s (read_entry (four_at i (P.after s out))))
