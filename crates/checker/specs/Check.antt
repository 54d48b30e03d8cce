-- What a check of a whole sheet answers, and what it leaves in the output.
use Rattle.std.specs.Prelude.{◌≡◌, ℕ, zero, suc, ◌+◌, ◌-◌, ◌*◌, Bool, not, cond, List, [], ◌∷◌, ◌++◌, map, length, take, drop, leb, ltb, eqb, Result, Ok, Err}
use Rattle.sheet.specs.declared.Header.{Header}
use Rattle.sheet.specs.declared.Record.{Record}
use Rattle.sheet.specs.Refusals.{Answer, given, refused, told, told_as}
use Rattle.sheet.specs.Header.{header_size, read_header}
use Rattle.sheet.specs.Slender.{too_slender}
use Rattle.sheet.specs.Record.{read_record}
use Rattle.verdict.specs.Judged.{Finding}
use Rattle.hull.specs.Hull.{finding}
use Rattle.checker.specs.declared.Entry.{Entry}
use Rattle.checker.specs.Entry.{entry_bytes}
use Rattle.sheet.specs.declared.Refusal.{Refusal}
use Rattle.checker.specs.declared.Checked.{Checked}

infixr 20 ◌then◌
-- what comes next where an answer is given; a refusal stays
unfoldable pub ◌then◌ : {A B : Type 0} → Answer A → (A → Answer B) → Answer B
(given a) then next = next a
(refused k p) then next = refused k p

-- refusal k, of place 0, unless a test holds
unfoldable pub demand : Bool → ℕ → Answer (Unit {0})
demand t k = cond t (given tt) (refused k 0)

-- ---- when the sheet is turned away

-- 1, 2 and 3: reading the header; 9: its hull is too slender, which is asked on sheets only
unfoldable pub sheet_header : List ℕ → Answer Header
sheet_header s = read_header s then λ h. demand (not (too_slender h)) 9 then λ u. given h

-- how many bytes a sheet has: those of its header, and sixteen for each record
abbrev pub sheet_size : Header → ℕ
sheet_size h = header_size h + 16 * h.count

-- 1, 2, 3 and 9: the sheet's header; 4: sheet length not its header's bytes + 16n; 5: output under 4n bytes
unfoldable pub header_for : List ℕ → (room : ℕ) → Answer Header
header_for s room =
    sheet_header s
    then λ h. demand (eqb (length s) (sheet_size h)) 4
    then λ u. demand (leb (4 * h.count) room) 5
    then λ v. given h

-- the bytes from a on, up to e
abbrev pub part : List ℕ → ℕ → ℕ → List ℕ
part s a e = take (e - a) (drop a s)

-- the bytes of all records: those after the header's
abbrev pub records_part : Header → List ℕ → List ℕ
records_part h s = drop (header_size h) s

-- among them the sixteen bytes of record i
abbrev pub record_part : List ℕ → ℕ → List ℕ
record_part b i = part b (16 * i) (16 * i + 16)

-- record i, as it is read
abbrev pub record_of : List ℕ → ℕ → Answer Record
record_of b i = read_record i (record_part b i)

-- the bytes of the records i, i + 1, .., so many of them
unfoldable pub parts_from : List ℕ → (i count : ℕ) → List (List ℕ)
parts_from b i zero = []
parts_from b i (suc count) = record_part b i ∷ parts_from b (i + 1) count

-- record i: 6 and 7, reading it; then 8: id not above the one before
unfoldable pub sound_after : (i before : ℕ) → List ℕ → Answer Record
sound_after i before b = read_record i b then λ r. cond (ltb before r.id) (given r) (refused 8 i)

-- the records taken in turn, each finished before the next; the first of them is record i
unfoldable pub records_in : (i before : ℕ) → List (List ℕ) → Answer (List Record)
records_in i before [] = given []
records_in i before (b ∷ bs) = sound_after i before b then λ r. records_in (i + 1) r.id bs then λ rs. given (r ∷ rs)

-- a sheet that is not turned away
pub record Sheet : Type 0 where
  pub header : Header
  pub records : List Record

-- the whole table, 1 to 9. Ids are at least 1, so that every id is above the 0 before the first record
unfoldable pub sheet_in : List ℕ → (room : ℕ) → Answer Sheet
sheet_in s room =
    header_for s room
    then λ h. records_in 0 0 (parts_from (records_part h s) 0 h.count)
    then λ rs. given (record { header = h; records = rs })

-- ---- what is answered and written

-- what was found of the record of this id
abbrev pub entry_with : ℕ → Finding → Entry
entry_with id f = record { id = id; rule = f.verdict.rule; required = f.verdict.required; source = f.source }

-- the verdict on a record and what its pressure comes from, with its id
unfoldable pub entry_of : Header → Record → Entry
entry_of h r = entry_with r.id (finding h r)

-- one verdict for each record
unfoldable pub verdicts : Sheet → List Entry
verdicts t = map (entry_of t.header) t.records

-- each verdict's own four bytes, in turn
unfoldable pub bytes_of : List Entry → List ℕ
bytes_of [] = []
bytes_of (e ∷ es) = entry_bytes e ++ bytes_of es

-- the four bytes at 4i of an output
abbrev pub four_at : ℕ → List ℕ → List ℕ
four_at i out = take 4 (drop (4 * i) out)

-- 1 for a verdict with a rule, else 0
abbrev pub failing : Entry → ℕ
failing e = cond (eqb e.rule 0) 0 1

-- how many verdicts have a rule
unfoldable pub failures : List Entry → ℕ
failures [] = 0
failures (e ∷ es) = failing e + failures es

-- the two numbers of a check that is not refused
pub record Totals : Type 0 where
  pub n : ℕ
  pub failed : ℕ

-- the code's answer that n verdicts were given, of which so many have a rule
abbrev pub tallied : (n failed : ℕ) → Result Checked Refusal
tallied n failed = Ok (record { n = n; failed = failed })

abbrev pub totals_of : Checked → Totals
totals_of c = record { n = c.n; failed = c.failed }

-- what the code's answer says
abbrev pub told_checked : Result Checked Refusal → Answer Totals
told_checked = told_as totals_of

-- the answer, from the sheet and the length of the output
unfoldable pub answer_of : List ℕ → (room : ℕ) → Answer Totals
answer_of s room = sheet_in s room then λ t. given (record { n = t.header.count; failed = failures (verdicts t) })

-- the output of a sheet: as lent on a refusal; else the verdicts in the first 4n bytes, and every other byte as lent
abbrev pub output_by : Answer Sheet → List ℕ → List ℕ
output_by (given t) out = bytes_of (verdicts t) ++ drop (4 * t.header.count) out
output_by (refused k p) out = out

unfoldable pub output_of : List ℕ → List ℕ → List ℕ
output_of s out = output_by (sheet_in s (length out)) out

-- What the contract of `check` says: the answer, and the output's bytes as it returns.
pub record Checks (s out : List ℕ) (r : Result Checked Refusal) (after : List ℕ) : Type 0 where
  pub answer : told_checked r ≡ answer_of s (length out)
  pub bytes : after ≡ output_of s out
