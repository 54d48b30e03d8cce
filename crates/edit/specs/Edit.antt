-- What an edit of a sheet answers, and what it leaves in the buffer. The sheet is the first bytes of the buffer; how many they are is given beside it.
use Rattle.std.specs.Prelude.{ℕ, ◌+◌, ◌-◌, ◌*◌, ◌≡◌, Bool, cond, ◌&&◌, List, ◌++◌, length, take, drop, replicate, leb, ltb, Result, Ok, Err}
use Rattle.sheet.specs.declared.Header.{Header}
use Rattle.sheet.specs.declared.Record.{Record}
use Rattle.sheet.specs.Versions.{version_of}
use Rattle.sheet.specs.Refusals.{Answer, given, refused, told, record_refused, told_result}
use Rattle.sheet.specs.Header.{header_size, header_bytes}
use Rattle.sheet.specs.Record.{record_fault, record_bytes}
use Rattle.numbers.specs.From.{record_from}
use Rattle.checker.specs.Check.{◌then◌, demand, part, Sheet}
use Rattle.checker.specs.Unjudged.{sound_sheet}
use Rattle.keyed.specs.Keyed.{position_of, has_of}
use Rattle.sheet.specs.declared.Refusal.{Refusal}

-- ---- the sheet in the buffer

-- 1 also where the buffer has fewer bytes than the sheet; then the table without 5
unfoldable pub sheet_at : (buffer : List ℕ) (len : ℕ) → Answer Sheet
sheet_at buffer len = demand (leb len (length buffer)) 1 then λ u. sound_sheet (take len buffer)

-- its header
unfoldable pub header_of : (buffer : List ℕ) (len : ℕ) → Answer Header
header_of buffer len = sheet_at buffer len then λ t. given t.header

-- where record i begins under a header
abbrev pub start : Header → ℕ → ℕ
start h i = header_size h + 16 * i

-- the highest n of its version
abbrev pub highest : Header → ℕ
highest h = (version_of h.own).most

-- the key of a record
abbrev pub id_of : Record → ℕ
id_of r = r.id

-- the header with another count, and every other field as it was
abbrev pub counting : ℕ → Header → Header
counting n h =
    record {
      version = h.version;
      length = h.length;
      draught = h.draught;
      wave = h.wave;
      two_runs = h.two_runs;
      moment = h.moment;
      bottom_modulus = h.bottom_modulus;
      count = n;
      own = h.own;
    }

-- ---- the bytes that an edit leaves

-- a record in the place of record i, under the header h: no other byte changes
unfoldable pub replacing : Header → (i : ℕ) → Record → List ℕ → List ℕ
replacing h i r b = take (start h i) b ++ (record_bytes r ++ drop (start h i + 16) b)

-- a record put in as record i of a sheet of len bytes, under the header h: what stood from there on stands sixteen bytes further
unfoldable pub inserting : Header → (i len : ℕ) → Record → List ℕ → List ℕ
inserting h i len r b = header_bytes h ++ (part b (header_size h) (start h i) ++ (record_bytes r ++ (part b (start h i) len ++ drop (len + 16) b)))

-- record i taken out, under the header h: what stood after it closes the gap, and the sixteen bytes that come free at the end are zero
unfoldable pub removing : Header → (i len : ℕ) → List ℕ → List ℕ
removing h i len b = header_bytes h ++ (part b (header_size h) (start h i) ++ (part b (start h i + 16) len ++ (replicate 16 0 ++ drop len b)))

-- ---- the answers

-- the length of the sheet after an edit, and the buffer's bytes
pub record After : Type 0 where
  pub size : ℕ
  pub bytes : List ℕ

-- 11: a new id has room unless the sheet plus 16 exceeds the buffer or n stands at its highest
abbrev pub has_room : Header → (len size : ℕ) → Bool
has_room h len size = leb (len + 16) size && ltb h.count (highest h)

-- a sound record put into a sheet: it replaces the one with its id, or goes in at its place in the id order
unfoldable pub placing : Sheet → (buffer : List ℕ) (len : ℕ) → Record → Answer After
placing t b len r =
    let h = t.header in
    let i = position_of id_of r.id t.records in
    cond (has_of id_of r.id t.records)
    (given (record { size = len; bytes = replacing h i r b }))
    (demand (has_room h len (length b)) 11 then λ u. given (record { size = len + 16; bytes = inserting (counting (h.count + 1) h) i len r b }))

-- a record put into the sheet: 6 and 7 on it with n as its record, then 11
unfoldable pub put_in : (buffer : List ℕ) (len : ℕ) → Record → Answer After
put_in b len r =
    sheet_at b len
    then λ t. record_refused t.header.count (record_fault r 0) (given (tt {0}))
    then λ u. placing t b len r

-- the record that numbers are, as record n of the sheet, put in
unfoldable pub put_numbers_in : (buffer : List ℕ) (len : ℕ) (ns : List ℕ) → Answer After
put_numbers_in b len ns = header_of b len then λ h. record_from h.count ns then λ r. put_in b len r

-- the record of an id taken out: 10 where none has it
unfoldable pub remove_in : (buffer : List ℕ) (len id : ℕ) → Answer After
remove_in b len id =
    sheet_at b len
    then λ t. demand (has_of id_of id t.records) 10
    then λ u. given (record { size = len - 16; bytes = removing (counting (t.header.count - 1) t.header) (position_of id_of id t.records) len b })

-- the new length, or the refusal
unfoldable pub size_by : Answer After → Answer ℕ
size_by (given a) = given a.size
size_by (refused k p) = refused k p

-- the buffer afterwards: a refusal leaves every byte
unfoldable pub bytes_by : Answer After → List ℕ → List ℕ
bytes_by (given a) before = a.bytes
bytes_by (refused k p) before = before

-- What the contracts of `put` and `remove` say: the answer, and every byte of the buffer as it returns.
pub record Edits (a : Answer After) (before : List ℕ) (r : Result ℕ Refusal) (after : List ℕ) : Type 0 where
  pub answer : told_result r ≡ size_by a
  pub bytes : after ≡ bytes_by a before
