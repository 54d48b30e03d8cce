-- The table: when a sheet is turned away, over the fields of its bytes and the lines of their values, which are in crates/sheet/specs/Lines.antt.
use Rattle.std.specs.Prelude.{ℕ, suc, ◌+◌, ◌*◌, ◌≤◌, ◌<◌, ◌≡◌, true, false, cond, List, length, get_or, take, drop, ltb, eqb}
use Rattle.quantity.specs.Range.{within, from}
use Rattle.layout.specs.Layout.{pack, unpack, bytes}
use Rattle.layout.specs.Line.{Line, Allowed, FirstFault}
use Rattle.sheet.specs.Versions.{version_numbers}
use Rattle.sheet.specs.Header.{header_fields, version_field, version_in}
use Rattle.sheet.specs.Lines.{header_lines, plate_lines, plate_widths, member_lines, member_widths}

-- how many bytes the header takes, by its version; the fields are those of crates/sheet/specs/Header.antt: nine in the first twelve bytes, then the version's own
abbrev pub head_size : List ℕ → ℕ
head_size s = (version_in s).size

-- n, the eighth of them
abbrev pub count_of : List ℕ → ℕ
count_of s = get_or (header_fields s) 7 0

-- L and H, the second and the fourth, and the depth, the second that version 2 has of its own; all in cm
abbrev pub length_of : List ℕ → ℕ
length_of s = get_or (header_fields s) 1 0

abbrev pub wave_of : List ℕ → ℕ
wave_of s = get_or (header_fields s) 3 0

abbrev pub depth_of : List ℕ → ℕ
depth_of s = get_or (header_fields s) 10 0

-- where record i begins, and where the sheet ends
abbrev pub record_start : List ℕ → ℕ → ℕ
record_start s i = head_size s + 16 * i

abbrev pub sheet_end : List ℕ → ℕ
sheet_end s = record_start s (count_of s)

-- the number of 128 bits in the sixteen bytes of record i
abbrev pub number_of : List ℕ → ℕ → ℕ
number_of s i = pack (bytes 16) (take 16 (drop (record_start s i) s))

-- its kind, the first field of a plate and of a member
abbrev pub kind_of : List ℕ → ℕ → ℕ
kind_of s i = get_or (unpack plate_widths (number_of s i)) 0 0

-- its fields: those of a plate up to kind 4, else those of a member
abbrev pub fields_of : List ℕ → ℕ → List ℕ
fields_of s i = cond (ltb (kind_of s i) 5) (unpack plate_widths (number_of s i)) (unpack member_widths (number_of s i))

-- the lines that they answer to, by the kind, and those of a plate by its ballast and its z
abbrev pub lines_of : List ℕ → ℕ → List Line
lines_of s i = let fs = unpack plate_widths (number_of s i) in cond (ltb (kind_of s i) 5) (plate_lines (kind_of s i) (eqb (get_or fs 8 0) 1) (get_or fs 3 0)) (member_lines (kind_of s i))

-- its id, the second field
abbrev pub id_of : List ℕ → ℕ → ℕ
id_of s i = get_or (fields_of s i) 1 0

-- there is a header, and each of its fields is within its values
pub record HeaderSound (s : List ℕ) : Type 0 where
  pub long : head_size s ≤ length s
  pub fields : Allowed (header_lines (version_in s)) (header_fields s)

-- length over depth beyond the limit of Ch 2 Sec 2 [2.1.3]: 35 at wave height 60, 25 from 120 on. Version 1 has no depth
pub data TooSlender (s : List ℕ) : Type 0 where
  at_60 : 2 ≤ version_field s → wave_of s ≡ 60 → 35 * depth_of s < length_of s → TooSlender s
  from_120 : 2 ≤ version_field s → 120 ≤ wave_of s → 25 * depth_of s < length_of s → TooSlender s

-- each field of record i is within its values
abbrev pub RecordSound : List ℕ → ℕ → Type 0
RecordSound s i = Allowed (lines_of s i) (fields_of s i)

-- the records before record i are within their values, and their ids rise
pub record InOrder (s : List ℕ) (i : ℕ) : Type 0 where
  pub sound : (j : ℕ) → j < i → RecordSound s j
  pub rising : (j : ℕ) → suc j < i → id_of s j < id_of s (suc j)

-- rows 1 to 5 and 9 do not hold
pub record Fits (s : List ℕ) (room : ℕ) : Type 0 where
  pub header : HeaderSound s
  pub slim : TooSlender s → ⊥
  pub whole : length s ≡ sheet_end s
  pub enough : 4 * count_of s ≤ room

-- nor do rows 6 to 8 for any record before record i, which is one of the n
pub record Reached (s : List ℕ) (room i : ℕ) : Type 0 where
  pub fits : Fits s room
  pub inside : i < count_of s
  pub before : InOrder s i

-- row k of the table holds with place p, and no earlier row does
pub data Row (s : List ℕ) (room : ℕ) : (k p : ℕ) → Type 0 where
  -- 1: sheet under 12 bytes
  sheet_short : length s < 12 → Row s room 1 0
  -- 2: version, the first field, none of those that there are
  version : 12 ≤ length s → within version_numbers (version_field s) ≡ false → Row s room 2 0
  -- 1 again: sheet under the bytes that the header of its version takes
  header_short : 12 ≤ length s → within version_numbers (version_field s) ≡ true → length s < head_size s → Row s room 1 0
  -- 3: a later header field outside its values, the first such; place: field, version being 1
  header_field : (f : ℕ) → head_size s ≤ length s → FirstFault (suc f) (header_lines (version_in s)) (header_fields s) → Row s room 3 (f + 2)
  -- 9: the hull is too slender
  slender : HeaderSound s → TooSlender s → Row s room 9 0
  -- 4: sheet length not its header's bytes + 16n
  sheet_length : HeaderSound s → (TooSlender s → ⊥) → (length s ≡ sheet_end s → ⊥) → Row s room 4 0
  -- 5: output under 4n bytes
  output_short : HeaderSound s → (TooSlender s → ⊥) → length s ≡ sheet_end s → room < 4 * count_of s → Row s room 5 0
  -- 6: kind not 1..8; place: record, from 0
  kind : (i : ℕ) → Reached s room i → within (from 1 8) (kind_of s i) ≡ false → Row s room 6 i
  -- 7: another field outside its values, the first such; place: 32 × record + field, kind being 1
  field : (i f : ℕ) → Reached s room i → FirstFault (suc f) (lines_of s i) (fields_of s i) → Row s room 7 (32 * i + (f + 2))
  -- 8: id not above the one before; place: record
  order : (i : ℕ) → Reached s room (suc i) → RecordSound s (suc i) → id_of s (suc i) ≤ id_of s i → Row s room 8 (suc i)

-- no row holds
pub record Accepted (s : List ℕ) (room : ℕ) : Type 0 where
  pub fits : Fits s room
  pub records : InOrder s (count_of s)
