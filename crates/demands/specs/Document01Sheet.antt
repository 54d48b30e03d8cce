-- Document 01, "The sheet, bit by bit" and "When the sheet is turned away", written out in its own numbers and order: the sheet of version 1. No request changes
-- this file, since it is what today's checker is compared with; of the crates below it uses only what has none of the document's numbers.
use Rattle.std.specs.Prelude.{ℕ, zero, suc, ◌+◌, ◌*◌, Bool, false, ◌||◌, cond, List, [], ◌∷◌, length, get_or, take, drop, leb, ltb, eqb}
use Rattle.quantity.specs.Range.{from}
use Rattle.layout.specs.Layout.{pack, unpack, bytes}
use Rattle.layout.specs.Line.{Line, line, zeros, widths, fault_from}
use Rattle.sheet.specs.declared.Header.{Header}
use Rattle.sheet.specs.declared.Own.TheVariants.{One}
use Rattle.sheet.specs.declared.Body.TheVariants.{Plate as isPlate, Member as isMember}
use Rattle.sheet.specs.declared.Plate.{Plate}
use Rattle.sheet.specs.declared.Member.{Member}
use Rattle.sheet.specs.declared.Record.{Record}
use Rattle.sheet.specs.Refusals.{Answer, given, refused}
use Rattle.checker.specs.Check.{◌then◌, Sheet}

-- ---- the sheet, bit by bit

-- header, 96 bits: version 4 (1); length L 14 (4000..13500); draught D0 10 (1..1000); wave height H 8 (0, 60, 120); runs 1; moment M 20 (0..1,000,000);
-- ZB 27 (1..100,000,000); count n 9 (0..400); zero 3
abbrev pub header_lines : List Line
header_lines =
    line 4 (from 1 1)
    ∷ line 14 (from 4000 13500)
    ∷ line 10 (from 1 1000)
    ∷ record { width = 8; values = from 0 0 ∷ from 60 60 ∷ from 120 120 ∷ [] }
    ∷ line 1 (from 0 1)
    ∷ line 20 (from 0 1000000)
    ∷ line 27 (from 1 100000000)
    ∷ line 9 (from 0 400)
    ∷ zeros 3
    ∷ []

-- its fields, in twelve bytes, and the first of them
abbrev pub header_fields : List ℕ → List ℕ
header_fields s = unpack (widths header_lines) (pack (bytes 12) (take 12 s))

abbrev pub version_named : List ℕ → ℕ
version_named s = get_or (header_fields s) 0 0

-- the header that they are
abbrev pub header_at : List ℕ → Header
header_at vs =
    record {
      version = get_or vs 0 0;
      length = record { 0 = get_or vs 1 0 };
      draught = record { 0 = get_or vs 2 0 };
      wave = record { 0 = get_or vs 3 0 };
      two_runs = eqb (get_or vs 4 0) 1;
      moment = get_or vs 5 0;
      bottom_modulus = get_or vs 6 0;
      count = get_or vs 7 0;
      own = One;
    }

-- kinds 1, 2 bottom plate and 3, 4 inner bottom plate, of which 2 and 4 have longitudinal framing; 5 bottom longitudinal; 6, 7 floor, bottom transverse; 8 girder
abbrev pub bottom : ℕ → Bool
bottom kind = leb kind 2

abbrev pub longitudinal : ℕ → Bool
longitudinal kind = eqb kind 2 || eqb kind 4

abbrev pub six_or_seven : ℕ → Bool
six_or_seven kind = eqb kind 6 || eqb kind 7

abbrev pub from_six : ℕ → Bool
from_six kind = leb 6 kind

-- plate, after kind 4 and id 10 (1..1000): K 10 (500..1000); z 10 (0..1000); S 12 (100..2000); T 12 (1..4000); b1 10 and b2 10 (10..1000; kinds 2 and 4 carry 0);
-- ballast 1; zL 11 (z..1200 with ballast, else 0); cargo pressure 18 (0..200,000; kinds 1 and 2 carry 0); zero 20
abbrev pub plate_lines : (kind : ℕ) (ballast : Bool) (z : ℕ) → List Line
plate_lines kind ballast z =
    line 4 (from 1 4)
    ∷ line 10 (from 1 1000)
    ∷ line 10 (from 500 1000)
    ∷ line 10 (from 0 1000)
    ∷ line 12 (from 100 2000)
    ∷ line 12 (from 1 4000)
    ∷ line 10 (from (cond (longitudinal kind) 0 10) (cond (longitudinal kind) 0 1000))
    ∷ line 10 (from (cond (longitudinal kind) 0 10) (cond (longitudinal kind) 0 1000))
    ∷ line 1 (from 0 1)
    ∷ line 11 (from (cond ballast z 0) (cond ballast 1200 0))
    ∷ line 18 (from 0 (cond (bottom kind) 0 200000))
    ∷ zeros 20
    ∷ []

-- member, after kind and id: z 10 (0..1000; kinds 6 to 8 carry 0); S 12 (100..4000); span l 10 (10..1000); T 12 (1..4000); βb 7, βs 7, η 7 (1..100; η is 100 in kinds 6
-- and 7); σ1 8 (0..255; 0 in kinds 6 and 7); W 17 (1..100,000); A 14 (1..16,000); K 10 (500..1000)
abbrev pub member_lines : (kind : ℕ) → List Line
member_lines kind =
    line 4 (from 5 8)
    ∷ line 10 (from 1 1000)
    ∷ line 10 (from 0 (cond (from_six kind) 0 1000))
    ∷ line 12 (from 100 4000)
    ∷ line 10 (from 10 1000)
    ∷ line 12 (from 1 4000)
    ∷ line 7 (from 1 100)
    ∷ line 7 (from 1 100)
    ∷ line 7 (from (cond (six_or_seven kind) 100 1) 100)
    ∷ line 8 (from 0 (cond (six_or_seven kind) 0 255))
    ∷ line 17 (from 1 100000)
    ∷ line 14 (from 1 16000)
    ∷ line 10 (from 500 1000)
    ∷ []

-- the fields in the 128 bits of a record; the widths rest on no field
abbrev pub plate_fields : ℕ → List ℕ
plate_fields n = unpack (widths (plate_lines 1 false 0)) n

abbrev pub member_fields : ℕ → List ℕ
member_fields n = unpack (widths (member_lines 5)) n

-- the plate and the member that they are
abbrev pub plate_at : List ℕ → Plate
plate_at vs =
    record {
      factor = record { 0 = get_or vs 2 0 };
      z = record { 0 = get_or vs 3 0 };
      spacing = record { 0 = get_or vs 4 0 };
      thickness = record { 0 = get_or vs 5 0 };
      b1 = record { 0 = get_or vs 6 0 };
      b2 = record { 0 = get_or vs 7 0 };
      ballast = eqb (get_or vs 8 0) 1;
      tank_top = record { 0 = get_or vs 9 0 };
      cargo = get_or vs 10 0;
    }

abbrev pub member_at : List ℕ → Member
member_at vs =
    record {
      z = record { 0 = get_or vs 2 0 };
      spacing = record { 0 = get_or vs 3 0 };
      span = record { 0 = get_or vs 4 0 };
      thickness = record { 0 = get_or vs 5 0 };
      bending = get_or vs 6 0;
      shear = get_or vs 7 0;
      eta = get_or vs 8 0;
      stress = get_or vs 9 0;
      modulus = record { 0 = get_or vs 10 0 };
      area = record { 0 = get_or vs 11 0 };
      factor = record { 0 = get_or vs 12 0 };
    }

-- ---- when the sheet is turned away

-- by the first faulty field of the header, 0 being none; 2: version not 1; 3: a later field outside its values; place: field, version being 1
abbrev pub by2and3 : (fault : ℕ) → Header → Answer Header
by2and3 fault h = cond (eqb fault 0) (given h) (cond (eqb fault 1) (refused 2 0) (refused 3 fault))

-- 1: sheet under 12 bytes; then 2 and 3
unfoldable pub header_in : List ℕ → Answer Header
header_in s = cond (ltb (length s) 12) (refused 1 0) (by2and3 (fault_from 1 header_lines (header_fields s)) (header_at (header_fields s)))

-- by the first faulty field of record i; 6: kind not 1..8; place: record, from 0; 7: another field outside its values; place: 32 × record + field
abbrev pub by6and7 : (i fault : ℕ) → Record → Answer Record
by6and7 i fault r = cond (eqb fault 0) (given r) (cond (eqb fault 1) (refused 6 i) (refused 7 (32 * i + fault)))

abbrev pub plate_in : (i : ℕ) → List ℕ → Answer Record
plate_in i vs =
    by6and7 i (fault_from 1 (plate_lines (get_or vs 0 0) (eqb (get_or vs 8 0) 1) (get_or vs 3 0)) vs)
    (record { kind = get_or vs 0 0; id = get_or vs 1 0; body = isPlate (plate_at vs) })

abbrev pub member_in : (i : ℕ) → List ℕ → Answer Record
member_in i vs =
    by6and7 i (fault_from 1 (member_lines (get_or vs 0 0)) vs) (record { kind = get_or vs 0 0; id = get_or vs 1 0; body = isMember (member_at vs) })

-- record i, in 128 bits: plate data for kinds 1 to 4 and member data for kinds 5 to 8
unfoldable pub record_in : (i n : ℕ) → Answer Record
record_in i n = cond (ltb (get_or (plate_fields n) 0 0) 5) (plate_in i (plate_fields n)) (member_in i (member_fields n))

-- so many records from record i on, in the bytes b of all of them; 6 and 7, then 8: id not above the one before; place: record. Each is finished before the next
unfoldable pub records_in : (i before count : ℕ) → (b : List ℕ) → Answer (List Record)
records_in i before zero b = given []
records_in i before (suc count) b =
    record_in i (pack (bytes 16) (take 16 (drop (16 * i) b)))
    then λ r. cond (ltb before r.id) (records_in (i + 1) r.id count b then λ rs. given (r ∷ rs)) (refused 8 i)

-- 1, 2 and 3; 4: sheet length not 12 + 16n; 5: output under 4n bytes; then 6, 7 and 8
unfoldable pub sheet_in : List ℕ → (room : ℕ) → Answer Sheet
sheet_in s room =
    header_in s
    then λ h. cond (eqb (length s) (12 + 16 * h.count))
    (cond (leb (4 * h.count) room)
    (records_in 0 0 h.count (drop 12 s) then λ rs. given (record { header = h; records = rs }))
    (refused 5 0))
    (refused 4 0)
