-- A record: its fields as values of the layout and back; its first fault; reading and writing one.
use Rattle.std.specs.Prelude.{ℕ, ◌≡◌, Bool, cond, List, [], ◌∷◌, ◌++◌, length, get_or, take, drop, ltb, eqb}
use Rattle.quantity.specs.Range.{within, from}
use Rattle.layout.specs.Layout.{pack, unpack, bytes}
use Rattle.layout.specs.Bytes.{read_of}
use Rattle.layout.specs.Line.{Line, fault_from}
use Rattle.sheet.specs.declared.Plate.{Plate}
use Rattle.sheet.specs.declared.Member.{Member}
use Rattle.sheet.specs.declared.Body.{Body}
use Rattle.sheet.specs.declared.Body.TheVariants.{Plate as isPlate, Member as isMember}
use Rattle.sheet.specs.declared.Record.{Record}
use Rattle.sheet.specs.declared.Raw.{Raw}
use Rattle.sheet.specs.Lines.{plate_lines, member_lines, plate_widths, member_widths}
use Rattle.sheet.specs.Refusals.{Answer, given, refused, record_refused, Wrote}

-- the values of a plate record in layout order; spare is what stands in the bits that carry nothing
abbrev pub plate_values : ℕ → ℕ → Plate → ℕ → List ℕ
plate_values kind id p spare =
    kind ∷ id ∷ p.factor.0 ∷ p.z.0 ∷ p.spacing.0 ∷ p.thickness.0 ∷ p.b1.0 ∷ p.b2.0 ∷ cond p.ballast 1 0 ∷ p.tank_top.0 ∷ p.cargo ∷ spare ∷ []

-- the values of a member record in layout order
abbrev pub member_values : ℕ → ℕ → Member → List ℕ
member_values kind id m =
    kind ∷ id ∷ m.z.0 ∷ m.spacing.0 ∷ m.span.0 ∷ m.thickness.0 ∷ m.bending ∷ m.shear ∷ m.eta ∷ m.stress ∷ m.modulus.0 ∷ m.area.0 ∷ m.factor.0 ∷ []

-- the plate that values are
abbrev pub plate_at : List ℕ → Plate
plate_at vs =
    record {
      factor = record { 0 = get_or vs 2 0 };
      z = record { 0 = get_or vs 3 0 };
      spacing = record { 0 = get_or vs 4 0 };
      thickness = record { 0 = get_or vs 5 0 };
      b1 = record { 0 = get_or vs 6 0 };
      b2 = record { 0 = get_or vs 7 0 };
      ballast = eqb (get_or vs 8 0) 1;
      tank_top = record { 0 = get_or vs 9 0 };
      cargo = get_or vs 10 0;
    }

-- the member that values are
abbrev pub member_at : List ℕ → Member
member_at vs =
    record {
      z = record { 0 = get_or vs 2 0 };
      spacing = record { 0 = get_or vs 3 0 };
      span = record { 0 = get_or vs 4 0 };
      thickness = record { 0 = get_or vs 5 0 };
      bending = get_or vs 6 0;
      shear = get_or vs 7 0;
      eta = get_or vs 8 0;
      stress = get_or vs 9 0;
      modulus = record { 0 = get_or vs 10 0 };
      area = record { 0 = get_or vs 11 0 };
      factor = record { 0 = get_or vs 12 0 };
    }

-- the record that carries a plate, and the one that carries a member
abbrev pub of_plate : ℕ → ℕ → Plate → Record
of_plate kind id p = record { kind = kind; id = id; body = isPlate p }

abbrev pub of_member : ℕ → ℕ → Member → Record
of_member kind id m = record { kind = kind; id = id; body = isMember m }

-- the record that values are, by the shape
abbrev pub plate_record : List ℕ → Record
plate_record vs = record { kind = get_or vs 0 0; id = get_or vs 1 0; body = isPlate (plate_at vs) }

abbrev pub member_record : List ℕ → Record
member_record vs = record { kind = get_or vs 0 0; id = get_or vs 1 0; body = isMember (member_at vs) }

-- the lines that a list of values answers to: those of a plate rest on its kind, its ballast and its z, those of a member on its kind
abbrev pub plate_lines_of : List ℕ → List Line
plate_lines_of vs = plate_lines (get_or vs 0 0) (eqb (get_or vs 8 0) 1) (get_or vs 3 0)

abbrev pub member_lines_of : List ℕ → List Line
member_lines_of vs = member_lines (get_or vs 0 0)

-- the first faulty field, kind being 1; 0 where there is none
unfoldable pub plate_fault : ℕ → ℕ → Plate → ℕ → ℕ
plate_fault kind id p spare = fault_from 1 (plate_lines kind p.ballast p.z.0) (plate_values kind id p spare)

unfoldable pub member_fault : ℕ → ℕ → Member → ℕ
member_fault kind id m = fault_from 1 (member_lines kind) (member_values kind id m)

-- the same by what the record carries. A kind that does not go with what is carried is a faulty kind
abbrev pub body_fault : ℕ → ℕ → Body → ℕ → ℕ
body_fault kind id (isPlate p) spare = plate_fault kind id p spare
body_fault kind id (isMember m) spare = member_fault kind id m

abbrev pub record_fault : Record → ℕ → ℕ
record_fault r spare = body_fault r.kind r.id r.body spare

-- up to 4 the kind in a number of 128 bits is that of a plate
abbrev pub plate_in : ℕ → Bool
plate_in n = ltb (get_or (unpack plate_widths n) 0 0) 5

-- record i of a sheet, in a number of 128 bits
unfoldable pub record_in : ℕ → ℕ → Answer Record
record_in i n =
    let vs = unpack plate_widths n in
    let ws = unpack member_widths n in
    cond (plate_in n)
    (record_refused i (fault_from 1 (plate_lines_of vs) vs) (given (plate_record vs)))
    (record_refused i (fault_from 1 (member_lines_of ws) ws) (given (member_record ws)))

-- reading record i of a sheet: 1 where there are under 16 bytes, then 6 and 7; bytes past the sixteenth play no part
unfoldable pub read_record : ℕ → List ℕ → Answer Record
read_record i s = cond (ltb (length s) 16) (refused 1 0) (record_in i (pack (bytes 16) (take 16 s)))

abbrev pub widths_in : Body → List ℕ
widths_in (isPlate p) = plate_widths
widths_in (isMember m) = member_widths

abbrev pub values_in : ℕ → ℕ → Body → List ℕ
values_in kind id (isPlate p) = plate_values kind id p 0
values_in kind id (isMember m) = member_values kind id m

-- the number of 128 bits that a record is
abbrev pub record_number : Record → ℕ
record_number r = pack (widths_in r.body) (values_in r.kind r.id r.body)

-- the sixteen bytes of a record
abbrev pub record_bytes : Record → List ℕ
record_bytes r = unpack (bytes 16) (record_number r)

-- writing: 5 where there are under 16 bytes, then 6 and 7 as record 0; a refusal leaves every byte, and else the first sixteen are the record's
unfoldable pub write_record : Record → List ℕ → Wrote
write_record r o =
    cond (ltb (length o) 16)
    (record { answer = refused 5 0; bytes = o })
    (record {
      answer = record_refused 0 (record_fault r 0) (given tt);
      bytes = cond (eqb (record_fault r 0) 0) (record_bytes r ++ drop 16 o) o;
    })

-- ---- what stands in sixteen bytes, whatever it is

-- the record in a number of 128 bits, whatever its values
abbrev pub record_at : ℕ → Record
record_at n = cond (plate_in n) (plate_record (unpack plate_widths n)) (member_record (unpack member_widths n))

-- what stands there in the bits that carry nothing
abbrev pub spare_at : ℕ → ℕ
spare_at n = cond (plate_in n) (get_or (unpack plate_widths n) 11 0) 0

-- both, as they stand in a number of 128 bits
abbrev pub raw_at : ℕ → Raw
raw_at n = record { values = record_at n; spare = spare_at n }

-- the kind in a number of 128 bits, which is where plates and members alike have it
abbrev pub kind_at : ℕ → ℕ
kind_at n = get_or (unpack plate_widths n) 0 0

-- whether what is carried belongs to the kind
abbrev pub belongs : ℕ → Body → Bool
belongs kind (isPlate p) = within (from 1 4) kind
belongs kind (isMember m) = within (from 5 8) kind

-- the number in the first sixteen bytes
abbrev pub number_in : List ℕ → ℕ
number_in s = pack (bytes 16) (take 16 s)

-- the record there, whatever its values; its fields; and the lines that they answer to
abbrev pub record_of : List ℕ → Record
record_of s = record_at (number_in s)

abbrev pub fields_at : ℕ → List ℕ
fields_at n = cond (plate_in n) (unpack plate_widths n) (unpack member_widths n)

abbrev pub lines_at : ℕ → List Line
lines_at n = cond (plate_in n) (plate_lines_of (unpack plate_widths n)) (member_lines_of (unpack member_widths n))

-- the lines that a record to be written answers to
abbrev pub lines_in : ℕ → Body → List Line
lines_in kind (isPlate p) = plate_lines kind p.ballast p.z.0
lines_in kind (isMember m) = member_lines kind

abbrev pub lines_of : Record → List Line
lines_of r = lines_in r.kind r.body

abbrev pub values_of : Record → List ℕ
values_of r = values_in r.kind r.id r.body

-- in the first sixteen bytes a record stands that has no fault, and nothing in the bits that carry nothing
abbrev pub Bare : List ℕ → Record → Type 0
Bare s r = (raw_at (read_of 16 s) ≡ record { values = r; spare = 0 }) × (record_fault r 0 ≡ 0)
