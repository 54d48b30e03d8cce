-- How numbers of 32 bits are held in the fields of a header and a record while they are tested. No promise to a caller rests on this.
use Rattle.std.specs.Prelude.{ℕ, cond, List, [], ◌∷◌, get_or, ltb, eqb}
use Rattle.quantity.specs.Range.{Range, within, from, span, spacing, thickness, modulus, shear_area, steel_factor}
use Rattle.sheet.specs.Refusals.{Answer, given, refused}
use Rattle.sheet.specs.Lines.{none}
use Rattle.sheet.specs.Header.{own_at}
use Rattle.sheet.specs.declared.Header.{Header}
use Rattle.sheet.specs.declared.Own.{Own}
use Rattle.sheet.specs.declared.Plate.{Plate}
use Rattle.sheet.specs.declared.Member.{Member}
use Rattle.sheet.specs.declared.Body.TheVariants.{Plate as isPlate, Member as isMember}
use Rattle.sheet.specs.declared.Record.{Record}
use Rattle.numbers.specs.From.{in_second, plate_numbered}

-- a number within a range as it is, and every other as the highest that its field can hold
abbrev pub held_in : Range → (top x : ℕ) → ℕ
held_in r top x = cond (within r x) x top

-- a number above the highest that its field can hold as that highest
abbrev pub held : (top x : ℕ) → ℕ
held top x = held_in (from 0 top) top x

-- the lower of two numbers, 0 being none
abbrev pub first_of : ℕ → ℕ → ℕ
first_of a b = cond (eqb a 0) b (cond (eqb b 0) a (cond (ltb a b) a b))

-- a refusal, or what was found before it, where that has a lower place
abbrev pub earlier_of : Answer (Unit {0}) → (number place : ℕ) → Answer (Unit {0})
earlier_of (given u) k p = refused k p
earlier_of (refused j q) k p = cond (ltb q p) (refused j q) (refused k p)

-- a version's own numbers in its fields
abbrev pub own_held : List ℕ → Own
own_held ns = own_at (get_or ns 0 0) (get_or ns 8 0 ∷ held_in span 65535 (get_or ns 9 0) ∷ [])

-- a header's numbers in its fields
abbrev pub header_held : List ℕ → Header
header_held ns =
    record {
      version = held 255 (get_or ns 0 0);
      length = record { 0 = held_in span 65535 (get_or ns 1 0) };
      draught = record { 0 = held_in span 65535 (get_or ns 2 0) };
      wave = record { 0 = held_in span 65535 (get_or ns 3 0) };
      two_runs = eqb (get_or ns 4 0) 1;
      moment = get_or ns 5 0;
      bottom_modulus = get_or ns 6 0;
      count = held 65535 (get_or ns 7 0);
      own = own_held ns;
    }

-- the first field that is at fault although what it is held as is not, or 0: runs, and in version 1 the numbers past n
abbrev pub header_apart : List ℕ → ℕ
header_apart ns =
    cond (in_second ns)
    (cond (within (from 0 1) (get_or ns 4 0)) 0 5)
    (cond (within (from 0 1) (get_or ns 4 0)) (cond (within none (get_or ns 8 0)) (cond (within none (get_or ns 9 0)) 0 9) 9) 5)

-- a plate's numbers in its fields
abbrev pub plate_held : List ℕ → Plate
plate_held ns =
    record {
      factor = record { 0 = held_in steel_factor 65535 (get_or ns 2 0) };
      z = record { 0 = held_in span 65535 (get_or ns 3 0) };
      spacing = record { 0 = held_in spacing 65535 (get_or ns 4 0) };
      thickness = record { 0 = held_in thickness 65535 (get_or ns 5 0) };
      b1 = record { 0 = held_in span 65535 (get_or ns 6 0) };
      b2 = record { 0 = held_in span 65535 (get_or ns 7 0) };
      ballast = eqb (get_or ns 8 0) 1;
      tank_top = record { 0 = held_in span 65535 (get_or ns 9 0) };
      cargo = get_or ns 10 0;
    }

-- the same of a plate: ballast, and the numbers past the cargo
abbrev pub plate_apart : List ℕ → ℕ
plate_apart ns = cond (within (from 0 1) (get_or ns 8 0)) (cond (within none (get_or ns 11 0)) (cond (within none (get_or ns 12 0)) 0 12) 12) 9

-- a member's numbers in its fields
abbrev pub member_held : List ℕ → Member
member_held ns =
    record {
      z = record { 0 = held_in span 65535 (get_or ns 2 0) };
      spacing = record { 0 = held_in spacing 65535 (get_or ns 3 0) };
      span = record { 0 = held_in span 65535 (get_or ns 4 0) };
      thickness = record { 0 = held_in thickness 65535 (get_or ns 5 0) };
      bending = held 255 (get_or ns 6 0);
      shear = held 255 (get_or ns 7 0);
      eta = held 255 (get_or ns 8 0);
      stress = held 255 (get_or ns 9 0);
      modulus = record { 0 = held_in modulus 4294967295 (get_or ns 10 0) };
      area = record { 0 = held_in shear_area 65535 (get_or ns 11 0) };
      factor = record { 0 = held_in steel_factor 65535 (get_or ns 12 0) };
    }

-- of a member: σ1
abbrev pub member_apart : List ℕ → ℕ
member_apart ns = cond (within (from 0 255) (get_or ns 9 0)) 0 10

-- a record's numbers in its fields
abbrev pub record_held : List ℕ → Record
record_held ns =
    record {
      kind = held 255 (get_or ns 0 0);
      id = held 65535 (get_or ns 1 0);
      body = cond (plate_numbered ns) (isPlate (plate_held ns)) (isMember (member_held ns));
    }

-- and of a record
abbrev pub record_apart : List ℕ → ℕ
record_apart ns = cond (plate_numbered ns) (plate_apart ns) (member_apart ns)
