-- The header: its fields as values of the layout and back; its first fault; reading and writing one.
use Rattle.std.specs.Prelude.{ℕ, ◌-◌, cond, List, [], ◌∷◌, ◌++◌, length, get_or, take, drop, ltb, eqb}
use Rattle.layout.specs.Layout.{pack, unpack, bytes}
use Rattle.layout.specs.Line.{fault_from}
use Rattle.sheet.specs.declared.Header.{Header}
use Rattle.sheet.specs.declared.Own.{Own}
use Rattle.sheet.specs.declared.Own.TheVariants.{One, Two}
use Rattle.sheet.specs.Versions.{Version, first_bytes, two, numbered, version_of, bytes_needed}
use Rattle.sheet.specs.Lines.{header_lines, first_widths, own_widths}
use Rattle.sheet.specs.Refusals.{Answer, given, refused, header_refused, Wrote}

-- how many bytes a header takes
abbrev pub header_size : Header → ℕ
header_size h = (version_of h.own).size

-- the modulus of the inner bottom: ZDB, and ZB in version 1
abbrev pub inner_of : (ZB : ℕ) → Own → ℕ
inner_of ZB One = ZB
inner_of ZB (Two s) = s.inner_modulus

abbrev pub inner_modulus : Header → ℕ
inner_modulus h = inner_of h.bottom_modulus h.own

-- ---- the values of the fields, in layout order

-- those that every version has; spare is what stands in the three bits that carry nothing
abbrev pub first_values : Header → (spare : ℕ) → List ℕ
first_values h spare =
    h.version ∷ h.length.0 ∷ h.draught.0 ∷ h.wave.0 ∷ cond h.two_runs 1 0 ∷ h.moment ∷ h.bottom_modulus ∷ h.count ∷ spare ∷ []

-- those of its own; rest is what stands in the bits there that carry nothing
abbrev pub own_values : Own → (rest : ℕ) → List ℕ
own_values One rest = []
own_values (Two s) rest = s.inner_modulus ∷ s.depth.0 ∷ rest ∷ []

abbrev pub header_values : Header → (spare rest : ℕ) → List ℕ
header_values h spare rest = first_values h spare ++ own_values h.own rest

-- what the values of version k's own fields are
abbrev pub own_at : (k : ℕ) → List ℕ → Own
own_at k us = cond (eqb k two.number) (Two (record { inner_modulus = get_or us 0 0; depth = record { 0 = get_or us 1 0 } })) One

-- the header that values are
abbrev pub header_at : List ℕ → Header
header_at vs =
    record {
      version = get_or vs 0 0;
      length = record { 0 = get_or vs 1 0 };
      draught = record { 0 = get_or vs 2 0 };
      wave = record { 0 = get_or vs 3 0 };
      two_runs = eqb (get_or vs 4 0) 1;
      moment = get_or vs 5 0;
      bottom_modulus = get_or vs 6 0;
      count = get_or vs 7 0;
      own = own_at (get_or vs 0 0) (drop 9 vs);
    }

-- the first faulty field, version being 1; 0 where there is none. A version that does not go with what is held of its own is a faulty version
unfoldable pub raw_fault : Header → (spare rest : ℕ) → ℕ
raw_fault h spare rest = fault_from 1 (header_lines (version_of h.own)) (header_values h spare rest)

-- the same of a header by itself
abbrev pub header_fault : Header → ℕ
header_fault h = raw_fault h 0 0

-- ---- the fields in bytes

-- the fields in a number of 96 bits, and those of the version's own in another
abbrev pub fields_in : (n rest : ℕ) → List ℕ
fields_in n rest = let fs = unpack first_widths n in fs ++ unpack (own_widths (numbered (get_or fs 0 0))) rest

-- how many bytes a version's own fields take
abbrev pub own_bytes : Version → ℕ
own_bytes v = v.size - first_bytes

-- the fields that every version has, in the first twelve bytes
abbrev pub first_fields : List ℕ → List ℕ
first_fields s = unpack first_widths (pack (bytes first_bytes) (take first_bytes s))

-- those of a version's own, after them
abbrev pub own_fields : Version → List ℕ → List ℕ
own_fields v s = unpack (own_widths v) (pack (bytes (own_bytes v)) (take (own_bytes v) (drop first_bytes s)))

-- the number that stands for the version, and the version
abbrev pub version_field : List ℕ → ℕ
version_field s = get_or (first_fields s) 0 0

abbrev pub version_in : List ℕ → Version
version_in s = numbered (version_field s)

-- all fields
abbrev pub header_fields : List ℕ → List ℕ
header_fields s = first_fields s ++ own_fields (version_in s) s

-- the header there, whatever its values
abbrev pub header_of : List ℕ → Header
header_of s = header_at (header_fields s)

-- reading: 1 where there are under 12 bytes; 2; 1 where there are fewer than the version takes; then 3. Bytes past the header play no part
unfoldable pub read_header : List ℕ → Answer Header
read_header s =
    cond (ltb (length s) (bytes_needed (version_field s) (version_in s)))
    (refused 1 0)
    (header_refused (fault_from 1 (header_lines (version_in s)) (header_fields s)) (given (header_of s)))

-- the bytes of a header
abbrev pub header_bytes : Header → List ℕ
header_bytes h =
    let v = version_of h.own in
    unpack (bytes first_bytes) (pack first_widths (first_values h 0)) ++ unpack (bytes (own_bytes v)) (pack (own_widths v) (own_values h.own 0))

-- how many bytes are asked for before it is written
abbrev pub header_needs : Header → ℕ
header_needs h = bytes_needed h.version (version_of h.own)

-- writing: 5 where there are under 12 bytes; 2; 5 where there are fewer than the version takes; then 3. A refusal leaves every byte, and else the first
-- are the header's
unfoldable pub write_header : Header → List ℕ → Wrote
write_header h o =
    cond (ltb (length o) (header_needs h))
    (record { answer = refused 5 0; bytes = o })
    (record {
      answer = header_refused (header_fault h) (given tt);
      bytes = cond (eqb (header_fault h) 0) (header_bytes h ++ drop (header_needs h) o) o;
    })
