-- The header, or the record, that numbers are: a number that its field does not allow is refused at that field, however great it is.
use Rattle.std.specs.Prelude.{ℕ, zero, suc, ◌+◌, Bool, cond, List, [], ◌∷◌, ◌++◌, get_or, ltb, eqb}
use Rattle.layout.specs.Line.{Line, fault_from}
use Rattle.sheet.specs.declared.Header.{Header}
use Rattle.sheet.specs.declared.Record.{Record}
use Rattle.sheet.specs.Versions.{two, numbered}
use Rattle.sheet.specs.Lines.{header_lines}
use Rattle.sheet.specs.Refusals.{Answer, given, header_refused, record_refused}
use Rattle.sheet.specs.Header.{header_at}
use Rattle.sheet.specs.Record.{plate_record, member_record, plate_lines_of, member_lines_of}

-- so many numbers from the one at i on
abbrev pub numbers_from : (i count : ℕ) → List ℕ → List ℕ
numbers_from i zero ns = []
numbers_from i (suc count) ns = get_or ns i 0 ∷ numbers_from (suc i) count ns

-- the header that numbers are, whatever they are: between n and ZDB stand the three zero bits
abbrev pub header_of_numbers : List ℕ → Header
header_of_numbers ns = header_at (numbers_from 0 8 ns ++ (0 ∷ numbers_from 8 2 ns))

-- the fields after n, in version 2 and else. All zero bits are 0; where the version has nothing of its own, what is not 0 past n stands where the zero bits are
abbrev pub own_fields_as : (second : Bool) (x y : ℕ) → List ℕ
own_fields_as second x y = cond second (0 ∷ x ∷ y ∷ 0 ∷ []) ((x + y) ∷ [])

-- a header's numbers as its fields
abbrev pub fields_as : (second : Bool) → List ℕ → List ℕ
fields_as second ns = numbers_from 0 8 ns ++ own_fields_as second (get_or ns 8 0) (get_or ns 9 0)

abbrev pub in_second : List ℕ → Bool
in_second ns = eqb (get_or ns 0 0) two.number

abbrev pub header_fields_of : List ℕ → List ℕ
header_fields_of ns = fields_as (in_second ns) ns

-- the lines that they answer to
abbrev pub header_lines_of : List ℕ → List Line
header_lines_of ns = header_lines (numbered (get_or ns 0 0))

-- how many bytes the header takes whose version they name: 12 also where there is no such version
abbrev pub named_size : List ℕ → ℕ
named_size ns = (numbered (get_or ns 0 0)).size

-- the first faulty field of a header's numbers, version being 1; 0 where there is none
unfoldable pub header_numbers_fault : List ℕ → ℕ
header_numbers_fault ns = fault_from 1 (header_lines_of ns) (header_fields_of ns)

-- the header that numbers are: 2 and 3 by the first number that its field does not allow
unfoldable pub header_from : List ℕ → Answer Header
header_from ns = header_refused (header_numbers_fault ns) (given (header_of_numbers ns))

-- up to 4 the kind is that of a plate
abbrev pub plate_numbered : List ℕ → Bool
plate_numbered ns = ltb (get_or ns 0 0) 5

-- the record that numbers are, whatever they are
abbrev pub record_of_numbers : List ℕ → Record
record_of_numbers ns = cond (plate_numbered ns) (plate_record ns) (member_record ns)

-- a plate's numbers as its fields: what is not 0 past the cargo stands where the zero bits are
abbrev pub plate_fields : List ℕ → List ℕ
plate_fields ns = numbers_from 0 11 ns ++ (get_or ns 11 0 + get_or ns 12 0) ∷ []

-- the first faulty field of a record's numbers, kind being 1; 0 where there is none
unfoldable pub record_numbers_fault : List ℕ → ℕ
record_numbers_fault ns = cond (plate_numbered ns) (fault_from 1 (plate_lines_of ns) (plate_fields ns)) (fault_from 1 (member_lines_of ns) (numbers_from 0 13 ns))

-- the record that numbers are, as record i of a sheet: 6 and 7 likewise
unfoldable pub record_from : ℕ → List ℕ → Answer Record
record_from i ns = record_refused i (record_numbers_fault ns) (given (record_of_numbers ns))
