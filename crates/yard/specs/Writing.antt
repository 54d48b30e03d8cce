-- Writing the header, or the record, that numbers are: a number that its field does not allow is refused at that field, however great it is.
use Rattle.std.specs.Prelude.{ℕ, List}
use Rattle.sheet.specs.Refusals.{Wrote}
use Rattle.sheet.specs.Header.{header_bytes}
use Rattle.sheet.specs.Record.{record_bytes}
use Rattle.sheet.specs.Exactly.{header_cases, record_cases}
use Rattle.sheet.specs.laws.Written.{written}
use Rattle.numbers.specs.From.{named_size, header_of_numbers, header_numbers_fault, record_of_numbers, record_numbers_fault}

-- writing a header: 5 where there are fewer bytes than its version takes, or than 12 where there is no such version, then 2 and 3; a refusal leaves every byte,
-- and else the first are the header's
unfoldable pub write_header_numbers : (ns out : List ℕ) → Wrote
write_header_numbers ns out = written (header_cases (named_size ns)) (header_numbers_fault ns) (header_bytes (header_of_numbers ns)) out

-- writing a record: 5 where there are under 16 bytes, then 6 and 7 as record 0; a refusal leaves every byte, and else the first sixteen are the record's
unfoldable pub write_record_numbers : (ns out : List ℕ) → Wrote
write_record_numbers ns out = written (record_cases 0) (record_numbers_fault ns) (record_bytes (record_of_numbers ns)) out
