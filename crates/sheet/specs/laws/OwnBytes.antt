-- The bytes of a record that has no fault are read as it.
-- Assumes nothing.
use Rattle.std.specs.Prelude.{ℕ, ◌≤◌, ◌≡◌, length}
use Rattle.std.proofs.Common.{sym, ap, ◌∙◌, append-nil, arith, drop_of_length-le, eq-eqb}
use Rattle.layout.specs.Layout.{bytes}
use Rattle.layout.specs.laws.Laws.{length_unpack}
use Rattle.sheet.specs.declared.Record.{Record}
use Rattle.sheet.specs.Refusals.{given}
use Rattle.sheet.specs.Record.{record_fault, record_number, record_bytes, read_record, write_record}
use Rattle.sheet.specs.laws.RecordBack.{record_read_again}

pub record_bytes_length : (r : Record) → length (record_bytes r) ≡ 16
record_bytes_length r = length_unpack (bytes 16) (record_number r)

pub record_bytes_read : (i : ℕ) (r : Record) → record_fault r 0 ≡ 0 → read_record i (record_bytes r) ≡ given r
unfolding write_record
record_bytes_read i r z =
    let o = record_bytes r in
    let fine : (write_record r o).answer ≡ given (tt {0}) = rw (eq-eqb (record_fault r 0) 0 z) in
    let short : length o ≤ 16 = omega (arith, record_bytes_length r) in
    let stay : (write_record r o).bytes ≡ o = rw (eq-eqb (record_fault r 0) 0 z, drop_of_length-le o short) (append-nil o) in
    ap (read_record i) (sym stay) ∙ record_read_again i r o fine
