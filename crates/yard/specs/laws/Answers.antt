-- Every answer is within the ranges in which no two have the same number.
-- Assumes nothing.
use Rattle.std.specs.Prelude.{ℕ, ◌+◌, ◌*◌, ◌≤◌, ◌≡◌, refl, Bool, true, false, cond, List, length, get_or, take, ltb, eqb}
use Rattle.std.proofs.Common.{sym, ap, subst, arith}
use Rattle.layout.specs.Layout.{pack, unpack, bytes}
use Rattle.layout.specs.Line.{fault_from}
use Rattle.sheet.specs.laws.VersionLaws.{regular_at}
use Rattle.sheet.specs.Refusals.{Answer, given, refused}
use Rattle.sheet.specs.Header.{read_header, header_bytes}
use Rattle.sheet.specs.Record.{plate_lines_of, member_lines_of, read_record, record_bytes}
use Rattle.sheet.specs.Exactly.{Cases, by_fault, header_cases, record_cases}
use Rattle.sheet.specs.laws.Written.{written, written_answer}
use Rattle.checker.specs.declared.Entry.{Entry}
use Rattle.checker.specs.Entry.{verdict_lines, verdict_widths, entry_values, entry_at, entry_fault, entry_in, read_entry}
use Rattle.checker.specs.Check.{sheet_in, failures, verdicts, Totals, answer_of}
use Rattle.checker.specs.laws.CheckLaws.{answer_sheet}
use Rattle.checker.specs.Rows.{Row, Refusable}
use Rattle.checker.specs.laws.Bounds.{told_also, row, most, fault_told as fault-row, by_test, then_told, read_header_told as read-header-row, record_told as record_row_lem, sheet_told, sheet_counts}
use Rattle.numbers.specs.From.{numbers_from, named_size, header_of_numbers, header_fields_of, header_lines_of, header_numbers_fault, plate_numbered, record_of_numbers, plate_fields, record_numbers_fault}
use Rattle.numbers.specs.laws.Exactly.{same_header}
use Rattle.yard.specs.laws.PackedLaws.{Told, Answered}
use Rattle.yard.specs.Writing.{write_header_numbers, write_record_numbers}

-- a row of the table has a number, and its place is far below the unit of numbers
row_told : {A : Type 0} (x : Answer A) → Refusable x → Told x
row_told x t = told_also Row _ x (λ k p r. (omega (arith, r.some), omega (arith, r.inside))) t

-- ---- readers

pub read_header_told : (s : List ℕ) → Told (read_header s)
read_header_told s = row_told (read_header s) (read-header-row s)

pub read_record_told : (s : List ℕ) → Told (read_record 0 s)
read_record_told s = row_told (read_record 0 s) (record_row_lem 0 s (omega arith))

pub read_verdict_told : (s : List ℕ) → Told (read_entry s)
unfolding read_entry entry_in entry_fault
read_verdict_told s =
    let e = entry_at (unpack verdict_widths (pack (bytes 4) (take 4 s))) in
    let f = entry_fault e in
    row_told (cond (ltb (length s) 4) (refused 1 0) (cond (eqb f 0) (given e) (refused 7 f)))
    (by_test (ltb (length s) 4) 1 0 (cond (eqb f 0) (given e) (refused 7 f)) (row 1 0 (omega arith) (omega arith) (omega arith))
    (go f (eqb f 0) e (omega (arith, most (verdict_lines e.rule) (entry_values e) refl))))
  where
    go : (f : ℕ) (t : Bool) (e : Entry) → f ≤ 4 → Refusable (cond t (given e) (refused 7 f))
    go f true e l = tt
    go f false e l = row 7 f (omega arith) (omega arith) (omega arith)

-- ---- writers

written_told : (c : Cases) (f : ℕ) (bs o : List ℕ) → Refusable (by_fault c f (tt {0})) → Told (written c f bs o).answer
written_told c f bs o t =
    subst (λ (a : Answer (Unit {0})). Told a) (sym (written_answer c f bs o))
    (row_told (cond (ltb (length o) c.size) (refused 5 0) (by_fault c f tt)) (by_test (ltb (length o) c.size) 5 0 (by_fault c f tt) (row 5 0 (omega arith) (omega arith) (omega arith)) t))

pub write_header_told : (ns o : List ℕ) → Told (write_header_numbers ns o).answer
unfolding write_header_numbers header_numbers_fault
write_header_told ns o =
    let c = header_cases (named_size ns) in
    written_told c (header_numbers_fault ns) (header_bytes (header_of_numbers ns)) o
    (fault-row c (header_numbers_fault ns) (tt {0}) (row 2 0 (omega arith) (omega arith) (omega arith))
    (row 3 (header_numbers_fault ns) (omega arith) (omega arith) (omega (arith, most (header_lines_of ns) (header_fields_of ns) (same_header ns), (regular_at (get_or ns 0 0)).named))))

-- no field has a number past a member's last
pub record_numbers_most : (ns : List ℕ) → record_numbers_fault ns ≤ 13
unfolding record_numbers_fault
record_numbers_most ns = go (plate_numbered ns)
  where
    go : (t : Bool) → cond t (fault_from 1 (plate_lines_of ns) (plate_fields ns)) (fault_from 1 (member_lines_of ns) (numbers_from 0 13 ns)) ≤ 13
    go true = omega (arith, most (plate_lines_of ns) (plate_fields ns) refl)
    go false = omega (arith, most (member_lines_of ns) (numbers_from 0 13 ns) refl)

pub write_record_told : (ns o : List ℕ) → Told (write_record_numbers ns o).answer
unfolding write_record_numbers
write_record_told ns o =
    written_told (record_cases 0) (record_numbers_fault ns) (record_bytes (record_of_numbers ns)) o
    (fault-row (record_cases 0) (record_numbers_fault ns) (tt {0}) (row 6 0 (omega arith) (omega arith) (omega arith))
    (row 7 (32 * 0 + record_numbers_fault ns) (omega arith) (omega arith) (omega (arith, record_numbers_most ns))))

-- ---- a check

pub check_answered : (s : List ℕ) (room : ℕ) → Answered (answer_of s room)
unfolding answer_of
check_answered s room = go (answer_of s room) refl
  where
    told : Refusable (answer_of s room)
    told = then_told Row (sheet_in s room) (λ t. given (record { n = t.header.count; failed = failures (verdicts t) })) (sheet_told s room) (λ t e. tt)

    go : (a : Answer Totals) → answer_of s room ≡ a → Answered a
    go (given w) e =
        let t = answer_sheet s room w e in
        let counts = sheet_counts s room t.0 t.1 in
        let n : w.n ≡ t.0.header.count = ap (λ (v : Totals). v.n) t.2 in
        let f : w.failed ≡ failures (verdicts t.0) = ap (λ (v : Totals). v.failed) t.2 in
        (omega (arith, n, counts.records), omega (arith, f, counts.failed))
    go (refused k p) e = row_told {A = Totals} (refused k p) (subst (λ (a : Answer Totals). Refusable a) e told)
