-- There and back across the boundary: numbers that are written are read again, and numbers that are read are written to the same bytes.
-- Assumes nothing.
use Rattle.std.specs.Prelude.{ℕ, ◌≤◌, ◌≡◌, List, length, take, get_or}
use Rattle.std.proofs.Common.{sym, ap, ap₂, ◌∙◌, arith, lt-ltb, le-ltb}
use Rattle.layout.specs.Layout.{bytes, Fit}
use Rattle.sheet.specs.declared.Header.{Header}
use Rattle.sheet.specs.declared.Body.{Body}
use Rattle.sheet.specs.declared.Body.TheVariants.{Plate as isPlate, Member as isMember}
use Rattle.sheet.specs.declared.Record.{Record}
use Rattle.sheet.specs.Refusals.{given}
use Rattle.sheet.specs.Versions.{Version, version_of}
use Rattle.sheet.specs.laws.VersionLaws.{numbered_own, needs_own}
use Rattle.sheet.specs.Header.{header_size, header_fault, read_header, header_bytes, header_needs, write_header}
use Rattle.sheet.specs.Record.{plate_fault, member_fault, record_fault, read_record, record_bytes, write_record}
use Rattle.sheet.specs.laws.HeaderLaws.{flag_read, version_at, header_version}
use Rattle.sheet.specs.laws.RecordLaws.{plate_ranges, member_ranges}
use Rattle.sheet.specs.laws.Written.{written, written_fine}
use Rattle.sheet.specs.Exactly.{header_cases, record_cases}
use Rattle.sheet.specs.laws.HeaderExactly.{fine_needs}
use Rattle.sheet.specs.laws.HeaderBack.{header_read_again, header_read_fine, header_written_again}
use Rattle.sheet.specs.laws.RecordBack.{record_read_again, record_read_fine, record_written_again}
use Rattle.numbers.specs.Fields.{header_numbers, record_numbers}
use Rattle.numbers.specs.From.{numbers_from, named_size, header_of_numbers, header_numbers_fault, record_of_numbers, record_numbers_fault}
use Rattle.numbers.specs.laws.Back.{header_again, header_sound, record_sound}
use Rattle.yard.specs.Fields.{numbered}
use Rattle.yard.specs.Writing.{write_header_numbers, write_record_numbers}

-- ---- a header

-- writing a header's own numbers is writing the header, where it holds what its version does
pub header_as_numbers : (h : Header) (o : List ℕ) → h.version ≡ (version_of h.own).number → write_header_numbers (header_numbers h) o ≡ write_header h o
unfolding write_header_numbers write_header
header_as_numbers h o e =
    let again = header_again h e in
    let size : named_size (header_numbers h) ≡ header_needs h =
    ap (λ (v : Version). v.size) (numbered_own h.own h.version e) ∙ sym (needs_own h.version (version_of h.own) e) in
    ap₂ (λ (k f : ℕ). written (header_cases k) f (header_bytes (header_of_numbers (header_numbers h))) o) size again.1
    ∙ ap (λ (g : Header). written (header_cases (header_needs h)) (header_fault h) (header_bytes g) o) again.0

-- the header that numbers with no fault are takes as many bytes as their version
sized : (ns : List ℕ) → header_numbers_fault ns ≡ 0 → header_needs (header_of_numbers ns) ≡ named_size ns
sized ns z = fine_needs (header_of_numbers ns) (header_sound ns z).0 ∙ ap (λ v. v.size) (version_at (get_or ns 0 0) (numbers_from 8 2 ns))

-- writing numbers with no fault is writing the header that they are
pub header_same : (ns o : List ℕ) → header_numbers_fault ns ≡ 0 → write_header (header_of_numbers ns) o ≡ write_header_numbers ns o
unfolding write_header write_header_numbers
header_same ns o z = ap₂ (λ (k f : ℕ). written (header_cases k) f (header_bytes (header_of_numbers ns)) o) (sized ns z) ((header_sound ns z).0 ∙ sym z)

-- what is written is read again
pub header_numbers_back : (ns o : List ℕ) → (write_header_numbers ns o).answer ≡ given tt
    → numbered header_numbers (read_header (write_header_numbers ns o).bytes) ≡ given (numbers_from 0 10 ns)
unfolding write_header_numbers
header_numbers_back ns o e =
    let z = (written_fine (header_cases (named_size ns)) (header_numbers_fault ns) (header_bytes (header_of_numbers ns)) o e).1 in
    let w = header_same ns o z in
    ap (λ a. numbered header_numbers a)
    (ap (λ v. read_header v.bytes) (sym w) ∙ header_read_again (header_of_numbers ns) o (ap (λ v. v.answer) w ∙ e))
    ∙ ap given (header_sound ns z).1

-- what is read is written again: the same bytes
pub header_bytes_back : (s o : List ℕ) (h : Header) → read_header s ≡ given h → Fit (bytes (header_size h)) (take (header_size h) s) → header_size h ≤ length o
    → ((write_header_numbers (header_numbers h) o).answer ≡ given tt) × (take (header_size h) (write_header_numbers (header_numbers h) o).bytes ≡ take (header_size h) s)
header_bytes_back s o h e fit l =
    let w = header_as_numbers h o (header_version h (header_read_fine s h e)) in
    let b = header_written_again s h e fit o l in
    (ap (λ v. v.answer) w ∙ b.0, ap (λ v. take (header_size h) v.bytes) w ∙ b.1)

-- ---- a record

-- writing a sound record's own numbers is writing the record
pub record_as_numbers : (r : Record) (o : List ℕ) → record_fault r 0 ≡ 0 → write_record_numbers (record_numbers r) o ≡ write_record r o
unfolding write_record_numbers write_record record_numbers_fault plate_fault member_fault
record_as_numbers r o = go r.kind r.id r.body
  where
    go : (kind id : ℕ) (b : Body) → let t : Record = record { kind = kind; id = id; body = b } in record_fault t 0 ≡ 0 → write_record_numbers (record_numbers t) o ≡ write_record t o
    go kind id (isPlate p) e = rw (lt-ltb kind 5 (omega (arith, (plate_ranges kind id p 0 e).kind_high)), flag_read p.ballast)
    go kind id (isMember m) e = rw (le-ltb kind 5 (member_ranges kind id m e).kind_low)

-- what is read is written again: the same sixteen bytes
pub record_bytes_back : (s o : List ℕ) (r : Record) → read_record 0 s ≡ given r → Fit (bytes 16) (take 16 s) → 16 ≤ length o
    → ((write_record_numbers (record_numbers r) o).answer ≡ given tt) × (take 16 (write_record_numbers (record_numbers r) o).bytes ≡ take 16 s)
record_bytes_back s o r e fit l =
    let w = record_as_numbers r o (record_read_fine 0 s r e) in
    let b = record_written_again 0 s r e fit o l in
    (ap (λ v. v.answer) w ∙ b.0, ap (λ v. take 16 v.bytes) w ∙ b.1)

-- writing numbers with no fault is writing the record that they are
pub record_same : (ns o : List ℕ) → record_numbers_fault ns ≡ 0 → write_record (record_of_numbers ns) o ≡ write_record_numbers ns o
unfolding write_record write_record_numbers
record_same ns o z = ap (λ (f : ℕ). written (record_cases 0) f (record_bytes (record_of_numbers ns)) o) ((record_sound ns z).0 ∙ sym z)

-- what is written is read again
pub record_numbers_back : (ns o : List ℕ) → (write_record_numbers ns o).answer ≡ given tt
    → numbered record_numbers (read_record 0 (write_record_numbers ns o).bytes) ≡ given (numbers_from 0 13 ns)
unfolding write_record_numbers
record_numbers_back ns o e =
    let z = (written_fine (record_cases 0) (record_numbers_fault ns) (record_bytes (record_of_numbers ns)) o e).1 in
    let w = record_same ns o z in
    ap (λ a. numbered record_numbers a)
    (ap (λ v. read_record 0 v.bytes) (sym w) ∙ record_read_again 0 (record_of_numbers ns) o (ap (λ v. v.answer) w ∙ e))
    ∙ ap given (record_sound ns z).1
