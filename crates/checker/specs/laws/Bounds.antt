-- What an answer can be, whatever the sheet and the output: a refusal's number is a row of the table and its place within the longest sheet, and no count is
-- above the highest.
-- Assumes nothing.
use Rattle.std.specs.Prelude.{ℕ, zero, suc, ◌+◌, ◌*◌, ◌≤◌, ◌<◌, ◌≡◌, Bool, not, cond, List, [], ◌∷◌, length, take, ltb, leb, eqb}
use Rattle.std.proofs.Math.Path.{refl}
use Rattle.std.proofs.Common.{sym, subst, arith}
use Rattle.std.proofs.Math.Bool.{true, false}
use Rattle.std.proofs.lemmas.List.{length-map}
use Rattle.layout.specs.Layout.{pack, unpack, bytes}
use Rattle.layout.specs.Line.{Line, fault_from}
use Rattle.layout.specs.laws.LineLaws.{fault_first}
use Rattle.sheet.specs.declared.Header.{Header}
use Rattle.sheet.specs.declared.Record.{Record}
use Rattle.sheet.specs.Versions.{most_records, bytes_needed}
use Rattle.sheet.specs.laws.VersionLaws.{regular_at}
use Rattle.sheet.specs.Lines.{header_lines, plate_widths, member_widths}
use Rattle.sheet.specs.Refusals.{Answer, given, refused}
use Rattle.sheet.specs.laws.RefusalLaws.{Which, which, none, first, later}
use Rattle.sheet.specs.Header.{version_field, version_in, header_fields, header_of, read_header}
use Rattle.sheet.specs.Slender.{too_slender}
use Rattle.sheet.specs.laws.HeaderLaws.{fields_lines, header_ranges}
use Rattle.sheet.specs.laws.HeaderBack.{header_read_fine}
use Rattle.sheet.specs.Record.{plate_in, plate_lines_of, member_lines_of, record_in, read_record, record_at, lines_at, fields_at}
use Rattle.sheet.specs.Exactly.{Cases, by_fault, header_cases, record_cases}
use Rattle.sheet.specs.laws.RecordExactly.{record_by_fields}
use Rattle.checker.specs.declared.Entry.{Entry}
use Rattle.checker.specs.Check.{◌then◌, demand, sheet_header, sheet_size, header_for, records_part, record_part, parts_from, sound_after, records_in, Sheet, sheet_in, entry_of, verdicts, failures}
use Rattle.checker.specs.Rows.{Row, RefusedBy, Refusable, Counts}
use Rattle.checker.specs.laws.FrontLaws.{header_fits}
use Rattle.checker.specs.laws.CheckLaws.{sheet_whole}

-- no field has a number past the last
pub most : (ls : List Line) (vs : List ℕ) → length vs ≡ length ls → fault_from 1 ls vs ≤ length ls
most ls vs same = go (fault_from 1 ls vs) refl
  where
    go : (f : ℕ) → fault_from 1 ls vs ≡ f → f ≤ length ls
    go zero e = omega arith
    go (suc i) e = let l = (fault_first ls vs same i e).inside in omega arith

pub fault_told : {A : Type 0} (c : Cases) (f : ℕ) (a : A) → Row c.first c.at → Row c.later (c.place f) → Refusable (by_fault c f a)
fault_told {A} c f a p q = go (which c.first c.at c.later c.place f a)
  where
    go : Which c.first c.at c.later c.place f a → Refusable (by_fault c f a)
    go (none z w) = subst (λ (t : Answer A). Refusable t) (sym w) tt
    go (first z w) = subst (λ (t : Answer A). Refusable t) (sym w) p
    go (later z w) = subst (λ (t : Answer A). Refusable t) (sym w) q

-- a row from its three parts
pub row : (k p : ℕ) → 1 ≤ k → k ≤ 9 → p < 32 * most_records → Row k p
row k p a b c = record { some = a; last = b; inside = c }

pub by_test : {A : Type 0} (t : Bool) (k p : ℕ) (x : Answer A) → Row k p → Refusable x → Refusable (cond t (refused k p) x)
by_test true k p x r t = r
by_test false k p x r t = t

-- of any rows
module _ (P : ℕ → ℕ → Type 0) where
  pub then_told : {A B : Type 0} (x : Answer A) (rest : A → Answer B) → RefusedBy P x → ((a : A) → x ≡ given a → RefusedBy P (rest a)) → RefusedBy P (x then rest)
  unfolding ◌then◌
  then_told (given a) rest t h = h a refl
  then_told (refused k p) rest t h = t

  pub demand_told : (t : Bool) (k : ℕ) → P k 0 → RefusedBy P (demand t k)
  unfolding demand
  demand_told true k r = tt
  demand_told false k r = r

  -- what is one of these is one of those
  pub told_also : (Q : ℕ → ℕ → Type 0) {A : Type 0} (x : Answer A) → ((k p : ℕ) → P k p → Q k p) → RefusedBy P x → RefusedBy Q x
  told_also Q (given a) f t = tt
  told_also Q (refused k p) f t = f k p t

pub read_header_told : (s : List ℕ) → Refusable (read_header s)
unfolding read_header
read_header_told s =
    let v = version_in s in
    let c = header_cases (bytes_needed (version_field s) v) in
    let f = fault_from 1 (header_lines v) (header_fields s) in
    by_test (ltb (length s) (bytes_needed (version_field s) v)) 1 0 (by_fault c f (header_of s)) (row 1 0 (omega arith) (omega arith) (omega arith))
    (fault_told c f (header_of s) (row 2 0 (omega arith) (omega arith) (omega arith))
    (row 3 f (omega arith) (omega arith) (omega (arith, most (header_lines v) (header_fields s) (fields_lines s), (regular_at (version_field s)).named))))

record_most : (n : ℕ) → fault_from 1 (lines_at n) (fields_at n) ≤ 13
record_most n = go (plate_in n)
  where
    vs : List ℕ
    vs = unpack plate_widths n

    ws : List ℕ
    ws = unpack member_widths n

    go : (t : Bool) → fault_from 1 (cond t (plate_lines_of vs) (member_lines_of ws)) (cond t vs ws) ≤ 13
    go true = omega (arith, most (plate_lines_of vs) vs refl)
    go false = omega (arith, most (member_lines_of ws) ws refl)

pub record_told : (i : ℕ) (s : List ℕ) → i < most_records → Refusable (read_record i s)
unfolding read_record
record_told i s l =
    let n = pack (bytes 16) (take 16 s) in
    let f = fault_from 1 (lines_at n) (fields_at n) in
    by_test (ltb (length s) 16) 1 0 (record_in i n) (row 1 0 (omega arith) (omega arith) (omega arith))
    (subst (λ (t : Answer Record). Refusable t) (sym (record_by_fields i n))
    (fault_told (record_cases i) f (record_at n) (row 6 i (omega arith) (omega arith) (omega arith)) (row 7 (32 * i + f) (omega arith) (omega arith) (omega (arith, record_most n)))))

sound_told : (i before : ℕ) (b : List ℕ) → i < most_records → Refusable (sound_after i before b)
unfolding sound_after
sound_told i before b l =
    then_told Row (read_record i b) (λ r. cond (ltb before r.id) (given r) (refused 8 i)) (record_told i b l) (λ r e. go r (ltb before r.id))
  where
    go : (r : Record) (t : Bool) → Refusable (cond t (given r) (refused 8 i))
    go r true = tt
    go r false = row 8 i (omega arith) (omega arith) (omega arith)

records_told : (s : List ℕ) (count i before : ℕ) → i + count ≤ most_records → Refusable (records_in i before (parts_from s i count))
unfolding records_in parts_from
records_told s zero i before l = tt
records_told s (suc count) i before l =
    then_told Row (sound_after i before (record_part s i)) (λ r. records_in (i + 1) r.id (parts_from s (i + 1) count) then λ rs. given (r ∷ rs))
    (sound_told i before (record_part s i) (omega arith))
    (λ r e. then_told Row (records_in (i + 1) r.id (parts_from s (i + 1) count)) (λ rs. given (r ∷ rs)) (records_told s count (i + 1) r.id (omega arith)) (λ rs q. tt))

sheet_header_told : (s : List ℕ) → Refusable (sheet_header s)
unfolding sheet_header
sheet_header_told s =
    then_told Row (read_header s) (λ h. demand (not (too_slender h)) 9 then λ u. given h) (read_header_told s)
    (λ h e. then_told Row (demand (not (too_slender h)) 9) (λ u. given h) (demand_told Row (not (too_slender h)) 9 (row 9 0 (omega arith) (omega arith) (omega arith))) (λ u q. tt))

header_told : (s : List ℕ) (space : ℕ) → Refusable (header_for s space)
unfolding header_for
header_told s space =
    then_told Row (sheet_header s) (λ h. demand (eqb (length s) (sheet_size h)) 4 then λ u. demand (leb (4 * h.count) space) 5 then λ v. given h) (sheet_header_told s)
    (λ h e. then_told Row (demand (eqb (length s) (sheet_size h)) 4) (λ u. demand (leb (4 * h.count) space) 5 then λ v. given h) (demand_told Row (eqb (length s) (sheet_size h)) 4 (row 4 0 (omega arith) (omega arith) (omega arith)))
    (λ u q. then_told Row (demand (leb (4 * h.count) space) 5) (λ v. given h) (demand_told Row (leb (4 * h.count) space) 5 (row 5 0 (omega arith) (omega arith) (omega arith))) (λ v w. tt)))

pub count_most : (s : List ℕ) (h : Header) → read_header s ≡ given h → h.count ≤ most_records
count_most s h e = (header_ranges h (header_read_fine s h e)).count_few

-- the number and the place of a refusal, whatever the sheet
pub sheet_told : (s : List ℕ) (space : ℕ) → Refusable (sheet_in s space)
unfolding sheet_in
sheet_told s space =
    then_told Row (header_for s space) (λ h. records_in 0 0 (parts_from (records_part h s) 0 h.count) then λ rs. given (record { header = h; records = rs })) (header_told s space)
    (λ h e. then_told Row (records_in 0 0 (parts_from (records_part h s) 0 h.count)) (λ rs. given (record { header = h; records = rs }))
    (records_told (records_part h s) h.count 0 0 (omega (arith, count_most s h (header_fits s space h e).read))) (λ rs q. tt))

pub failures_most : (es : List Entry) → failures es ≤ length es
unfolding failures
failures_most [] = omega arith
failures_most (e ∷ es) = go (eqb e.rule 0) (failures_most es)
  where
    go : (t : Bool) → failures es ≤ length es → cond t 0 1 + failures es ≤ length (e ∷ es)
    go true l = omega arith
    go false l = omega arith

pub sheet_counts : (s : List ℕ) (space : ℕ) (t : Sheet) → sheet_in s space ≡ given t → Counts space t
unfolding verdicts
sheet_counts s space t e =
    let w = sheet_whole s space t e in
    let few = count_most s t.header w.header.read in
    let one_each = length-map t.records (entry_of t.header) in
    record { inside = w.header.fits; records = few; failed = omega (arith, failures_most (verdicts t), one_each, w.number) }
