-- A record: each answer of reading it, of writing it and of looking for its fault is given exactly when its case of the table holds and none
-- before it does; refusal 6 by the kind alone; and what the bytes are after writing.
-- Assumes nothing.
use Rattle.std.specs.Prelude.{ℕ, ◌+◌, ◌*◌, ◌≤◌, ◌<◌, ◌≡◌, Bool, true, false, cond, List, ◌++◌, length, drop}
use Rattle.std.proofs.Math.Path.{refl, ap}
use Rattle.std.proofs.Common.{sym, ◌∙◌, arith, le-leb, ltb-true, ltb-false}
use Rattle.quantity.specs.Range.{within, from}
use Rattle.layout.specs.Layout.{unpack, bytes}
use Rattle.layout.specs.laws.Laws.{length_unpack}
use Rattle.layout.specs.Line.{Line, line, Allowed, fault_from, FirstFault}
use Rattle.truth.specs.laws.Tests.{clash, false_of}
use Rattle.quantity.specs.laws.RangeLaws.{low_high, lies_within}
use Rattle.layout.specs.laws.LineLaws.{none_all}
use Rattle.sheet.specs.declared.Body.{Body}
use Rattle.sheet.specs.declared.Body.TheVariants.{Plate as isPlate, Member as isMember}
use Rattle.sheet.specs.declared.Record.{Record}
use Rattle.sheet.specs.Lines.{ids, plate_widths, member_widths}
use Rattle.sheet.specs.Refusals.{given, refused, record_refused}
use Rattle.sheet.specs.Record.{number_in, record_of, fields_at, lines_at, lines_in, lines_of, values_of, kind_at, belongs, plate_record, member_record, plate_lines_of, member_lines_of, plate_fault, member_fault, body_fault, record_fault, plate_in, record_in, read_record, values_in, record_number, record_bytes, write_record, record_at}
use Rattle.sheet.specs.laws.ExactlyLaws.{exactly_then, exactly_of, in_front, in_middle, at_end, same_places, alone, alone_two, first_alone, fields_first, fields_later, fields_given, fields_others, answer_short, answer_first, answer_later, answer_given, answer_others}
use Rattle.sheet.specs.Exactly.{Exactly, LaterFault, record_cases, by_fields, by_slice}
use Rattle.sheet.specs.laws.Written.{written, written_answer, written_refused, written_all, written_past, written_length}

-- ---- by the shape

pub record_by_fields : (i n : ℕ) → record_in i n ≡ by_fields (record_cases i) (lines_at n) (fields_at n) (record_at n)
unfolding record_in
record_by_fields i n = go (plate_in n)
  where
    vs : List ℕ
    vs = unpack plate_widths n

    ws : List ℕ
    ws = unpack member_widths n

    go : (t : Bool) → cond t (record_refused i (fault_from 1 (plate_lines_of vs) vs) (given (plate_record vs))) (record_refused i (fault_from 1 (member_lines_of ws) ws) (given (member_record ws)))
        ≡ by_fields (record_cases i) (cond t (plate_lines_of vs) (member_lines_of ws)) (cond t vs ws) (cond t (plate_record vs) (member_record ws))
    go true = refl
    go false = refl

fields_same : (n : ℕ) → length (fields_at n) ≡ length (lines_at n)
fields_same n = go (plate_in n)
  where
    vs : List ℕ
    vs = unpack plate_widths n

    ws : List ℕ
    ws = unpack member_widths n

    go : (t : Bool) → length (cond t vs ws) ≡ length (cond t (plate_lines_of vs) (member_lines_of ws))
    go true = refl
    go false = refl

values_same : (kind id : ℕ) (b : Body) → length (values_in kind id b) ≡ length (lines_in kind b)
values_same kind id (isPlate p) = refl
values_same kind id (isMember m) = refl

pub body_fault_lem : (kind id : ℕ) (b : Body) → body_fault kind id b 0 ≡ fault_from 1 (lines_in kind b) (values_in kind id b)
unfolding plate_fault member_fault
body_fault_lem kind id (isPlate p) = refl
body_fault_lem kind id (isMember m) = refl

-- the id of a record with no fault
id_within : (kind id : ℕ) (b : Body) → Allowed (lines_in kind b) (values_in kind id b) → within ids id ≡ true
id_within kind id (isPlate p) a = a.1.0
id_within kind id (isMember m) a = a.1.0

pub record_id : (r : Record) → record_fault r 0 ≡ 0 → (1 ≤ r.id) × (r.id ≤ 1000)
record_id r e =
    let a = none_all 0 (lines_of r) (values_of r) (sym (body_fault_lem r.kind r.id r.body) ∙ e) in
    low_high ids r.id (id_within r.kind r.id r.body a)

-- ---- the kind

low_kinds : (k : ℕ) → k < 5 → within (from 1 4) k ≡ within (from 1 8) k
low_kinds k l = rw (le-leb k 4 (omega arith), le-leb k 8 (omega arith))

high_kinds : (k : ℕ) → 5 ≤ k → within (from 5 8) k ≡ within (from 1 8) k
high_kinds k l = rw (le-leb 5 k l, le-leb 1 k (omega arith))

as_it_is : {A : Type 0} → Exactly A A
as_it_is = (λ a. a, λ a. a)

-- the kind is at fault exactly when it is not from 1 to 8
kind_read : (n : ℕ) → Exactly (FirstFault 0 (lines_at n) (fields_at n)) (within (from 1 8) (kind_at n) ≡ false)
kind_read n = go (plate_in n) refl
  where
    vs : List ℕ
    vs = unpack plate_widths n

    ws : List ℕ
    ws = unpack member_widths n

    go : (t : Bool) → plate_in n ≡ t → Exactly (FirstFault 0 (cond t (plate_lines_of vs) (member_lines_of ws)) (cond t vs ws)) (within (from 1 8) (kind_at n) ≡ false)
    go true e =
        exactly_then (first_alone (line 4 (from 1 4)) (drop 1 (plate_lines_of vs)) (kind_at n) (drop 1 vs))
        (exactly_of (low_kinds (kind_at n) (ltb-true (kind_at n) 5 e)) as_it_is)
    go false e =
        exactly_then (first_alone (line 4 (from 5 8)) (drop 1 (member_lines_of ws)) (kind_at n) (drop 1 ws))
        (exactly_of (high_kinds (kind_at n) (ltb-false (kind_at n) 5 e)) as_it_is)

-- or, of a record to be written, when what is carried does not belong to it
kind_written : (kind id : ℕ) (b : Body) → Exactly (FirstFault 0 (lines_in kind b) (values_in kind id b)) (belongs kind b ≡ false)
kind_written kind id (isPlate p) =
    first_alone (line 4 (from 1 4)) (drop 1 (lines_in kind (isPlate p))) kind (drop 1 (values_in kind id (isPlate p)))
kind_written kind id (isMember m) =
    first_alone (line 4 (from 5 8)) (drop 1 (lines_in kind (isMember m))) kind (drop 1 (values_in kind id (isMember m)))

-- nothing belongs to a kind that is not from 1 to 8
pub no_kind : (kind : ℕ) (b : Body) → within (from 1 8) kind ≡ false → belongs kind b ≡ false
no_kind kind b e =
    false_of (belongs kind b)
    (λ q.
    let h = within_all b q in
    clash (lies_within (from 1 8) kind h.0 h.1) e)
  where
    within_all : (b : Body) → belongs kind b ≡ true → (1 ≤ kind) × (kind ≤ 8)
    within_all (isPlate p) q = let h = low_high (from 1 4) kind q in (omega arith, omega arith)
    within_all (isMember m) q = let h = low_high (from 5 8) kind q in (omega arith, omega arith)

-- ---- reading

module _ (i : ℕ) (s : List ℕ) where
  abbrev ls : List Line
  ls = lines_at (number_in s)

  abbrev vs : List ℕ
  vs = fields_at (number_in s)

  by_reading : read_record i s ≡ by_slice 1 (record_cases i) s (by_fields (record_cases i) ls vs (record_of s))
  unfolding read_record
  by_reading = ap (by_slice 1 (record_cases i) s) (record_by_fields i (number_in s))

  pub record_read_1 : (p : ℕ) → Exactly (read_record i s ≡ refused 1 p) ((length s < 16) × (p ≡ 0))
  record_read_1 p = exactly_of by_reading (answer_short 1 (record_cases i) refl refl s ls vs (fields_same (number_in s)) (record_of s) p)

  pub record_read_6 : (p : ℕ) → Exactly (read_record i s ≡ refused 6 p) ((16 ≤ length s) × (within (from 1 8) (kind_at (number_in s)) ≡ false) × (p ≡ i))
  record_read_6 p =
      exactly_then (exactly_of by_reading (answer_first 1 (record_cases i) refl refl s ls vs (fields_same (number_in s)) (record_of s) p))
      (in_middle (kind_read (number_in s)))

  pub record_read_7 : (p : ℕ) → Exactly (read_record i s ≡ refused 7 p)
      ((16 ≤ length s) × LaterFault (λ k. 32 * i + k) (lines_at (number_in s)) (fields_at (number_in s)) p)
  record_read_7 p = exactly_of by_reading (answer_later 1 (record_cases i) refl refl s ls vs (fields_same (number_in s)) (record_of s) p)

  pub record_read_given : (r : Record) → Exactly (read_record i s ≡ given r)
      ((16 ≤ length s) × Allowed (lines_at (number_in s)) (fields_at (number_in s)) × (record_of s ≡ r))
  record_read_given r = exactly_of by_reading (answer_given 1 (record_cases i) refl refl s ls vs (fields_same (number_in s)) (record_of s) r)

  pub record_read_others : (k p : ℕ) → (k ≡ 1 → ⊥) → (k ≡ 6 → ⊥) → (k ≡ 7 → ⊥) → read_record i s ≡ refused k p → ⊥
  record_read_others k p a b c e =
      answer_others 1 (record_cases i) refl refl s ls vs (fields_same (number_in s)) (record_of s) k p a b c (sym by_reading ∙ e)

-- ---- the fault alone

module _ (r : Record) where
  abbrev same : length (values_of r) ≡ length (lines_of r)
  same = values_same r.kind r.id r.body

  kind_of_lem : Exactly (FirstFault 0 (lines_of r) (values_of r)) (belongs r.kind r.body ≡ false)
  kind_of_lem = kind_written r.kind r.id r.body

  fault_of_lem : record_fault r 0 ≡ fault_from 1 (lines_of r) (values_of r)
  fault_of_lem = body_fault_lem r.kind r.id r.body

  module _ (i : ℕ) where
    by_fault_lem : record_refused i (record_fault r 0) (given (tt {0})) ≡ by_fields (record_cases i) (lines_of r) (values_of r) tt
    by_fault_lem = ap (λ (f : ℕ). record_refused i f (given (tt {0}))) fault_of_lem

    pub record_fault_6 : (p : ℕ) → Exactly (record_refused i (record_fault r 0) (given (tt {0})) ≡ refused 6 p) ((belongs r.kind r.body ≡ false) × (p ≡ i))
    record_fault_6 p = exactly_then (exactly_of by_fault_lem (fields_first (record_cases i) (lines_of r) (values_of r) same tt p)) (in_front kind_of_lem)

    pub record_fault_7 : (p : ℕ) → Exactly (record_refused i (record_fault r 0) (given (tt {0})) ≡ refused 7 p) (LaterFault (λ k. 32 * i + k) (lines_of r) (values_of r) p)
    record_fault_7 p = exactly_of by_fault_lem (fields_later (record_cases i) (lines_of r) (values_of r) same tt p)

    pub record_fault_given : Exactly (record_refused i (record_fault r 0) (given (tt {0})) ≡ given tt) (Allowed (lines_of r) (values_of r))
    record_fault_given = exactly_then (exactly_of by_fault_lem (fields_given (record_cases i) (lines_of r) (values_of r) same tt tt)) alone

    pub record_fault_others : (k p : ℕ) → (k ≡ 6 → ⊥) → (k ≡ 7 → ⊥) → record_refused i (record_fault r 0) (given (tt {0})) ≡ refused k p → ⊥
    record_fault_others k p a b e = fields_others (record_cases i) (lines_of r) (values_of r) same tt k p a b (sym by_fault_lem ∙ e)

  -- ---- writing

  module _ (o : List ℕ) where
    pub record_written : write_record r o ≡ written (record_cases 0) (record_fault r 0) (record_bytes r) o
    unfolding write_record
    record_written = refl

    by_writing : (write_record r o).answer ≡ by_slice 5 (record_cases 0) o (by_fields (record_cases 0) (lines_of r) (values_of r) (tt {0}))
    by_writing =
        ap (λ w. w.answer) record_written
        ∙ written_answer (record_cases 0) (record_fault r 0) (record_bytes r) o
        ∙ ap (λ x. by_slice 5 (record_cases 0) o x) (by_fault_lem 0)

    pub record_write_5 : (p : ℕ) → Exactly ((write_record r o).answer ≡ refused 5 p) ((length o < 16) × (p ≡ 0))
    record_write_5 p = exactly_of by_writing (answer_short 5 (record_cases 0) refl refl o (lines_of r) (values_of r) same tt p)

    pub record_write_6 : (p : ℕ) → Exactly ((write_record r o).answer ≡ refused 6 p) ((16 ≤ length o) × (belongs r.kind r.body ≡ false) × (p ≡ 0))
    record_write_6 p = exactly_then (exactly_of by_writing (answer_first 5 (record_cases 0) refl refl o (lines_of r) (values_of r) same tt p)) (in_middle kind_of_lem)

    pub record_write_7 : (p : ℕ) → Exactly ((write_record r o).answer ≡ refused 7 p) ((16 ≤ length o) × LaterFault (λ k. k) (lines_of r) (values_of r) p)
    record_write_7 p =
        exactly_then (exactly_of by_writing (answer_later 5 (record_cases 0) refl refl o (lines_of r) (values_of r) same tt p))
        (at_end (same_places (λ k. 32 * 0 + k) (λ k. k) (lines_of r) (values_of r) p (λ k. omega arith)))

    pub record_write_given : Exactly ((write_record r o).answer ≡ given tt) ((16 ≤ length o) × Allowed (lines_of r) (values_of r))
    record_write_given = exactly_then (exactly_of by_writing (answer_given 5 (record_cases 0) refl refl o (lines_of r) (values_of r) same tt tt)) alone_two

    pub record_write_others : (k p : ℕ) → (k ≡ 5 → ⊥) → (k ≡ 6 → ⊥) → (k ≡ 7 → ⊥) → (write_record r o).answer ≡ refused k p → ⊥
    record_write_others k p a b c e = answer_others 5 (record_cases 0) refl refl o (lines_of r) (values_of r) same tt k p a b c (sym by_writing ∙ e)

    -- a refusal leaves every byte; else the first sixteen are the record's, and no others change
    pub record_write_left : (k p : ℕ) → (write_record r o).answer ≡ refused k p → (write_record r o).bytes ≡ o
    unfolding write_record
    record_write_left k p e = written_refused (record_cases 0) (record_fault r 0) (record_bytes r) o k p e

    pub record_write_bytes : (write_record r o).answer ≡ given tt → (write_record r o).bytes ≡ record_bytes r ++ drop 16 o
    unfolding write_record
    record_write_bytes e = written_all (record_cases 0) (record_fault r 0) (record_bytes r) o e

    pub record_write_past : (write_record r o).answer ≡ given tt → drop 16 (write_record r o).bytes ≡ drop 16 o
    unfolding write_record
    record_write_past e = written_past (record_cases 0) (record_fault r 0) (record_bytes r) o (length_unpack (bytes 16) (record_number r)) e

    pub record_write_length : length (write_record r o).bytes ≡ length o
    unfolding write_record
    record_write_length = written_length (record_cases 0) (record_fault r 0) (record_bytes r) o (length_unpack (bytes 16) (record_number r))
