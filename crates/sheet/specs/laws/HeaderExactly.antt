-- The header: each answer of reading it, of writing it and of looking for its fault is given exactly when its case of the table holds and none
-- before it does; and what the bytes are after writing.
-- Assumes nothing.
use Rattle.std.specs.Prelude.{ℕ, ◌≤◌, ◌≡◌, true, false, List, ◌∷◌, ◌++◌, length, eqb}
use Rattle.std.proofs.Math.Path.{refl, ap}
use Rattle.std.proofs.Common.{sym, ◌∙◌, arith, length-append, length-drop, drop_at, ne_eqb}
use Rattle.std.proofs.Math.ListN.{drop}
use Rattle.std.proofs.lemmas.Bool.{eqb-false}
use Rattle.quantity.specs.Range.{within, from}
use Rattle.quantity.specs.laws.Laws.{one_value}
use Rattle.layout.specs.Layout.{pack, unpack, bytes}
use Rattle.layout.specs.laws.Laws.{length_unpack, length_bytes}
use Rattle.layout.specs.Line.{line, Allowed, FirstFault}
use Rattle.quantity.specs.laws.RangeLaws.{low_high}
use Rattle.sheet.specs.declared.Header.{Header}
use Rattle.sheet.specs.declared.Own.{Own}
use Rattle.sheet.specs.declared.Own.TheVariants.{One, Two}
use Rattle.sheet.specs.Versions.{Version, first_bytes, version_numbers, version_of, bytes_needed, Under}
use Rattle.sheet.specs.laws.VersionLaws.{needs_own, needs_first, under_exactly, other_number, regular, regular_at}
use Rattle.sheet.specs.Lines.{header_lines, first_widths, own_widths}
use Rattle.sheet.specs.Refusals.{Answer, given, refused, header_refused}
use Rattle.sheet.specs.Header.{header_size, first_values, own_values, header_values, raw_fault, header_fault, own_bytes, version_field, version_in, header_fields, header_of, read_header, header_bytes, header_needs, write_header}
use Rattle.sheet.specs.laws.HeaderLaws.{fields_lines, header_version}
use Rattle.sheet.specs.laws.ExactlyLaws.{exactly_then, exactly_of, in_front, alone, alone_two, first_alone, fields_first, fields_later, fields_given, fields_others, answer_short, answer_first, answer_later, answer_given, answer_others}
use Rattle.sheet.specs.Exactly.{Exactly, LaterFault, Cases, header_cases, by_fields, by_slice}
use Rattle.sheet.specs.laws.Written.{written, written_answer, written_fine, written_refused, written_all}

-- outside the one value of a line
other_value : (x v : ℕ) → Exactly (within (from x x) v ≡ false) (v ≡ x → ⊥)
other_value x v = (λ e. eqb-false v x (sym (one_value x v) ∙ e), λ n. one_value x v ∙ ne_eqb v x n)

-- the version alone is at fault exactly when it is another
pub version_fault : (v : Version) (k : ℕ) (vs : List ℕ) → Exactly (FirstFault 0 (header_lines v) (k ∷ vs)) (k ≡ v.number → ⊥)
version_fault v k vs = exactly_then (first_alone (line 4 (from v.number v.number)) (drop 1 (header_lines v)) k vs) (other_value v.number k)

-- ---- a header in a slice, to be read or to be written: the number of its version is k, its lines are v's, and short is the refusal of too few bytes

module _ {A : Type 0} (short : ℕ) (not_2 : eqb short 2 ≡ false) (not_3 : eqb short 3 ≡ false) (s : List ℕ) (v : Version) (least : first_bytes ≤ v.size) (k : ℕ) (vs : List ℕ)
    (same : length (k ∷ vs) ≡ length (header_lines v)) (a : A) where
  abbrev c : Cases
  c = header_cases (bytes_needed k v)

  abbrev x : Answer A
  x = by_slice short c s (by_fields c (header_lines v) (k ∷ vs) a)

  -- where k is v's number, v's bytes are needed
  own_fits : k ≡ v.number → Exactly (bytes_needed k v ≤ length s) (v.size ≤ length s)
  own_fits e = (λ l. omega (arith, needs_own k v e), λ l. omega (arith, needs_own k v e))

  first_allowed : within (from v.number v.number) k ≡ true → k ≡ v.number
  first_allowed e = omega (arith, low_high (from v.number v.number) k e)

  pub slice_short : (p : ℕ) → Exactly (x ≡ refused short p) (Under (length s) k v × (p ≡ 0))
  slice_short p = exactly_then (answer_short short c not_2 not_3 s (header_lines v) (k ∷ vs) same a p) (in_front (under_exactly k v least (length s)))

  pub slice_version : (p : ℕ) → Exactly (x ≡ refused 2 p) ((first_bytes ≤ length s) × (k ≡ v.number → ⊥) × (p ≡ 0))
  slice_version p = exactly_then (answer_first short c not_2 not_3 s (header_lines v) (k ∷ vs) same a p) (there, back)
    where
      there : (bytes_needed k v ≤ length s) × FirstFault 0 (header_lines v) (k ∷ vs) × (p ≡ 0) → (first_bytes ≤ length s) × (k ≡ v.number → ⊥) × (p ≡ 0)
      there h = let n = (version_fault v k vs).0 h.1 in (omega (arith, needs_first k v n, h.0), n, h.2)

      back : (first_bytes ≤ length s) × (k ≡ v.number → ⊥) × (p ≡ 0) → (bytes_needed k v ≤ length s) × FirstFault 0 (header_lines v) (k ∷ vs) × (p ≡ 0)
      back h = (omega (arith, needs_first k v h.1, h.0), (version_fault v k vs).1 h.1, h.2)

  pub slice_field : (p : ℕ) → Exactly (x ≡ refused 3 p) ((v.size ≤ length s) × LaterFault (λ f. f) (header_lines v) (k ∷ vs) p)
  slice_field p = exactly_then (answer_later short c not_2 not_3 s (header_lines v) (k ∷ vs) same a p) (there, back)
    where
      version : LaterFault (λ f. f) (header_lines v) (k ∷ vs) p → k ≡ v.number
      version l = first_allowed (l.fault.earlier 0 (omega arith))

      there : (bytes_needed k v ≤ length s) × LaterFault (λ f. f) (header_lines v) (k ∷ vs) p → (v.size ≤ length s) × LaterFault (λ f. f) (header_lines v) (k ∷ vs) p
      there h = ((own_fits (version h.1)).0 h.0, h.1)

      back : (v.size ≤ length s) × LaterFault (λ f. f) (header_lines v) (k ∷ vs) p → (bytes_needed k v ≤ length s) × LaterFault (λ f. f) (header_lines v) (k ∷ vs) p
      back h = ((own_fits (version h.1)).1 h.0, h.1)

  pub slice_given : (b : A) → Exactly (x ≡ given b) ((v.size ≤ length s) × Allowed (header_lines v) (k ∷ vs) × (a ≡ b))
  slice_given b = exactly_then (answer_given short c not_2 not_3 s (header_lines v) (k ∷ vs) same a b) (there, back)
    where
      there : (bytes_needed k v ≤ length s) × Allowed (header_lines v) (k ∷ vs) × (a ≡ b) → (v.size ≤ length s) × Allowed (header_lines v) (k ∷ vs) × (a ≡ b)
      there h = ((own_fits (first_allowed h.1.0)).0 h.0, h.1, h.2)

      back : (v.size ≤ length s) × Allowed (header_lines v) (k ∷ vs) × (a ≡ b) → (bytes_needed k v ≤ length s) × Allowed (header_lines v) (k ∷ vs) × (a ≡ b)
      back h = ((own_fits (first_allowed h.1.0)).1 h.0, h.1, h.2)

  pub slice_others : (j p : ℕ) → (j ≡ short → ⊥) → (j ≡ 2 → ⊥) → (j ≡ 3 → ⊥) → x ≡ refused j p → ⊥
  slice_others = answer_others short c not_2 not_3 s (header_lines v) (k ∷ vs) same a

-- ---- reading

module _ (s : List ℕ) where
  abbrev vs : List ℕ
  vs = drop 1 (header_fields s)

  abbrev v : Version
  v = version_in s

  -- 1: under 12 bytes, or, of a version that there is, under the version's
  pub header_read_1 : (p : ℕ) → Exactly (read_header s ≡ refused 1 p) (Under (length s) (version_field s) (version_in s) × (p ≡ 0))
  unfolding read_header
  header_read_1 p = slice_short 1 refl refl s v (regular_at (version_field s)).least (version_field s) vs (fields_lines s) (header_of s) p

  -- 2: a version that there is not
  pub header_read_2 : (p : ℕ) → Exactly (read_header s ≡ refused 2 p) ((first_bytes ≤ length s) × (within version_numbers (version_field s) ≡ false) × (p ≡ 0))
  unfolding read_header
  header_read_2 p =
      exactly_then (slice_version 1 refl refl s v (regular_at (version_field s)).least (version_field s) vs (fields_lines s) (header_of s) p)
      (λ h. (h.0, (other_number (version_field s)).0 h.1, h.2), λ h. (h.0, (other_number (version_field s)).1 h.1, h.2))

  pub header_read_3 : (p : ℕ) → Exactly (read_header s ≡ refused 3 p) (((version_in s).size ≤ length s) × LaterFault (λ k. k) (header_lines (version_in s)) (header_fields s) p)
  unfolding read_header
  header_read_3 p = slice_field 1 refl refl s v (regular_at (version_field s)).least (version_field s) vs (fields_lines s) (header_of s) p

  pub header_read_given : (h : Header)
      → Exactly (read_header s ≡ given h) (((version_in s).size ≤ length s) × Allowed (header_lines (version_in s)) (header_fields s) × (header_of s ≡ h))
  unfolding read_header
  header_read_given h = slice_given 1 refl refl s v (regular_at (version_field s)).least (version_field s) vs (fields_lines s) (header_of s) h

  pub header_read_others : (k p : ℕ) → (k ≡ 1 → ⊥) → (k ≡ 2 → ⊥) → (k ≡ 3 → ⊥) → read_header s ≡ refused k p → ⊥
  unfolding read_header
  header_read_others = slice_others 1 refl refl s v (regular_at (version_field s)).least (version_field s) vs (fields_lines s) (header_of s)

-- ---- the fault alone

-- a header has as many values as its version has lines
values_lines : (h : Header) → length (header_values h 0 0) ≡ length (header_lines (version_of h.own))
values_lines h = go h.own
  where
    go : (o : Own) → length (first_values h 0 ++ own_values o 0) ≡ length (header_lines (version_of o))
    go One = refl
    go (Two s) = refl

module _ (h : Header) where
  abbrev own : Version
  own = version_of h.own

  abbrev hs : List ℕ
  hs = header_values h 0 0

  abbrev cases : Cases
  cases = header_cases (header_needs h)

  pub header_fault_2 : (p : ℕ) → Exactly (header_refused (header_fault h) (given (tt {0})) ≡ refused 2 p) ((h.version ≡ (version_of h.own).number → ⊥) × (p ≡ 0))
  unfolding raw_fault
  header_fault_2 p = exactly_then (fields_first cases (header_lines own) hs (values_lines h) tt p) (in_front (version_fault own h.version (drop 1 hs)))

  pub header_fault_3 : (p : ℕ)
      → Exactly (header_refused (header_fault h) (given (tt {0})) ≡ refused 3 p) (LaterFault (λ k. k) (header_lines (version_of h.own)) (header_values h 0 0) p)
  unfolding raw_fault
  header_fault_3 p = fields_later cases (header_lines own) hs (values_lines h) tt p

  pub header_fault_given : Exactly (header_refused (header_fault h) (given (tt {0})) ≡ given tt) (Allowed (header_lines (version_of h.own)) (header_values h 0 0))
  unfolding raw_fault
  header_fault_given = exactly_then (fields_given cases (header_lines own) hs (values_lines h) tt tt) alone

  pub header_fault_others : (k p : ℕ) → (k ≡ 2 → ⊥) → (k ≡ 3 → ⊥) → header_refused (header_fault h) (given (tt {0})) ≡ refused k p → ⊥
  unfolding raw_fault
  header_fault_others = fields_others cases (header_lines own) hs (values_lines h) tt

  -- ---- writing

  -- the bytes of a header are as many as its version takes
  pub header_bytes_length : length (header_bytes h) ≡ header_size h
  header_bytes_length =
      let first = unpack (bytes first_bytes) (pack first_widths (first_values h 0)) in
      let others = unpack (bytes (own_bytes own)) (pack (own_widths own) (own_values h.own 0)) in
      let l : length others ≡ own_bytes own = length_unpack (bytes (own_bytes own)) (pack (own_widths own) (own_values h.own 0)) ∙ length_bytes (own_bytes own) in
      omega (arith, length-append first others, (regular h.own).least)

  -- a header with no fault needs just those
  pub fine_needs : header_fault h ≡ 0 → header_needs h ≡ header_size h
  fine_needs e = needs_own h.version own (header_version h e)

  module _ (o : List ℕ) where
    pub header_written : write_header h o ≡ written cases (header_fault h) (header_bytes h) o
    unfolding write_header
    header_written = refl

    by_answer : (write_header h o).answer ≡ by_slice 5 cases o (by_fields cases (header_lines own) hs (tt {0}))
    unfolding raw_fault
    by_answer = ap (λ w. w.answer) header_written ∙ written_answer cases (header_fault h) (header_bytes h) o

    -- 5: under 12 bytes, or, of a version that goes with what the header holds, under the version's
    pub header_write_5 : (p : ℕ) → Exactly ((write_header h o).answer ≡ refused 5 p) (Under (length o) h.version (version_of h.own) × (p ≡ 0))
    header_write_5 p = exactly_of by_answer (slice_short 5 refl refl o own (regular h.own).least h.version (drop 1 hs) (values_lines h) tt p)

    -- 2: the version is not that of what the header holds
    pub header_write_2 : (p : ℕ) → Exactly ((write_header h o).answer ≡ refused 2 p) ((first_bytes ≤ length o) × (h.version ≡ (version_of h.own).number → ⊥) × (p ≡ 0))
    header_write_2 p = exactly_of by_answer (slice_version 5 refl refl o own (regular h.own).least h.version (drop 1 hs) (values_lines h) tt p)

    pub header_write_3 : (p : ℕ)
        → Exactly ((write_header h o).answer ≡ refused 3 p) ((header_size h ≤ length o) × LaterFault (λ k. k) (header_lines (version_of h.own)) (header_values h 0 0) p)
    header_write_3 p = exactly_of by_answer (slice_field 5 refl refl o own (regular h.own).least h.version (drop 1 hs) (values_lines h) tt p)

    pub header_write_given : Exactly ((write_header h o).answer ≡ given tt) ((header_size h ≤ length o) × Allowed (header_lines (version_of h.own)) (header_values h 0 0))
    header_write_given = exactly_then (exactly_of by_answer (slice_given 5 refl refl o own (regular h.own).least h.version (drop 1 hs) (values_lines h) tt tt)) alone_two

    pub header_write_others : (k p : ℕ) → (k ≡ 5 → ⊥) → (k ≡ 2 → ⊥) → (k ≡ 3 → ⊥) → (write_header h o).answer ≡ refused k p → ⊥
    header_write_others k p a b c e = slice_others 5 refl refl o own (regular h.own).least h.version (drop 1 hs) (values_lines h) tt k p a b c (sym by_answer ∙ e)

    -- a refusal leaves every byte; else the first are the header's, and no others change
    pub header_write_left : (k p : ℕ) → (write_header h o).answer ≡ refused k p → (write_header h o).bytes ≡ o
    unfolding write_header
    header_write_left k p e = written_refused cases (header_fault h) (header_bytes h) o k p e

    module _ (e : (write_header h o).answer ≡ given tt) where
      pub header_write_fine : (header_size h ≤ length o) × (header_fault h ≡ 0)
      unfolding write_header
      header_write_fine = let w = written_fine cases (header_fault h) (header_bytes h) o e in (omega (arith, w.0, fine_needs w.1), w.1)

      pub header_write_bytes : (write_header h o).bytes ≡ header_bytes h ++ drop (header_size h) o
      unfolding write_header
      header_write_bytes = written_all cases (header_fault h) (header_bytes h) o e ∙ ap (λ (n : ℕ). header_bytes h ++ drop n o) (fine_needs header_write_fine.1)

      pub header_write_past : drop (header_size h) (write_header h o).bytes ≡ drop (header_size h) o
      header_write_past = ap (drop (header_size h)) header_write_bytes ∙ drop_at (header_bytes h) (drop (header_size h) o) (header_size h) header_bytes_length

    -- in every case there are as many bytes as before
    pub header_write_length : length (write_header h o).bytes ≡ length o
    header_write_length = go (write_header h o).answer refl
      where
        go : (a : Answer (Unit {0})) → (write_header h o).answer ≡ a → length (write_header h o).bytes ≡ length o
        go (refused k p) e = ap length (header_write_left k p e)
        go (given u) e =
            ap length (header_write_bytes e)
            ∙ omega (arith, length-append (header_bytes h) (drop (header_size h) o), length-drop (header_size h) o, header_bytes_length, (header_write_fine e).0)
