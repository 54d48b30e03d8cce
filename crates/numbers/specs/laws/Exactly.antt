-- Each answer about numbers is given exactly when its case of the table holds and none before it does.
-- Assumes nothing.
use Rattle.std.specs.Prelude.{ℕ, ◌+◌, ◌*◌, ◌≡◌, Bool, List, length, drop}
use Rattle.std.proofs.Math.Path.{refl, ap}
use Rattle.std.proofs.Common.{sym, ◌∙◌}
use Rattle.std.proofs.Math.Bool.{true, false, cond}
use Rattle.std.proofs.Math.ListN.{get_or}
use Rattle.quantity.specs.Range.{within}
use Rattle.layout.specs.Line.{Line, Allowed, fault_from, FirstFault}
use Rattle.sheet.specs.declared.Header.{Header}
use Rattle.sheet.specs.declared.Record.{Record}
use Rattle.sheet.specs.Versions.{first_bytes, one, two, version_numbers, numbered}
use Rattle.sheet.specs.laws.VersionLaws.{other_number}
use Rattle.sheet.specs.Lines.{header_lines}
use Rattle.sheet.specs.Refusals.{given, refused, record_refused}
use Rattle.sheet.specs.Record.{plate_lines_of, member_lines_of}
use Rattle.sheet.specs.laws.ExactlyLaws.{exactly_then, exactly_of, in_front, fields_first, fields_later, fields_given, fields_others}
use Rattle.sheet.specs.Exactly.{Exactly, LaterFault, Cases, by_fields, header_cases, record_cases}
use Rattle.sheet.specs.laws.HeaderExactly.{version_fault}
use Rattle.numbers.specs.From.{numbers_from, header_of_numbers, fields_as, in_second, header_fields_of, header_lines_of, header_numbers_fault, header_from, plate_numbered, record_of_numbers, plate_fields, record_numbers_fault, record_from}

module _ (ns : List ℕ) where
  -- a header's numbers are as many fields as their version has lines
  pub same_header : length (header_fields_of ns) ≡ length (header_lines_of ns)
  same_header = go (in_second ns)
    where
      go : (t : Bool) → length (fields_as t ns) ≡ length (header_lines (cond t two one))
      go true = refl
      go false = refl

  -- no bytes are asked for here: of the cases only the refusals' numbers play a part
  abbrev cases : Cases
  cases = header_cases first_bytes

  -- 2: a version that there is not
  pub header_from_2 : (p : ℕ) → Exactly (header_from ns ≡ refused 2 p) ((within version_numbers (get_or ns 0 0) ≡ false) × (p ≡ 0))
  unfolding header_from header_numbers_fault
  header_from_2 p =
      let k = get_or ns 0 0 in
      exactly_then (fields_first cases (header_lines_of ns) (header_fields_of ns) same_header (header_of_numbers ns) p)
      (in_front (exactly_then (version_fault (numbered k) k (drop 1 (header_fields_of ns))) (other_number k)))

  pub header_from_3 : (p : ℕ) → Exactly (header_from ns ≡ refused 3 p) (LaterFault (λ k. k) (header_lines_of ns) (header_fields_of ns) p)
  unfolding header_from header_numbers_fault
  header_from_3 p = fields_later cases (header_lines_of ns) (header_fields_of ns) same_header (header_of_numbers ns) p

  pub header_from_given : (h : Header) → Exactly (header_from ns ≡ given h) (Allowed (header_lines_of ns) (header_fields_of ns) × (header_of_numbers ns ≡ h))
  unfolding header_from header_numbers_fault
  header_from_given h = fields_given cases (header_lines_of ns) (header_fields_of ns) same_header (header_of_numbers ns) h

  -- a record's numbers as its fields
  abbrev pub record_fields : List ℕ
  record_fields = cond (plate_numbered ns) (plate_fields ns) (numbers_from 0 13 ns)

  -- and the lines that they answer to
  abbrev pub record_lines : List Line
  record_lines = cond (plate_numbered ns) (plate_lines_of ns) (member_lines_of ns)

  same : length record_fields ≡ length record_lines
  same = go (plate_numbered ns)
    where
      go : (t : Bool) → length (cond t (plate_fields ns) (numbers_from 0 13 ns)) ≡ length (cond t (plate_lines_of ns) (member_lines_of ns))
      go true = refl
      go false = refl

  module _ (i : ℕ) where
    by_fields_lem : record_from i ns ≡ by_fields (record_cases i) record_lines record_fields (record_of_numbers ns)
    unfolding record_from record_numbers_fault
    by_fields_lem = ap (λ (f : ℕ). record_refused i f (given (record_of_numbers ns))) (go (plate_numbered ns))
      where
        go : (t : Bool) → cond t (fault_from 1 (plate_lines_of ns) (plate_fields ns)) (fault_from 1 (member_lines_of ns) (numbers_from 0 13 ns))
            ≡ fault_from 1 (cond t (plate_lines_of ns) (member_lines_of ns)) (cond t (plate_fields ns) (numbers_from 0 13 ns))
        go true = refl
        go false = refl

    pub record_from_6 : (p : ℕ) → Exactly (record_from i ns ≡ refused 6 p) (FirstFault 0 record_lines record_fields × (p ≡ i))
    record_from_6 p = exactly_of by_fields_lem (fields_first (record_cases i) record_lines record_fields same (record_of_numbers ns) p)

    pub record_from_7 : (p : ℕ) → Exactly (record_from i ns ≡ refused 7 p) (LaterFault (λ k. 32 * i + k) record_lines record_fields p)
    record_from_7 p = exactly_of by_fields_lem (fields_later (record_cases i) record_lines record_fields same (record_of_numbers ns) p)

    pub record_from_given : (r : Record) → Exactly (record_from i ns ≡ given r) (Allowed record_lines record_fields × (record_of_numbers ns ≡ r))
    record_from_given r = exactly_of by_fields_lem (fields_given (record_cases i) record_lines record_fields same (record_of_numbers ns) r)

    pub record_from_others : (k p : ℕ) → (k ≡ 6 → ⊥) → (k ≡ 7 → ⊥) → record_from i ns ≡ refused k p → ⊥
    record_from_others k p a b e = fields_others (record_cases i) record_lines record_fields same (record_of_numbers ns) k p a b (sym by_fields_lem ∙ e)
