-- There and back: a header's and a sound record's own numbers are taken as it, and numbers that are taken are those of what is given.
-- Assumes nothing.
use Rattle.std.specs.Prelude.{ℕ, zero, suc, ◌+◌, ◌*◌, ◌≡◌, refl, Bool, List, [], ◌∷◌, ◌++◌, length, get_or, eqb}
use Rattle.std.proofs.Common.{sym, ◌∙◌, subst, lt-ltb, le-ltb}
use Rattle.std.proofs.Math.Path.{ap, ap₂}
use Rattle.std.proofs.Math.Bool.{true, false, cond}
use native.Mathlib.Omega.{arith}
use Rattle.quantity.specs.Range.{within, from}
use Rattle.layout.specs.Line.{Allowed, fault_from}
use Rattle.quantity.specs.laws.RangeLaws.{low_high}
use Rattle.layout.specs.laws.LineLaws.{none_all}
use Rattle.sheet.specs.declared.Header.{Header}
use Rattle.sheet.specs.declared.Own.{Own}
use Rattle.sheet.specs.declared.Own.TheVariants.{One, Two}
use Rattle.sheet.specs.declared.Section.{Section}
use Rattle.sheet.specs.declared.Body.{Body}
use Rattle.sheet.specs.declared.Body.TheVariants.{Plate as isPlate, Member as isMember}
use Rattle.sheet.specs.declared.Record.{Record}
use Rattle.sheet.specs.Versions.{Version, one, two, version_of}
use Rattle.sheet.specs.laws.VersionLaws.{numbered_own}
use Rattle.sheet.specs.Lines.{none, header_lines}
use Rattle.sheet.specs.Refusals.{given, refused, header_refused}
use Rattle.sheet.specs.laws.RefusalLaws.{by_none, at_none}
use Rattle.sheet.specs.Header.{own_values, own_at, raw_fault, header_fault}
use Rattle.sheet.specs.Record.{plate_record, member_record, plate_lines_of, member_lines_of, plate_fault, member_fault, record_fault}
use Rattle.sheet.specs.laws.HeaderLaws.{flag_read, flag_written}
use Rattle.sheet.specs.laws.RecordLaws.{plate_ranges, member_ranges}
use Rattle.numbers.specs.Fields.{own_numbers, header_numbers, record_numbers}
use Rattle.numbers.specs.From.{numbers_from, header_of_numbers, own_fields_as, fields_as, in_second, header_numbers_fault, header_from, plate_numbered, record_of_numbers, plate_fields, record_numbers_fault, record_from}

-- ---- all the numbers of a list

one_further : (x : ℕ) (ns : List ℕ) (i count : ℕ) → numbers_from (suc i) count (x ∷ ns) ≡ numbers_from i count ns
one_further x ns i zero = refl
one_further x ns i (suc count) = ap (λ (l : List ℕ). get_or ns i 0 ∷ l) (one_further x ns (suc i) count)

pub all_numbers : (ns : List ℕ) → numbers_from 0 (length ns) ns ≡ ns
all_numbers [] = refl
all_numbers (x ∷ ns) = ap (λ (l : List ℕ). x ∷ l) (one_further x ns 0 (length ns) ∙ all_numbers ns)

-- ---- a header

-- what a version holds of its own is what its numbers are, and they stand in its fields
own_again : (o : Own) (k : ℕ) → k ≡ (version_of o).number
    → (own_at k (numbers_from 0 2 (own_numbers o)) ≡ o) × (own_fields_as (eqb k two.number) (get_or (own_numbers o) 0 0) (get_or (own_numbers o) 1 0) ≡ 0 ∷ own_values o 0)
own_again One k e = (rw e, rw e)
own_again (Two s) k e = (rw e, rw e)

-- so the numbers of a header that holds what its version does are that header, and are at fault as it is
pub header_again : (h : Header) → h.version ≡ (version_of h.own).number → (header_of_numbers (header_numbers h) ≡ h) × (header_numbers_fault (header_numbers h) ≡ header_fault h)
unfolding header_numbers_fault raw_fault
header_again h e =
    let own = own_again h.own h.version e in (
      rw (flag_read h.two_runs, own.0),
      ap₂ (λ (v : Version) (vs : List ℕ). fault_from 1 (header_lines v) (numbers_from 0 8 (header_numbers h) ++ vs)) (numbered_own h.own h.version e) own.1,
    )

-- they are taken as the header, or refused as it is
pub header_from_numbers : (h : Header) → h.version ≡ (version_of h.own).number → header_from (header_numbers h) ≡ header_refused (header_fault h) (given h)
unfolding header_from
header_from_numbers h e = let again = header_again h e in ap₂ (λ (f : ℕ) (g : Header). header_refused f (given g)) again.1 again.0

-- what numbers with no fault give: the header that they are has none either, and has the same numbers
abbrev pub HeaderSound : List ℕ → Header → Type 0
HeaderSound ns h = (header_fault h ≡ 0) × (header_numbers h ≡ numbers_from 0 10 ns)

pub header_sound : (ns : List ℕ) → header_numbers_fault ns ≡ 0 → HeaderSound ns (header_of_numbers ns)
unfolding header_numbers_fault raw_fault
header_sound ns = go (in_second ns)
  where
    n : ℕ → ℕ
    n i = get_or ns i 0

    section : Section
    section = record { inner_modulus = n 8; depth = record { 0 = n 9 } }

    headed : Own → Header
    headed o =
        record {
          version = n 0;
          length = record { 0 = n 1 };
          draught = record { 0 = n 2 };
          wave = record { 0 = n 3 };
          two_runs = eqb (n 4) 1;
          moment = n 5;
          bottom_modulus = n 6;
          count = n 7;
          own = o;
        }

    -- runs is written as it was read
    flag : within (from 0 1) (n 4) ≡ true → cond (eqb (n 4) 1) 1 0 ≡ n 4
    flag a = flag_written (n 4) (omega (arith, low_high (from 0 1) (n 4) a))

    go : (t : Bool) → fault_from 1 (header_lines (cond t two one)) (fields_as t ns) ≡ 0 → HeaderSound ns (headed (cond t (Two section) One))
    go true e =
        let a : Allowed (header_lines two) (fields_as true ns) = none_all 0 (header_lines two) (fields_as true ns) e in
        let runs = flag a.1.1.1.1.0 in (
          ap (λ (x : ℕ). fault_from 1 (header_lines two) (numbers_from 0 4 ns ++ (x ∷ (numbers_from 5 3 ns ++ (0 ∷ n 8 ∷ n 9 ∷ 0 ∷ []))))) runs ∙ e,
          ap (λ (x : ℕ). numbers_from 0 4 ns ++ (x ∷ numbers_from 5 5 ns)) runs,
        )
    go false e =
        let a : Allowed (header_lines one) (fields_as false ns) = none_all 0 (header_lines one) (fields_as false ns) e in
        let runs = flag a.1.1.1.1.0 in
        let z : n 8 + n 9 ≡ 0 = omega (arith, low_high none (n 8 + n 9) a.1.1.1.1.1.1.1.1.0) in
        let z₁ : 0 ≡ n 8 = omega arith in
        let z₂ : 0 ≡ n 9 = omega arith in (
          ap₂ (λ (x y : ℕ). fault_from 1 (header_lines one) (numbers_from 0 4 ns ++ (x ∷ (numbers_from 5 3 ns ++ y ∷ [])))) runs (sym z) ∙ e,
          ap (λ (x : ℕ). numbers_from 0 4 ns ++ (x ∷ (numbers_from 5 3 ns ++ (0 ∷ 0 ∷ [])))) runs ∙ ap₂ (λ (x y : ℕ). numbers_from 0 8 ns ++ (x ∷ y ∷ [])) z₁ z₂,
        )

-- numbers that are taken have no fault, and are those of the header that is given
pub header_taken : (ns : List ℕ) (h : Header) → header_from ns ≡ given h → (header_numbers_fault ns ≡ 0) × (header_of_numbers ns ≡ h)
unfolding header_from
header_taken ns h e = by_none 2 0 3 (λ k. k) (header_numbers_fault ns) (header_of_numbers ns) h e

pub header_numbers_same : (ns : List ℕ) (h : Header) → header_from ns ≡ given h → HeaderSound ns h
header_numbers_same ns h e = let t = header_taken ns h e in subst (HeaderSound ns) t.1 (header_sound ns t.0)

-- ---- a record

-- a sound record's own numbers are taken as the record
pub record_from_numbers : (i : ℕ) (r : Record) → record_fault r 0 ≡ 0 → record_from i (record_numbers r) ≡ given r
unfolding record_from record_numbers_fault plate_fault member_fault
record_from_numbers i r = go r.kind r.id r.body
  where
    go : (kind id : ℕ) (b : Body) → let t : Record = record { kind = kind; id = id; body = b } in record_fault t 0 ≡ 0 → record_from i (record_numbers t) ≡ given t
    go kind id (isPlate p) e =
        rw (lt-ltb kind 5 (omega (arith, (plate_ranges kind id p 0 e).kind_high)), flag_read p.ballast)
        (at_none (refused 6 i) (λ k. refused 7 (32 * i + k)) (plate_fault kind id p 0) (given (record { kind = kind; id = id; body = isPlate p })) e)
    go kind id (isMember m) e =
        rw (le-ltb kind 5 (member_ranges kind id m e).kind_low)
        (at_none (refused 6 i) (λ k. refused 7 (32 * i + k)) (member_fault kind id m) (given (record { kind = kind; id = id; body = isMember m })) e)

-- what numbers with no fault give: the record that they are has none either, and has the same numbers
abbrev pub RecordSound : List ℕ → Record → Type 0
RecordSound ns r = (record_fault r 0 ≡ 0) × (record_numbers r ≡ numbers_from 0 13 ns)

module _ (ns : List ℕ) where
  abbrev n : ℕ → ℕ
  n i = get_or ns i 0

  plate_sound : fault_from 1 (plate_lines_of ns) (plate_fields ns) ≡ 0 → RecordSound ns (plate_record ns)
  unfolding plate_fault
  plate_sound e =
      let a : Allowed (plate_lines_of ns) (plate_fields ns) = none_all 0 (plate_lines_of ns) (plate_fields ns) e in
      let b = a.1.1.1.1.1.1.1.1 in
      let flag : cond (eqb (n 8) 1) 1 0 ≡ n 8 = flag_written (n 8) (omega (arith, low_high (from 0 1) (n 8) b.0)) in
      let zeros = low_high none (n 11 + n 12) b.1.1.1.0 in
      let z : n 11 + n 12 ≡ 0 = omega (arith, zeros) in
      let z₁ : 0 ≡ n 11 = omega arith in
      let z₂ : 0 ≡ n 12 = omega arith in (
        ap₂ (λ (x y : ℕ). fault_from 1 (plate_lines_of ns) (numbers_from 0 8 ns ++ (x ∷ n 9 ∷ n 10 ∷ y ∷ []))) flag (sym z) ∙ e,
        ap (λ (x : ℕ). numbers_from 0 8 ns ++ (x ∷ n 9 ∷ n 10 ∷ 0 ∷ 0 ∷ [])) flag
            ∙ ap₂ (λ (x y : ℕ). numbers_from 0 11 ns ++ (x ∷ y ∷ [])) z₁ z₂,
      )

  member_sound : fault_from 1 (member_lines_of ns) (numbers_from 0 13 ns) ≡ 0 → RecordSound ns (member_record ns)
  unfolding member_fault
  member_sound e = (e, refl)

  pub record_sound : record_numbers_fault ns ≡ 0 → RecordSound ns (record_of_numbers ns)
  unfolding record_numbers_fault
  record_sound = go (plate_numbered ns)
    where
      go : (t : Bool) → cond t (fault_from 1 (plate_lines_of ns) (plate_fields ns)) (fault_from 1 (member_lines_of ns) (numbers_from 0 13 ns)) ≡ 0
          → RecordSound ns (cond t (plate_record ns) (member_record ns))
      go true e = plate_sound e
      go false e = member_sound e

-- numbers that are taken have no fault, and are those of the record that is given
pub record_taken : (i : ℕ) (ns : List ℕ) (r : Record) → record_from i ns ≡ given r → (record_numbers_fault ns ≡ 0) × (record_of_numbers ns ≡ r)
unfolding record_from
record_taken i ns r e = by_none 6 i 7 (λ k. 32 * i + k) (record_numbers_fault ns) (record_of_numbers ns) r e

pub record_numbers_same : (i : ℕ) (ns : List ℕ) (r : Record) → record_from i ns ≡ given r → RecordSound ns r
record_numbers_same i ns r e = let t = record_taken i ns r e in subst (RecordSound ns) t.1 (record_sound ns t.0)
