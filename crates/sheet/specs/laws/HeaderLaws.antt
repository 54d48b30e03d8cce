-- The header: its values and their fields, and what the absence of a fault gives.
-- Assumes nothing.
use Rattle.std.specs.Prelude.{ℕ, zero, suc, ◌≤◌, ◌<◌, ◌≡◌, refl, Bool, true, false, cond, length, get_or, take, drop, eqb}
use Rattle.std.proofs.Math.Path.{sym}
use Rattle.std.proofs.Common.{ap₂, ◌∙◌, arith, mod-lt, length-append}
use mathlib.Core.List.{List, ◌++◌}
use Rattle.quantity.specs.Range.{within, from}
use Rattle.layout.specs.Layout.{Fit, pack, bytes}
use Rattle.layout.specs.laws.Laws.{fit_parts, length_unpack}
use Rattle.layout.specs.Line.{among, Allowed, fault_from}
use Rattle.quantity.specs.laws.RangeLaws.{low_high}
use Rattle.layout.specs.laws.LineLaws.{none_all, allowed_fit, among_below, length_widths}
use Rattle.sheet.specs.declared.Header.{Header}
use Rattle.sheet.specs.declared.Own.{Own}
use Rattle.sheet.specs.declared.Own.TheVariants.{One, Two}
use Rattle.sheet.specs.declared.Section.{Section}
use Rattle.sheet.specs.Versions.{Version, first_bytes, hull_modulus, one, two, numbered, version_of}
use Rattle.sheet.specs.laws.VersionLaws.{regular}
use Rattle.sheet.specs.Lines.{header_lines, first_widths, own_widths, waves}
use Rattle.sheet.specs.Header.{inner_of, first_values, own_values, header_values, own_at, header_at, raw_fault, header_fault, own_bytes, first_fields, own_fields, version_field, version_in, header_fields, header_of}
use Rattle.sheet.specs.Ranges.{HeaderRanges}

-- a flag's bit is within its line, and is the flag again
pub flag_within : (b : Bool) → within (from 0 1) (cond b 1 0) ≡ true
flag_within true = refl
flag_within false = refl

pub flag_read : (b : Bool) → eqb (cond b 1 0) 1 ≡ b
flag_read true = refl
flag_read false = refl

pub flag_written : (x : ℕ) → x < 2 → cond (eqb x 1) 1 0 ≡ x
flag_written zero h = refl
flag_written (suc zero) h = refl
flag_written (suc (suc x)) h = absurd (omega arith)

-- ---- the fields in bytes

-- what version k holds of its own is of the version of that number
pub version_at : (k : ℕ) (us : List ℕ) → version_of (own_at k us) ≡ numbered k
version_at k us = go (eqb k two.number) _
  where
    go : (t : Bool) (s : Section) → version_of (cond t (Two s) One) ≡ cond t two one
    go true s = refl
    go false s = refl

module _ (s : List ℕ) where
  -- by whether the version is the second
  abbrev fields_as : Bool → List ℕ
  fields_as t = first_fields s ++ own_fields (cond t two one) s

  -- there are as many fields as lines
  pub fields_lines : length (header_fields s) ≡ length (header_lines (version_in s))
  fields_lines =
      let v = version_in s in
      let own : length (own_fields v s) ≡ length v.lines =
      length_unpack (own_widths v) (pack (bytes (own_bytes v)) (take (own_bytes v) (drop first_bytes s))) ∙ length_widths v.lines in
      omega (arith, length-append (first_fields s) (own_fields v s), own)

  -- what stands in the bits that carry nothing
  abbrev pub spare_in : ℕ
  spare_in = get_or (header_fields s) 8 0

  abbrev pub rest_in : ℕ
  rest_in = get_or (header_fields s) 11 0

  -- the values of the header that the fields are are those fields
  pub values_at : header_values (header_of s) spare_in rest_in ≡ header_fields s
  values_at = rw (flag_written (get_or (first_fields s) 4 0) (mod-lt _ (omega arith))) (go (eqb (version_field s) two.number))
    where
      section : List ℕ → Own
      section us = Two (record { inner_modulus = get_or us 0 0; depth = record { 0 = get_or us 1 0 } })

      go : (t : Bool) → first_fields s ++ own_values (cond t (section (own_fields (cond t two one) s)) One) (get_or (fields_as t) 11 0) ≡ fields_as t
      go true = refl
      go false = refl

  -- reading goes by the fault of the header there
  pub read_fault : fault_from 1 (header_lines (version_in s)) (header_fields s) ≡ raw_fault (header_of s) spare_in rest_in
  unfolding raw_fault
  read_fault = sym (ap₂ (λ (v : Version) (vs : List ℕ). fault_from 1 (header_lines v) vs) (version_at (version_field s) (own_fields (version_in s) s)) values_at)

-- ---- a header with no fault

module _ (h : Header) (e : header_fault h ≡ 0) where
  pub header_allowed : Allowed (header_lines (version_of h.own)) (header_values h 0 0)
  unfolding raw_fault
  header_allowed = none_all 0 (header_lines (version_of h.own)) (header_values h 0 0) e

  -- its version is that of what it holds of its own
  pub header_version : h.version ≡ (version_of h.own).number
  header_version = let n = (version_of h.own).number in omega (arith, low_high (from n n) h.version header_allowed.0)

  wave : (x : ℕ) → among waves x ≡ true → x ≤ 120
  wave x a = omega (arith, among_below 121 waves x refl a)

  -- the inner bottom's modulus is within the values of ZDB, which are those of ZB
  inner : (ZB : ℕ) → within hull_modulus ZB ≡ true → (o : Own) → Allowed (version_of o).lines (own_values o 0) → within hull_modulus (inner_of ZB o) ≡ true
  inner ZB a One b = a
  inner ZB a (Two s) b = b.0

  -- its numbers are within their ranges
  pub header_ranges : HeaderRanges h
  header_ranges =
      let a = header_allowed in
      let from_M = a.1.1.1.1.1 in
      let length = low_high _ _ a.1.0 in
      let draught = low_high _ _ a.1.1.0 in
      let moment = low_high _ _ from_M.0 in
      let modulus = low_high hull_modulus h.bottom_modulus from_M.1.0 in
      let inside = low_high _ _ (inner h.bottom_modulus from_M.1.0 h.own from_M.1.1.1.1) in
      let count = low_high _ _ from_M.1.1.0 in
      record {
        length_low = length.0;
        length_high = length.1;
        draught_low = draught.0;
        draught_high = draught.1;
        wave_high = wave h.wave.0 a.1.1.1.0;
        moment_high = moment.1;
        modulus_low = modulus.0;
        modulus_high = modulus.1;
        inner_low = inside.0;
        inner_high = inside.1;
        count_high = count.1;
        count_few = omega (arith, count.1, (regular h.own).few);
      }

-- and they fit their fields: those that every version has, and its own
pub header_fit : (h : Header) → header_fault h ≡ 0 → Fit first_widths (first_values h 0) × Fit (own_widths (version_of h.own)) (own_values h.own 0)
header_fit h e =
    let v = version_of h.own in
    fit_parts first_widths (own_widths v) (first_values h 0) (own_values h.own 0) refl
    (allowed_fit (header_lines v) (header_values h 0 0) (regular h.own).fit (header_allowed h e))

-- the values of a header whose version is that of what it holds are that header
own_again : (o : Own) (k : ℕ) → k ≡ (version_of o).number → own_at k (own_values o 0) ≡ o
own_again One k e = rw e
own_again (Two s) k e = rw e

pub at_values : (h : Header) → h.version ≡ (version_of h.own).number → header_at (header_values h 0 0) ≡ h
at_values h e = rw (flag_read h.two_runs, own_again h.own h.version e)
