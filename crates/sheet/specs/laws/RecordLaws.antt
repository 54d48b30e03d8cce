-- A record: its values and their fields, and what the absence of a fault gives.
-- Assumes nothing.
use Rattle.std.specs.Prelude.{ℕ, ◌≤◌, ◌≡◌, refl, Bool, true, false, cond, List, get_or}
use Rattle.std.proofs.Common.{sym, ap, arith, mod-lt, lit≤}
use Rattle.quantity.specs.Range.{Range, within, from, spacing, thickness, modulus, shear_area, steel_factor}
use Rattle.layout.specs.Layout.{unpack, Fit}
use Rattle.layout.specs.Line.{Allowed, fault_from, lines_fit}
use Rattle.quantity.specs.laws.RangeLaws.{low_high}
use Rattle.layout.specs.laws.LineLaws.{none_all, allowed_fit}
use Rattle.sheet.specs.declared.Plate.{Plate}
use Rattle.sheet.specs.declared.Member.{Member}
use Rattle.sheet.specs.declared.Body.{Body}
use Rattle.sheet.specs.declared.Body.TheVariants.{Plate as isPlate, Member as isMember}
use Rattle.sheet.specs.declared.Record.{Record}
use Rattle.sheet.specs.Kinds.{is_long, is_bottom, is_floor, is_deep}
use Rattle.sheet.specs.Lines.{either, none, plate_spacing, sides, plate_table, member_table, plate_lines, member_lines, plate_widths, member_widths}
pub use Rattle.sheet.specs.Record.{record_at, spare_at, raw_at}
use Rattle.sheet.specs.Record.{plate_values, member_values, plate_at, plate_record, member_record, plate_lines_of, member_lines_of, plate_fault, member_fault, body_fault, record_fault, plate_in, record_in, widths_in, values_in}
use Rattle.sheet.specs.Ranges.{PlateRanges, MemberRanges}
use Rattle.sheet.specs.Refusals.{given, record_refused}
use Rattle.sheet.specs.laws.HeaderLaws.{flag_written}

-- the values of the plate that a number's fields are are those fields
pub plate_values_at : (n : ℕ) → let vs = unpack plate_widths n in plate_values (get_or vs 0 0) (get_or vs 1 0) (plate_at vs) (get_or vs 11 0) ≡ vs
plate_values_at n = let vs = unpack plate_widths n in rw (flag_written (get_or vs 8 0) (mod-lt _ (omega arith)))

-- reading a number goes by the fault of the record in it
pub record_in_lem : (i n : ℕ) → record_in i n ≡ record_refused i (record_fault (record_at n) (spare_at n)) (given (record_at n))
unfolding record_in plate_fault member_fault
record_in_lem i n = go (plate_in n)
  where
    vs : List ℕ
    vs = unpack plate_widths n

    ws : List ℕ
    ws = unpack member_widths n

    go : (t : Bool) → cond t (record_refused i (fault_from 1 (plate_lines_of vs) vs) (given (plate_record vs))) (record_refused i (fault_from 1 (member_lines_of ws) ws) (given (member_record ws)))
        ≡ record_refused i (record_fault (cond t (plate_record vs) (member_record ws)) (cond t (get_or vs 11 0) 0)) (given (cond t (plate_record vs) (member_record ws)))
    go true = ap (λ (l : List ℕ). record_refused i (fault_from 1 (plate_lines_of vs) l) (given (plate_record vs))) (sym (plate_values_at n))
    go false = refl

-- ---- a record with no fault

-- every value that a line allows fits it, whatever the lines rest on
plate_table_fits : (long bottom ballast : Bool) (z : ℕ) → lines_fit (plate_table long bottom ballast z) ≡ true
plate_table_fits true true true z = refl
plate_table_fits true true false z = refl
plate_table_fits true false true z = refl
plate_table_fits true false false z = refl
plate_table_fits false true true z = refl
plate_table_fits false true false z = refl
plate_table_fits false false true z = refl
plate_table_fits false false false z = refl

member_table_fits : (deep floor : Bool) → lines_fit (member_table deep floor) ≡ true
member_table_fits true true = refl
member_table_fits true false = refl
member_table_fits false true = refl
member_table_fits false false = refl

pub plate_allowed : (kind id : ℕ) (p : Plate) (spare : ℕ) → plate_fault kind id p spare ≡ 0 → Allowed (plate_lines kind p.ballast p.z.0) (plate_values kind id p spare)
unfolding plate_fault
plate_allowed kind id p spare e = none_all 0 (plate_lines kind p.ballast p.z.0) (plate_values kind id p spare) e

pub member_allowed : (kind id : ℕ) (m : Member) → member_fault kind id m ≡ 0 → Allowed (member_lines kind) (member_values kind id m)
unfolding member_fault
member_allowed kind id m e = none_all 0 (member_lines kind) (member_values kind id m) e

body_fit : (kind id : ℕ) (b : Body) → body_fault kind id b 0 ≡ 0 → Fit (widths_in b) (values_in kind id b)
body_fit kind id (isPlate p) e =
    allowed_fit (plate_lines kind p.ballast p.z.0) (plate_values kind id p 0) (plate_table_fits (is_long kind) (is_bottom kind) p.ballast p.z.0) (plate_allowed kind id p 0 e)
body_fit kind id (isMember m) e = allowed_fit (member_lines kind) (member_values kind id m) (member_table_fits (is_deep kind) (is_floor kind)) (member_allowed kind id m e)

-- its values fit their fields
pub record_fit : (r : Record) → record_fault r 0 ≡ 0 → Fit (widths_in r.body) (values_in r.kind r.id r.body)
record_fit r e = body_fit r.kind r.id r.body e

-- a range by a test, in either case
either_bounds : (t : Bool) (r s : Range) (v : ℕ) → within (either t r s) v ≡ true → (t ≡ true → (r.low ≤ v) × (v ≤ r.high)) × (t ≡ false → (s.low ≤ v) × (v ≤ s.high))
either_bounds true r s v e = (λ x. low_high r v e, λ x. absurd (let z : ◌≡◌ {A = ℕ} 0 1 = cc in omega arith))
either_bounds false r s v e = (λ x. absurd (let z : ◌≡◌ {A = ℕ} 0 1 = cc in omega arith), λ x. low_high s v e)

-- and at most the greater of the two highest
either_most : (t : Bool) (r s : Range) (v top : ℕ) → r.high ≤ top → s.high ≤ top → within (either t r s) v ≡ true → v ≤ top
either_most true r s v top p q e = omega (arith, low_high r v e)
either_most false r s v top p q e = omega (arith, low_high s v e)

-- 0 by a test, else up to a highest value
zero_or : (t : Bool) (top v : ℕ) → within (from 0 (cond t 0 top)) v ≡ true → v ≤ top
zero_or true top v e = omega (arith, low_high (from 0 0) v e)
zero_or false top v e = (low_high (from 0 top) v e).1

-- the numbers of a plate and of a member are within their ranges
pub plate_ranges : (kind id : ℕ) (p : Plate) (spare : ℕ) → plate_fault kind id p spare ≡ 0 → PlateRanges kind p
plate_ranges kind id p spare e =
    let a = plate_allowed kind id p spare e in
    let from_K = a.1.1 in
    let from_T = from_K.1.1.1 in
    let from_ballast = from_T.1.1.1 in
    record {
      kind_low = (low_high (from 1 4) kind a.0).0;
      kind_high = (low_high (from 1 4) kind a.0).1;
      factor_low = (low_high steel_factor p.factor.0 from_K.0).0;
      factor_high = (low_high steel_factor p.factor.0 from_K.0).1;
      z_high = (low_high (from 0 1000) p.z.0 from_K.1.0).1;
      spacing_low = (low_high plate_spacing p.spacing.0 from_K.1.1.0).0;
      spacing_high = (low_high plate_spacing p.spacing.0 from_K.1.1.0).1;
      thickness_low = (low_high thickness p.thickness.0 from_T.0).0;
      thickness_high = (low_high thickness p.thickness.0 from_T.0).1;
      b1_low = λ t. ((either_bounds (is_long kind) none sides p.b1.0 from_T.1.0).1 t).0;
      b1_high = either_most (is_long kind) none sides p.b1.0 sides.high (lit≤ tt) (lit≤ tt) from_T.1.0;
      b2_high = either_most (is_long kind) none sides p.b2.0 sides.high (lit≤ tt) (lit≤ tt) from_T.1.1.0;
      tank_low = λ t. ((either_bounds p.ballast (from p.z.0 1200) none p.tank_top.0 from_ballast.1.0).0 t).0;
      tank_high = either_most p.ballast (from p.z.0 1200) none p.tank_top.0 1200 (lit≤ tt) (lit≤ tt) from_ballast.1.0;
      cargo_high = zero_or (is_bottom kind) 200000 p.cargo from_ballast.1.1.0;
    }

pub member_ranges : (kind id : ℕ) (m : Member) → member_fault kind id m ≡ 0 → MemberRanges kind m
member_ranges kind id m e =
    let a = member_allowed kind id m e in
    let from_z = a.1.1 in
    let from_T = from_z.1.1.1 in
    let from_η = from_T.1.1.1 in
    let from_W = from_η.1.1 in
    record {
      kind_low = (low_high (from 5 8) kind a.0).0;
      kind_high = (low_high (from 5 8) kind a.0).1;
      z_high = zero_or (is_deep kind) 1000 m.z.0 from_z.0;
      spacing_low = (low_high spacing m.spacing.0 from_z.1.0).0;
      spacing_high = (low_high spacing m.spacing.0 from_z.1.0).1;
      span_low = (low_high sides m.span.0 from_z.1.1.0).0;
      span_high = (low_high sides m.span.0 from_z.1.1.0).1;
      thickness_low = (low_high thickness m.thickness.0 from_T.0).0;
      thickness_high = (low_high thickness m.thickness.0 from_T.0).1;
      bending_high = (low_high (from 1 100) m.bending from_T.1.0).1;
      shear_high = (low_high (from 1 100) m.shear from_T.1.1.0).1;
      eta_high = either_most (is_floor kind) (from 100 100) (from 1 100) m.eta 100 (lit≤ tt) (lit≤ tt) from_η.0;
      stress_high = zero_or (is_floor kind) 255 m.stress from_η.1.0;
      modulus_low = (low_high modulus m.modulus.0 from_W.0).0;
      modulus_high = (low_high modulus m.modulus.0 from_W.0).1;
      area_low = (low_high shear_area m.area.0 from_W.1.0).0;
      area_high = (low_high shear_area m.area.0 from_W.1.0).1;
      factor_high = (low_high steel_factor m.factor.0 from_W.1.1.0).1;
    }
