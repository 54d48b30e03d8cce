-- What is known of the numbers in a header and in a record that are within their values: the bounds that the rules' arithmetic rests on.
use Rattle.std.specs.Prelude.{ℕ, ◌≤◌, ◌≡◌, true, false}
use Rattle.quantity.specs.Range.{thickness, spacing, modulus, shear_area, steel_factor}
use Rattle.sheet.specs.Kinds.{is_long}
use Rattle.sheet.specs.Versions.{hull_modulus, version_of, most_records}
use Rattle.sheet.specs.Lines.{rule_length, plate_spacing, sides}
use Rattle.sheet.specs.Header.{inner_modulus}
use Rattle.sheet.specs.declared.Header.{Header}
use Rattle.sheet.specs.declared.Plate.{Plate}
use Rattle.sheet.specs.declared.Member.{Member}

pub record HeaderRanges (h : Header) : Type 0 where
  pub length_low : rule_length.low ≤ h.length.0
  pub length_high : h.length.0 ≤ rule_length.high
  pub draught_low : 1 ≤ h.draught.0
  pub draught_high : h.draught.0 ≤ 1000
  pub wave_high : h.wave.0 ≤ 120
  pub moment_high : h.moment ≤ 1000000
  pub modulus_low : hull_modulus.low ≤ h.bottom_modulus
  pub modulus_high : h.bottom_modulus ≤ hull_modulus.high
  pub inner_low : hull_modulus.low ≤ inner_modulus h
  pub inner_high : inner_modulus h ≤ hull_modulus.high
  pub count_high : h.count ≤ (version_of h.own).most
  pub count_few : h.count ≤ most_records

pub record PlateRanges (kind : ℕ) (p : Plate) : Type 0 where
  pub kind_low : 1 ≤ kind
  pub kind_high : kind ≤ 4
  pub factor_low : steel_factor.low ≤ p.factor.0
  pub factor_high : p.factor.0 ≤ steel_factor.high
  pub z_high : p.z.0 ≤ 1000
  pub spacing_low : plate_spacing.low ≤ p.spacing.0
  pub spacing_high : p.spacing.0 ≤ plate_spacing.high
  pub thickness_low : thickness.low ≤ p.thickness.0
  pub thickness_high : p.thickness.0 ≤ thickness.high
  pub b1_low : is_long kind ≡ false → sides.low ≤ p.b1.0
  pub b1_high : p.b1.0 ≤ sides.high
  pub b2_high : p.b2.0 ≤ sides.high
  pub tank_low : p.ballast ≡ true → p.z.0 ≤ p.tank_top.0
  pub tank_high : p.tank_top.0 ≤ 1200
  pub cargo_high : p.cargo ≤ 200000

pub record MemberRanges (kind : ℕ) (m : Member) : Type 0 where
  pub kind_low : 5 ≤ kind
  pub kind_high : kind ≤ 8
  pub z_high : m.z.0 ≤ 1000
  pub spacing_low : spacing.low ≤ m.spacing.0
  pub spacing_high : m.spacing.0 ≤ spacing.high
  pub span_low : sides.low ≤ m.span.0
  pub span_high : m.span.0 ≤ sides.high
  pub thickness_low : thickness.low ≤ m.thickness.0
  pub thickness_high : m.thickness.0 ≤ thickness.high
  pub bending_high : m.bending ≤ 100
  pub shear_high : m.shear ≤ 100
  pub eta_high : m.eta ≤ 100
  pub stress_high : m.stress ≤ 255
  pub modulus_low : modulus.low ≤ m.modulus.0
  pub modulus_high : m.modulus.0 ≤ modulus.high
  pub area_low : shear_area.low ≤ m.area.0
  pub area_high : m.area.0 ≤ shear_area.high
  pub factor_high : m.factor.0 ≤ steel_factor.high
