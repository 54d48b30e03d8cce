-- The rules of a plate: each line of their sections holds.
-- Assumes nothing.
use Prim.Native.Nat.{ℕ, ◌+◌, ◌-◌, ◌*◌, ◌/◌, ◌≤◌, ◌<◌}
use Rattle.std.specs.Prelude.{Bool, cond, ◌≡◌, ltb}
use Rattle.std.proofs.Math.Bool.{true, false}
use Rattle.std.proofs.Math.Path.{refl, sym, ap}
use Rattle.std.proofs.Common.{◌∙◌, arith, mul-le-mul, mul-pos, le-div_iff_mul-le, mul_comm, lit<}
use mathlib.Core.List.{List}
use mir.Val.{bool_byte}
use Rattle.std.proofs.Math.Dec.{leb}
use borrow.Author.Tests.{ltb-true, ltb-false}
use Rattle.quantity.specs.Range.{thickness}
use Rattle.root.specs.laws.RootLaws.{root_is}
use Rattle.gauge.specs.declared.Shape.{Shape}
use Rattle.gauge.specs.declared.Shape.TheVariants.{Never, Square}
use Rattle.gauge.specs.Ceil.{ceil_of}
use Rattle.gauge.specs.laws.CeilLaws.{ceil_most, ceil_covers}
use Rattle.gauge.specs.Shape.{Says}
use Rattle.gauge.specs.laws.ShapeLaws.{over_never, over_square}
use Rattle.loads.specs.laws.Bounds.{bottom_bound, inner_bound}
use Rattle.sheet.specs.declared.Header.{Header}
use Rattle.sheet.specs.declared.Plate.{Plate}
use Rattle.sheet.specs.Ranges.{HeaderRanges, PlateRanges}
use Rattle.verdict.specs.Verdict.{Rule}
use Rattle.plating.specs.Rules.{R, K2, plate_modulus, plate_pressure, plate_named, plate_loads, is_second, asked1, asked2, asked3, plate_verdict}
use Rattle.plating.specs.Shapes.{shape1, shape2, shape3, first_shape, second_shape}
use Rattle.plating.specs.laws.ShapeLaws.{says1, says2, says3}
use Rattle.plating.specs.laws.Laws.{K2_range, R_high, plate_pressure_lem}
use Rattle.plating.specs.Work.{work_of}
use Rattle.pencil.specs.Registers.{Registers}
use Rattle.pencil.specs.Glossary.{Facts}
use Rattle.pencil.specs.Templates.{templates, says, Holds}
use Rattle.pencil.specs.Numbers.{product, no_more, rule_numbers, is_never}
use Rattle.pencil.specs.Trail.{Told, plate_given, plate_first, plate_second, bending_lines, form_of, bending_more, plate_third, verdict_line, ruled}
use Rattle.pencil.specs.laws.Divided.{divided, divided_as, ceil_up, ceil_as, product_is, product_fits}
use Rattle.pencil.specs.laws.Steps.{result_holds, square_holds, thick_holds}
use Rattle.pencil.specs.laws.Rules.{over_root, up_root, verdict_holds}

-- K2 is the quotient, or at its most
k2_low : (b1 b2 : ℕ) → 1000 * (b1 * b1 + b2 * b2) / (b1 * b1) ≤ 26000 → K2 b1 b2 ≡ 1000 * (b1 * b1 + b2 * b2) / (b1 * b1)
unfolding K2
k2_low b1 b2 l = omega arith

k2_most : (b1 b2 : ℕ) → 26000 < 1000 * (b1 * b1 + b2 * b2) / (b1 * b1) → K2 b1 b2 ≡ 26000
unfolding K2
k2_most b1 b2 l = omega arith

module _ (h : Header) (id : ℕ) (p : Plate) (hr : HeaderRanges h) (named : 1 ≤ h.version) where
  abbrev L : ℕ
  L = h.length.0

  abbrev K : ℕ
  K = p.factor.0

  abbrev S : ℕ
  S = p.spacing.0

  -- what is so of a plate of this kind
  abbrev pub facts : ℕ → Rule → Facts
  facts kind rule = record { rule = rule; loads = plate_loads h kind p; verdict = plate_verdict h kind p }

  abbrev given : ℕ → List ℕ
  given kind = plate_given h kind id p (work_of h kind p)

  -- a section of a plate of this kind holds
  abbrev Section : ℕ → Rule → Told → Type 0
  Section kind rule t = Holds t.lines (facts kind rule) (record { given = given kind; own = t.own })

  length_high : {kind : ℕ} → PlateRanges kind p → L * L * K ≤ 182250000000
  length_high pr = mul-le-mul (mul-le-mul hr.length_high hr.length_high) pr.factor_high

  length_low : {kind : ℕ} → PlateRanges kind p → 8000000000 ≤ L * L * K
  length_low pr = mul-le-mul (mul-le-mul hr.length_low hr.length_low) pr.factor_low

  spacing_high : {kind : ℕ} → PlateRanges kind p → (S * S ≤ 4000000) × (S * S * K ≤ 4000000000)
  spacing_high pr = (mul-le-mul pr.spacing_high pr.spacing_high, mul-le-mul (mul-le-mul pr.spacing_high pr.spacing_high) pr.factor_high)

  spacing_low : {kind : ℕ} → PlateRanges kind p → 10000 ≤ S * S
  spacing_low pr = mul-le-mul pr.spacing_low pr.spacing_low

  -- rule 1 of kind 1
  pub first_1 : PlateRanges 1 p → Section 1 (asked1 h 1 p) (plate_first h 1 p (work_of h 1 p))
  unfolding says templates rule_numbers ruled plate_first shape1
  first_1 pr =
      let m = ceil_of (9 * (L * L * K)) 1000 in
      let few : ceil_of (9 * (L * L * K)) 1000 < 4294967296 = omega (arith, ceil_most (9 * (L * L * K)) 1000 1640250000 (lit< tt) (omega (arith, length_high pr))) in
      let some : 0 < ceil_of (9 * (L * L * K)) 1000 = omega (arith, ceil_covers (9 * (L * L * K)) 1000 (lit< tt), length_low pr) in
      let fair = says1 1 L K S in
      ((refl, (tt, ((λ x l i. refl, refl, refl), (tt, (tt, (tt, (tt, (tt, (tt, (tt, (tt, (divided (9 * (L * L * K)) 1000 (lit< tt), (tt, ((ceil_up (9 * (L * L * K)) 1000 (lit< tt), root_is m), (tt, ((over_root m (18500 + 36 * S) 100 few (lit< tt), (refl, tt)), (tt, (up_root m (18500 + 36 * S) 100 few (lit< tt), (tt, tt))))))))))))))))))), (tt, (tt, (tt, (tt, (tt, (square_holds (facts 1 (asked1 h 1 p)) (given 1) (9 * (L * L * K)) 1000 (36 * S) 100 (18500 + 36 * S) m no_more fair (omega arith) (omega arith) (omega arith) (λ x l. some) 65 (λ x. x) (λ x. x) (λ x. x), (result_holds (facts 1 (asked1 h 1 p)) (given 1) (9 * (L * L * K)) 1000 (36 * S) (Square 100 (18500 + 36 * S) m) no_more fair pr.thickness_low pr.thickness_high 77 (λ x. x) (λ x. x) (λ x. x), (tt, tt)))))))))

  -- rule 1 of kind 2
  pub first_2 : PlateRanges 2 p → Section 2 (asked1 h 2 p) (plate_first h 2 p (work_of h 2 p))
  unfolding says templates rule_numbers ruled plate_first shape1
  first_2 pr =
      let m = ceil_of (9 * (L * L * K)) 1000 in
      let few : ceil_of (9 * (L * L * K)) 1000 < 4294967296 = omega (arith, ceil_most (9 * (L * L * K)) 1000 1640250000 (lit< tt) (omega (arith, length_high pr))) in
      let some : 0 < ceil_of (9 * (L * L * K)) 1000 = omega (arith, ceil_covers (9 * (L * L * K)) 1000 (lit< tt), length_low pr) in
      let fair = says1 2 L K S in
      ((refl, (tt, ((λ x l i. refl, refl, refl), (tt, (tt, (tt, (tt, (tt, (tt, (tt, (tt, (divided (9 * (L * L * K)) 1000 (lit< tt), (tt, ((ceil_up (9 * (L * L * K)) 1000 (lit< tt), root_is m), (tt, ((over_root m (11000 + 36 * S) 100 few (lit< tt), (refl, tt)), (tt, (up_root m (11000 + 36 * S) 100 few (lit< tt), (tt, tt))))))))))))))))))), (tt, (tt, (tt, (tt, (tt, (square_holds (facts 2 (asked1 h 2 p)) (given 2) (9 * (L * L * K)) 1000 (36 * S) 100 (11000 + 36 * S) m no_more fair (omega arith) (omega arith) (omega arith) (λ x l. some) 65 (λ x. x) (λ x. x) (λ x. x), (result_holds (facts 2 (asked1 h 2 p)) (given 2) (9 * (L * L * K)) 1000 (36 * S) (Square 100 (11000 + 36 * S) m) no_more fair pr.thickness_low pr.thickness_high 77 (λ x. x) (λ x. x) (λ x. x), (tt, tt)))))))))

  -- rule 1 of kind 3
  pub first_3 : PlateRanges 3 p → Section 3 (asked1 h 3 p) (plate_first h 3 p (work_of h 3 p))
  unfolding says templates rule_numbers ruled plate_first shape1
  first_3 pr =
      let m = ceil_of (8 * (L * L * K)) 3125 in
      let few : ceil_of (8 * (L * L * K)) 3125 < 4294967296 = omega (arith, ceil_most (8 * (L * L * K)) 3125 466560000 (lit< tt) (omega (arith, length_high pr))) in
      let some : 0 < ceil_of (8 * (L * L * K)) 3125 = omega (arith, ceil_covers (8 * (L * L * K)) 3125 (lit< tt), length_low pr) in
      let fair = says1 3 L K S in
      ((refl, (tt, ((λ x l i. refl, refl, refl), (tt, (tt, (tt, (tt, (tt, (tt, (tt, (tt, (divided (8 * (L * L * K)) 3125 (lit< tt), (tt, ((ceil_up (8 * (L * L * K)) 3125 (lit< tt), root_is m), (tt, ((over_root m (15000 + 36 * S) 100 few (lit< tt), (refl, tt)), (tt, (up_root m (15000 + 36 * S) 100 few (lit< tt), (tt, tt))))))))))))))))))), (tt, (tt, (tt, (tt, (tt, (square_holds (facts 3 (asked1 h 3 p)) (given 3) (8 * (L * L * K)) 3125 (36 * S) 100 (15000 + 36 * S) m no_more fair (omega arith) (omega arith) (omega arith) (λ x l. some) 65 (λ x. x) (λ x. x) (λ x. x), (result_holds (facts 3 (asked1 h 3 p)) (given 3) (8 * (L * L * K)) 3125 (36 * S) (Square 100 (15000 + 36 * S) m) no_more fair pr.thickness_low pr.thickness_high 77 (λ x. x) (λ x. x) (λ x. x), (tt, tt)))))))))

  -- rule 1 of kind 4
  pub first_4 : PlateRanges 4 p → Section 4 (asked1 h 4 p) (plate_first h 4 p (work_of h 4 p))
  unfolding says templates rule_numbers ruled plate_first shape1
  first_4 pr =
      let m = ceil_of (8 * (L * L * K)) 3125 in
      let few : ceil_of (8 * (L * L * K)) 3125 < 4294967296 = omega (arith, ceil_most (8 * (L * L * K)) 3125 466560000 (lit< tt) (omega (arith, length_high pr))) in
      let some : 0 < ceil_of (8 * (L * L * K)) 3125 = omega (arith, ceil_covers (8 * (L * L * K)) 3125 (lit< tt), length_low pr) in
      let fair = says1 4 L K S in
      ((refl, (tt, ((λ x l i. refl, refl, refl), (tt, (tt, (tt, (tt, (tt, (tt, (tt, (tt, (divided (8 * (L * L * K)) 3125 (lit< tt), (tt, ((ceil_up (8 * (L * L * K)) 3125 (lit< tt), root_is m), (tt, ((over_root m (15000 + 36 * S) 100 few (lit< tt), (refl, tt)), (tt, (up_root m (15000 + 36 * S) 100 few (lit< tt), (tt, tt))))))))))))))))))), (tt, (tt, (tt, (tt, (tt, (square_holds (facts 4 (asked1 h 4 p)) (given 4) (8 * (L * L * K)) 3125 (36 * S) 100 (15000 + 36 * S) m no_more fair (omega arith) (omega arith) (omega arith) (λ x l. some) 65 (λ x. x) (λ x. x) (λ x. x), (result_holds (facts 4 (asked1 h 4 p)) (given 4) (8 * (L * L * K)) 3125 (36 * S) (Square 100 (15000 + 36 * S) m) no_more fair pr.thickness_low pr.thickness_high 77 (λ x. x) (λ x. x) (λ x. x), (tt, tt)))))))))

  -- rule 2 of kind 1
  pub second_1 : PlateRanges 1 p → Section 1 (asked2 h 1 p) (plate_second 1 p (work_of h 1 p))
  unfolding says templates rule_numbers ruled plate_second shape2
  second_1 pr =
      let e = plate_pressure_lem h 1 p in
      let high : (plate_named h 1 p).pressure ≤ 200000000 = omega (arith, e, bottom_bound h.draught.0 h.wave.0 hr.draught_high hr.wave_high p.z.0 p.ballast p.tank_top.0 pr.tank_high) in
      let part : product (S * S * K) (plate_named h 1 p).pressure ≡ S * S * K * (plate_named h 1 p).pressure = product_fits (S * S * K) (plate_named h 1 p).pressure 4000000000 200000000 (spacing_high pr).1 high (omega arith) in
      let whole = part in
      let asked : (product (S * S * K) (plate_named h 1 p).pressure) ≡ S * S * K * plate_pressure h 1 p = whole ∙ ap (λ (x : ℕ). S * S * K * x) e in
      let fair = says2 1 K S (plate_pressure h 1 p) in
      let m = ceil_of (S * S * K * (plate_pressure h 1 p)) 39062500000 in
      ((refl, (tt, ((λ x l i. ap (λ (y : ℕ). leb (S * S * K * y) (39062500000 * (x * x))) e, refl, refl), (tt, (tt, (tt, (tt, (tt, (tt, (tt, (tt, (divided_as (S * S * K * (plate_named h 1 p).pressure) 39062500000 whole refl (lit< tt), (tt, ((ceil_as (S * S * K * (plate_pressure h 1 p)) 39062500000 asked refl (lit< tt), root_is m), (tt, tt))))))))))))))), (tt, (tt, (tt, (tt, (tt, (thick_holds (facts 1 (asked2 h 1 p)) (given 1) (product (S * S * K) (plate_named h 1 p).pressure) 39062500000 0 m no_more fair (omega arith) (omega arith), (result_holds (facts 1 (asked2 h 1 p)) (given 1) (product (S * S * K) (plate_named h 1 p).pressure) 39062500000 0 (Square 1 0 m) no_more fair pr.thickness_low pr.thickness_high 77 (λ x. x) (λ x. x) (λ x. x), (tt, tt)))))))))

  -- rule 2 of kind 2
  pub second_2 : PlateRanges 2 p → Section 2 (asked2 h 2 p) (plate_second 2 p (work_of h 2 p))
  unfolding says templates rule_numbers ruled plate_second shape2
  second_2 pr =
      let e = plate_pressure_lem h 2 p in
      let high : (plate_named h 2 p).pressure ≤ 200000000 = omega (arith, e, bottom_bound h.draught.0 h.wave.0 hr.draught_high hr.wave_high p.z.0 p.ballast p.tank_top.0 pr.tank_high) in
      let part : product (S * S * K) (plate_named h 2 p).pressure ≡ S * S * K * (plate_named h 2 p).pressure = product_fits (S * S * K) (plate_named h 2 p).pressure 4000000000 200000000 (spacing_high pr).1 high (omega arith) in
      let whole : (product 9 (product (S * S * K) (plate_named h 2 p).pressure)) ≡ 9 * (S * S * K * (plate_named h 2 p).pressure) = ap (product 9) part ∙ product_fits 9 (S * S * K * (plate_named h 2 p).pressure) 9 800000000000000000 (omega arith) (mul-le-mul (spacing_high pr).1 high) (omega arith) in
      let asked : (product 9 (product (S * S * K) (plate_named h 2 p).pressure)) ≡ 9 * (S * S * K * plate_pressure h 2 p) = whole ∙ ap (λ (x : ℕ). 9 * (S * S * K * x)) e in
      let fair = says2 2 K S (plate_pressure h 2 p) in
      let m = ceil_of (9 * (S * S * K * (plate_pressure h 2 p))) 625000000000 in
      ((refl, (tt, ((λ x l i. ap (λ (y : ℕ). leb (9 * (S * S * K * y)) (625000000000 * (x * x))) e, refl, refl), (tt, (tt, (tt, (tt, (tt, (tt, (tt, (tt, (divided_as (9 * (S * S * K * (plate_named h 2 p).pressure)) 625000000000 whole refl (lit< tt), (tt, ((ceil_as (9 * (S * S * K * (plate_pressure h 2 p))) 625000000000 asked refl (lit< tt), root_is m), (tt, tt))))))))))))))), (tt, (tt, (tt, (tt, (tt, (thick_holds (facts 2 (asked2 h 2 p)) (given 2) (product 9 (product (S * S * K) (plate_named h 2 p).pressure)) 625000000000 0 m no_more fair (omega arith) (omega arith), (result_holds (facts 2 (asked2 h 2 p)) (given 2) (product 9 (product (S * S * K) (plate_named h 2 p).pressure)) 625000000000 0 (Square 1 0 m) no_more fair pr.thickness_low pr.thickness_high 77 (λ x. x) (λ x. x) (λ x. x), (tt, tt)))))))))

  -- rule 2 of kind 3
  pub second_3 : PlateRanges 3 p → Section 3 (asked2 h 3 p) (plate_second 3 p (work_of h 3 p))
  unfolding says templates rule_numbers ruled plate_second shape2
  second_3 pr =
      let e = plate_pressure_lem h 3 p in
      let high : (plate_named h 3 p).pressure ≤ 200000000 = omega (arith, e, inner_bound p.cargo p.z.0 p.ballast p.tank_top.0 pr.cargo_high pr.tank_high) in
      let part : product (S * S * K) (plate_named h 3 p).pressure ≡ S * S * K * (plate_named h 3 p).pressure = product_fits (S * S * K) (plate_named h 3 p).pressure 4000000000 200000000 (spacing_high pr).1 high (omega arith) in
      let whole = part in
      let asked : (product (S * S * K) (plate_named h 3 p).pressure) ≡ S * S * K * plate_pressure h 3 p = whole ∙ ap (λ (x : ℕ). S * S * K * x) e in
      let fair = says2 3 K S (plate_pressure h 3 p) in
      let m = ceil_of (S * S * K * (plate_pressure h 3 p)) 39062500000 in
      ((refl, (tt, ((λ x l i. ap (λ (y : ℕ). leb (S * S * K * y) (39062500000 * (x * x))) e, refl, refl), (tt, (tt, (tt, (tt, (tt, (tt, (tt, (tt, (divided_as (S * S * K * (plate_named h 3 p).pressure) 39062500000 whole refl (lit< tt), (tt, ((ceil_as (S * S * K * (plate_pressure h 3 p)) 39062500000 asked refl (lit< tt), root_is m), (tt, tt))))))))))))))), (tt, (tt, (tt, (tt, (tt, (thick_holds (facts 3 (asked2 h 3 p)) (given 3) (product (S * S * K) (plate_named h 3 p).pressure) 39062500000 0 m no_more fair (omega arith) (omega arith), (result_holds (facts 3 (asked2 h 3 p)) (given 3) (product (S * S * K) (plate_named h 3 p).pressure) 39062500000 0 (Square 1 0 m) no_more fair pr.thickness_low pr.thickness_high 77 (λ x. x) (λ x. x) (λ x. x), (tt, tt)))))))))

  -- rule 2 of kind 4
  pub second_4 : PlateRanges 4 p → Section 4 (asked2 h 4 p) (plate_second 4 p (work_of h 4 p))
  unfolding says templates rule_numbers ruled plate_second shape2
  second_4 pr =
      let e = plate_pressure_lem h 4 p in
      let high : (plate_named h 4 p).pressure ≤ 200000000 = omega (arith, e, inner_bound p.cargo p.z.0 p.ballast p.tank_top.0 pr.cargo_high pr.tank_high) in
      let part : product (S * S * K) (plate_named h 4 p).pressure ≡ S * S * K * (plate_named h 4 p).pressure = product_fits (S * S * K) (plate_named h 4 p).pressure 4000000000 200000000 (spacing_high pr).1 high (omega arith) in
      let whole : (product 9 (product (S * S * K) (plate_named h 4 p).pressure)) ≡ 9 * (S * S * K * (plate_named h 4 p).pressure) = ap (product 9) part ∙ product_fits 9 (S * S * K * (plate_named h 4 p).pressure) 9 800000000000000000 (omega arith) (mul-le-mul (spacing_high pr).1 high) (omega arith) in
      let asked : (product 9 (product (S * S * K) (plate_named h 4 p).pressure)) ≡ 9 * (S * S * K * plate_pressure h 4 p) = whole ∙ ap (λ (x : ℕ). 9 * (S * S * K * x)) e in
      let fair = says2 4 K S (plate_pressure h 4 p) in
      let m = ceil_of (9 * (S * S * K * (plate_pressure h 4 p))) 625000000000 in
      ((refl, (tt, ((λ x l i. ap (λ (y : ℕ). leb (9 * (S * S * K * y)) (625000000000 * (x * x))) e, refl, refl), (tt, (tt, (tt, (tt, (tt, (tt, (tt, (tt, (divided_as (9 * (S * S * K * (plate_named h 4 p).pressure)) 625000000000 whole refl (lit< tt), (tt, ((ceil_as (9 * (S * S * K * (plate_pressure h 4 p))) 625000000000 asked refl (lit< tt), root_is m), (tt, tt))))))))))))))), (tt, (tt, (tt, (tt, (tt, (thick_holds (facts 4 (asked2 h 4 p)) (given 4) (product 9 (product (S * S * K) (plate_named h 4 p).pressure)) 625000000000 0 m no_more fair (omega arith) (omega arith), (result_holds (facts 4 (asked2 h 4 p)) (given 4) (product 9 (product (S * S * K) (plate_named h 4 p).pressure)) 625000000000 0 (Square 1 0 m) no_more fair pr.thickness_low pr.thickness_high 77 (λ x. x) (λ x. x) (λ x. x), (tt, tt)))))))))

  -- ---- rule 3

  abbrev side : ℕ
  side = 1000 * (p.b1.0 * p.b1.0 + p.b2.0 * p.b2.0) / (p.b1.0 * p.b1.0)

  -- the section of rule 3 in this form, with this shape
  abbrev third : (kind : ℕ) (long second : Bool) (k2 : ℕ) (d : Shape) → Told
  third kind long second k2 d =
      let R = R h.moment (plate_modulus h kind) in
      let f = form_of long second S K k2 R in
      ruled (bending_lines kind h.version side second (is_never d)) 68 0 (verdict_line (plate_verdict h kind p).rule (plate_verdict h kind p).required) f.p f.a 0 d thickness.high p.thickness.0
      (bending_more kind K h.moment (plate_modulus h kind) R p.b1.0 p.b2.0 f.a f.panel)

  abbrev Third : (kind : ℕ) (long second : Bool) (k2 : ℕ) (d : Shape) → Type 0
  Third kind long second k2 d = Section kind (asked3 h kind p) (third kind long second k2 d)

  abbrev stress : ℕ → ℕ
  stress kind = R h.moment (plate_modulus h kind)

  module _ (kind : ℕ) (own : List ℕ) where
    abbrev regs3 : Registers
    regs3 = record { given = given kind; own = own }

    note_line : (b : Bool) → ltb 1 h.version ≡ b → says (33 + bool_byte b) (facts kind (asked3 h kind p)) regs3
    unfolding says templates
    note_line false e = let l = ltb-false 1 h.version e in (tt, (omega (arith, named), (tt, tt)))
    note_line true e = (tt, tt)

  module _ (pr : PlateRanges 1 p) where
    -- what the numbers of rule 3 rest on
    modulus_1 : 0 < (plate_modulus h 1)
    modulus_1 = omega (arith, hr.modulus_low)

    stress_high_1 : (stress 1) ≤ 1000000000000
    stress_high_1 = R_high h.moment (plate_modulus h 1) hr.moment_high modulus_1

    side_low_1 : 0 < p.b1.0
    side_low_1 = omega (arith, pr.b1_low refl)

    k2_square_1 : product (K2 p.b1.0 p.b2.0) (K2 p.b1.0 p.b2.0) ≡ (K2 p.b1.0 p.b2.0) * (K2 p.b1.0 p.b2.0)
    k2_square_1 = let w = K2_range p.b1.0 p.b2.0 side_low_1 in product_fits (K2 p.b1.0 p.b2.0) (K2 p.b1.0 p.b2.0) 26000 26000 w.1 w.1 (omega arith)

    k2_high_1 : (1000000 ≤ (K2 p.b1.0 p.b2.0) * (K2 p.b1.0 p.b2.0)) × ((K2 p.b1.0 p.b2.0) * (K2 p.b1.0 p.b2.0) ≤ 676000000)
    k2_high_1 = let w = K2_range p.b1.0 p.b2.0 side_low_1 in (mul-le-mul w.0 w.0, mul-le-mul w.1 w.1)

    divisor_1 : (product 25 (product (K2 p.b1.0 p.b2.0) (K2 p.b1.0 p.b2.0))) ≡ (25 * ((K2 p.b1.0 p.b2.0) * (K2 p.b1.0 p.b2.0)))
    divisor_1 = ap (product 25) k2_square_1 ∙ product_fits 25 ((K2 p.b1.0 p.b2.0) * (K2 p.b1.0 p.b2.0)) 25 676000000 (omega arith) k2_high_1.1 (omega arith)

    last_1 : product (product 25 (product (K2 p.b1.0 p.b2.0) (K2 p.b1.0 p.b2.0))) 16000000 ≡ (25 * ((K2 p.b1.0 p.b2.0) * (K2 p.b1.0 p.b2.0))) * 16000000
    last_1 = ap (λ (x : ℕ). product x 16000000) divisor_1 ∙ product_fits (25 * ((K2 p.b1.0 p.b2.0) * (K2 p.b1.0 p.b2.0))) 16000000 16900000000 16000000 (omega (arith, k2_high_1)) (omega arith) (omega arith)

    panel_1 : 0 < (1156 * (S * S))
    panel_1 = omega (arith, spacing_low pr)

    third_1_first : is_second 1 K (stress 1) ≡ false → ltb ((25 * ((K2 p.b1.0 p.b2.0) * (K2 p.b1.0 p.b2.0))) * (thickness.high * thickness.high) / (1156 * (S * S))) (stress 1) ≡ false → Says (Square 1 0 (ceil_of ((1156 * (S * S)) * (stress 1)) (25 * ((K2 p.b1.0 p.b2.0) * (K2 p.b1.0 p.b2.0))))) thickness.high (asked3 h 1 p).asks → Third 1 false false (K2 p.b1.0 p.b2.0) (Square 1 0 (ceil_of ((1156 * (S * S)) * (stress 1)) (25 * ((K2 p.b1.0 p.b2.0) * (K2 p.b1.0 p.b2.0)))))
    unfolding says templates rule_numbers ruled form_of
    third_1_first e t fair = ((refl, (tt, tt)), (tt, ((tt, (tt, (tt, (tt, (tt, ((divided (1000000 * h.moment) (plate_modulus h 1) modulus_1, ceil_up (1000000 * h.moment) (plate_modulus h 1) modulus_1), (tt, tt))))))), (side_line (ltb 26000 side) refl, (fork, ((tt, ((λ x l i. sym (over_square (25 * ((K2 p.b1.0 p.b2.0) * (K2 p.b1.0 p.b2.0))) ((1156 * (S * S)) * (stress 1)) x some) ∙ fair x l i, refl, refl), (tt, (tt, (tt, (tt, (tt, (tt, (tt, (divided_as ((1156 * (S * S)) * (stress 1)) (25 * ((K2 p.b1.0 p.b2.0) * (K2 p.b1.0 p.b2.0))) top bottom some, (tt, ((ceil_as ((1156 * (S * S)) * (stress 1)) (25 * ((K2 p.b1.0 p.b2.0) * (K2 p.b1.0 p.b2.0))) top bottom some, root_is (ceil_of ((1156 * (S * S)) * (stress 1)) (25 * ((K2 p.b1.0 p.b2.0) * (K2 p.b1.0 p.b2.0))))), (tt, tt))))))))))))), (thick_holds (facts 1 (asked3 h 1 p)) (given 1) (product (1156 * (S * S)) (stress 1)) (product 25 (product (K2 p.b1.0 p.b2.0) (K2 p.b1.0 p.b2.0))) 0 (ceil_of ((1156 * (S * S)) * (stress 1)) (25 * ((K2 p.b1.0 p.b2.0) * (K2 p.b1.0 p.b2.0)))) (bending_more 1 K h.moment (plate_modulus h 1) (stress 1) p.b1.0 p.b2.0 (product 25 (product (K2 p.b1.0 p.b2.0) (K2 p.b1.0 p.b2.0))) (1156 * (S * S))) fair (omega arith) (omega arith), (result_holds (facts 1 (asked3 h 1 p)) (given 1) (product (1156 * (S * S)) (stress 1)) (product 25 (product (K2 p.b1.0 p.b2.0) (K2 p.b1.0 p.b2.0))) 0 (Square 1 0 (ceil_of ((1156 * (S * S)) * (stress 1)) (25 * ((K2 p.b1.0 p.b2.0) * (K2 p.b1.0 p.b2.0))))) (bending_more 1 K h.moment (plate_modulus h 1) (stress 1) p.b1.0 p.b2.0 (product 25 (product (K2 p.b1.0 p.b2.0) (K2 p.b1.0 p.b2.0))) (1156 * (S * S))) fair pr.thickness_low pr.thickness_high 77 (λ x. x) (λ x. x) (λ x. x), (verdict_holds (facts 1 (asked3 h 1 p)) (record { given = given 1; own = own }) refl refl, tt)))))))))
      where
        own : List ℕ
        own = rule_numbers (product (1156 * (S * S)) (stress 1)) (product 25 (product (K2 p.b1.0 p.b2.0) (K2 p.b1.0 p.b2.0))) 0 (Square 1 0 (ceil_of ((1156 * (S * S)) * (stress 1)) (25 * ((K2 p.b1.0 p.b2.0) * (K2 p.b1.0 p.b2.0))))) thickness.high p.thickness.0 (bending_more 1 K h.moment (plate_modulus h 1) (stress 1) p.b1.0 p.b2.0 (product 25 (product (K2 p.b1.0 p.b2.0) (K2 p.b1.0 p.b2.0))) (1156 * (S * S)))

        side_line : (b : Bool) → ltb 26000 side ≡ b → says (37 + bool_byte b) (facts 1 (asked3 h 1 p)) (record { given = given 1; own = rule_numbers (product (1156 * (S * S)) (stress 1)) (product 25 (product (K2 p.b1.0 p.b2.0) (K2 p.b1.0 p.b2.0))) 0 (Square 1 0 (ceil_of ((1156 * (S * S)) * (stress 1)) (25 * ((K2 p.b1.0 p.b2.0) * (K2 p.b1.0 p.b2.0))))) thickness.high p.thickness.0 (bending_more 1 K h.moment (plate_modulus h 1) (stress 1) p.b1.0 p.b2.0 (product 25 (product (K2 p.b1.0 p.b2.0) (K2 p.b1.0 p.b2.0))) (1156 * (S * S))) })
        side_line false e = (tt, (tt, (tt, (tt, (tt, ((divided (1000 * (p.b1.0 * p.b1.0 + p.b2.0 * p.b2.0)) (p.b1.0 * p.b1.0) (mul-pos side_low_1 side_low_1), k2_low p.b1.0 p.b2.0 (ltb-false 26000 side e)), (tt, tt)))))))
        side_line true e = (tt, (tt, (tt, (tt, (tt, ((divided (1000 * (p.b1.0 * p.b1.0 + p.b2.0 * p.b2.0)) (p.b1.0 * p.b1.0) (mul-pos side_low_1 side_low_1), ltb-true 26000 side e, k2_most p.b1.0 p.b2.0 (ltb-true 26000 side e)), (tt, tt)))))))

        forked : product (1156 * K) (stress 1) ≡ 1156 * K * (stress 1)
        forked = product_fits (1156 * K) (stress 1) (1156 * 1000) 1000000000000 (omega (arith, pr.factor_high)) stress_high_1 (omega arith)

        fork : says 39 (facts 1 (asked3 h 1 p)) (record { given = given 1; own = rule_numbers (product (1156 * (S * S)) (stress 1)) (product 25 (product (K2 p.b1.0 p.b2.0) (K2 p.b1.0 p.b2.0))) 0 (Square 1 0 (ceil_of ((1156 * (S * S)) * (stress 1)) (25 * ((K2 p.b1.0 p.b2.0) * (K2 p.b1.0 p.b2.0))))) thickness.high p.thickness.0 (bending_more 1 K h.moment (plate_modulus h 1) (stress 1) p.b1.0 p.b2.0 (product 25 (product (K2 p.b1.0 p.b2.0) (K2 p.b1.0 p.b2.0))) (1156 * (S * S))) })
        fork = (tt, ((forked, omega (arith, forked, ltb-false 121000000000 (1156 * K * (stress 1)) e)), (tt, (tt, (tt, tt)))))

        held : (1156 * (S * S)) * (stress 1) ≤ (25 * ((K2 p.b1.0 p.b2.0) * (K2 p.b1.0 p.b2.0))) * 16000000
        held = let l = ltb-false ((25 * ((K2 p.b1.0 p.b2.0) * (K2 p.b1.0 p.b2.0))) * (thickness.high * thickness.high) / (1156 * (S * S))) (stress 1) t in omega (arith, (le-div_iff_mul-le panel_1).0 l, mul_comm (1156 * (S * S)) (stress 1))

        top : (product (1156 * (S * S)) (stress 1)) ≡ ((1156 * (S * S)) * (stress 1))
        top = product_is (1156 * (S * S)) (stress 1) (omega (arith, held, k2_high_1))

        bottom : ◌≡◌ {A = ℕ} (product 25 (product (K2 p.b1.0 p.b2.0) (K2 p.b1.0 p.b2.0))) (25 * ((K2 p.b1.0 p.b2.0) * (K2 p.b1.0 p.b2.0)))
        bottom = divisor_1

        some : 0 < (25 * ((K2 p.b1.0 p.b2.0) * (K2 p.b1.0 p.b2.0)))
        some = omega (arith, k2_high_1)

    third_1_first_never : is_second 1 K (stress 1) ≡ false → ltb ((25 * ((K2 p.b1.0 p.b2.0) * (K2 p.b1.0 p.b2.0))) * (thickness.high * thickness.high) / (1156 * (S * S))) (stress 1) ≡ true → Says Never thickness.high (asked3 h 1 p).asks → Third 1 false false (K2 p.b1.0 p.b2.0) Never
    unfolding says templates rule_numbers ruled form_of
    third_1_first_never e t fair = ((refl, (tt, tt)), (tt, ((tt, (tt, (tt, (tt, (tt, ((divided (1000000 * h.moment) (plate_modulus h 1) modulus_1, ceil_up (1000000 * h.moment) (plate_modulus h 1) modulus_1), (tt, tt))))))), (side_line (ltb 26000 side) refl, (fork, ((tt, ((λ x l i. sym (over_never (25 * ((K2 p.b1.0 p.b2.0) * (K2 p.b1.0 p.b2.0))) (1156 * (S * S)) (stress 1) thickness.high panel_1 over x l i) ∙ fair x l i, refl, refl), (tt, (tt, (tt, (tt, (tt, (tt, (tt, ((refl, divided_as ((25 * ((K2 p.b1.0 p.b2.0) * (K2 p.b1.0 p.b2.0))) * (4000 * 4000)) (1156 * (S * S)) last_1 refl panel_1, omega (arith, over, reached), (λ x l i. sym (fair x l i))), (tt, tt))))))))))), (tt, (result_holds (facts 1 (asked3 h 1 p)) (given 1) (product (1156 * (S * S)) (stress 1)) (product 25 (product (K2 p.b1.0 p.b2.0) (K2 p.b1.0 p.b2.0))) 0 Never (bending_more 1 K h.moment (plate_modulus h 1) (stress 1) p.b1.0 p.b2.0 (product 25 (product (K2 p.b1.0 p.b2.0) (K2 p.b1.0 p.b2.0))) (1156 * (S * S))) fair pr.thickness_low pr.thickness_high 77 (λ x. x) (λ x. x) (λ x. x), (verdict_holds (facts 1 (asked3 h 1 p)) (record { given = given 1; own = own }) refl refl, tt)))))))))
      where
        own : List ℕ
        own = rule_numbers (product (1156 * (S * S)) (stress 1)) (product 25 (product (K2 p.b1.0 p.b2.0) (K2 p.b1.0 p.b2.0))) 0 Never thickness.high p.thickness.0 (bending_more 1 K h.moment (plate_modulus h 1) (stress 1) p.b1.0 p.b2.0 (product 25 (product (K2 p.b1.0 p.b2.0) (K2 p.b1.0 p.b2.0))) (1156 * (S * S)))

        side_line : (b : Bool) → ltb 26000 side ≡ b → says (37 + bool_byte b) (facts 1 (asked3 h 1 p)) (record { given = given 1; own = rule_numbers (product (1156 * (S * S)) (stress 1)) (product 25 (product (K2 p.b1.0 p.b2.0) (K2 p.b1.0 p.b2.0))) 0 Never thickness.high p.thickness.0 (bending_more 1 K h.moment (plate_modulus h 1) (stress 1) p.b1.0 p.b2.0 (product 25 (product (K2 p.b1.0 p.b2.0) (K2 p.b1.0 p.b2.0))) (1156 * (S * S))) })
        side_line false e = (tt, (tt, (tt, (tt, (tt, ((divided (1000 * (p.b1.0 * p.b1.0 + p.b2.0 * p.b2.0)) (p.b1.0 * p.b1.0) (mul-pos side_low_1 side_low_1), k2_low p.b1.0 p.b2.0 (ltb-false 26000 side e)), (tt, tt)))))))
        side_line true e = (tt, (tt, (tt, (tt, (tt, ((divided (1000 * (p.b1.0 * p.b1.0 + p.b2.0 * p.b2.0)) (p.b1.0 * p.b1.0) (mul-pos side_low_1 side_low_1), ltb-true 26000 side e, k2_most p.b1.0 p.b2.0 (ltb-true 26000 side e)), (tt, tt)))))))

        forked : product (1156 * K) (stress 1) ≡ 1156 * K * (stress 1)
        forked = product_fits (1156 * K) (stress 1) (1156 * 1000) 1000000000000 (omega (arith, pr.factor_high)) stress_high_1 (omega arith)

        fork : says 39 (facts 1 (asked3 h 1 p)) (record { given = given 1; own = rule_numbers (product (1156 * (S * S)) (stress 1)) (product 25 (product (K2 p.b1.0 p.b2.0) (K2 p.b1.0 p.b2.0))) 0 Never thickness.high p.thickness.0 (bending_more 1 K h.moment (plate_modulus h 1) (stress 1) p.b1.0 p.b2.0 (product 25 (product (K2 p.b1.0 p.b2.0) (K2 p.b1.0 p.b2.0))) (1156 * (S * S))) })
        fork = (tt, ((forked, omega (arith, forked, ltb-false 121000000000 (1156 * K * (stress 1)) e)), (tt, (tt, (tt, tt)))))

        over : (25 * ((K2 p.b1.0 p.b2.0) * (K2 p.b1.0 p.b2.0))) * (thickness.high * thickness.high) / (1156 * (S * S)) < (stress 1)
        over = ltb-true ((25 * ((K2 p.b1.0 p.b2.0) * (K2 p.b1.0 p.b2.0))) * (thickness.high * thickness.high) / (1156 * (S * S))) (stress 1) t

        reached : product (product 25 (product (K2 p.b1.0 p.b2.0) (K2 p.b1.0 p.b2.0))) 16000000 / (1156 * (S * S)) ≡ (25 * ((K2 p.b1.0 p.b2.0) * (K2 p.b1.0 p.b2.0))) * (thickness.high * thickness.high) / (1156 * (S * S))
        reached = ap (λ (x : ℕ). x / (1156 * (S * S))) last_1

    third_1_second : is_second 1 K (stress 1) ≡ true → ltb (stress 1) 210000 ≡ true → Says (Square 1 0 (ceil_of (504100000 * (S * S * K)) ((K2 p.b1.0 p.b2.0) * (K2 p.b1.0 p.b2.0) * (210000 - (stress 1))))) thickness.high (asked3 h 1 p).asks → Third 1 false true (K2 p.b1.0 p.b2.0) (Square 1 0 (ceil_of (504100000 * (S * S * K)) ((K2 p.b1.0 p.b2.0) * (K2 p.b1.0 p.b2.0) * (210000 - (stress 1)))))
    unfolding says templates rule_numbers ruled form_of
    third_1_second e t fair = ((refl, (tt, tt)), (tt, ((tt, (tt, (tt, (tt, (tt, ((divided (1000000 * h.moment) (plate_modulus h 1) modulus_1, ceil_up (1000000 * h.moment) (plate_modulus h 1) modulus_1), (tt, tt))))))), (side_line (ltb 26000 side) refl, (fork, ((tt, ((λ x l i. sym (over_square ((K2 p.b1.0 p.b2.0) * (K2 p.b1.0 p.b2.0) * (210000 - (stress 1))) (504100000 * (S * S * K)) x some) ∙ fair x l i, refl, refl), (tt, (tt, (tt, (tt, (tt, (tt, (tt, (tt, (tt, (divided_as (504100000 * (S * S * K)) ((K2 p.b1.0 p.b2.0) * (K2 p.b1.0 p.b2.0) * (210000 - (stress 1))) top bottom some, (tt, ((ceil_as (504100000 * (S * S * K)) ((K2 p.b1.0 p.b2.0) * (K2 p.b1.0 p.b2.0) * (210000 - (stress 1))) top bottom some, root_is (ceil_of (504100000 * (S * S * K)) ((K2 p.b1.0 p.b2.0) * (K2 p.b1.0 p.b2.0) * (210000 - (stress 1))))), (tt, tt))))))))))))))), (thick_holds (facts 1 (asked3 h 1 p)) (given 1) (product 504100000 (S * S * K)) (product (product (K2 p.b1.0 p.b2.0) (K2 p.b1.0 p.b2.0)) (210000 - (stress 1))) 0 (ceil_of (504100000 * (S * S * K)) ((K2 p.b1.0 p.b2.0) * (K2 p.b1.0 p.b2.0) * (210000 - (stress 1)))) (bending_more 1 K h.moment (plate_modulus h 1) (stress 1) p.b1.0 p.b2.0 (product (product (K2 p.b1.0 p.b2.0) (K2 p.b1.0 p.b2.0)) (210000 - (stress 1))) (1156 * (S * S))) fair (omega arith) (omega arith), (result_holds (facts 1 (asked3 h 1 p)) (given 1) (product 504100000 (S * S * K)) (product (product (K2 p.b1.0 p.b2.0) (K2 p.b1.0 p.b2.0)) (210000 - (stress 1))) 0 (Square 1 0 (ceil_of (504100000 * (S * S * K)) ((K2 p.b1.0 p.b2.0) * (K2 p.b1.0 p.b2.0) * (210000 - (stress 1))))) (bending_more 1 K h.moment (plate_modulus h 1) (stress 1) p.b1.0 p.b2.0 (product (product (K2 p.b1.0 p.b2.0) (K2 p.b1.0 p.b2.0)) (210000 - (stress 1))) (1156 * (S * S))) fair pr.thickness_low pr.thickness_high 77 (λ x. x) (λ x. x) (λ x. x), (verdict_holds (facts 1 (asked3 h 1 p)) (record { given = given 1; own = own }) refl refl, tt)))))))))
      where
        own : List ℕ
        own = rule_numbers (product 504100000 (S * S * K)) (product (product (K2 p.b1.0 p.b2.0) (K2 p.b1.0 p.b2.0)) (210000 - (stress 1))) 0 (Square 1 0 (ceil_of (504100000 * (S * S * K)) ((K2 p.b1.0 p.b2.0) * (K2 p.b1.0 p.b2.0) * (210000 - (stress 1))))) thickness.high p.thickness.0 (bending_more 1 K h.moment (plate_modulus h 1) (stress 1) p.b1.0 p.b2.0 (product (product (K2 p.b1.0 p.b2.0) (K2 p.b1.0 p.b2.0)) (210000 - (stress 1))) (1156 * (S * S)))

        side_line : (b : Bool) → ltb 26000 side ≡ b → says (37 + bool_byte b) (facts 1 (asked3 h 1 p)) (record { given = given 1; own = rule_numbers (product 504100000 (S * S * K)) (product (product (K2 p.b1.0 p.b2.0) (K2 p.b1.0 p.b2.0)) (210000 - (stress 1))) 0 (Square 1 0 (ceil_of (504100000 * (S * S * K)) ((K2 p.b1.0 p.b2.0) * (K2 p.b1.0 p.b2.0) * (210000 - (stress 1))))) thickness.high p.thickness.0 (bending_more 1 K h.moment (plate_modulus h 1) (stress 1) p.b1.0 p.b2.0 (product (product (K2 p.b1.0 p.b2.0) (K2 p.b1.0 p.b2.0)) (210000 - (stress 1))) (1156 * (S * S))) })
        side_line false e = (tt, (tt, (tt, (tt, (tt, ((divided (1000 * (p.b1.0 * p.b1.0 + p.b2.0 * p.b2.0)) (p.b1.0 * p.b1.0) (mul-pos side_low_1 side_low_1), k2_low p.b1.0 p.b2.0 (ltb-false 26000 side e)), (tt, tt)))))))
        side_line true e = (tt, (tt, (tt, (tt, (tt, ((divided (1000 * (p.b1.0 * p.b1.0 + p.b2.0 * p.b2.0)) (p.b1.0 * p.b1.0) (mul-pos side_low_1 side_low_1), ltb-true 26000 side e, k2_most p.b1.0 p.b2.0 (ltb-true 26000 side e)), (tt, tt)))))))

        forked : product (1156 * K) (stress 1) ≡ 1156 * K * (stress 1)
        forked = product_fits (1156 * K) (stress 1) (1156 * 1000) 1000000000000 (omega (arith, pr.factor_high)) stress_high_1 (omega arith)

        fork : says 40 (facts 1 (asked3 h 1 p)) (record { given = given 1; own = rule_numbers (product 504100000 (S * S * K)) (product (product (K2 p.b1.0 p.b2.0) (K2 p.b1.0 p.b2.0)) (210000 - (stress 1))) 0 (Square 1 0 (ceil_of (504100000 * (S * S * K)) ((K2 p.b1.0 p.b2.0) * (K2 p.b1.0 p.b2.0) * (210000 - (stress 1))))) thickness.high p.thickness.0 (bending_more 1 K h.moment (plate_modulus h 1) (stress 1) p.b1.0 p.b2.0 (product (product (K2 p.b1.0 p.b2.0) (K2 p.b1.0 p.b2.0)) (210000 - (stress 1))) (1156 * (S * S))) })
        fork = (tt, ((forked, omega (arith, forked, ltb-true 121000000000 (1156 * K * (stress 1)) e)), (tt, (tt, (tt, tt)))))

        rest : 1 ≤ 210000 - (stress 1)
        rest = let l = ltb-true (stress 1) 210000 t in omega arith

        top : (product 504100000 (S * S * K)) ≡ (504100000 * (S * S * K))
        top = product_fits 504100000 (S * S * K) 504100000 4000000000 (omega arith) (spacing_high pr).1 (omega arith)

        bottom : (product (product (K2 p.b1.0 p.b2.0) (K2 p.b1.0 p.b2.0)) (210000 - (stress 1))) ≡ ((K2 p.b1.0 p.b2.0) * (K2 p.b1.0 p.b2.0) * (210000 - (stress 1)))
        bottom = ap (λ (x : ℕ). product x (210000 - (stress 1))) k2_square_1 ∙ product_fits ((K2 p.b1.0 p.b2.0) * (K2 p.b1.0 p.b2.0)) (210000 - (stress 1)) 676000000 210000 k2_high_1.1 (omega arith) (omega arith)

        some : 0 < ((K2 p.b1.0 p.b2.0) * (K2 p.b1.0 p.b2.0) * (210000 - (stress 1)))
        some = mul-pos (omega (arith, k2_high_1)) rest

    third_1_second_never : is_second 1 K (stress 1) ≡ true → ltb (stress 1) 210000 ≡ false → Says Never thickness.high (asked3 h 1 p).asks → Third 1 false true (K2 p.b1.0 p.b2.0) Never
    unfolding says templates rule_numbers ruled form_of
    third_1_second_never e t fair = ((refl, (tt, tt)), (tt, ((tt, (tt, (tt, (tt, (tt, ((divided (1000000 * h.moment) (plate_modulus h 1) modulus_1, ceil_up (1000000 * h.moment) (plate_modulus h 1) modulus_1), (tt, tt))))))), (side_line (ltb 26000 side) refl, (fork, ((tt, (tt, (tt, (tt, (tt, (tt, (tt, (tt, (tt, (tt, (tt, ((ltb-false (stress 1) 210000 t, (λ x l i. sym (fair x l i))), (tt, tt))))))))))))), (tt, (result_holds (facts 1 (asked3 h 1 p)) (given 1) (product 504100000 (S * S * K)) (product (product (K2 p.b1.0 p.b2.0) (K2 p.b1.0 p.b2.0)) (210000 - (stress 1))) 0 Never (bending_more 1 K h.moment (plate_modulus h 1) (stress 1) p.b1.0 p.b2.0 (product (product (K2 p.b1.0 p.b2.0) (K2 p.b1.0 p.b2.0)) (210000 - (stress 1))) (1156 * (S * S))) fair pr.thickness_low pr.thickness_high 77 (λ x. x) (λ x. x) (λ x. x), (verdict_holds (facts 1 (asked3 h 1 p)) (record { given = given 1; own = own }) refl refl, tt)))))))))
      where
        own : List ℕ
        own = rule_numbers (product 504100000 (S * S * K)) (product (product (K2 p.b1.0 p.b2.0) (K2 p.b1.0 p.b2.0)) (210000 - (stress 1))) 0 Never thickness.high p.thickness.0 (bending_more 1 K h.moment (plate_modulus h 1) (stress 1) p.b1.0 p.b2.0 (product (product (K2 p.b1.0 p.b2.0) (K2 p.b1.0 p.b2.0)) (210000 - (stress 1))) (1156 * (S * S)))

        side_line : (b : Bool) → ltb 26000 side ≡ b → says (37 + bool_byte b) (facts 1 (asked3 h 1 p)) (record { given = given 1; own = rule_numbers (product 504100000 (S * S * K)) (product (product (K2 p.b1.0 p.b2.0) (K2 p.b1.0 p.b2.0)) (210000 - (stress 1))) 0 Never thickness.high p.thickness.0 (bending_more 1 K h.moment (plate_modulus h 1) (stress 1) p.b1.0 p.b2.0 (product (product (K2 p.b1.0 p.b2.0) (K2 p.b1.0 p.b2.0)) (210000 - (stress 1))) (1156 * (S * S))) })
        side_line false e = (tt, (tt, (tt, (tt, (tt, ((divided (1000 * (p.b1.0 * p.b1.0 + p.b2.0 * p.b2.0)) (p.b1.0 * p.b1.0) (mul-pos side_low_1 side_low_1), k2_low p.b1.0 p.b2.0 (ltb-false 26000 side e)), (tt, tt)))))))
        side_line true e = (tt, (tt, (tt, (tt, (tt, ((divided (1000 * (p.b1.0 * p.b1.0 + p.b2.0 * p.b2.0)) (p.b1.0 * p.b1.0) (mul-pos side_low_1 side_low_1), ltb-true 26000 side e, k2_most p.b1.0 p.b2.0 (ltb-true 26000 side e)), (tt, tt)))))))

        forked : product (1156 * K) (stress 1) ≡ 1156 * K * (stress 1)
        forked = product_fits (1156 * K) (stress 1) (1156 * 1000) 1000000000000 (omega (arith, pr.factor_high)) stress_high_1 (omega arith)

        fork : says 40 (facts 1 (asked3 h 1 p)) (record { given = given 1; own = rule_numbers (product 504100000 (S * S * K)) (product (product (K2 p.b1.0 p.b2.0) (K2 p.b1.0 p.b2.0)) (210000 - (stress 1))) 0 Never thickness.high p.thickness.0 (bending_more 1 K h.moment (plate_modulus h 1) (stress 1) p.b1.0 p.b2.0 (product (product (K2 p.b1.0 p.b2.0) (K2 p.b1.0 p.b2.0)) (210000 - (stress 1))) (1156 * (S * S))) })
        fork = (tt, ((forked, omega (arith, forked, ltb-true 121000000000 (1156 * K * (stress 1)) e)), (tt, (tt, (tt, tt)))))

    by_first_1 : is_second 1 K (stress 1) ≡ false → (t : Bool) → ltb ((25 * ((K2 p.b1.0 p.b2.0) * (K2 p.b1.0 p.b2.0))) * (thickness.high * thickness.high) / (1156 * (S * S))) (stress 1) ≡ t
        → Says (cond t Never (Square 1 0 (ceil_of ((1156 * (S * S)) * (stress 1)) (25 * ((K2 p.b1.0 p.b2.0) * (K2 p.b1.0 p.b2.0)))))) thickness.high (asked3 h 1 p).asks → Third 1 false false (K2 p.b1.0 p.b2.0) (cond t Never (Square 1 0 (ceil_of ((1156 * (S * S)) * (stress 1)) (25 * ((K2 p.b1.0 p.b2.0) * (K2 p.b1.0 p.b2.0))))))
    by_first_1 e true t fair = third_1_first_never e t fair
    by_first_1 e false t fair = third_1_first e t fair

    by_second_1 : is_second 1 K (stress 1) ≡ true → (t : Bool) → ltb (stress 1) 210000 ≡ t → Says (cond t (Square 1 0 (ceil_of (504100000 * (S * S * K)) ((K2 p.b1.0 p.b2.0) * (K2 p.b1.0 p.b2.0) * (210000 - (stress 1))))) Never) thickness.high (asked3 h 1 p).asks → Third 1 false true (K2 p.b1.0 p.b2.0) (cond t (Square 1 0 (ceil_of (504100000 * (S * S * K)) ((K2 p.b1.0 p.b2.0) * (K2 p.b1.0 p.b2.0) * (210000 - (stress 1))))) Never)
    by_second_1 e true t fair = third_1_second e t fair
    by_second_1 e false t fair = third_1_second_never e t fair

    by_form_1 : (b : Bool) → is_second 1 K (stress 1) ≡ b → Says (cond b (cond (ltb (stress 1) 210000) (Square 1 0 (ceil_of (504100000 * (S * S * K)) ((K2 p.b1.0 p.b2.0) * (K2 p.b1.0 p.b2.0) * (210000 - (stress 1))))) Never) (cond (ltb ((25 * ((K2 p.b1.0 p.b2.0) * (K2 p.b1.0 p.b2.0))) * (thickness.high * thickness.high) / (1156 * (S * S))) (stress 1)) Never (Square 1 0 (ceil_of ((1156 * (S * S)) * (stress 1)) (25 * ((K2 p.b1.0 p.b2.0) * (K2 p.b1.0 p.b2.0))))))) thickness.high (asked3 h 1 p).asks → Third 1 false b (K2 p.b1.0 p.b2.0) (cond b (cond (ltb (stress 1) 210000) (Square 1 0 (ceil_of (504100000 * (S * S * K)) ((K2 p.b1.0 p.b2.0) * (K2 p.b1.0 p.b2.0) * (210000 - (stress 1))))) Never) (cond (ltb ((25 * ((K2 p.b1.0 p.b2.0) * (K2 p.b1.0 p.b2.0))) * (thickness.high * thickness.high) / (1156 * (S * S))) (stress 1)) Never (Square 1 0 (ceil_of ((1156 * (S * S)) * (stress 1)) (25 * ((K2 p.b1.0 p.b2.0) * (K2 p.b1.0 p.b2.0)))))))
    by_form_1 true e fair = by_second_1 e (ltb (stress 1) 210000) refl fair
    by_form_1 false e fair = by_first_1 e (ltb ((25 * ((K2 p.b1.0 p.b2.0) * (K2 p.b1.0 p.b2.0))) * (thickness.high * thickness.high) / (1156 * (S * S))) (stress 1)) refl fair

    -- rule 3 of kind 1
    pub third_1 : Section 1 (asked3 h 1 p) (plate_third h 1 p (work_of h 1 p))
    unfolding plate_third shape3 first_shape second_shape
    third_1 = by_form_1 (is_second 1 K (stress 1)) refl (says3 {kind = 1} {S = S} {b1 = p.b1.0} p.b2.0 (stress 1) (record { spacing_low = pr.spacing_low; spacing_high = pr.spacing_high; b1_low = λ e. omega (arith, pr.b1_low e) }) K)

  module _ (pr : PlateRanges 2 p) where
    -- what the numbers of rule 3 rest on
    modulus_2 : 0 < (plate_modulus h 2)
    modulus_2 = omega (arith, hr.modulus_low)

    stress_high_2 : (stress 2) ≤ 1000000000000
    stress_high_2 = R_high h.moment (plate_modulus h 2) hr.moment_high modulus_2

    divisor_2 : ◌≡◌ {A = ℕ} 100000000 100000000
    divisor_2 = refl

    last_2 : product 100000000 16000000 ≡ 100000000 * 16000000
    last_2 = ap (λ (x : ℕ). product x 16000000) divisor_2 ∙ product_fits 100000000 16000000 100000000 16000000 (omega arith) (omega arith) (omega arith)

    panel_2 : 0 < (1521 * (S * S))
    panel_2 = omega (arith, spacing_low pr)

    third_2_first : is_second 2 K (stress 2) ≡ false → ltb (100000000 * (thickness.high * thickness.high) / (1521 * (S * S))) (stress 2) ≡ false → Says (Square 1 0 (ceil_of ((1521 * (S * S)) * (stress 2)) 100000000)) thickness.high (asked3 h 2 p).asks → Third 2 true false 0 (Square 1 0 (ceil_of ((1521 * (S * S)) * (stress 2)) 100000000))
    unfolding says templates rule_numbers ruled form_of
    third_2_first e t fair = ((refl, (tt, tt)), (tt, ((tt, (tt, (tt, (tt, (tt, ((divided (1000000 * h.moment) (plate_modulus h 2) modulus_2, ceil_up (1000000 * h.moment) (plate_modulus h 2) modulus_2), (tt, tt))))))), (tt, (fork, ((tt, ((λ x l i. sym (over_square 100000000 ((1521 * (S * S)) * (stress 2)) x some) ∙ fair x l i, refl, refl), (tt, (tt, (tt, (tt, (tt, (divided_as ((1521 * (S * S)) * (stress 2)) 100000000 top bottom some, (tt, ((ceil_as ((1521 * (S * S)) * (stress 2)) 100000000 top bottom some, root_is (ceil_of ((1521 * (S * S)) * (stress 2)) 100000000)), (tt, tt))))))))))), (thick_holds (facts 2 (asked3 h 2 p)) (given 2) (product (1521 * (S * S)) (stress 2)) 100000000 0 (ceil_of ((1521 * (S * S)) * (stress 2)) 100000000) (bending_more 2 K h.moment (plate_modulus h 2) (stress 2) p.b1.0 p.b2.0 100000000 (1521 * (S * S))) fair (omega arith) (omega arith), (result_holds (facts 2 (asked3 h 2 p)) (given 2) (product (1521 * (S * S)) (stress 2)) 100000000 0 (Square 1 0 (ceil_of ((1521 * (S * S)) * (stress 2)) 100000000)) (bending_more 2 K h.moment (plate_modulus h 2) (stress 2) p.b1.0 p.b2.0 100000000 (1521 * (S * S))) fair pr.thickness_low pr.thickness_high 77 (λ x. x) (λ x. x) (λ x. x), (verdict_holds (facts 2 (asked3 h 2 p)) (record { given = given 2; own = own }) refl refl, tt)))))))))
      where
        own : List ℕ
        own = rule_numbers (product (1521 * (S * S)) (stress 2)) 100000000 0 (Square 1 0 (ceil_of ((1521 * (S * S)) * (stress 2)) 100000000)) thickness.high p.thickness.0 (bending_more 2 K h.moment (plate_modulus h 2) (stress 2) p.b1.0 p.b2.0 100000000 (1521 * (S * S)))

        forked : product (6084 * K) (stress 2) ≡ 6084 * K * (stress 2)
        forked = product_fits (6084 * K) (stress 2) (6084 * 1000) 1000000000000 (omega (arith, pr.factor_high)) stress_high_2 (omega arith)

        fork : says 41 (facts 2 (asked3 h 2 p)) (record { given = given 2; own = rule_numbers (product (1521 * (S * S)) (stress 2)) 100000000 0 (Square 1 0 (ceil_of ((1521 * (S * S)) * (stress 2)) 100000000)) thickness.high p.thickness.0 (bending_more 2 K h.moment (plate_modulus h 2) (stress 2) p.b1.0 p.b2.0 100000000 (1521 * (S * S))) })
        fork = (tt, ((forked, omega (arith, forked, ltb-false 625000000000 (6084 * K * (stress 2)) e)), (tt, (tt, (tt, tt)))))

        held : (1521 * (S * S)) * (stress 2) ≤ 100000000 * 16000000
        held = let l = ltb-false (100000000 * (thickness.high * thickness.high) / (1521 * (S * S))) (stress 2) t in omega (arith, (le-div_iff_mul-le panel_2).0 l, mul_comm (1521 * (S * S)) (stress 2))

        top : (product (1521 * (S * S)) (stress 2)) ≡ ((1521 * (S * S)) * (stress 2))
        top = product_is (1521 * (S * S)) (stress 2) (omega (arith, held))

        bottom : ◌≡◌ {A = ℕ} 100000000 100000000
        bottom = divisor_2

        some : 0 < 100000000
        some = lit< tt

    third_2_first_never : is_second 2 K (stress 2) ≡ false → ltb (100000000 * (thickness.high * thickness.high) / (1521 * (S * S))) (stress 2) ≡ true → Says Never thickness.high (asked3 h 2 p).asks → Third 2 true false 0 Never
    unfolding says templates rule_numbers ruled form_of
    third_2_first_never e t fair = ((refl, (tt, tt)), (tt, ((tt, (tt, (tt, (tt, (tt, ((divided (1000000 * h.moment) (plate_modulus h 2) modulus_2, ceil_up (1000000 * h.moment) (plate_modulus h 2) modulus_2), (tt, tt))))))), (tt, (fork, ((tt, ((λ x l i. sym (over_never 100000000 (1521 * (S * S)) (stress 2) thickness.high panel_2 over x l i) ∙ fair x l i, refl, refl), (tt, (tt, (tt, (tt, (tt, ((refl, divided_as (100000000 * (4000 * 4000)) (1521 * (S * S)) last_2 refl panel_2, omega (arith, over, reached), (λ x l i. sym (fair x l i))), (tt, tt))))))))), (tt, (result_holds (facts 2 (asked3 h 2 p)) (given 2) (product (1521 * (S * S)) (stress 2)) 100000000 0 Never (bending_more 2 K h.moment (plate_modulus h 2) (stress 2) p.b1.0 p.b2.0 100000000 (1521 * (S * S))) fair pr.thickness_low pr.thickness_high 77 (λ x. x) (λ x. x) (λ x. x), (verdict_holds (facts 2 (asked3 h 2 p)) (record { given = given 2; own = own }) refl refl, tt)))))))))
      where
        own : List ℕ
        own = rule_numbers (product (1521 * (S * S)) (stress 2)) 100000000 0 Never thickness.high p.thickness.0 (bending_more 2 K h.moment (plate_modulus h 2) (stress 2) p.b1.0 p.b2.0 100000000 (1521 * (S * S)))

        forked : product (6084 * K) (stress 2) ≡ 6084 * K * (stress 2)
        forked = product_fits (6084 * K) (stress 2) (6084 * 1000) 1000000000000 (omega (arith, pr.factor_high)) stress_high_2 (omega arith)

        fork : says 41 (facts 2 (asked3 h 2 p)) (record { given = given 2; own = rule_numbers (product (1521 * (S * S)) (stress 2)) 100000000 0 Never thickness.high p.thickness.0 (bending_more 2 K h.moment (plate_modulus h 2) (stress 2) p.b1.0 p.b2.0 100000000 (1521 * (S * S))) })
        fork = (tt, ((forked, omega (arith, forked, ltb-false 625000000000 (6084 * K * (stress 2)) e)), (tt, (tt, (tt, tt)))))

        over : 100000000 * (thickness.high * thickness.high) / (1521 * (S * S)) < (stress 2)
        over = ltb-true (100000000 * (thickness.high * thickness.high) / (1521 * (S * S))) (stress 2) t

        reached : product 100000000 16000000 / (1521 * (S * S)) ≡ 100000000 * (thickness.high * thickness.high) / (1521 * (S * S))
        reached = ap (λ (x : ℕ). x / (1521 * (S * S))) last_2

    third_2_second : is_second 2 K (stress 2) ≡ true → ltb (stress 2) 210000 ≡ true → Says (Square 1 0 (ceil_of (1681 * (S * S * K)) (10 * (210000 - (stress 2))))) thickness.high (asked3 h 2 p).asks → Third 2 true true 0 (Square 1 0 (ceil_of (1681 * (S * S * K)) (10 * (210000 - (stress 2)))))
    unfolding says templates rule_numbers ruled form_of
    third_2_second e t fair = ((refl, (tt, tt)), (tt, ((tt, (tt, (tt, (tt, (tt, ((divided (1000000 * h.moment) (plate_modulus h 2) modulus_2, ceil_up (1000000 * h.moment) (plate_modulus h 2) modulus_2), (tt, tt))))))), (tt, (fork, ((tt, ((λ x l i. sym (over_square (10 * (210000 - (stress 2))) (1681 * (S * S * K)) x some) ∙ fair x l i, refl, refl), (tt, (tt, (tt, (tt, (tt, (tt, (tt, (divided_as (1681 * (S * S * K)) (10 * (210000 - (stress 2))) top bottom some, (tt, ((ceil_as (1681 * (S * S * K)) (10 * (210000 - (stress 2))) top bottom some, root_is (ceil_of (1681 * (S * S * K)) (10 * (210000 - (stress 2))))), (tt, tt))))))))))))), (thick_holds (facts 2 (asked3 h 2 p)) (given 2) (1681 * (S * S * K)) (product 10 (210000 - (stress 2))) 0 (ceil_of (1681 * (S * S * K)) (10 * (210000 - (stress 2)))) (bending_more 2 K h.moment (plate_modulus h 2) (stress 2) p.b1.0 p.b2.0 (product 10 (210000 - (stress 2))) (1521 * (S * S))) fair (omega arith) (omega arith), (result_holds (facts 2 (asked3 h 2 p)) (given 2) (1681 * (S * S * K)) (product 10 (210000 - (stress 2))) 0 (Square 1 0 (ceil_of (1681 * (S * S * K)) (10 * (210000 - (stress 2))))) (bending_more 2 K h.moment (plate_modulus h 2) (stress 2) p.b1.0 p.b2.0 (product 10 (210000 - (stress 2))) (1521 * (S * S))) fair pr.thickness_low pr.thickness_high 77 (λ x. x) (λ x. x) (λ x. x), (verdict_holds (facts 2 (asked3 h 2 p)) (record { given = given 2; own = own }) refl refl, tt)))))))))
      where
        own : List ℕ
        own = rule_numbers (1681 * (S * S * K)) (product 10 (210000 - (stress 2))) 0 (Square 1 0 (ceil_of (1681 * (S * S * K)) (10 * (210000 - (stress 2))))) thickness.high p.thickness.0 (bending_more 2 K h.moment (plate_modulus h 2) (stress 2) p.b1.0 p.b2.0 (product 10 (210000 - (stress 2))) (1521 * (S * S)))

        forked : product (6084 * K) (stress 2) ≡ 6084 * K * (stress 2)
        forked = product_fits (6084 * K) (stress 2) (6084 * 1000) 1000000000000 (omega (arith, pr.factor_high)) stress_high_2 (omega arith)

        fork : says 42 (facts 2 (asked3 h 2 p)) (record { given = given 2; own = rule_numbers (1681 * (S * S * K)) (product 10 (210000 - (stress 2))) 0 (Square 1 0 (ceil_of (1681 * (S * S * K)) (10 * (210000 - (stress 2))))) thickness.high p.thickness.0 (bending_more 2 K h.moment (plate_modulus h 2) (stress 2) p.b1.0 p.b2.0 (product 10 (210000 - (stress 2))) (1521 * (S * S))) })
        fork = (tt, ((forked, omega (arith, forked, ltb-true 625000000000 (6084 * K * (stress 2)) e)), (tt, (tt, (tt, tt)))))

        rest : 1 ≤ 210000 - (stress 2)
        rest = let l = ltb-true (stress 2) 210000 t in omega arith

        top : (1681 * (S * S * K)) ≡ (1681 * (S * S * K))
        top = refl

        bottom : (product 10 (210000 - (stress 2))) ≡ (10 * (210000 - (stress 2)))
        bottom = product_fits 10 (210000 - (stress 2)) 10 210000 (omega arith) (omega arith) (omega arith)

        some : 0 < (10 * (210000 - (stress 2)))
        some = omega (arith, rest)

    third_2_second_never : is_second 2 K (stress 2) ≡ true → ltb (stress 2) 210000 ≡ false → Says Never thickness.high (asked3 h 2 p).asks → Third 2 true true 0 Never
    unfolding says templates rule_numbers ruled form_of
    third_2_second_never e t fair = ((refl, (tt, tt)), (tt, ((tt, (tt, (tt, (tt, (tt, ((divided (1000000 * h.moment) (plate_modulus h 2) modulus_2, ceil_up (1000000 * h.moment) (plate_modulus h 2) modulus_2), (tt, tt))))))), (tt, (fork, ((tt, (tt, (tt, (tt, (tt, (tt, (tt, (tt, (tt, ((ltb-false (stress 2) 210000 t, (λ x l i. sym (fair x l i))), (tt, tt))))))))))), (tt, (result_holds (facts 2 (asked3 h 2 p)) (given 2) (1681 * (S * S * K)) (product 10 (210000 - (stress 2))) 0 Never (bending_more 2 K h.moment (plate_modulus h 2) (stress 2) p.b1.0 p.b2.0 (product 10 (210000 - (stress 2))) (1521 * (S * S))) fair pr.thickness_low pr.thickness_high 77 (λ x. x) (λ x. x) (λ x. x), (verdict_holds (facts 2 (asked3 h 2 p)) (record { given = given 2; own = own }) refl refl, tt)))))))))
      where
        own : List ℕ
        own = rule_numbers (1681 * (S * S * K)) (product 10 (210000 - (stress 2))) 0 Never thickness.high p.thickness.0 (bending_more 2 K h.moment (plate_modulus h 2) (stress 2) p.b1.0 p.b2.0 (product 10 (210000 - (stress 2))) (1521 * (S * S)))

        forked : product (6084 * K) (stress 2) ≡ 6084 * K * (stress 2)
        forked = product_fits (6084 * K) (stress 2) (6084 * 1000) 1000000000000 (omega (arith, pr.factor_high)) stress_high_2 (omega arith)

        fork : says 42 (facts 2 (asked3 h 2 p)) (record { given = given 2; own = rule_numbers (1681 * (S * S * K)) (product 10 (210000 - (stress 2))) 0 Never thickness.high p.thickness.0 (bending_more 2 K h.moment (plate_modulus h 2) (stress 2) p.b1.0 p.b2.0 (product 10 (210000 - (stress 2))) (1521 * (S * S))) })
        fork = (tt, ((forked, omega (arith, forked, ltb-true 625000000000 (6084 * K * (stress 2)) e)), (tt, (tt, (tt, tt)))))

    by_first_2 : is_second 2 K (stress 2) ≡ false → (t : Bool) → ltb (100000000 * (thickness.high * thickness.high) / (1521 * (S * S))) (stress 2) ≡ t
        → Says (cond t Never (Square 1 0 (ceil_of ((1521 * (S * S)) * (stress 2)) 100000000))) thickness.high (asked3 h 2 p).asks → Third 2 true false 0 (cond t Never (Square 1 0 (ceil_of ((1521 * (S * S)) * (stress 2)) 100000000)))
    by_first_2 e true t fair = third_2_first_never e t fair
    by_first_2 e false t fair = third_2_first e t fair

    by_second_2 : is_second 2 K (stress 2) ≡ true → (t : Bool) → ltb (stress 2) 210000 ≡ t → Says (cond t (Square 1 0 (ceil_of (1681 * (S * S * K)) (10 * (210000 - (stress 2))))) Never) thickness.high (asked3 h 2 p).asks → Third 2 true true 0 (cond t (Square 1 0 (ceil_of (1681 * (S * S * K)) (10 * (210000 - (stress 2))))) Never)
    by_second_2 e true t fair = third_2_second e t fair
    by_second_2 e false t fair = third_2_second_never e t fair

    by_form_2 : (b : Bool) → is_second 2 K (stress 2) ≡ b → Says (cond b (cond (ltb (stress 2) 210000) (Square 1 0 (ceil_of (1681 * (S * S * K)) (10 * (210000 - (stress 2))))) Never) (cond (ltb (100000000 * (thickness.high * thickness.high) / (1521 * (S * S))) (stress 2)) Never (Square 1 0 (ceil_of ((1521 * (S * S)) * (stress 2)) 100000000)))) thickness.high (asked3 h 2 p).asks → Third 2 true b 0 (cond b (cond (ltb (stress 2) 210000) (Square 1 0 (ceil_of (1681 * (S * S * K)) (10 * (210000 - (stress 2))))) Never) (cond (ltb (100000000 * (thickness.high * thickness.high) / (1521 * (S * S))) (stress 2)) Never (Square 1 0 (ceil_of ((1521 * (S * S)) * (stress 2)) 100000000))))
    by_form_2 true e fair = by_second_2 e (ltb (stress 2) 210000) refl fair
    by_form_2 false e fair = by_first_2 e (ltb (100000000 * (thickness.high * thickness.high) / (1521 * (S * S))) (stress 2)) refl fair

    -- rule 3 of kind 2
    pub third_2 : Section 2 (asked3 h 2 p) (plate_third h 2 p (work_of h 2 p))
    unfolding plate_third shape3 first_shape second_shape
    third_2 = by_form_2 (is_second 2 K (stress 2)) refl (says3 {kind = 2} {S = S} {b1 = p.b1.0} p.b2.0 (stress 2) (record { spacing_low = pr.spacing_low; spacing_high = pr.spacing_high; b1_low = λ e. omega (arith, pr.b1_low e) }) K)

  module _ (pr : PlateRanges 3 p) where
    -- what the numbers of rule 3 rest on
    modulus_3 : 0 < (plate_modulus h 3)
    modulus_3 = omega (arith, hr.inner_low)

    stress_high_3 : (stress 3) ≤ 1000000000000
    stress_high_3 = R_high h.moment (plate_modulus h 3) hr.moment_high modulus_3

    side_low_3 : 0 < p.b1.0
    side_low_3 = omega (arith, pr.b1_low refl)

    k2_square_3 : product (K2 p.b1.0 p.b2.0) (K2 p.b1.0 p.b2.0) ≡ (K2 p.b1.0 p.b2.0) * (K2 p.b1.0 p.b2.0)
    k2_square_3 = let w = K2_range p.b1.0 p.b2.0 side_low_3 in product_fits (K2 p.b1.0 p.b2.0) (K2 p.b1.0 p.b2.0) 26000 26000 w.1 w.1 (omega arith)

    k2_high_3 : (1000000 ≤ (K2 p.b1.0 p.b2.0) * (K2 p.b1.0 p.b2.0)) × ((K2 p.b1.0 p.b2.0) * (K2 p.b1.0 p.b2.0) ≤ 676000000)
    k2_high_3 = let w = K2_range p.b1.0 p.b2.0 side_low_3 in (mul-le-mul w.0 w.0, mul-le-mul w.1 w.1)

    divisor_3 : (product 25 (product (K2 p.b1.0 p.b2.0) (K2 p.b1.0 p.b2.0))) ≡ (25 * ((K2 p.b1.0 p.b2.0) * (K2 p.b1.0 p.b2.0)))
    divisor_3 = ap (product 25) k2_square_3 ∙ product_fits 25 ((K2 p.b1.0 p.b2.0) * (K2 p.b1.0 p.b2.0)) 25 676000000 (omega arith) k2_high_3.1 (omega arith)

    last_3 : product (product 25 (product (K2 p.b1.0 p.b2.0) (K2 p.b1.0 p.b2.0))) 16000000 ≡ (25 * ((K2 p.b1.0 p.b2.0) * (K2 p.b1.0 p.b2.0))) * 16000000
    last_3 = ap (λ (x : ℕ). product x 16000000) divisor_3 ∙ product_fits (25 * ((K2 p.b1.0 p.b2.0) * (K2 p.b1.0 p.b2.0))) 16000000 16900000000 16000000 (omega (arith, k2_high_3)) (omega arith) (omega arith)

    panel_3 : 0 < (1156 * (S * S))
    panel_3 = omega (arith, spacing_low pr)

    third_3_first : ltb ((25 * ((K2 p.b1.0 p.b2.0) * (K2 p.b1.0 p.b2.0))) * (thickness.high * thickness.high) / (1156 * (S * S))) (stress 3) ≡ false → Says (Square 1 0 (ceil_of ((1156 * (S * S)) * (stress 3)) (25 * ((K2 p.b1.0 p.b2.0) * (K2 p.b1.0 p.b2.0))))) thickness.high (asked3 h 3 p).asks → Third 3 false false (K2 p.b1.0 p.b2.0) (Square 1 0 (ceil_of ((1156 * (S * S)) * (stress 3)) (25 * ((K2 p.b1.0 p.b2.0) * (K2 p.b1.0 p.b2.0)))))
    unfolding says templates rule_numbers ruled form_of
    third_3_first t fair = ((refl, (tt, tt)), (note_line 3 own (ltb 1 h.version) refl, (ratio_line (ltb 1 h.version), (side_line (ltb 26000 side) refl, (tt, ((tt, ((λ x l i. sym (over_square (25 * ((K2 p.b1.0 p.b2.0) * (K2 p.b1.0 p.b2.0))) ((1156 * (S * S)) * (stress 3)) x some) ∙ fair x l i, refl, refl), (tt, (tt, (tt, (tt, (tt, (tt, (tt, (divided_as ((1156 * (S * S)) * (stress 3)) (25 * ((K2 p.b1.0 p.b2.0) * (K2 p.b1.0 p.b2.0))) top bottom some, (tt, ((ceil_as ((1156 * (S * S)) * (stress 3)) (25 * ((K2 p.b1.0 p.b2.0) * (K2 p.b1.0 p.b2.0))) top bottom some, root_is (ceil_of ((1156 * (S * S)) * (stress 3)) (25 * ((K2 p.b1.0 p.b2.0) * (K2 p.b1.0 p.b2.0))))), (tt, tt))))))))))))), (thick_holds (facts 3 (asked3 h 3 p)) (given 3) (product (1156 * (S * S)) (stress 3)) (product 25 (product (K2 p.b1.0 p.b2.0) (K2 p.b1.0 p.b2.0))) 0 (ceil_of ((1156 * (S * S)) * (stress 3)) (25 * ((K2 p.b1.0 p.b2.0) * (K2 p.b1.0 p.b2.0)))) (bending_more 3 K h.moment (plate_modulus h 3) (stress 3) p.b1.0 p.b2.0 (product 25 (product (K2 p.b1.0 p.b2.0) (K2 p.b1.0 p.b2.0))) (1156 * (S * S))) fair (omega arith) (omega arith), (result_holds (facts 3 (asked3 h 3 p)) (given 3) (product (1156 * (S * S)) (stress 3)) (product 25 (product (K2 p.b1.0 p.b2.0) (K2 p.b1.0 p.b2.0))) 0 (Square 1 0 (ceil_of ((1156 * (S * S)) * (stress 3)) (25 * ((K2 p.b1.0 p.b2.0) * (K2 p.b1.0 p.b2.0))))) (bending_more 3 K h.moment (plate_modulus h 3) (stress 3) p.b1.0 p.b2.0 (product 25 (product (K2 p.b1.0 p.b2.0) (K2 p.b1.0 p.b2.0))) (1156 * (S * S))) fair pr.thickness_low pr.thickness_high 77 (λ x. x) (λ x. x) (λ x. x), (verdict_holds (facts 3 (asked3 h 3 p)) (record { given = given 3; own = own }) refl refl, tt)))))))))
      where
        own : List ℕ
        own = rule_numbers (product (1156 * (S * S)) (stress 3)) (product 25 (product (K2 p.b1.0 p.b2.0) (K2 p.b1.0 p.b2.0))) 0 (Square 1 0 (ceil_of ((1156 * (S * S)) * (stress 3)) (25 * ((K2 p.b1.0 p.b2.0) * (K2 p.b1.0 p.b2.0))))) thickness.high p.thickness.0 (bending_more 3 K h.moment (plate_modulus h 3) (stress 3) p.b1.0 p.b2.0 (product 25 (product (K2 p.b1.0 p.b2.0) (K2 p.b1.0 p.b2.0))) (1156 * (S * S)))

        ratio_line : (b : Bool) → says (35 + bool_byte b) (facts 3 (asked3 h 3 p)) (record { given = given 3; own = rule_numbers (product (1156 * (S * S)) (stress 3)) (product 25 (product (K2 p.b1.0 p.b2.0) (K2 p.b1.0 p.b2.0))) 0 (Square 1 0 (ceil_of ((1156 * (S * S)) * (stress 3)) (25 * ((K2 p.b1.0 p.b2.0) * (K2 p.b1.0 p.b2.0))))) thickness.high p.thickness.0 (bending_more 3 K h.moment (plate_modulus h 3) (stress 3) p.b1.0 p.b2.0 (product 25 (product (K2 p.b1.0 p.b2.0) (K2 p.b1.0 p.b2.0))) (1156 * (S * S))) })
        ratio_line false = (tt, (tt, (tt, (tt, (tt, ((divided (1000000 * h.moment) (plate_modulus h 3) modulus_3, ceil_up (1000000 * h.moment) (plate_modulus h 3) modulus_3), (tt, tt)))))))
        ratio_line true = (tt, (tt, (tt, (tt, (tt, ((divided (1000000 * h.moment) (plate_modulus h 3) modulus_3, ceil_up (1000000 * h.moment) (plate_modulus h 3) modulus_3), (tt, tt)))))))

        side_line : (b : Bool) → ltb 26000 side ≡ b → says (37 + bool_byte b) (facts 3 (asked3 h 3 p)) (record { given = given 3; own = rule_numbers (product (1156 * (S * S)) (stress 3)) (product 25 (product (K2 p.b1.0 p.b2.0) (K2 p.b1.0 p.b2.0))) 0 (Square 1 0 (ceil_of ((1156 * (S * S)) * (stress 3)) (25 * ((K2 p.b1.0 p.b2.0) * (K2 p.b1.0 p.b2.0))))) thickness.high p.thickness.0 (bending_more 3 K h.moment (plate_modulus h 3) (stress 3) p.b1.0 p.b2.0 (product 25 (product (K2 p.b1.0 p.b2.0) (K2 p.b1.0 p.b2.0))) (1156 * (S * S))) })
        side_line false e = (tt, (tt, (tt, (tt, (tt, ((divided (1000 * (p.b1.0 * p.b1.0 + p.b2.0 * p.b2.0)) (p.b1.0 * p.b1.0) (mul-pos side_low_3 side_low_3), k2_low p.b1.0 p.b2.0 (ltb-false 26000 side e)), (tt, tt)))))))
        side_line true e = (tt, (tt, (tt, (tt, (tt, ((divided (1000 * (p.b1.0 * p.b1.0 + p.b2.0 * p.b2.0)) (p.b1.0 * p.b1.0) (mul-pos side_low_3 side_low_3), ltb-true 26000 side e, k2_most p.b1.0 p.b2.0 (ltb-true 26000 side e)), (tt, tt)))))))

        held : (1156 * (S * S)) * (stress 3) ≤ (25 * ((K2 p.b1.0 p.b2.0) * (K2 p.b1.0 p.b2.0))) * 16000000
        held = let l = ltb-false ((25 * ((K2 p.b1.0 p.b2.0) * (K2 p.b1.0 p.b2.0))) * (thickness.high * thickness.high) / (1156 * (S * S))) (stress 3) t in omega (arith, (le-div_iff_mul-le panel_3).0 l, mul_comm (1156 * (S * S)) (stress 3))

        top : (product (1156 * (S * S)) (stress 3)) ≡ ((1156 * (S * S)) * (stress 3))
        top = product_is (1156 * (S * S)) (stress 3) (omega (arith, held, k2_high_3))

        bottom : ◌≡◌ {A = ℕ} (product 25 (product (K2 p.b1.0 p.b2.0) (K2 p.b1.0 p.b2.0))) (25 * ((K2 p.b1.0 p.b2.0) * (K2 p.b1.0 p.b2.0)))
        bottom = divisor_3

        some : 0 < (25 * ((K2 p.b1.0 p.b2.0) * (K2 p.b1.0 p.b2.0)))
        some = omega (arith, k2_high_3)

    third_3_first_never : ltb ((25 * ((K2 p.b1.0 p.b2.0) * (K2 p.b1.0 p.b2.0))) * (thickness.high * thickness.high) / (1156 * (S * S))) (stress 3) ≡ true → Says Never thickness.high (asked3 h 3 p).asks → Third 3 false false (K2 p.b1.0 p.b2.0) Never
    unfolding says templates rule_numbers ruled form_of
    third_3_first_never t fair = ((refl, (tt, tt)), (note_line 3 own (ltb 1 h.version) refl, (ratio_line (ltb 1 h.version), (side_line (ltb 26000 side) refl, (tt, ((tt, ((λ x l i. sym (over_never (25 * ((K2 p.b1.0 p.b2.0) * (K2 p.b1.0 p.b2.0))) (1156 * (S * S)) (stress 3) thickness.high panel_3 over x l i) ∙ fair x l i, refl, refl), (tt, (tt, (tt, (tt, (tt, (tt, (tt, ((refl, divided_as ((25 * ((K2 p.b1.0 p.b2.0) * (K2 p.b1.0 p.b2.0))) * (4000 * 4000)) (1156 * (S * S)) last_3 refl panel_3, omega (arith, over, reached), (λ x l i. sym (fair x l i))), (tt, tt))))))))))), (tt, (result_holds (facts 3 (asked3 h 3 p)) (given 3) (product (1156 * (S * S)) (stress 3)) (product 25 (product (K2 p.b1.0 p.b2.0) (K2 p.b1.0 p.b2.0))) 0 Never (bending_more 3 K h.moment (plate_modulus h 3) (stress 3) p.b1.0 p.b2.0 (product 25 (product (K2 p.b1.0 p.b2.0) (K2 p.b1.0 p.b2.0))) (1156 * (S * S))) fair pr.thickness_low pr.thickness_high 77 (λ x. x) (λ x. x) (λ x. x), (verdict_holds (facts 3 (asked3 h 3 p)) (record { given = given 3; own = own }) refl refl, tt)))))))))
      where
        own : List ℕ
        own = rule_numbers (product (1156 * (S * S)) (stress 3)) (product 25 (product (K2 p.b1.0 p.b2.0) (K2 p.b1.0 p.b2.0))) 0 Never thickness.high p.thickness.0 (bending_more 3 K h.moment (plate_modulus h 3) (stress 3) p.b1.0 p.b2.0 (product 25 (product (K2 p.b1.0 p.b2.0) (K2 p.b1.0 p.b2.0))) (1156 * (S * S)))

        ratio_line : (b : Bool) → says (35 + bool_byte b) (facts 3 (asked3 h 3 p)) (record { given = given 3; own = rule_numbers (product (1156 * (S * S)) (stress 3)) (product 25 (product (K2 p.b1.0 p.b2.0) (K2 p.b1.0 p.b2.0))) 0 Never thickness.high p.thickness.0 (bending_more 3 K h.moment (plate_modulus h 3) (stress 3) p.b1.0 p.b2.0 (product 25 (product (K2 p.b1.0 p.b2.0) (K2 p.b1.0 p.b2.0))) (1156 * (S * S))) })
        ratio_line false = (tt, (tt, (tt, (tt, (tt, ((divided (1000000 * h.moment) (plate_modulus h 3) modulus_3, ceil_up (1000000 * h.moment) (plate_modulus h 3) modulus_3), (tt, tt)))))))
        ratio_line true = (tt, (tt, (tt, (tt, (tt, ((divided (1000000 * h.moment) (plate_modulus h 3) modulus_3, ceil_up (1000000 * h.moment) (plate_modulus h 3) modulus_3), (tt, tt)))))))

        side_line : (b : Bool) → ltb 26000 side ≡ b → says (37 + bool_byte b) (facts 3 (asked3 h 3 p)) (record { given = given 3; own = rule_numbers (product (1156 * (S * S)) (stress 3)) (product 25 (product (K2 p.b1.0 p.b2.0) (K2 p.b1.0 p.b2.0))) 0 Never thickness.high p.thickness.0 (bending_more 3 K h.moment (plate_modulus h 3) (stress 3) p.b1.0 p.b2.0 (product 25 (product (K2 p.b1.0 p.b2.0) (K2 p.b1.0 p.b2.0))) (1156 * (S * S))) })
        side_line false e = (tt, (tt, (tt, (tt, (tt, ((divided (1000 * (p.b1.0 * p.b1.0 + p.b2.0 * p.b2.0)) (p.b1.0 * p.b1.0) (mul-pos side_low_3 side_low_3), k2_low p.b1.0 p.b2.0 (ltb-false 26000 side e)), (tt, tt)))))))
        side_line true e = (tt, (tt, (tt, (tt, (tt, ((divided (1000 * (p.b1.0 * p.b1.0 + p.b2.0 * p.b2.0)) (p.b1.0 * p.b1.0) (mul-pos side_low_3 side_low_3), ltb-true 26000 side e, k2_most p.b1.0 p.b2.0 (ltb-true 26000 side e)), (tt, tt)))))))

        over : (25 * ((K2 p.b1.0 p.b2.0) * (K2 p.b1.0 p.b2.0))) * (thickness.high * thickness.high) / (1156 * (S * S)) < (stress 3)
        over = ltb-true ((25 * ((K2 p.b1.0 p.b2.0) * (K2 p.b1.0 p.b2.0))) * (thickness.high * thickness.high) / (1156 * (S * S))) (stress 3) t

        reached : product (product 25 (product (K2 p.b1.0 p.b2.0) (K2 p.b1.0 p.b2.0))) 16000000 / (1156 * (S * S)) ≡ (25 * ((K2 p.b1.0 p.b2.0) * (K2 p.b1.0 p.b2.0))) * (thickness.high * thickness.high) / (1156 * (S * S))
        reached = ap (λ (x : ℕ). x / (1156 * (S * S))) last_3

    by_first_3 : (t : Bool) → ltb ((25 * ((K2 p.b1.0 p.b2.0) * (K2 p.b1.0 p.b2.0))) * (thickness.high * thickness.high) / (1156 * (S * S))) (stress 3) ≡ t
        → Says (cond t Never (Square 1 0 (ceil_of ((1156 * (S * S)) * (stress 3)) (25 * ((K2 p.b1.0 p.b2.0) * (K2 p.b1.0 p.b2.0)))))) thickness.high (asked3 h 3 p).asks → Third 3 false false (K2 p.b1.0 p.b2.0) (cond t Never (Square 1 0 (ceil_of ((1156 * (S * S)) * (stress 3)) (25 * ((K2 p.b1.0 p.b2.0) * (K2 p.b1.0 p.b2.0))))))
    by_first_3 true t fair = third_3_first_never t fair
    by_first_3 false t fair = third_3_first t fair

    -- rule 3 of kind 3
    pub third_3 : Section 3 (asked3 h 3 p) (plate_third h 3 p (work_of h 3 p))
    unfolding plate_third shape3 first_shape
    third_3 = by_first_3 (ltb ((25 * ((K2 p.b1.0 p.b2.0) * (K2 p.b1.0 p.b2.0))) * (thickness.high * thickness.high) / (1156 * (S * S))) (stress 3)) refl (says3 {kind = 3} {S = S} {b1 = p.b1.0} p.b2.0 (stress 3) (record { spacing_low = pr.spacing_low; spacing_high = pr.spacing_high; b1_low = λ e. omega (arith, pr.b1_low e) }) K)

  module _ (pr : PlateRanges 4 p) where
    -- what the numbers of rule 3 rest on
    modulus_4 : 0 < (plate_modulus h 4)
    modulus_4 = omega (arith, hr.inner_low)

    stress_high_4 : (stress 4) ≤ 1000000000000
    stress_high_4 = R_high h.moment (plate_modulus h 4) hr.moment_high modulus_4

    divisor_4 : ◌≡◌ {A = ℕ} 100000000 100000000
    divisor_4 = refl

    last_4 : product 100000000 16000000 ≡ 100000000 * 16000000
    last_4 = ap (λ (x : ℕ). product x 16000000) divisor_4 ∙ product_fits 100000000 16000000 100000000 16000000 (omega arith) (omega arith) (omega arith)

    panel_4 : 0 < (1521 * (S * S))
    panel_4 = omega (arith, spacing_low pr)

    third_4_first : ltb (100000000 * (thickness.high * thickness.high) / (1521 * (S * S))) (stress 4) ≡ false → Says (Square 1 0 (ceil_of ((1521 * (S * S)) * (stress 4)) 100000000)) thickness.high (asked3 h 4 p).asks → Third 4 true false 0 (Square 1 0 (ceil_of ((1521 * (S * S)) * (stress 4)) 100000000))
    unfolding says templates rule_numbers ruled form_of
    third_4_first t fair = ((refl, (tt, tt)), (note_line 4 own (ltb 1 h.version) refl, (ratio_line (ltb 1 h.version), (tt, (tt, ((tt, ((λ x l i. sym (over_square 100000000 ((1521 * (S * S)) * (stress 4)) x some) ∙ fair x l i, refl, refl), (tt, (tt, (tt, (tt, (tt, (divided_as ((1521 * (S * S)) * (stress 4)) 100000000 top bottom some, (tt, ((ceil_as ((1521 * (S * S)) * (stress 4)) 100000000 top bottom some, root_is (ceil_of ((1521 * (S * S)) * (stress 4)) 100000000)), (tt, tt))))))))))), (thick_holds (facts 4 (asked3 h 4 p)) (given 4) (product (1521 * (S * S)) (stress 4)) 100000000 0 (ceil_of ((1521 * (S * S)) * (stress 4)) 100000000) (bending_more 4 K h.moment (plate_modulus h 4) (stress 4) p.b1.0 p.b2.0 100000000 (1521 * (S * S))) fair (omega arith) (omega arith), (result_holds (facts 4 (asked3 h 4 p)) (given 4) (product (1521 * (S * S)) (stress 4)) 100000000 0 (Square 1 0 (ceil_of ((1521 * (S * S)) * (stress 4)) 100000000)) (bending_more 4 K h.moment (plate_modulus h 4) (stress 4) p.b1.0 p.b2.0 100000000 (1521 * (S * S))) fair pr.thickness_low pr.thickness_high 77 (λ x. x) (λ x. x) (λ x. x), (verdict_holds (facts 4 (asked3 h 4 p)) (record { given = given 4; own = own }) refl refl, tt)))))))))
      where
        own : List ℕ
        own = rule_numbers (product (1521 * (S * S)) (stress 4)) 100000000 0 (Square 1 0 (ceil_of ((1521 * (S * S)) * (stress 4)) 100000000)) thickness.high p.thickness.0 (bending_more 4 K h.moment (plate_modulus h 4) (stress 4) p.b1.0 p.b2.0 100000000 (1521 * (S * S)))

        ratio_line : (b : Bool) → says (35 + bool_byte b) (facts 4 (asked3 h 4 p)) (record { given = given 4; own = rule_numbers (product (1521 * (S * S)) (stress 4)) 100000000 0 (Square 1 0 (ceil_of ((1521 * (S * S)) * (stress 4)) 100000000)) thickness.high p.thickness.0 (bending_more 4 K h.moment (plate_modulus h 4) (stress 4) p.b1.0 p.b2.0 100000000 (1521 * (S * S))) })
        ratio_line false = (tt, (tt, (tt, (tt, (tt, ((divided (1000000 * h.moment) (plate_modulus h 4) modulus_4, ceil_up (1000000 * h.moment) (plate_modulus h 4) modulus_4), (tt, tt)))))))
        ratio_line true = (tt, (tt, (tt, (tt, (tt, ((divided (1000000 * h.moment) (plate_modulus h 4) modulus_4, ceil_up (1000000 * h.moment) (plate_modulus h 4) modulus_4), (tt, tt)))))))

        held : (1521 * (S * S)) * (stress 4) ≤ 100000000 * 16000000
        held = let l = ltb-false (100000000 * (thickness.high * thickness.high) / (1521 * (S * S))) (stress 4) t in omega (arith, (le-div_iff_mul-le panel_4).0 l, mul_comm (1521 * (S * S)) (stress 4))

        top : (product (1521 * (S * S)) (stress 4)) ≡ ((1521 * (S * S)) * (stress 4))
        top = product_is (1521 * (S * S)) (stress 4) (omega (arith, held))

        bottom : ◌≡◌ {A = ℕ} 100000000 100000000
        bottom = divisor_4

        some : 0 < 100000000
        some = lit< tt

    third_4_first_never : ltb (100000000 * (thickness.high * thickness.high) / (1521 * (S * S))) (stress 4) ≡ true → Says Never thickness.high (asked3 h 4 p).asks → Third 4 true false 0 Never
    unfolding says templates rule_numbers ruled form_of
    third_4_first_never t fair = ((refl, (tt, tt)), (note_line 4 own (ltb 1 h.version) refl, (ratio_line (ltb 1 h.version), (tt, (tt, ((tt, ((λ x l i. sym (over_never 100000000 (1521 * (S * S)) (stress 4) thickness.high panel_4 over x l i) ∙ fair x l i, refl, refl), (tt, (tt, (tt, (tt, (tt, ((refl, divided_as (100000000 * (4000 * 4000)) (1521 * (S * S)) last_4 refl panel_4, omega (arith, over, reached), (λ x l i. sym (fair x l i))), (tt, tt))))))))), (tt, (result_holds (facts 4 (asked3 h 4 p)) (given 4) (product (1521 * (S * S)) (stress 4)) 100000000 0 Never (bending_more 4 K h.moment (plate_modulus h 4) (stress 4) p.b1.0 p.b2.0 100000000 (1521 * (S * S))) fair pr.thickness_low pr.thickness_high 77 (λ x. x) (λ x. x) (λ x. x), (verdict_holds (facts 4 (asked3 h 4 p)) (record { given = given 4; own = own }) refl refl, tt)))))))))
      where
        own : List ℕ
        own = rule_numbers (product (1521 * (S * S)) (stress 4)) 100000000 0 Never thickness.high p.thickness.0 (bending_more 4 K h.moment (plate_modulus h 4) (stress 4) p.b1.0 p.b2.0 100000000 (1521 * (S * S)))

        ratio_line : (b : Bool) → says (35 + bool_byte b) (facts 4 (asked3 h 4 p)) (record { given = given 4; own = rule_numbers (product (1521 * (S * S)) (stress 4)) 100000000 0 Never thickness.high p.thickness.0 (bending_more 4 K h.moment (plate_modulus h 4) (stress 4) p.b1.0 p.b2.0 100000000 (1521 * (S * S))) })
        ratio_line false = (tt, (tt, (tt, (tt, (tt, ((divided (1000000 * h.moment) (plate_modulus h 4) modulus_4, ceil_up (1000000 * h.moment) (plate_modulus h 4) modulus_4), (tt, tt)))))))
        ratio_line true = (tt, (tt, (tt, (tt, (tt, ((divided (1000000 * h.moment) (plate_modulus h 4) modulus_4, ceil_up (1000000 * h.moment) (plate_modulus h 4) modulus_4), (tt, tt)))))))

        over : 100000000 * (thickness.high * thickness.high) / (1521 * (S * S)) < (stress 4)
        over = ltb-true (100000000 * (thickness.high * thickness.high) / (1521 * (S * S))) (stress 4) t

        reached : product 100000000 16000000 / (1521 * (S * S)) ≡ 100000000 * (thickness.high * thickness.high) / (1521 * (S * S))
        reached = ap (λ (x : ℕ). x / (1521 * (S * S))) last_4

    by_first_4 : (t : Bool) → ltb (100000000 * (thickness.high * thickness.high) / (1521 * (S * S))) (stress 4) ≡ t
        → Says (cond t Never (Square 1 0 (ceil_of ((1521 * (S * S)) * (stress 4)) 100000000))) thickness.high (asked3 h 4 p).asks → Third 4 true false 0 (cond t Never (Square 1 0 (ceil_of ((1521 * (S * S)) * (stress 4)) 100000000)))
    by_first_4 true t fair = third_4_first_never t fair
    by_first_4 false t fair = third_4_first t fair

    -- rule 3 of kind 4
    pub third_4 : Section 4 (asked3 h 4 p) (plate_third h 4 p (work_of h 4 p))
    unfolding plate_third shape3 first_shape
    third_4 = by_first_4 (ltb (100000000 * (thickness.high * thickness.high) / (1521 * (S * S))) (stress 4)) refl (says3 {kind = 4} {S = S} {b1 = p.b1.0} p.b2.0 (stress 4) (record { spacing_low = pr.spacing_low; spacing_high = pr.spacing_high; b1_low = λ e. omega (arith, pr.b1_low e) }) K)
