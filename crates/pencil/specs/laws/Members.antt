-- The rules of a member: each line of their sections holds.
-- Assumes nothing.
use Rattle.std.specs.Prelude.{ℕ, ◌+◌, ◌-◌, ◌*◌, ◌/◌, ◌≤◌, ◌<◌, Bool, cond, ◌≡◌, List, [], ◌∷◌, ltb}
use Rattle.std.proofs.Math.Bool.{true, false}
use Rattle.std.proofs.Math.Path.{refl, sym}
use Rattle.std.proofs.Common.{ap, ◌∙◌, div-one, lit<}
use native.Mathlib.Omega.{arith}
use Rattle.std.proofs.Math.Nat.{mul-le-mul}
use mir.Val.{bool_byte}
use borrow.Author.Tests.{ltb-true, ltb-false}
use Rattle.quantity.specs.Range.{thickness, modulus, shear_area}
use Rattle.root.specs.laws.RootLaws.{root_is}
use Rattle.gauge.specs.declared.Shape.TheVariants.{Never, Floor, Square}
use Rattle.gauge.specs.Ceil.{ceil_of}
use Rattle.gauge.specs.laws.CeilLaws.{ceil_most, ceil_covers}
use Rattle.gauge.specs.Shape.{Says}
use Rattle.gauge.specs.laws.ShapeLaws.{over_floor, excess}
use Rattle.loads.specs.Loads.{line_load}
use Rattle.loads.specs.laws.Bounds.{sea_bound, deep_bound}
use Rattle.sheet.specs.declared.Header.{Header}
use Rattle.sheet.specs.declared.Member.{Member}
use Rattle.sheet.specs.Ranges.{HeaderRanges, MemberRanges}
use Rattle.verdict.specs.Verdict.{Rule}
use Rattle.framing.specs.Rules.{is_short, member_pressure, member_named, member_line, web_rule, bending_rule, shear_rule, member_verdict}
use Rattle.framing.specs.Shapes.{shape4, shape5, shape6}
use Rattle.framing.specs.laws.ShapeLaws.{says4, says5, says6}
use Rattle.framing.specs.laws.BoundLaws.{member_line_high}
use Rattle.framing.specs.laws.Laws.{member_pressure_lem}
use Rattle.framing.specs.Work.{work_of}
use Rattle.pencil.specs.Glossary.{Facts}
use Rattle.pencil.specs.Templates.{templates, says, Holds}
use Rattle.pencil.specs.Numbers.{product, no_more, with_ratio, rule_numbers, is_never}
use Rattle.pencil.specs.Trail.{Told, both, spread, member_given, member_first, member_second, member_third, ruled}
use Rattle.pencil.specs.laws.Divided.{divided_as, ceil_as, product_fits}
use Rattle.pencil.specs.laws.Steps.{result_holds, floor_holds, square_holds}
use Rattle.pencil.specs.laws.Rules.{over_root, up_root, verdict_holds}

-- over 1 nothing is rounded
ceil_one : (p : ℕ) → ceil_of p 1 ≡ p
unfolding ceil_of
ceil_one p = let e : p + (1 - 1) ≡ p = omega arith in ap (λ (n : ℕ). n / 1) e ∙ div-one p

module _ (h : Header) (id : ℕ) (m : Member) (hr : HeaderRanges h) (steel : 500 ≤ m.factor.0) where
  abbrev L : ℕ
  L = h.length.0

  abbrev K : ℕ
  K = m.factor.0

  abbrev S : ℕ
  S = m.spacing.0

  -- what is so of a member of this kind
  abbrev pub facts : ℕ → Rule → Facts
  facts kind rule = record { rule = rule; loads = member_named h kind m ∷ []; verdict = member_verdict h kind m }

  abbrev given : ℕ → List ℕ
  given kind = member_given h kind id m (work_of h kind m)

  -- a section of a member of this kind holds
  abbrev Section : ℕ → Rule → Told → Type 0
  Section kind rule t = Holds t.lines (facts kind rule) (record { given = given kind; own = t.own })

  square_high : (L * L ≤ 182250000) × (16000000 ≤ L * L)
  square_high = (mul-le-mul hr.length_high hr.length_high, mul-le-mul hr.length_low hr.length_low)

  -- rule 4 of kind 5, by the vessel's length
  web_5 : MemberRanges 5 m → (b : Bool) → is_short L ≡ b
      → Says (cond b (Square 100 (16300 + 45 * S) (ceil_of (L * L * K) 6250)) (Square 10 S (ceil_of (15210 * K) 1))) thickness.high (web_rule h 5 m).asks
      → Section 5 (web_rule h 5 m) (cond b (ruled (both 51 0) 65 0 0 (product (L * L) K) 6250 (45 * S) (cond b (Square 100 (16300 + 45 * S) (ceil_of (L * L * K) 6250)) (Square 10 S (ceil_of (15210 * K) 1))) thickness.high m.thickness.0 no_more)
      (ruled (both 52 0) 65 0 0 (product 15210 K) 1 (45 * S) (cond b (Square 100 (16300 + 45 * S) (ceil_of (L * L * K) 6250)) (Square 10 S (ceil_of (15210 * K) 1))) thickness.high m.thickness.0 no_more))
  unfolding says templates rule_numbers ruled
  web_5 mr true e fair =
      let n = ceil_of (L * L * K) 6250 in
      let cube : L * L * K ≤ 182250000000 = mul-le-mul square_high.0 mr.factor_high in
      let low : 16000000 * 500 ≤ L * L * K = mul-le-mul square_high.1 (steel) in
      let top : product (L * L) K ≡ L * L * K = product_fits (L * L) K 182250000 1000 square_high.0 mr.factor_high (omega arith) in
      let few : ceil_of (L * L * K) 6250 < 4294967296 = omega (arith, ceil_most (L * L * K) 6250 29160000 (lit< tt) (omega (arith, cube))) in
      let some : 0 < ceil_of (L * L * K) 6250 = omega (arith, ceil_covers (L * L * K) 6250 (lit< tt), low) in
      ((refl, (tt, ((λ x l i. sym (excess 100 (16300 + 45 * S) (L * L * K) 6250 x (lit< tt)) ∙ fair x l i, refl, refl), (tt, (ltb-true L 12000 e, (tt, (tt, (tt, (tt, (tt, (divided_as (L * L * K) 6250 top refl (lit< tt), (tt, ((ceil_as (L * L * K) 6250 top refl (lit< tt), root_is n), (tt, ((over_root n (16300 + 45 * S) 100 few (lit< tt), (refl, tt)), (tt, (up_root n (16300 + 45 * S) 100 few (lit< tt), (tt, tt)))))))))))))))))), (tt, (tt, (tt, (tt, (tt, (square_holds (facts 5 (web_rule h 5 m)) (given 5) (product (L * L) K) 6250 (45 * S) 100 (16300 + 45 * S) n no_more fair (omega arith) (omega arith) (omega arith) (λ x l. some) 65 (λ x. x) (λ x. x) (λ x. x), (result_holds (facts 5 (web_rule h 5 m)) (given 5) (product (L * L) K) 6250 (45 * S) (Square 100 (16300 + 45 * S) n) no_more fair mr.thickness_low mr.thickness_high 77 (λ x. x) (λ x. x) (λ x. x), (tt, tt)))))))))
  web_5 mr false e fair =
      let n = ceil_of (15210 * K) 1 in
      let plain = ceil_one (15210 * K) in
      let few : ceil_of (15210 * K) 1 < 4294967296 = omega (arith, plain, mr.factor_high) in
      let some : 0 < ceil_of (15210 * K) 1 = omega (arith, plain, steel) in
      ((refl, (tt, ((λ x l i. sym (excess 10 S (15210 * K) 1 x (lit< tt)) ∙ fair x l i, refl, refl), (tt, (ltb-false L 12000 e, (tt, (tt, (tt, (tt, (tt, ((plain, root_is n), (tt, ((over_root n S 10 few (lit< tt), tt), (tt, (up_root n S 10 few (lit< tt), (tt, tt)))))))))))))))), (tt, (tt, (tt, (tt, (tt, (square_holds (facts 5 (web_rule h 5 m)) (given 5) (product 15210 K) 1 (45 * S) 10 S n no_more fair (omega arith) (omega arith) (omega arith) (λ x l. some) 65 (λ x. x) (λ x. x) (λ x. x), (result_holds (facts 5 (web_rule h 5 m)) (given 5) (product 15210 K) 1 (45 * S) (Square 10 S n) no_more fair mr.thickness_low mr.thickness_high 77 (λ x. x) (λ x. x) (λ x. x), (tt, tt)))))))))

  pub first_5 : MemberRanges 5 m → Section 5 (web_rule h 5 m) (member_first h 5 m (work_of h 5 m))
  unfolding member_first shape4
  first_5 mr = web_5 mr (is_short L) refl (says4 5 L K S)

  -- rule 4 of kind 6
  pub first_6 : MemberRanges 6 m → Section 6 (web_rule h 6 m) (member_first h 6 m (work_of h 6 m))
  unfolding says templates rule_numbers ruled member_first shape4
  first_6 mr =
      let n = ceil_of (8 * (L * L) * K) 3125 in
      let high : 8 * (L * L) ≤ 1458000000 = omega (arith, square_high) in
      let below : 128000000 ≤ 8 * (L * L) = omega (arith, square_high) in
      let cube : 8 * (L * L) * K ≤ 1458000000 * 1000 = mul-le-mul high mr.factor_high in
      let low : 128000000 * 500 ≤ 8 * (L * L) * K = mul-le-mul below steel in
      let top : product (8 * (L * L)) K ≡ 8 * (L * L) * K = product_fits (8 * (L * L)) K 1458000000 1000 (omega (arith, square_high)) mr.factor_high (omega arith) in
      let few : ceil_of (8 * (L * L) * K) 3125 < 4294967296 = omega (arith, ceil_most (8 * (L * L) * K) 3125 466560000 (lit< tt) (omega (arith, cube))) in
      let some : 0 < ceil_of (8 * (L * L) * K) 3125 = omega (arith, ceil_covers (8 * (L * L) * K) 3125 (lit< tt), low) in
      let fair = says4 6 L K S in
      ((refl, (tt, ((λ x l i. sym (excess 100 38000 (8 * (L * L) * K) 3125 x (lit< tt)) ∙ fair x l i, refl, refl), (tt, (tt, (tt, (tt, (tt, (divided_as (8 * (L * L) * K) 3125 top refl (lit< tt), (tt, ((ceil_as (8 * (L * L) * K) 3125 top refl (lit< tt), root_is n), (tt, ((over_root n 38000 100 few (lit< tt), tt), (tt, (up_root n 38000 100 few (lit< tt), (tt, tt)))))))))))))))), (tt, (tt, (tt, (tt, (tt, (square_holds (facts 6 (web_rule h 6 m)) (given 6) (product (8 * (L * L)) K) 3125 (45 * S) 100 38000 n no_more fair (omega arith) (omega arith) (omega arith) (λ x l. some) 65 (λ x. x) (λ x. x) (λ x. x), (result_holds (facts 6 (web_rule h 6 m)) (given 6) (product (8 * (L * L)) K) 3125 (45 * S) (Square 100 38000 n) no_more fair mr.thickness_low mr.thickness_high 77 (λ x. x) (λ x. x) (λ x. x), (tt, tt)))))))))

  -- rule 4 of kind 7
  pub first_7 : MemberRanges 7 m → Section 7 (web_rule h 7 m) (member_first h 7 m (work_of h 7 m))
  unfolding says templates rule_numbers ruled member_first shape4
  first_7 mr =
      let n = ceil_of (8 * (L * L) * K) 3125 in
      let high : 8 * (L * L) ≤ 1458000000 = omega (arith, square_high) in
      let below : 128000000 ≤ 8 * (L * L) = omega (arith, square_high) in
      let cube : 8 * (L * L) * K ≤ 1458000000 * 1000 = mul-le-mul high mr.factor_high in
      let low : 128000000 * 500 ≤ 8 * (L * L) * K = mul-le-mul below steel in
      let top : product (8 * (L * L)) K ≡ 8 * (L * L) * K = product_fits (8 * (L * L)) K 1458000000 1000 (omega (arith, square_high)) mr.factor_high (omega arith) in
      let few : ceil_of (8 * (L * L) * K) 3125 < 4294967296 = omega (arith, ceil_most (8 * (L * L) * K) 3125 466560000 (lit< tt) (omega (arith, cube))) in
      let some : 0 < ceil_of (8 * (L * L) * K) 3125 = omega (arith, ceil_covers (8 * (L * L) * K) 3125 (lit< tt), low) in
      let fair = says4 7 L K S in
      ((refl, (tt, ((λ x l i. sym (excess 100 38000 (8 * (L * L) * K) 3125 x (lit< tt)) ∙ fair x l i, refl, refl), (tt, (tt, (tt, (tt, (tt, (divided_as (8 * (L * L) * K) 3125 top refl (lit< tt), (tt, ((ceil_as (8 * (L * L) * K) 3125 top refl (lit< tt), root_is n), (tt, ((over_root n 38000 100 few (lit< tt), tt), (tt, (up_root n 38000 100 few (lit< tt), (tt, tt)))))))))))))))), (tt, (tt, (tt, (tt, (tt, (square_holds (facts 7 (web_rule h 7 m)) (given 7) (product (8 * (L * L)) K) 3125 (45 * S) 100 38000 n no_more fair (omega arith) (omega arith) (omega arith) (λ x l. some) 65 (λ x. x) (λ x. x) (λ x. x), (result_holds (facts 7 (web_rule h 7 m)) (given 7) (product (8 * (L * L)) K) 3125 (45 * S) (Square 100 38000 n) no_more fair mr.thickness_low mr.thickness_high 77 (λ x. x) (λ x. x) (λ x. x), (tt, tt)))))))))

  -- rule 4 of kind 8
  pub first_8 : MemberRanges 8 m → Section 8 (web_rule h 8 m) (member_first h 8 m (work_of h 8 m))
  unfolding says templates rule_numbers ruled member_first shape4
  first_8 mr =
      let n = ceil_of (8 * (L * L) * K) 3125 in
      let high : 8 * (L * L) ≤ 1458000000 = omega (arith, square_high) in
      let below : 128000000 ≤ 8 * (L * L) = omega (arith, square_high) in
      let cube : 8 * (L * L) * K ≤ 1458000000 * 1000 = mul-le-mul high mr.factor_high in
      let low : 128000000 * 500 ≤ 8 * (L * L) * K = mul-le-mul below steel in
      let top : product (8 * (L * L)) K ≡ 8 * (L * L) * K = product_fits (8 * (L * L)) K 1458000000 1000 (omega (arith, square_high)) mr.factor_high (omega arith) in
      let few : ceil_of (8 * (L * L) * K) 3125 < 4294967296 = omega (arith, ceil_most (8 * (L * L) * K) 3125 466560000 (lit< tt) (omega (arith, cube))) in
      let some : 0 < ceil_of (8 * (L * L) * K) 3125 = omega (arith, ceil_covers (8 * (L * L) * K) 3125 (lit< tt), low) in
      let fair = says4 8 L K S in
      ((refl, (tt, ((λ x l i. sym (excess 100 38000 (8 * (L * L) * K) 3125 x (lit< tt)) ∙ fair x l i, refl, refl), (tt, (tt, (tt, (tt, (tt, (divided_as (8 * (L * L) * K) 3125 top refl (lit< tt), (tt, ((ceil_as (8 * (L * L) * K) 3125 top refl (lit< tt), root_is n), (tt, ((over_root n 38000 100 few (lit< tt), tt), (tt, (up_root n 38000 100 few (lit< tt), (tt, tt)))))))))))))))), (tt, (tt, (tt, (tt, (tt, (square_holds (facts 8 (web_rule h 8 m)) (given 8) (product (8 * (L * L)) K) 3125 (45 * S) 100 38000 n no_more fair (omega arith) (omega arith) (omega arith) (λ x l. some) 65 (λ x. x) (λ x. x) (λ x. x), (result_holds (facts 8 (web_rule h 8 m)) (given 8) (product (8 * (L * L)) K) 3125 (45 * S) (Square 100 38000 n) no_more fair mr.thickness_low mr.thickness_high 77 (λ x. x) (λ x. x) (λ x. x), (tt, tt)))))))))

  -- ---- rules 5 and 6

  abbrev l : ℕ
  l = m.span.0

  module _ (kind : ℕ) (mr : MemberRanges kind m) (deep : member_pressure h kind m ≤ 104103720) where
    abbrev q : ℕ
    q = member_line h kind m

    abbrev P : ℕ
    P = (member_named h kind m).pressure

    line_high : q ≤ 416415
    line_high = member_line_high h kind m hr mr

    span_high : l * l ≤ 1000000
    span_high = mul-le-mul mr.span_high mr.span_high

    pressed : product P S ≡ P * S
    pressed = product_fits P S 104103720 4000 (omega (arith, member_pressure_lem h kind m, deep)) mr.spacing_high (omega arith)

    asked : product P S ≡ member_pressure h kind m * S
    asked = pressed ∙ ap (λ (x : ℕ). x * S) (member_pressure_lem h kind m)

    -- n·q·x, where n is at most 8330000 and x at most a million
    spread_is : (n x : ℕ) → n ≤ 8330000 → x ≤ 1000000 → spread n q x ≡ n * q * x
    spread_is n x i j =
        let s = product_fits n q 8330000 416415 i line_high (omega arith) in
        ap (λ (y : ℕ). product y x) s ∙ product_fits (n * q) x (8330000 * 416415) 1000000 (mul-le-mul i line_high) j (omega arith)

    -- n·β·η
    ends_high : (n b c : ℕ) → n ≤ 833 → b ≤ 100 → c ≤ 100 → n * b * c ≤ 8330000
    ends_high n b c i j k = mul-le-mul (mul-le-mul i j) k

  -- rule 5 of kind 5, by σ1
  bending_5 : MemberRanges 5 m → (b : Bool) → ltb m.stress 214 ≡ b → Says (cond b (Floor (ceil_of (833 * m.bending * m.eta * (member_line h 5 m) * (l * l)) (100000000000 * (214 - m.stress)))) Never) modulus.high (bending_rule h 5 m).asks
      → Section 5 (bending_rule h 5 m) (ruled (both 54 (57 + 3 * bool_byte (is_never (cond b (Floor (ceil_of (833 * m.bending * m.eta * (member_line h 5 m) * (l * l)) (100000000000 * (214 - m.stress)))) Never)))) 0 1 0 (spread (833 * m.bending * m.eta) (member_line h 5 m) (l * l)) (100000000000 * (214 - m.stress)) 0 (cond b (Floor (ceil_of (833 * m.bending * m.eta * (member_line h 5 m) * (l * l)) (100000000000 * (214 - m.stress)))) Never) modulus.high m.modulus.0 (with_ratio (product (member_named h 5 m).pressure S) 1000000))
  unfolding says templates rule_numbers ruled member_line line_load
  bending_5 mr true e fair =
      let deep = sea_bound h.draught.0 h.wave.0 hr.draught_high hr.wave_high m.z.0 in
      let some : 0 < (100000000000 * (214 - m.stress)) = let i = ltb-true m.stress 214 e in omega arith in
      let top : (spread (833 * m.bending * m.eta) (member_line h 5 m) (l * l)) ≡ (833 * m.bending * m.eta * (member_line h 5 m) * (l * l)) = spread_is 5 mr deep (833 * m.bending * m.eta) (l * l) (ends_high 5 mr deep 833 m.bending m.eta (omega arith) mr.bending_high mr.eta_high) (span_high 5 mr deep) in
      ((refl, (tt, (tt, (tt, (tt, (tt, (tt, ((divided_as ((member_named h 5 m).pressure * S) 1000000 (pressed 5 mr deep) refl (lit< tt), ceil_as ((member_pressure h 5 m) * S) 1000000 (asked 5 mr deep) refl (lit< tt)), (tt, tt))))))))), ((tt, ((λ x u v. sym (over_floor (100000000000 * (214 - m.stress)) (833 * m.bending * m.eta * (member_line h 5 m) * (l * l)) x some) ∙ fair x u v, refl, refl), (tt, (tt, (tt, (tt, (tt, (tt, (tt, (tt, (tt, (divided_as (833 * m.bending * m.eta * (member_line h 5 m) * (l * l)) (100000000000 * (214 - m.stress)) top refl some, (tt, (ceil_as (833 * m.bending * m.eta * (member_line h 5 m) * (l * l)) (100000000000 * (214 - m.stress)) top refl some, (tt, tt))))))))))))))), (tt, (tt, (tt, (tt, (floor_holds (facts 5 (bending_rule h 5 m)) (given 5) (spread (833 * m.bending * m.eta) (member_line h 5 m) (l * l)) (100000000000 * (214 - m.stress)) 0 (ceil_of (833 * m.bending * m.eta * (member_line h 5 m) * (l * l)) (100000000000 * (214 - m.stress))) (with_ratio (product (member_named h 5 m).pressure S) 1000000) fair (omega arith) 1 (λ x. x) (λ x. x), (result_holds (facts 5 (bending_rule h 5 m)) (given 5) (spread (833 * m.bending * m.eta) (member_line h 5 m) (l * l)) (100000000000 * (214 - m.stress)) 0 (Floor (ceil_of (833 * m.bending * m.eta * (member_line h 5 m) * (l * l)) (100000000000 * (214 - m.stress)))) (with_ratio (product (member_named h 5 m).pressure S) 1000000) fair mr.modulus_low mr.modulus_high 80 (λ x. x) (λ x. x) (λ x. x), (tt, tt)))))))))
  bending_5 mr false e fair =
      let deep = sea_bound h.draught.0 h.wave.0 hr.draught_high hr.wave_high m.z.0 in
      ((refl, (tt, (tt, (tt, (tt, (tt, (tt, ((divided_as ((member_named h 5 m).pressure * S) 1000000 (pressed 5 mr deep) refl (lit< tt), ceil_as ((member_pressure h 5 m) * S) 1000000 (asked 5 mr deep) refl (lit< tt)), (tt, tt))))))))), ((tt, (tt, (tt, (tt, (tt, (tt, (tt, (tt, (tt, (tt, (tt, (tt, ((ltb-false m.stress 214 e, λ x u v. sym (fair x u v)), (tt, tt)))))))))))))), (tt, (tt, (tt, (tt, (tt, (result_holds (facts 5 (bending_rule h 5 m)) (given 5) (spread (833 * m.bending * m.eta) (member_line h 5 m) (l * l)) (100000000000 * (214 - m.stress)) 0 Never (with_ratio (product (member_named h 5 m).pressure S) 1000000) fair mr.modulus_low mr.modulus_high 80 (λ x. x) (λ x. x) (λ x. x), (tt, tt)))))))))

  pub second_5 : MemberRanges 5 m → Section 5 (bending_rule h 5 m) (member_second 5 m (work_of h 5 m))
  unfolding member_second shape5
  second_5 mr = bending_5 mr (ltb m.stress 214) refl (says5 5 m.bending m.eta m.stress (member_line h 5 m) l)

  -- rule 6 of kind 5
  pub third_5 : MemberRanges 5 m → Section 5 (shear_rule h 5 m) (member_third 5 m (work_of h 5 m))
  unfolding says templates rule_numbers ruled member_third shape6
  third_5 mr =
      let deep = sea_bound h.draught.0 h.wave.0 hr.draught_high hr.wave_high m.z.0 in
      let fair = says6 5 m.shear m.eta (member_line h 5 m) l in
      let top : (spread (9 * m.shear * m.eta) (member_line h 5 m) l) ≡ (9 * m.shear * m.eta * (member_line h 5 m) * l) = spread_is 5 mr deep (9 * m.shear * m.eta) l (ends_high 5 mr deep 9 m.shear m.eta (omega arith) mr.shear_high mr.eta_high) (omega (arith, mr.span_high)) in
      ((refl, (tt, ((λ x u v. sym (over_floor 2000000000 (9 * m.shear * m.eta * (member_line h 5 m) * l) x (lit< tt)) ∙ fair x u v, refl, refl), (tt, (tt, (tt, (tt, (tt, (tt, (tt, (tt, (tt, (divided_as (9 * m.shear * m.eta * (member_line h 5 m) * l) 2000000000 top refl (lit< tt), (tt, (ceil_as (9 * m.shear * m.eta * (member_line h 5 m) * l) 2000000000 top refl (lit< tt), (tt, tt)))))))))))))))), (tt, (tt, (tt, (tt, (tt, (floor_holds (facts 5 (shear_rule h 5 m)) (given 5) (spread (9 * m.shear * m.eta) (member_line h 5 m) l) 2000000000 0 (ceil_of (9 * m.shear * m.eta * (member_line h 5 m) * l) 2000000000) no_more fair (omega arith) 2 (λ x. x) (λ x. x), (result_holds (facts 5 (shear_rule h 5 m)) (given 5) (spread (9 * m.shear * m.eta) (member_line h 5 m) l) 2000000000 0 (Floor (ceil_of (9 * m.shear * m.eta * (member_line h 5 m) * l) 2000000000)) no_more fair mr.area_low mr.area_high 83 (λ x. x) (λ x. x) (λ x. x), (verdict_holds (facts 5 (shear_rule h 5 m)) (record { given = given 5; own = rule_numbers (spread (9 * m.shear * m.eta) (member_line h 5 m) l) 2000000000 0 (Floor (ceil_of (9 * m.shear * m.eta * (member_line h 5 m) * l) 2000000000)) shear_area.high m.area.0 no_more }) refl refl, tt)))))))))

  -- rule 5 of kind 6
  pub second_6 : MemberRanges 6 m → Section 6 (bending_rule h 6 m) (member_second 6 m (work_of h 6 m))
  unfolding says templates rule_numbers ruled member_second shape5 member_line line_load
  second_6 mr =
      let deep = deep_bound h.draught.0 h.wave.0 hr.draught_high hr.wave_high h.two_runs in
      let fair = says5 6 m.bending m.eta m.stress (member_line h 6 m) l in
      let top : (spread (29 * m.bending) (member_line h 6 m) (l * l)) ≡ (29 * m.bending * (member_line h 6 m) * (l * l)) = spread_is 6 mr deep (29 * m.bending) (l * l) (omega (arith, mr.bending_high)) (span_high 6 mr deep) in
      ((refl, (tt, (tt, (tt, (tt, (tt, (tt, ((divided_as ((member_named h 6 m).pressure * S) 1000000 (pressed 6 mr deep) refl (lit< tt), ceil_as ((member_pressure h 6 m) * S) 1000000 (asked 6 mr deep) refl (lit< tt)), (tt, tt))))))))), ((tt, ((λ x u v. sym (over_floor 5000000000 (29 * m.bending * (member_line h 6 m) * (l * l)) x (lit< tt)) ∙ fair x u v, refl, refl), (tt, (tt, (tt, (tt, (tt, (divided_as (29 * m.bending * (member_line h 6 m) * (l * l)) 5000000000 top refl (lit< tt), (tt, (ceil_as (29 * m.bending * (member_line h 6 m) * (l * l)) 5000000000 top refl (lit< tt), (tt, tt))))))))))), (tt, (tt, (tt, (tt, (floor_holds (facts 6 (bending_rule h 6 m)) (given 6) (spread (29 * m.bending) (member_line h 6 m) (l * l)) 5000000000 0 (ceil_of (29 * m.bending * (member_line h 6 m) * (l * l)) 5000000000) (with_ratio (product (member_named h 6 m).pressure S) 1000000) fair (omega arith) 1 (λ x. x) (λ x. x), (result_holds (facts 6 (bending_rule h 6 m)) (given 6) (spread (29 * m.bending) (member_line h 6 m) (l * l)) 5000000000 0 (Floor (ceil_of (29 * m.bending * (member_line h 6 m) * (l * l)) 5000000000)) (with_ratio (product (member_named h 6 m).pressure S) 1000000) fair mr.modulus_low mr.modulus_high 80 (λ x. x) (λ x. x) (λ x. x), (tt, tt)))))))))

  -- rule 6 of kind 6
  pub third_6 : MemberRanges 6 m → Section 6 (shear_rule h 6 m) (member_third 6 m (work_of h 6 m))
  unfolding says templates rule_numbers ruled member_third shape6
  third_6 mr =
      let deep = deep_bound h.draught.0 h.wave.0 hr.draught_high hr.wave_high h.two_runs in
      let fair = says6 6 m.shear m.eta (member_line h 6 m) l in
      let top : (spread (9 * m.shear) (member_line h 6 m) l) ≡ (9 * m.shear * (member_line h 6 m) * l) = spread_is 6 mr deep (9 * m.shear) l (omega (arith, mr.shear_high)) (omega (arith, mr.span_high)) in
      ((refl, (tt, ((λ x u v. sym (over_floor 20000000 (9 * m.shear * (member_line h 6 m) * l) x (lit< tt)) ∙ fair x u v, refl, refl), (tt, (tt, (tt, (tt, (tt, (tt, (tt, (divided_as (9 * m.shear * (member_line h 6 m) * l) 20000000 top refl (lit< tt), (tt, (ceil_as (9 * m.shear * (member_line h 6 m) * l) 20000000 top refl (lit< tt), (tt, tt)))))))))))))), (tt, (tt, (tt, (tt, (tt, (floor_holds (facts 6 (shear_rule h 6 m)) (given 6) (spread (9 * m.shear) (member_line h 6 m) l) 20000000 0 (ceil_of (9 * m.shear * (member_line h 6 m) * l) 20000000) no_more fair (omega arith) 2 (λ x. x) (λ x. x), (result_holds (facts 6 (shear_rule h 6 m)) (given 6) (spread (9 * m.shear) (member_line h 6 m) l) 20000000 0 (Floor (ceil_of (9 * m.shear * (member_line h 6 m) * l) 20000000)) no_more fair mr.area_low mr.area_high 83 (λ x. x) (λ x. x) (λ x. x), (verdict_holds (facts 6 (shear_rule h 6 m)) (record { given = given 6; own = rule_numbers (spread (9 * m.shear) (member_line h 6 m) l) 20000000 0 (Floor (ceil_of (9 * m.shear * (member_line h 6 m) * l) 20000000)) shear_area.high m.area.0 no_more }) refl refl, tt)))))))))

  -- rule 5 of kind 7
  pub second_7 : MemberRanges 7 m → Section 7 (bending_rule h 7 m) (member_second 7 m (work_of h 7 m))
  unfolding says templates rule_numbers ruled member_second shape5 member_line line_load
  second_7 mr =
      let deep = deep_bound h.draught.0 h.wave.0 hr.draught_high hr.wave_high h.two_runs in
      let fair = says5 7 m.bending m.eta m.stress (member_line h 7 m) l in
      let top : (spread (29 * m.bending) (member_line h 7 m) (l * l)) ≡ (29 * m.bending * (member_line h 7 m) * (l * l)) = spread_is 7 mr deep (29 * m.bending) (l * l) (omega (arith, mr.bending_high)) (span_high 7 mr deep) in
      ((refl, (tt, (tt, (tt, (tt, (tt, (tt, ((divided_as ((member_named h 7 m).pressure * S) 1000000 (pressed 7 mr deep) refl (lit< tt), ceil_as ((member_pressure h 7 m) * S) 1000000 (asked 7 mr deep) refl (lit< tt)), (tt, tt))))))))), ((tt, ((λ x u v. sym (over_floor 5000000000 (29 * m.bending * (member_line h 7 m) * (l * l)) x (lit< tt)) ∙ fair x u v, refl, refl), (tt, (tt, (tt, (tt, (tt, (divided_as (29 * m.bending * (member_line h 7 m) * (l * l)) 5000000000 top refl (lit< tt), (tt, (ceil_as (29 * m.bending * (member_line h 7 m) * (l * l)) 5000000000 top refl (lit< tt), (tt, tt))))))))))), (tt, (tt, (tt, (tt, (floor_holds (facts 7 (bending_rule h 7 m)) (given 7) (spread (29 * m.bending) (member_line h 7 m) (l * l)) 5000000000 0 (ceil_of (29 * m.bending * (member_line h 7 m) * (l * l)) 5000000000) (with_ratio (product (member_named h 7 m).pressure S) 1000000) fair (omega arith) 1 (λ x. x) (λ x. x), (result_holds (facts 7 (bending_rule h 7 m)) (given 7) (spread (29 * m.bending) (member_line h 7 m) (l * l)) 5000000000 0 (Floor (ceil_of (29 * m.bending * (member_line h 7 m) * (l * l)) 5000000000)) (with_ratio (product (member_named h 7 m).pressure S) 1000000) fair mr.modulus_low mr.modulus_high 80 (λ x. x) (λ x. x) (λ x. x), (tt, tt)))))))))

  -- rule 6 of kind 7
  pub third_7 : MemberRanges 7 m → Section 7 (shear_rule h 7 m) (member_third 7 m (work_of h 7 m))
  unfolding says templates rule_numbers ruled member_third shape6
  third_7 mr =
      let deep = deep_bound h.draught.0 h.wave.0 hr.draught_high hr.wave_high h.two_runs in
      let fair = says6 7 m.shear m.eta (member_line h 7 m) l in
      let top : (spread (9 * m.shear) (member_line h 7 m) l) ≡ (9 * m.shear * (member_line h 7 m) * l) = spread_is 7 mr deep (9 * m.shear) l (omega (arith, mr.shear_high)) (omega (arith, mr.span_high)) in
      ((refl, (tt, ((λ x u v. sym (over_floor 20000000 (9 * m.shear * (member_line h 7 m) * l) x (lit< tt)) ∙ fair x u v, refl, refl), (tt, (tt, (tt, (tt, (tt, (tt, (tt, (divided_as (9 * m.shear * (member_line h 7 m) * l) 20000000 top refl (lit< tt), (tt, (ceil_as (9 * m.shear * (member_line h 7 m) * l) 20000000 top refl (lit< tt), (tt, tt)))))))))))))), (tt, (tt, (tt, (tt, (tt, (floor_holds (facts 7 (shear_rule h 7 m)) (given 7) (spread (9 * m.shear) (member_line h 7 m) l) 20000000 0 (ceil_of (9 * m.shear * (member_line h 7 m) * l) 20000000) no_more fair (omega arith) 2 (λ x. x) (λ x. x), (result_holds (facts 7 (shear_rule h 7 m)) (given 7) (spread (9 * m.shear) (member_line h 7 m) l) 20000000 0 (Floor (ceil_of (9 * m.shear * (member_line h 7 m) * l) 20000000)) no_more fair mr.area_low mr.area_high 83 (λ x. x) (λ x. x) (λ x. x), (verdict_holds (facts 7 (shear_rule h 7 m)) (record { given = given 7; own = rule_numbers (spread (9 * m.shear) (member_line h 7 m) l) 20000000 0 (Floor (ceil_of (9 * m.shear * (member_line h 7 m) * l) 20000000)) shear_area.high m.area.0 no_more }) refl refl, tt)))))))))

  -- rule 5 of kind 8, by σ1
  bending_8 : MemberRanges 8 m → (b : Bool) → ltb m.stress 197 ≡ b → Says (cond b (Floor (ceil_of (25 * m.bending * m.eta * (member_line h 8 m) * (l * l)) (2000000000 * (197 - m.stress)))) Never) modulus.high (bending_rule h 8 m).asks
      → Section 8 (bending_rule h 8 m) (ruled (both 55 (58 + 3 * bool_byte (is_never (cond b (Floor (ceil_of (25 * m.bending * m.eta * (member_line h 8 m) * (l * l)) (2000000000 * (197 - m.stress)))) Never)))) 0 1 0 (spread (25 * m.bending * m.eta) (member_line h 8 m) (l * l)) (2000000000 * (197 - m.stress)) 0 (cond b (Floor (ceil_of (25 * m.bending * m.eta * (member_line h 8 m) * (l * l)) (2000000000 * (197 - m.stress)))) Never) modulus.high m.modulus.0 (with_ratio (product (member_named h 8 m).pressure S) 1000000))
  unfolding says templates rule_numbers ruled member_line line_load
  bending_8 mr true e fair =
      let deep = deep_bound h.draught.0 h.wave.0 hr.draught_high hr.wave_high h.two_runs in
      let some : 0 < (2000000000 * (197 - m.stress)) = let i = ltb-true m.stress 197 e in omega arith in
      let top : (spread (25 * m.bending * m.eta) (member_line h 8 m) (l * l)) ≡ (25 * m.bending * m.eta * (member_line h 8 m) * (l * l)) = spread_is 8 mr deep (25 * m.bending * m.eta) (l * l) (ends_high 8 mr deep 25 m.bending m.eta (omega arith) mr.bending_high mr.eta_high) (span_high 8 mr deep) in
      ((refl, (tt, (tt, (tt, (tt, (tt, (tt, ((divided_as ((member_named h 8 m).pressure * S) 1000000 (pressed 8 mr deep) refl (lit< tt), ceil_as ((member_pressure h 8 m) * S) 1000000 (asked 8 mr deep) refl (lit< tt)), (tt, tt))))))))), ((tt, ((λ x u v. sym (over_floor (2000000000 * (197 - m.stress)) (25 * m.bending * m.eta * (member_line h 8 m) * (l * l)) x some) ∙ fair x u v, refl, refl), (tt, (tt, (tt, (tt, (tt, (tt, (tt, (tt, (tt, (divided_as (25 * m.bending * m.eta * (member_line h 8 m) * (l * l)) (2000000000 * (197 - m.stress)) top refl some, (tt, (ceil_as (25 * m.bending * m.eta * (member_line h 8 m) * (l * l)) (2000000000 * (197 - m.stress)) top refl some, (tt, tt))))))))))))))), (tt, (tt, (tt, (tt, (floor_holds (facts 8 (bending_rule h 8 m)) (given 8) (spread (25 * m.bending * m.eta) (member_line h 8 m) (l * l)) (2000000000 * (197 - m.stress)) 0 (ceil_of (25 * m.bending * m.eta * (member_line h 8 m) * (l * l)) (2000000000 * (197 - m.stress))) (with_ratio (product (member_named h 8 m).pressure S) 1000000) fair (omega arith) 1 (λ x. x) (λ x. x), (result_holds (facts 8 (bending_rule h 8 m)) (given 8) (spread (25 * m.bending * m.eta) (member_line h 8 m) (l * l)) (2000000000 * (197 - m.stress)) 0 (Floor (ceil_of (25 * m.bending * m.eta * (member_line h 8 m) * (l * l)) (2000000000 * (197 - m.stress)))) (with_ratio (product (member_named h 8 m).pressure S) 1000000) fair mr.modulus_low mr.modulus_high 80 (λ x. x) (λ x. x) (λ x. x), (tt, tt)))))))))
  bending_8 mr false e fair =
      let deep = deep_bound h.draught.0 h.wave.0 hr.draught_high hr.wave_high h.two_runs in
      ((refl, (tt, (tt, (tt, (tt, (tt, (tt, ((divided_as ((member_named h 8 m).pressure * S) 1000000 (pressed 8 mr deep) refl (lit< tt), ceil_as ((member_pressure h 8 m) * S) 1000000 (asked 8 mr deep) refl (lit< tt)), (tt, tt))))))))), ((tt, (tt, (tt, (tt, (tt, (tt, (tt, (tt, (tt, (tt, (tt, (tt, ((ltb-false m.stress 197 e, λ x u v. sym (fair x u v)), (tt, tt)))))))))))))), (tt, (tt, (tt, (tt, (tt, (result_holds (facts 8 (bending_rule h 8 m)) (given 8) (spread (25 * m.bending * m.eta) (member_line h 8 m) (l * l)) (2000000000 * (197 - m.stress)) 0 Never (with_ratio (product (member_named h 8 m).pressure S) 1000000) fair mr.modulus_low mr.modulus_high 80 (λ x. x) (λ x. x) (λ x. x), (tt, tt)))))))))

  pub second_8 : MemberRanges 8 m → Section 8 (bending_rule h 8 m) (member_second 8 m (work_of h 8 m))
  unfolding member_second shape5
  second_8 mr = bending_8 mr (ltb m.stress 197) refl (says5 8 m.bending m.eta m.stress (member_line h 8 m) l)

  -- rule 6 of kind 8
  pub third_8 : MemberRanges 8 m → Section 8 (shear_rule h 8 m) (member_third 8 m (work_of h 8 m))
  unfolding says templates rule_numbers ruled member_third shape6
  third_8 mr =
      let deep = deep_bound h.draught.0 h.wave.0 hr.draught_high hr.wave_high h.two_runs in
      let fair = says6 8 m.shear m.eta (member_line h 8 m) l in
      let top : (spread (7 * m.shear) (member_line h 8 m) l) ≡ (7 * m.shear * (member_line h 8 m) * l) = spread_is 8 mr deep (7 * m.shear) l (omega (arith, mr.shear_high)) (omega (arith, mr.span_high)) in
      ((refl, (tt, ((λ x u v. sym (over_floor 12500000 (7 * m.shear * (member_line h 8 m) * l) x (lit< tt)) ∙ fair x u v, refl, refl), (tt, (tt, (tt, (tt, (tt, (tt, (tt, (divided_as (7 * m.shear * (member_line h 8 m) * l) 12500000 top refl (lit< tt), (tt, (ceil_as (7 * m.shear * (member_line h 8 m) * l) 12500000 top refl (lit< tt), (tt, tt)))))))))))))), (tt, (tt, (tt, (tt, (tt, (floor_holds (facts 8 (shear_rule h 8 m)) (given 8) (spread (7 * m.shear) (member_line h 8 m) l) 12500000 0 (ceil_of (7 * m.shear * (member_line h 8 m) * l) 12500000) no_more fair (omega arith) 2 (λ x. x) (λ x. x), (result_holds (facts 8 (shear_rule h 8 m)) (given 8) (spread (7 * m.shear) (member_line h 8 m) l) 12500000 0 (Floor (ceil_of (7 * m.shear * (member_line h 8 m) * l) 12500000)) no_more fair mr.area_low mr.area_high 83 (λ x. x) (λ x. x) (λ x. x), (verdict_holds (facts 8 (shear_rule h 8 m)) (record { given = given 8; own = rule_numbers (spread (7 * m.shear) (member_line h 8 m) l) 12500000 0 (Floor (ceil_of (7 * m.shear * (member_line h 8 m) * l) 12500000)) shear_area.high m.area.0 no_more }) refl refl, tt)))))))))
