-- The trails of the document's two members, line by line.
-- Assumes nothing.
use Rattle.std.specs.Prelude.{◌≡◌, refl, ◌++◌}
use Rattle.root.specs.Root.{root_of, root_in}
use Rattle.gauge.specs.Ceil.{ceil_of}
use Rattle.gauge.specs.Least.{first_from, least_in}
use Rattle.loads.specs.Loads.{sea, bottom_pressure, inner_pressure, deep_pressure, line_load}
use Rattle.decimal.specs.Decimal.{digits_in, decimal_of}
use Rattle.wording.specs.Words.{bytes, shown, piece_of, pieces}
use Rattle.wording.specs.Writes.{text_of}
use Rattle.plating.specs.Rules.{K2}
use Rattle.plating.specs.Shapes.{shape1, shape2, first_shape, second_shape, shape3}
use Rattle.plating.specs.Work.{work_of as plateWork}
use Rattle.framing.specs.Rules.{rule4, rule5, rule6, member_line}
use Rattle.framing.specs.Shapes.{shape4, shape5, shape6}
use Rattle.framing.specs.Work.{work_of as memberWork}
use Rattle.hull.specs.laws.Cases.{v, plate, member}
use Rattle.pencil.specs.Templates.{templates, texts}
use Rattle.pencil.specs.Numbers.{product, rule_numbers, load_numbers}
use Rattle.pencil.specs.Trail.{line_pieces, head_of, ruled, plate_first, plate_second, form_of, plate_third, plate_trail, member_first, member_second, member_third, member_trail, sections_text}

-- case 4, as id 7 at T 600
pub plate_case : sections_text (plate_trail v 2 7 (plate 600 0 0 0) (plateWork v 2 (plate 600 0 0 0))) ≡
    bytes "member 7: kind 2, bottom plate, longitudinal framing\n"
    ++ bytes "loads on it, in mPa:\n"
    ++ bytes "  source 0, sea at or below the draught: Ch 2 Sec 3 [3.7.1] a\n"
    ++ bytes "    pE = 9.81(T − z + 0.6n), n = 0.85H\n"
    ++ bytes "    98100(D0 − z) + 50031H; 50031 is 9.81·0.6·0.85 in mPa for each cm\n"
    ++ bytes "    D0 250 cm, z 0 cm, H 60 cm: 24525000 + 3001860 = 27526860\n"
    ++ bytes "  decides: source 0, P 27526860 mPa\n"
    ++ bytes "rule 1: Ch 4 Table 2.6.1, t1 = 1.1 + 0.03·L·√k + 3.6·s\n"
    ++ bytes "  X = 100T − 11000 − 36S ≥ 0, 1000X² ≥ 9L²K; X in 1/10000 mm\n"
    ++ bytes "  L 8000 cm, K 1000, S 500 mm\n"
    ++ bytes "  X² ≥ 9L²K/1000 = 576000000, remainder 0\n"
    ++ bytes "  rounded up: X² ≥ 576000000; root, rounded down: 24000\n"
    ++ bytes "  T ≥ (24000 + 11000 + 36S)/100, 36S = 18000: 530, remainder 0\n"
    ++ bytes "  rounded up: T 530\n"
    ++ bytes "  tested: T 530, X 24000: X² = 576000000 ≥ 576000000, met\n"
    ++ bytes "  one less: T 529, X 23900: X² = 571210000 < 576000000, not met\n"
    ++ bytes "  least 530 (5.30 mm), has 600 (6.00 mm): met, margin 70\n"
    ++ bytes "rule 2: Ch 4 Table 2.6.1, t2 = 1.2·s·√(k·p)\n"
    ++ bytes "  625000000000T² ≥ 9S²KP\n"
    ++ bytes "  S 500 mm, K 1000, P 27526860 mPa\n"
    ++ bytes "  T² ≥ 9S²KP/625000000000 = 99096, remainder 435000000000\n"
    ++ bytes "  rounded up: T² ≥ 99097; root, rounded down: 314\n"
    ++ bytes "  tested: T 314: T² = 98596 < 99097, not met\n"
    ++ bytes "  one more: T 315: T² = 99225 ≥ 99097, met\n"
    ++ bytes "  least 315 (3.15 mm), has 600 (6.00 mm): met, margin 285\n"
    ++ bytes "rule 3: Ch 4 Table 2.6.1, t3 = 39·s·√(MH/ZB);\n"
    ++ bytes "  where t3/s > 12.5/√k: t3 = 4.1·√k·s/√(0.21 − MH/ZB)\n"
    ++ bytes "  M 20000 kNm, ZB 200000 cm³\n"
    ++ bytes "  R = 1000000M/ZB = 100000, remainder 0; rounded up: 100000\n"
    ++ bytes "  6084KR = 608400000000 ≤ 625000000000, K 1000: the first form\n"
    ++ bytes "  100000000T² ≥ 1521S²R; S 500 mm, R 100000\n"
    ++ bytes "  T² ≥ 1521S²R/100000000 = 380250, remainder 0\n"
    ++ bytes "  rounded up: T² ≥ 380250; root, rounded down: 616\n"
    ++ bytes "  tested: T 616: T² = 379456 < 380250, not met\n"
    ++ bytes "  one more: T 617: T² = 380689 ≥ 380250, met\n"
    ++ bytes "  least 617 (6.17 mm), has 600 (6.00 mm): fails, short by 17\n"
    ++ bytes "verdict: fails rule 3, required 617 (6.17 mm)\n"
unfolding root_of root_in ceil_of first_from least_in digits_in decimal_of shown piece_of pieces text_of templates texts line_pieces product rule_numbers load_numbers head_of ruled sea bottom_pressure inner_pressure K2 shape1 shape2 first_shape second_shape shape3 plate_first plate_second form_of plate_third plate_trail
plate_case = refl

-- case 10, as id 12 at T 420, W 560, A 168
pub member_case : sections_text (member_trail v 5 12 (member 500 300 90 50 420 560 168) (memberWork v 5 (member 500 300 90 50 420 560 168))) ≡
    bytes "member 12: kind 5, bottom longitudinal\n"
    ++ bytes "loads on it, in mPa:\n"
    ++ bytes "  source 0, sea at or below the draught: Ch 2 Sec 3 [3.7.1] a\n"
    ++ bytes "    pE = 9.81(T − z + 0.6n), n = 0.85H\n"
    ++ bytes "    98100(D0 − z) + 50031H; 50031 is 9.81·0.6·0.85 in mPa for each cm\n"
    ++ bytes "    D0 250 cm, z 0 cm, H 60 cm: 24525000 + 3001860 = 27526860\n"
    ++ bytes "  decides: source 0, P 27526860 mPa\n"
    ++ bytes "rule 4: Ch 4 Sec 2 [2.7.1], t = 1.63 + 0.004·L·√k + 4.5·s, L < 120 m\n"
    ++ bytes "  X = 100T − 16300 − 45S ≥ 0, 6250X² ≥ L²K; X in 1/10000 mm\n"
    ++ bytes "  L 8000 cm, under 12000; K 1000, S 500 mm\n"
    ++ bytes "  X² ≥ L²K/6250 = 10240000, remainder 0\n"
    ++ bytes "  rounded up: X² ≥ 10240000; root, rounded down: 3200\n"
    ++ bytes "  T ≥ (3200 + 16300 + 45S)/100, 45S = 22500: 420, remainder 0\n"
    ++ bytes "  rounded up: T 420\n"
    ++ bytes "  tested: T 420, X 3200: X² = 10240000 ≥ 10240000, met\n"
    ++ bytes "  one less: T 419, X 3100: X² = 9610000 < 10240000, not met\n"
    ++ bytes "  least 420 (4.20 mm), has 420 (4.20 mm): met, margin 0\n"
    ++ bytes "rule 5: Ch 4 Table 2.8.1, w = 83.3/(214 − σ1)·βb·η·pE·s·l²\n"
    ++ bytes "  P 27526860 mPa, S 500 mm\n"
    ++ bytes "  q = PS/1000000 = 13763, remainder 430000; rounded up: 13764 N/m\n"
    ++ bytes "  10¹¹W(214 − σ1) ≥ 833βbηql²; βb 100, η 90, l 300 cm, σ1 50\n"
    ++ bytes "  W ≥ 833βbηql²/(10¹¹(214 − σ1)) = 566, remainder 4583720000000\n"
    ++ bytes "  rounded up: W ≥ 567\n"
    ++ bytes "  least 567 (56.7 cm³), has 560 (56.0 cm³): fails, short by 7\n"
    ++ bytes "rule 6: Ch 4 Table 2.8.1, Ash = 0.045·βs·η·pE·s·l\n"
    ++ bytes "  2·10⁹A ≥ 9βsηql; βs 100, η 90, q 13764 N/m, l 300 cm\n"
    ++ bytes "  A ≥ 9βsηql/(2·10⁹) = 167, remainder 465200000\n"
    ++ bytes "  rounded up: A ≥ 168\n"
    ++ bytes "  least 168 (1.68 cm²), has 168 (1.68 cm²): met, margin 0\n"
    ++ bytes "verdict: fails rule 5, required 567 (56.7 cm³)\n"
unfolding root_of root_in ceil_of first_from least_in digits_in decimal_of shown piece_of pieces text_of templates texts line_pieces product rule_numbers load_numbers head_of ruled sea deep_pressure line_load rule4 rule5 rule6 member_line shape4 shape5 shape6 member_first member_second member_third member_trail
member_case = refl
