-- The templates of a trail by their numbers: each is phrases of the glossary, so that its text and its meaning are one thing. `tools/make-words` reads this page.
use Rattle.std.specs.Prelude.{ℕ, List, [], ◌∷◌, ◌++◌, get_or}
use Prim.Native.String.{String}
use Rattle.wording.specs.Words.{bytes}
use Rattle.pencil.specs.Registers.{Registers}
use Rattle.pencil.specs.Registers as reg
use Rattle.pencil.specs.Glossary.{Facts, Term, Letter, Formula, Off, Phrase, words_of, says_of, num, tens, of, times, dotted, squared, less, sum, between}
use Rattle.pencil.specs.Glossary.{off_one, off_two, excess, one, thick_front, thick_behind, thick_around, floor_over, floor_plain, floor_around}
use Rattle.pencil.specs.Glossary.{plain, shown, given, kind_is, stands_in, sourced, value_is, sum_is, added, max_is, above_is, calm_is, storm_is, less_is, less_none, net_is, net_none, thousandfold, tenth_is, decides}
use Rattle.pencil.specs.Glossary.{rule_is, stated, lettered, sided, under_is, not_under, ratio_up, side_down, side_most, fork_under, fork_over, rooted, rooted_at, thick_over, per_is, thick_up, floor_up, limit_is, none_left}
use Rattle.pencil.specs.Glossary.{met_x, not_met_x, met_t, not_met_t, one_less, one_more, past_next, one_meets, past_last, least_is, least_none, has_met, has_fails, margin_of, short_by, passes, fails_rule, requires, requires_none}

-- ---- letters

abbrev L : Letter
L = record { name = "L"; reg = reg.length }

abbrev K : Letter
K = record { name = "K"; reg = reg.factor }

abbrev S : Letter
S = record { name = "S"; reg = reg.spacing }

abbrev P : Letter
P = record { name = "P"; reg = reg.pressure }

abbrev R : Letter
R = record { name = "R"; reg = reg.stress }

abbrev M : Letter
M = record { name = "M"; reg = reg.moment }

abbrev ZB : Letter
ZB = record { name = "ZB"; reg = reg.hull_modulus }

abbrev ZDB : Letter
ZDB = record { name = "ZDB"; reg = reg.hull_modulus }

abbrev K2 : Letter
K2 = record { name = "K2"; reg = reg.k2 }

abbrev b1 : Letter
b1 = record { name = "b1"; reg = reg.b1 }

abbrev b2 : Letter
b2 = record { name = "b2"; reg = reg.b2 }

abbrev q : Letter
q = record { name = "q"; reg = reg.line }

abbrev l : Letter
l = record { name = "l"; reg = reg.span }

abbrev βb : Letter
βb = record { name = "βb"; reg = reg.bending }

abbrev βs : Letter
βs = record { name = "βs"; reg = reg.shear }

abbrev η : Letter
η = record { name = "η"; reg = reg.eta }

abbrev σ1 : Letter
σ1 = record { name = "σ1"; reg = reg.sigma }

abbrev D0 : Letter
D0 = record { name = "D0"; reg = reg.draught }

abbrev H : Letter
H = record { name = "H"; reg = reg.wave }

abbrev z : Letter
z = record { name = "z"; reg = reg.height }

abbrev zL : Letter
zL = record { name = "zL"; reg = reg.tank_top }

-- ---- the loads in letters

-- 98100(D0 − z)
abbrev still_water : Term
still_water = times (num 98100) (less (of D0) (of z))

-- 50031H
abbrev wave_height : Term
wave_height = times (num 50031) (of H)

-- 98100(zL − z + 100)
abbrev tank_water : Term
tank_water = times (num 98100) (between (of zL) (of z) (num 100))

-- 14715D0
abbrev least_draught : Term
least_draught = times (num 14715) (of D0)

-- ---- the rules in letters

-- L²K
abbrev LLK : Term
LLK = times (squared (of L)) (of K)

-- S²K
abbrev SSK : Term
SSK = times (squared (of S)) (of K)

-- 36S
abbrev per_spacing : Term
per_spacing = times (num 36) (of S)

-- 18500 + 36S, and its like
abbrev pub off_transverse : Off
off_transverse = off_two (num 18500) per_spacing

abbrev pub off_long : Off
off_long = off_two (num 11000) per_spacing

abbrev pub off_inner : Off
off_inner = off_two (num 15000) per_spacing

abbrev pub off_web : Off
off_web = off_two (num 16300) (times (num 45) (of S))

abbrev pub off_far : Off
off_far = off_one (of S)

abbrev pub off_deep : Off
off_deep = off_one (num 38000)

abbrev pub transverse1 : Formula
transverse1 = excess 100 off_transverse (num 1000) (times (num 9) LLK)

abbrev pub long1 : Formula
long1 = excess 100 off_long (num 1000) (times (num 9) LLK)

abbrev pub inner1 : Formula
inner1 = excess 100 off_inner (num 3125) (times (num 8) LLK)

abbrev pub transverse2 : Formula
transverse2 = thick_front (num 39062500000) (times SSK (of P))

abbrev pub long2 : Formula
long2 = thick_front (num 625000000000) (times (num 9) (times SSK (of P)))

-- 1156S² and 1521S²
abbrev pub panel : Term
panel = times (num 1156) (squared (of S))

abbrev pub long_panel : Term
long_panel = times (num 1521) (squared (of S))

-- (210000 − R)
abbrev pub left : Term
left = less (num 210000) (of R)

abbrev pub transverse3 : Formula
transverse3 = thick_around (num 25) (squared (of K2)) (times panel (of R))

abbrev pub long3 : Formula
long3 = thick_front (num 100000000) (times long_panel (of R))

abbrev pub transverse_second : Formula
transverse_second = thick_behind (times (squared (of K2)) left) (times (num 504100000) SSK)

abbrev pub long_second : Formula
long_second = thick_around (num 10) left (times (num 1681) SSK)

abbrev pub near4 : Formula
near4 = excess 100 off_web (num 6250) LLK

abbrev pub far4 : Formula
far4 = excess 10 off_far one (times (num 15210) (of K))

abbrev pub deep4 : Formula
deep4 = excess 100 off_deep (num 3125) (times (times (num 8) (squared (of L))) (of K))

-- nβbηql², and without η
abbrev bent : ℕ → Term
bent n = times (times (times (times (num n) (of βb)) (of η)) (of q)) (squared (of l))

abbrev bent_plain : ℕ → Term
bent_plain n = times (times (times (num n) (of βb)) (of q)) (squared (of l))

abbrev sheared : ℕ → Term
sheared n = times (times (times (num n) (of βs)) (of q)) (of l)

abbrev pub long5 : Formula
long5 = floor_around "W" (tens 11) (less (num 214) (of σ1)) (bent 833)

abbrev pub floor5 : Formula
floor5 = floor_over "W" (dotted (num 5) (tens 9)) (bent_plain 29)

abbrev pub girder5 : Formula
girder5 = floor_around "W" (dotted (num 2) (tens 9)) (less (num 197) (of σ1)) (bent 25)

abbrev pub long6 : Formula
long6 = floor_over "A" (dotted (num 2) (tens 9)) (times (times (times (times (num 9) (of βs)) (of η)) (of q)) (of l))

abbrev pub floor6 : Formula
floor6 = floor_over "A" (dotted (num 2) (tens 7)) (sheared 9)

abbrev pub girder6 : Formula
girder6 = floor_plain "A" (num 12500000) (sheared 7)

-- ---- lines that several templates have

-- T ≥ .. and its rounding, behind the root
abbrev worked1 : Off → Formula → List Phrase
worked1 off u =
    (plain "\n  " ∷ given L ∷ plain " cm, " ∷ given K ∷ plain ", " ∷ given S ∷ plain " mm\n  " ∷ sided u ∷ plain "\n  " ∷ rooted "X²" ∷ plain "\n  " ∷ thick_over 100 off (per_is per_spacing ∷ []) ∷ plain "\n  " ∷ thick_up ∷ plain "\n" ∷ [])

-- the right side of a thickness, and its root
abbrev worked_t : Formula → List Phrase
worked_t u = (plain "\n  " ∷ sided u ∷ plain "\n  " ∷ rooted "T²" ∷ plain "\n" ∷ [])

-- q
abbrev line_load : List Phrase
line_load = (plain "\n  " ∷ given P ∷ plain " mPa, " ∷ given S ∷ plain " mm\n  " ∷ ratio_up "q" (times (of P) (of S)) (num 1000000) reg.line ∷ plain " N/m\n" ∷ [])

-- R by this modulus
abbrev hull_stress : Letter → List Phrase
hull_stress Z = (plain "  " ∷ given M ∷ plain " kNm, " ∷ given Z ∷ plain " cm³\n  " ∷ ratio_up "R" (times (num 1000000) (of M)) (of Z) reg.stress ∷ plain "\n" ∷ [])

-- the numbers of rule 5's formula, with η and σ1
abbrev bent_by : List Phrase
bent_by = (plain "; " ∷ given βb ∷ plain ", " ∷ given η ∷ plain ", " ∷ given l ∷ plain " cm, " ∷ given σ1 ∷ plain "\n  " ∷ [])

-- its right side, rounded up
abbrev floored : String → Formula → List Phrase
floored x u = (sided u ∷ plain "\n  " ∷ floor_up x ∷ plain "\n" ∷ [])

-- the numbers of rule 6's formula, without η
abbrev sheared_by : List Phrase
sheared_by = (plain "; " ∷ given βs ∷ plain ", " ∷ given q ∷ plain " N/m, " ∷ given l ∷ plain " cm\n  " ∷ [])

-- 1000(b1² + b2²) over b1²
abbrev sides : Term
sides = times (num 1000) (sum (squared (of b1)) (squared (of b2)))

abbrev sides_head : List Phrase
sides_head = (plain "  " ∷ given b1 ∷ plain " cm, " ∷ given b2 ∷ plain " cm\n  " ∷ [])

-- 1156KR and 6084KR
abbrev fork1 : Term
fork1 = times (times (num 1156) (of K)) (of R)

abbrev fork2 : Term
fork2 = times (times (num 6084) (of K)) (of R)

abbrev first_form : List Phrase
first_form = (plain ", " ∷ given K ∷ plain ": the first form\n" ∷ [])

abbrev second_form : List Phrase
second_form = (plain ", " ∷ given K ∷ plain ": the second form\n" ∷ [])

-- the numbers of rule 3's forms
abbrev transverse_by : List Phrase
transverse_by = (plain "; " ∷ given S ∷ plain " mm, " ∷ given K2 ∷ plain ", " ∷ given R ∷ [])

abbrev long_by : List Phrase
long_by = (plain "; " ∷ given S ∷ plain " mm, " ∷ given R ∷ [])

abbrev transverse_second_by : List Phrase
transverse_second_by = (plain "; " ∷ given S ∷ plain " mm, " ∷ given K ∷ plain ", " ∷ given K2 ∷ plain ", " ∷ given R ∷ [])

abbrev long_second_by : List Phrase
long_second_by = (plain "; " ∷ given S ∷ plain " mm, " ∷ given K ∷ plain ", " ∷ given R ∷ [])

abbrev tested : List ℕ
tested = words_of (plain "\n  tested: " ∷ [])

abbrev heading : ℕ → Phrase → List Phrase
heading k words = (plain "member " ∷ shown reg.id ∷ plain ": " ∷ kind_is k ∷ plain ", " ∷ words ∷ plain "\n" ∷ [])

abbrev verdict_fails : ℕ → List Phrase
verdict_fails mark = (plain "verdict: " ∷ fails_rule ∷ plain ", " ∷ requires mark ∷ plain "\n" ∷ [])

-- ---- the templates

unfoldable pub templates : List (List Phrase)
templates =
    -- 0: no line
    []
    -- 1 to 8: which member it is, by its kind
    ∷ heading 1 (plain "bottom plate, transverse framing")
    ∷ heading 2 (plain "bottom plate, longitudinal framing")
    ∷ heading 3 (plain "inner bottom plate, transverse framing")
    ∷ heading 4 (plain "inner bottom plate, longitudinal framing")
    ∷ heading 5 (plain "bottom longitudinal")
    ∷ heading 6 (plain "floor")
    ∷ heading 7 (plain "bottom transverse")
    ∷ heading 8 (plain "centre or side girder")
    -- 9, 10: the sea at or below the draught, and above it; 11, 12: behind it the wind, at H other than 120 and at 120
    ∷ (plain "  " ∷ sourced 0 reg.below ∷ plain ", sea at or below the draught: Ch 2 Sec 3 [3.7.1] a\n    pE = 9.81(T − z + 0.6n), n = 0.85H\n    " ∷ sum_is still_water wave_height (words_of (plain "; 50031 is 9.81·0.6·0.85 in mPa for each cm\n    " ∷ given D0 ∷ plain " cm, " ∷ given z ∷ plain " cm, " ∷ given H ∷ plain " cm: " ∷ [])) reg.still reg.waves reg.below ∷ plain "\n" ∷ [])
    ∷ (plain "  " ∷ sourced 1 reg.above ∷ plain ", sea above the draught: Ch 2 Sec 3 [3.7.1] b, Table 3.7.1\n    pE = max(5.9n; 3) + pWD, n = 0.85H\n    " ∷ max_is (times (num 50150) (of H)) (num 3000000) (plain " + pWD; 50150 is 5.9·0.85 in mPa for each cm\n    " ∷ above_is z D0 ∷ plain "; " ∷ given H ∷ plain " cm: " ∷ []) reg.swell reg.crest ∷ plain "\n    pWD = " ∷ [])
    ∷ (plain "0.25 in kN/m², " ∷ calm_is reg.crest 250000 reg.above ∷ plain "\n" ∷ [])
    ∷ (plain "0.4n, " ∷ storm_is (times (num 3400) (of H)) reg.crest reg.wind reg.above ∷ plain "\n" ∷ [])
    -- 13: ballast on the bottom; 14, 15: pM, and cut off; 16, 17: pB − pM, and cut off
    ∷ (plain "  " ∷ sourced 2 reg.net ∷ plain ", ballast less the least sea: Ch 2 Sec 3 [3.10.2] b, Ch 4 Table 2.6.1\n    pB − pM, pB = 9.81(ZL − z + 1), pM = 9.81(0.15T − 0.6n) ≥ 0, n = 0.85H\n    pB is " ∷ value_is tank_water (words_of (plain ": " ∷ given zL ∷ plain " cm, " ∷ given z ∷ plain " cm: " ∷ [])) reg.tank ∷ plain "\n    pM is " ∷ [])
    ∷ (less_is least_draught wave_height (words_of (plain ": " ∷ given D0 ∷ plain " cm, " ∷ given H ∷ plain " cm: " ∷ [])) reg.lift reg.waves reg.relief ∷ plain "\n    pB − pM" ∷ [])
    ∷ (less_none least_draught wave_height (words_of (plain ": " ∷ given D0 ∷ plain " cm, " ∷ given H ∷ plain " cm: " ∷ [])) reg.lift reg.waves reg.relief ∷ plain "\n    pB − pM" ∷ [])
    ∷ (net_is reg.tank reg.relief reg.net ∷ plain "\n" ∷ [])
    ∷ (net_none reg.tank reg.relief reg.net ∷ plain "\n" ∷ [])
    -- 18, 19: cargo, and ballast on the inner bottom
    ∷ (plain "  " ∷ sourced 3 reg.loaded ∷ plain ", cargo: pC as entered, Ch 4 Table 2.6.1\n    " ∷ thousandfold reg.cargo reg.loaded ∷ plain "\n" ∷ [])
    ∷ (plain "  " ∷ sourced 2 reg.tank ∷ plain ", ballast: Ch 2 Sec 3 [3.10.2] b, pB = 9.81(ZL − z + 1)\n    " ∷ value_is tank_water (words_of (plain ": " ∷ given zL ∷ plain " cm, " ∷ given z ∷ plain " cm: " ∷ [])) reg.tank ∷ plain "\n" ∷ [])
    -- 20, 21: the whole draught, in one run and in two
    ∷ (plain "  " ∷ sourced 0 reg.one_run ∷ plain ", sea on the whole draught: Ch 4 Table 2.8.1\n    pγE = 9.81(γT + 0.6n), γ = 1 in one run, n = 0.85H\n    " ∷ sum_is (times (num 98100) (of D0)) wave_height (words_of (plain "; 50031 is 9.81·0.6·0.85 in mPa for each cm\n    " ∷ given D0 ∷ plain " cm, " ∷ given H ∷ plain " cm: " ∷ [])) reg.deep reg.waves reg.one_run ∷ plain "\n" ∷ [])
    ∷ (plain "  " ∷ sourced 0 reg.two_runs ∷ plain ", sea on the whole draught: Ch 4 Table 2.8.1\n    pγE = 9.81(γT + 0.6n), γ = 0.575 in two runs, n = 0.85H\n    56407.5D0 + 50031H; 50031 is 9.81·0.6·0.85 in mPa for each cm\n    56407.5D0 is " ∷ tenth_is 564075 reg.draught reg.half reg.half_left (words_of (plain "\n    " ∷ [])) reg.half_up ∷ plain "; " ∷ given H ∷ plain " cm: " ∷ added wave_height reg.half_up reg.waves reg.two_runs ∷ plain "\n" ∷ [])
    -- 22: the load that decides; 23: what stands before the loads
    ∷ (plain "  " ∷ decides ∷ plain " mPa\n" ∷ [])
    ∷ (plain "loads on it, in mPa:\n" ∷ [])
    -- 24 to 26: rule 1 of kinds 1, 2, and 3 and 4
    ∷ (rule_is 1 ∷ plain ": Ch 4 Table 2.6.1, t1 = 1.85 + 0.03·L·√k + 3.6·s\n  " ∷ stated transverse1 ∷ plain "; X in 1/10000 mm" ∷ worked1 off_transverse transverse1)
    ∷ (rule_is 1 ∷ plain ": Ch 4 Table 2.6.1, t1 = 1.1 + 0.03·L·√k + 3.6·s\n  " ∷ stated long1 ∷ plain "; X in 1/10000 mm" ∷ worked1 off_long long1)
    ∷ (rule_is 1 ∷ plain ": Ch 4 Table 2.6.1, t1 = 1.5 + 0.016·L·√k + 3.6·s\n  " ∷ stated inner1 ∷ plain "; X in 1/10000 mm" ∷ worked1 off_inner inner1)
    -- 27, 28: rule 2, transverse and longitudinal
    ∷ (rule_is 2 ∷ plain ": Ch 4 Table 2.6.1, t2 = 1.6·s·√(k·p)\n  " ∷ stated transverse2 ∷ plain "\n  " ∷ given S ∷ plain " mm, " ∷ given K ∷ plain ", " ∷ given P ∷ plain " mPa" ∷ worked_t transverse2)
    ∷ (rule_is 2 ∷ plain ": Ch 4 Table 2.6.1, t2 = 1.2·s·√(k·p)\n  " ∷ stated long2 ∷ plain "\n  " ∷ given S ∷ plain " mm, " ∷ given K ∷ plain ", " ∷ given P ∷ plain " mPa" ∷ worked_t long2)
    -- 29 to 32: rule 3 by the kind; 33, 34: of the inner bottom in version 1 and in version 2; 35, 36: R by ZB and by ZDB
    ∷ (rule_is 3 ∷ plain ": Ch 4 Table 2.6.1, t3 = 68·s/k2·√(MH/ZB);\n  where t3/s > 22/(√k·k2): t3 = 7.1·√k·s/(k2·√(0.21 − MH/ZB))\n" ∷ [])
    ∷ (rule_is 3 ∷ plain ": Ch 4 Table 2.6.1, t3 = 39·s·√(MH/ZB);\n  where t3/s > 12.5/√k: t3 = 4.1·√k·s/√(0.21 − MH/ZB)\n" ∷ [])
    ∷ (rule_is 3 ∷ plain ": Ch 4 Table 2.6.1, t3 = 68·s/k2·√(MH/ZB)\n" ∷ [])
    ∷ (rule_is 3 ∷ plain ": Ch 4 Table 2.6.1, t3 = 39·s·√(MH/ZB)\n" ∷ [])
    ∷ (plain "  on the inner bottom MH/ZDB is taken, and there is no second form\n  " ∷ stands_in ∷ plain "\n" ∷ [])
    ∷ (plain "  on the inner bottom MH/ZDB is taken, and there is no second form\n" ∷ [])
    ∷ hull_stress ZB
    ∷ hull_stress ZDB
    -- 37, 38: K2, and at its most
    ∷ (sides_head ++ (side_down sides (squared (of b1)) ∷ plain "\n" ∷ []))
    ∷ (sides_head ++ (side_most sides (squared (of b1)) 26000 ∷ plain "\n" ∷ []))
    -- 39 to 42: the fork of kind 1 and of kind 2, to the first form and to the second
    ∷ (plain "  " ∷ fork_under fork1 121000000000 ∷ first_form)
    ∷ (plain "  " ∷ fork_over fork1 121000000000 ∷ second_form)
    ∷ (plain "  " ∷ fork_under fork2 625000000000 ∷ first_form)
    ∷ (plain "  " ∷ fork_over fork2 625000000000 ∷ second_form)
    -- 43 to 46: the forms, each transverse and longitudinal
    ∷ (plain "  " ∷ stated transverse3 ∷ transverse_by ++ worked_t transverse3)
    ∷ (plain "  " ∷ stated long3 ∷ long_by ++ worked_t long3)
    ∷ (plain "  " ∷ stated transverse_second ∷ transverse_second_by ++ worked_t transverse_second)
    ∷ (plain "  " ∷ stated long_second ∷ long_second_by ++ worked_t long_second)
    -- 47 to 50: the same where no thickness of the gauge meets them
    ∷ (plain "  " ∷ stated transverse3 ∷ transverse_by ++ (plain "\n  " ∷ limit_is (num 25) (squared (of K2)) panel tested ∷ plain "\n" ∷ []))
    ∷ (plain "  " ∷ stated long3 ∷ long_by ++ (plain "\n  " ∷ limit_is (num 100000000) one long_panel tested ∷ plain "\n" ∷ []))
    ∷ (plain "  " ∷ lettered transverse_second ∷ transverse_second_by ++ (plain "\n  tested: " ∷ none_left R 210000 "T" ∷ plain "\n" ∷ []))
    ∷ (plain "  " ∷ lettered long_second ∷ long_second_by ++ (plain "\n  tested: " ∷ none_left R 210000 "T" ∷ plain "\n" ∷ []))
    -- 51 to 53: rule 4 of kind 5 under L 12000 and from it on, and of kinds 6 to 8
    ∷ (rule_is 4 ∷ plain ": Ch 4 Sec 2 [2.7.1], t = 1.63 + 0.004·L·√k + 4.5·s, L < 120 m\n  " ∷ stated near4 ∷ plain "; X in 1/10000 mm\n  " ∷ under_is L 12000 ∷ plain "; " ∷ given K ∷ plain ", " ∷ given S ∷ plain " mm\n  " ∷ sided near4 ∷ plain "\n  " ∷ rooted "X²" ∷ plain "\n  " ∷ thick_over 100 off_web (per_is (times (num 45) (of S)) ∷ []) ∷ plain "\n  " ∷ thick_up ∷ plain "\n" ∷ [])
    ∷ (rule_is 4 ∷ plain ": Ch 4 Sec 2 [2.7.1], t = 3.9·√k + s, L ≥ 120 m\n  " ∷ stated far4 ∷ plain "; X in 1/1000 mm\n  " ∷ not_under L 12000 ∷ plain "; " ∷ given K ∷ plain ", " ∷ given S ∷ plain " mm\n  " ∷ rooted_at (times (num 15210) (of K)) ∷ plain "\n  " ∷ thick_over 10 off_far [] ∷ plain "\n  " ∷ thick_up ∷ plain "\n" ∷ [])
    ∷ (rule_is 4 ∷ plain ": Ch 4 Sec 2 [2.7.1], t = 3.8 + 0.016·L·√k\n  " ∷ stated deep4 ∷ plain "; X in 1/10000 mm\n  " ∷ given L ∷ plain " cm, " ∷ given K ∷ plain "\n  " ∷ sided deep4 ∷ plain "\n  " ∷ rooted "X²" ∷ plain "\n  " ∷ thick_over 100 off_deep [] ∷ plain "\n  " ∷ thick_up ∷ plain "\n" ∷ [])
    -- 54 to 56: rule 5 up to q, of kind 5, of girders, and of floors and transverses; 57 to 59: its right side; 60, 61: where σ1 leaves nothing
    ∷ (rule_is 5 ∷ plain ": Ch 4 Table 2.8.1, w = 83.3/(214 − σ1)·βb·η·pE·s·l²" ∷ line_load)
    ∷ (rule_is 5 ∷ plain ": Ch 4 Table 2.8.1, w = 125/(197 − σ1)·βb·η·pγE·S·l²" ∷ line_load)
    ∷ (rule_is 5 ∷ plain ": Ch 4 Table 2.8.1, w = 0.58·βb·pγE·s·l²" ∷ line_load)
    ∷ (plain "  " ∷ stated long5 ∷ bent_by ++ floored "W" long5)
    ∷ (plain "  " ∷ stated girder5 ∷ bent_by ++ floored "W" girder5)
    ∷ (plain "  " ∷ stated floor5 ∷ plain "; " ∷ given βb ∷ plain ", " ∷ given l ∷ plain " cm\n  " ∷ floored "W" floor5)
    ∷ (plain "  " ∷ lettered long5 ∷ bent_by ++ (plain "tested: " ∷ none_left σ1 214 "W" ∷ plain "\n" ∷ []))
    ∷ (plain "  " ∷ lettered girder5 ∷ bent_by ++ (plain "tested: " ∷ none_left σ1 197 "W" ∷ plain "\n" ∷ []))
    -- 62 to 64: rule 6 of kind 5, of floors and transverses, and of girders
    ∷ (rule_is 6 ∷ plain ": Ch 4 Table 2.8.1, Ash = 0.045·βs·η·pE·s·l\n  " ∷ stated long6 ∷ plain "; " ∷ given βs ∷ plain ", " ∷ given η ∷ plain ", " ∷ given q ∷ plain " N/m, " ∷ given l ∷ plain " cm\n  " ∷ floored "A" long6)
    ∷ (rule_is 6 ∷ plain ": Ch 4 Table 2.8.1, Ash = 0.045·βs·pγE·s·l\n  " ∷ stated floor6 ∷ sheared_by ++ floored "A" floor6)
    ∷ (rule_is 6 ∷ plain ": Ch 4 Table 2.8.1, Ash = 0.056·βs·pγE·S·l\n  " ∷ stated girder6 ∷ sheared_by ++ floored "A" girder6)
    -- 65 to 67: the last step with X: the first number meets the rule; the next one does; neither in the gauge
    ∷ (plain "  tested: " ∷ met_x reg.first reg.first_x reg.first_square ∷ plain "\n  " ∷ one_less ∷ not_met_x reg.other reg.other_x reg.other_square ∷ plain "\n" ∷ [])
    ∷ (plain "  tested: " ∷ not_met_x reg.first reg.first_x reg.first_square ∷ plain "\n  " ∷ one_more ∷ met_x reg.other reg.other_x reg.other_square ∷ plain "\n" ∷ [])
    ∷ (plain "  tested: " ∷ not_met_x reg.first reg.first_x reg.first_square ∷ plain "\n  " ∷ past_next ∷ plain "\n" ∷ [])
    -- 68 to 70: the same with T alone
    ∷ (plain "  tested: " ∷ met_t reg.first reg.first_square ∷ plain "\n  " ∷ one_less ∷ not_met_t reg.other reg.other_square ∷ plain "\n" ∷ [])
    ∷ (plain "  tested: " ∷ not_met_t reg.first reg.first_square ∷ plain "\n  " ∷ one_more ∷ met_t reg.other reg.other_square ∷ plain "\n" ∷ [])
    ∷ (plain "  tested: " ∷ not_met_t reg.first reg.first_square ∷ plain "\n  " ∷ past_next ∷ plain "\n" ∷ [])
    -- 71 to 73: 1 meets the rule
    ∷ (plain "  " ∷ one_meets "T" ∷ plain "\n" ∷ [])
    ∷ (plain "  " ∷ one_meets "W" ∷ plain "\n" ∷ [])
    ∷ (plain "  " ∷ one_meets "A" ∷ plain "\n" ∷ [])
    -- 74 to 76: the first number is past the gauge
    ∷ (plain "  " ∷ past_last "T" ∷ plain "\n" ∷ [])
    ∷ (plain "  " ∷ past_last "W" ∷ plain "\n" ∷ [])
    ∷ (plain "  " ∷ past_last "A" ∷ plain "\n" ∷ [])
    -- 77 to 79: nothing meets the rule; met; not met, in mm; 80 to 82 in cm³; 83 to 85 in cm²
    ∷ (plain "  " ∷ least_none ∷ plain ", " ∷ has_fails 36 ∷ plain "\n" ∷ [])
    ∷ (plain "  " ∷ least_is 36 ∷ plain ", " ∷ has_met 36 ∷ plain ", " ∷ margin_of ∷ plain "\n" ∷ [])
    ∷ (plain "  " ∷ least_is 36 ∷ plain ", " ∷ has_fails 36 ∷ plain ", " ∷ short_by ∷ plain "\n" ∷ [])
    ∷ (plain "  " ∷ least_none ∷ plain ", " ∷ has_fails 37 ∷ plain "\n" ∷ [])
    ∷ (plain "  " ∷ least_is 37 ∷ plain ", " ∷ has_met 37 ∷ plain ", " ∷ margin_of ∷ plain "\n" ∷ [])
    ∷ (plain "  " ∷ least_is 37 ∷ plain ", " ∷ has_fails 37 ∷ plain ", " ∷ short_by ∷ plain "\n" ∷ [])
    ∷ (plain "  " ∷ least_none ∷ plain ", " ∷ has_fails 38 ∷ plain "\n" ∷ [])
    ∷ (plain "  " ∷ least_is 38 ∷ plain ", " ∷ has_met 38 ∷ plain ", " ∷ margin_of ∷ plain "\n" ∷ [])
    ∷ (plain "  " ∷ least_is 38 ∷ plain ", " ∷ has_fails 38 ∷ plain ", " ∷ short_by ∷ plain "\n" ∷ [])
    -- 86 to 90: the verdict: a pass; nothing will do; what is required, in mm, cm³ and cm²
    ∷ (plain "verdict: " ∷ passes ∷ plain "\n" ∷ [])
    ∷ (plain "verdict: " ∷ fails_rule ∷ plain ", " ∷ requires_none ∷ plain "\n" ∷ [])
    ∷ verdict_fails 36
    ∷ verdict_fails 37
    ∷ verdict_fails 38
    -- 91: a header or a record that is turned away
    ∷ (plain "refused " ∷ shown reg.rule ∷ plain " " ∷ shown reg.required ∷ plain "\n" ∷ [])
    ∷ []

-- what stands once before the first trail: which letter here is which in the class rules, and which entries are the designer's
unfoldable pub head_words : List ℕ
head_words =
    bytes "letters here, and in the class rules (INTLREG Part 3, 2021):\n  L, l, z, b1, b2  the same, there in m, here in cm\n  D0               T, the draught, there in m, here in cm\n  H                the wave height, there in m, here in cm; n = 0.85H\n  zL               ZL, the top of the tank, there in m, here in cm\n  S                s or S, the spacing, there in m, here in mm\n  T                t, a thickness, there in mm, here in hundredths of a mm\n  W                w, a section modulus, there in cm³, here in tenths of a cm³\n  A                Ash, a shear area, there in cm², here in hundredths of a cm²\n  P                p, a pressure, there in kN/m², here in mPa\n"
    ++ bytes "  q                p·s, a line load, there in kN/m, here in N/m\n  K, K2            1000 times k and k2\n  βb, βs, η        the same, here in hundredths\n  σ1               the same, in N/mm²\n  M, ZB, ZDB       MH in kNm, ZB and ZDB in cm³\n  R                1000000 times M/ZB, or M/ZDB\n  X                what a thickness has over a fixed part; its unit is beside it\nthe designer enters k, βb, βs, η, σ1, M, ZB and ZDB; all else is the rules' own.\nof two equal loads that of the lower source decides.\n"

-- ---- their text

abbrev pub texts_of : List (List Phrase) → List (List ℕ)
texts_of [] = []
texts_of (t ∷ ts) = words_of t ∷ texts_of ts

unfoldable pub texts : List (List ℕ)
texts = texts_of templates

-- the text of a template, none where there is no such number
abbrev pub text : ℕ → List ℕ
text t = get_or texts t []

-- ---- their meaning

unfoldable pub says : ℕ → Facts → Registers → Type 0
says t f r = says_of (get_or templates t []) f r

-- every line of a section holds
abbrev pub Holds : List ℕ → Facts → Registers → Type 0
Holds [] f r = Unit {0}
Holds (t ∷ ts) f r = says t f r × Holds ts f r
