-- Numbers off the drawing board: the document's twelve cases, in one table; and what the inner bottom's own modulus makes of them in version 2.
-- Assumes nothing.
use Rattle.std.specs.Prelude.{ℕ, ◌≡◌, refl, false, List, [], ◌∷◌, map}
use Rattle.gauge.specs.Least.{least_in, number_of}
use Rattle.loads.specs.Loads.{sea, relief}
use Rattle.sheet.specs.declared.Header.{Header}
use Rattle.sheet.specs.declared.Own.{Own}
use Rattle.sheet.specs.declared.Own.TheVariants.{One, Two}
use Rattle.sheet.specs.declared.Plate.{Plate}
use Rattle.sheet.specs.declared.Member.{Member}
use Rattle.sheet.specs.Versions.{version_of}
use Rattle.verdict.specs.Verdict.{Rule}
use Rattle.plating.specs.Rules.{K2, asked3, plate_rules}
use Rattle.framing.specs.Rules.{member_line, web_rule, member_rules}
use Rattle.hull.specs.laws.Computing.{judging}

-- vessel V with another length, moment or modulus, in the version that holds this of its own
abbrev pub vessel_of : Own → ℕ → ℕ → ℕ → Header
vessel_of own L M ZB =
    record {
      version = (version_of own).number;
      length = record { 0 = L };
      draught = record { 0 = 250 };
      wave = record { 0 = 60 };
      two_runs = false;
      moment = M;
      bottom_modulus = ZB;
      count = 1;
      own = own;
    }

-- in version 1
abbrev pub vessel : ℕ → ℕ → ℕ → Header
vessel = vessel_of One

-- V
abbrev pub v : Header
v = vessel 8000 20000 200000

-- a plate with K 1000, S 500, z 0 and no ballast: its thickness, its sides and its cargo
abbrev pub plate : ℕ → ℕ → ℕ → ℕ → Plate
plate T b1 b2 cargo =
    record {
      factor = record { 0 = 1000 };
      z = record { 0 = 0 };
      spacing = record { 0 = 500 };
      thickness = record { 0 = T };
      b1 = record { 0 = b1 };
      b2 = record { 0 = b2 };
      ballast = false;
      tank_top = record { 0 = 0 };
      cargo = cargo;
    }

-- a member with K 1000, z 0, βb and βs 100: its S, l, η, σ1 and its T, W, A
abbrev pub member : (S l η σ1 T W A : ℕ) → Member
member S l η σ1 T W A =
    record {
      z = record { 0 = 0 };
      spacing = record { 0 = S };
      span = record { 0 = l };
      thickness = record { 0 = T };
      bending = 100;
      shear = 100;
      eta = η;
      stress = σ1;
      modulus = record { 0 = W };
      area = record { 0 = A };
      factor = record { 0 = 1000 };
    }

-- what a rule requires, 0 where nothing will do
abbrev pub required : Rule → ℕ
required r = number_of (least_in r.asks r.top)

-- rule 3 of kind 1 where K2 is 1000 and ZB 1,000,000
abbrev pub rule3_at : ℕ → ℕ
rule3_at M = required (asked3 (vessel 8000 M 1000000) 1 (plate 1 1000 10 0))

-- the web of case 12
abbrev pub web_at : ℕ → ℕ
web_at L = required (web_rule (vessel L 20000 200000) 5 (member 600 300 90 50 1 1 1))

-- cases 1 to 12, a row each
abbrev pub computed : List (List ℕ)
computed =
    (sea 250 60 0 ∷ sea 250 60 250 ∷ sea 250 60 251 ∷ [])
    ∷ (sea 250 0 250 ∷ sea 250 0 251 ∷ sea 250 120 251 ∷ [])
    ∷ (relief 250 60 ∷ relief 100 120 ∷ [])
    ∷ map required (plate_rules v 2 (plate 1 0 0 0))
    ∷ (K2 250 50 ∷ map required (plate_rules v 1 (plate 1 250 50 0)))
    ∷ (K2 10 60 ∷ [])
    ∷ (K2 1000 10 ∷ rule3_at 104671 ∷ rule3_at 104672 ∷ [])
    ∷ (rule3_at 209999 ∷ rule3_at 210000 ∷ [])
    ∷ map required (plate_rules v 4 (plate 1 0 0 30000))
    ∷ (member_line v 5 (member 500 300 90 50 1 1 1) ∷ map required (member_rules v 5 (member 500 300 90 50 1 1 1)))
    ∷ map required (member_rules v 6 (member 500 500 100 0 1 1 1))
    ∷ (web_at 11999 ∷ web_at 12000 ∷ [])
    ∷ []

-- as the document prints them
abbrev pub printed : List (List ℕ)
printed =
    (27526860 ∷ 3001860 ∷ 3259000 ∷ [])
    ∷ (0 ∷ 3250000 ∷ 6426000 ∷ [])
    ∷ (676890 ∷ 0 ∷ [])
    ∷ (530 ∷ 315 ∷ 617 ∷ [])
    ∷ (1040 ∷ 605 ∷ 420 ∷ 1034 ∷ [])
    ∷ (26000 ∷ [])
    ∷ (1000 ∷ 1100 ∷ 1094 ∷ [])
    ∷ (0 ∷ 0 ∷ [])
    ∷ (458 ∷ 329 ∷ 617 ∷ [])
    ∷ (13764 ∷ 420 ∷ 567 ∷ 168 ∷ [])
    ∷ (508 ∷ 1996 ∷ 310 ∷ [])
    ∷ (481 ∷ 450 ∷ [])
    ∷ []

pub twelve_cases : computed ≡ printed
unfolding judging
twelve_cases = refl

-- V in version 2, with depth 300 and this ZDB
abbrev pub second : ℕ → Header
second ZDB = vessel_of (Two (record { inner_modulus = ZDB; depth = record { 0 = 300 } })) 8000 20000 200000

-- case 9, its plate under transverse framing, and case 4, by ZDB
abbrev pub inner : ℕ → List (List ℕ)
inner ZDB =
    map required (plate_rules (second ZDB) 4 (plate 1 0 0 30000))
    ∷ map required (plate_rules (second ZDB) 3 (plate 1 250 50 30000))
    ∷ map required (plate_rules (second ZDB) 2 (plate 1 0 0 0))
    ∷ []

-- twice ZB, ZB itself and half of it: rule 3 of kinds 3 and 4 goes by ZDB, that of kind 2 stays
pub inner_cases : (inner 400000 ≡ (458 ∷ 329 ∷ 437 ∷ []) ∷ (458 ∷ 439 ∷ 732 ∷ []) ∷ (530 ∷ 315 ∷ 617 ∷ []) ∷ [])
    × (inner 200000 ≡ (458 ∷ 329 ∷ 617 ∷ []) ∷ (458 ∷ 439 ∷ 1034 ∷ []) ∷ (530 ∷ 315 ∷ 617 ∷ []) ∷ [])
    × (inner 100000 ≡ (458 ∷ 329 ∷ 873 ∷ []) ∷ (458 ∷ 439 ∷ 1463 ∷ []) ∷ (530 ∷ 315 ∷ 617 ∷ []) ∷ [])
unfolding judging
inner_cases = (refl, refl, refl)
