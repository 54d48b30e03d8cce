-- Of several faulty fields the first is named; and where a range rests on an earlier field, the later one is the fault.
-- Assumes nothing.
use Rattle.std.specs.Prelude.{ℕ, suc, ◌+◌, ◌≤◌, ◌<◌, ◌≡◌, refl, Bool, true, false, cond, List, [], ◌∷◌, ◌++◌, length, take, drop}
use Rattle.std.proofs.Common.{ap, ◌∙◌, arith}
use Rattle.std.proofs.lemmas.Bool.{lt-leb}
use Rattle.quantity.specs.Range.{within, from}
use Rattle.layout.specs.Line.{Line, Allowed, allows_at, fault_from, FirstFault}
use Rattle.sheet.specs.declared.Header.{Header}
use Rattle.sheet.specs.declared.Own.TheVariants.{One}
use Rattle.sheet.specs.declared.Plate.{Plate}
use Rattle.sheet.specs.declared.Member.{Member}
use Rattle.sheet.specs.Lines.{either, none, plate_lines}
use Rattle.sheet.specs.Header.{raw_fault, header_fault}
use Rattle.sheet.specs.Record.{plate_values, plate_fault, member_fault}

-- no faulty field comes before the one named
pub first_named : (i : ℕ) (ls : List Line) (vs : List ℕ) → FirstFault i ls vs → (j : ℕ) → allows_at j ls vs ≡ false → i ≤ j
first_named i ls vs f j e = omega (arith, not_before)
  where
    not_before : j < i → ⊥
    not_before l = let t = f.earlier j l in let z : ◌≡◌ {A = ℕ} 0 1 = cc in omega arith

-- past fields within their values the search goes on with the next
pub past_allowed : (k : ℕ) (us ls : List Line) (xs vs : List ℕ) → Allowed us xs → fault_from k (us ++ ls) (xs ++ vs) ≡ fault_from (k + length us) ls vs
past_allowed k [] ls [] vs a = ap (λ (n : ℕ). fault_from n ls vs) (omega arith)
past_allowed k (u ∷ us) ls (x ∷ xs) vs a =
    rw a.0 (past_allowed (suc k) us ls xs vs a.1 ∙ ap (λ (n : ℕ). fault_from n ls vs) (omega arith))
past_allowed k [] ls (x ∷ xs) vs a = elim a [ ]
past_allowed k (u ∷ us) ls [] vs a = elim a [ ]

-- ---- zL against z

below : (t : Bool) (z v : ℕ) → t ≡ true → v < z → within (either t (from z 1200) none) v ≡ false
below true z v e l = rw (lt-leb z v l)
below false z v e l = absurd (let x : ◌≡◌ {A = ℕ} 0 1 = cc in omega arith)

-- a plate with ballast whose zL is below z, the fields before zL being within their values: the fault is zL, the tenth field, and not z
pub tank_named_lem : (kind id : ℕ) (p : Plate) (spare : ℕ)
    → Allowed (take 9 (plate_lines kind p.ballast p.z.0)) (take 9 (plate_values kind id p spare))
    → p.ballast ≡ true → p.tank_top.0 < p.z.0 → plate_fault kind id p spare ≡ 10
unfolding plate_fault
tank_named_lem kind id p spare a b l =
    let ls = plate_lines kind p.ballast p.z.0 in
    let vs = plate_values kind id p spare in
    past_allowed 1 (take 9 ls) (drop 9 ls) (take 9 vs) (drop 9 vs) a
    ∙ ap (λ (t : Bool). cond t (fault_from 11 (drop 10 ls) (drop 10 vs)) 10) (below p.ballast p.z.0 p.tank_top.0 b l)

-- ---- cases

-- a header with a draught and a count outside their values
abbrev two_faults : Header
two_faults =
    record {
      version = 1;
      length = record { 0 = 8000 };
      draught = record { 0 = 0 };
      wave = record { 0 = 60 };
      two_runs = false;
      moment = 20000;
      bottom_modulus = 200000;
      count = 401;
      own = One;
    }

pub draught_named : header_fault two_faults ≡ 3
unfolding raw_fault
draught_named = refl

-- a plate by the fields that rest on another or on which another rests
abbrev plate : (z b1 b2 : ℕ) (ballast : Bool) (zL cargo : ℕ) → Plate
plate z b1 b2 ballast zL cargo =
    record {
      factor = record { 0 = 1000 };
      z = record { 0 = z };
      spacing = record { 0 = 500 };
      thickness = record { 0 = 600 };
      b1 = record { 0 = b1 };
      b2 = record { 0 = b2 };
      ballast = ballast;
      tank_top = record { 0 = zL };
      cargo = cargo;
    }

abbrev member : (z eta stress : ℕ) → Member
member z eta stress =
    record {
      z = record { 0 = z };
      spacing = record { 0 = 500 };
      span = record { 0 = 300 };
      thickness = record { 0 = 420 };
      bending = 100;
      shear = 100;
      eta = eta;
      stress = stress;
      modulus = record { 0 = 560 };
      area = record { 0 = 168 };
      factor = record { 0 = 1000 };
    }

-- kind 1 and kind 5 with nothing at fault; then each field whose range rests on an earlier one, outside it: b1, b2, zL with ballast and without,
-- and the cargo; z, η and σ1 of a floor
pub later_named : (plate_fault 1 7 (plate 300 250 50 true 400 0) 0 ≡ 0)
    × (plate_fault 2 7 (plate 300 250 0 true 400 0) 0 ≡ 7)
    × (plate_fault 2 7 (plate 300 0 50 true 400 0) 0 ≡ 8)
    × (plate_fault 1 7 (plate 300 250 50 true 299 0) 0 ≡ 10)
    × (plate_fault 1 7 (plate 300 250 50 false 400 0) 0 ≡ 10)
    × (plate_fault 1 7 (plate 300 250 50 true 400 30000) 0 ≡ 11)
    × (member_fault 5 12 (member 300 90 50) ≡ 0)
    × (member_fault 6 12 (member 300 100 0) ≡ 3)
    × (member_fault 6 12 (member 0 90 0) ≡ 9)
    × (member_fault 6 12 (member 0 100 50) ≡ 10)
unfolding plate_fault member_fault
later_named = (refl, refl, refl, refl, refl, refl, refl, refl, refl, refl)
