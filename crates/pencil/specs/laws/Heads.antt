-- Which member it is and its loads: each line holds.
-- Assumes nothing.
use Rattle.std.specs.Prelude.{ℕ, ◌+◌, ◌-◌, ◌*◌, ◌≤◌, ◌<◌, Bool, ◌≡◌, ltb, eqb}
use Rattle.std.proofs.Math.Bool.{true, false, cond}
use Rattle.std.proofs.Math.Path.{refl, ap, subst}
use Rattle.std.proofs.Common.{sym, ◌∙◌, lit<}
use mathlib.Core.List.{List, [], ◌∷◌}
use native.Mathlib.Omega.{arith}
use mir.Val.{bool_byte}
use borrow.Author.Tests.{le-leb, lt-leb, ltb-true, ltb-false, eqb-true, eqb-false}
use Rattle.loads.specs.Loads.{sea, crest, wind, ballast, relief, deep_pressure}
use Rattle.loads.specs.Sources.{Named, sea_named, tank_named, cargo_named, deep_named, with_ballast, Among, first, later, Decides}
use Rattle.pencil.specs.Registers.{Registers}
use Rattle.pencil.specs.Glossary.{Facts}
use Rattle.pencil.specs.Templates.{templates, says}
use Rattle.pencil.specs.Numbers.{load_numbers}
use Rattle.pencil.specs.laws.Divided.{divided, ceil_up}

module _ (f : Facts) (kind g1 g2 cargo D0 g5 source g7 H g9 g10 g11 g12 g13 g14 g15 P g17 g18 g19 g20 zL g22 g23 g24 g25 z g27 g28 g29 g30 g31 : ℕ) where
  abbrev regs : Registers
  regs = record {
    given = kind ∷ g1 ∷ g2 ∷ cargo ∷ D0 ∷ g5 ∷ source ∷ g7 ∷ H ∷ g9 ∷ g10 ∷ g11 ∷ g12 ∷ g13 ∷ g14 ∷ g15
        ∷ P ∷ g17 ∷ g18 ∷ g19 ∷ g20 ∷ zL ∷ g22 ∷ g23 ∷ g24 ∷ g25 ∷ z ∷ g27 ∷ g28 ∷ g29 ∷ g30 ∷ g31 ∷ [];
    own = load_numbers D0 H z zL cargo;
  }

  -- the sea at or below the draught, and above it
  sea_below : z ≤ D0 → record { pressure = 98100 * (D0 - z) + 50031 * H; source = 0 } ≡ sea_named D0 H z
  unfolding sea
  sea_below l = rw (le-leb z D0 l)

  sea_above : D0 < z → record { pressure = crest H + wind H; source = 1 } ≡ sea_named D0 H z
  unfolding sea
  sea_above l = rw (lt-leb z D0 l)

  module _ (ls : List Named) (bears : f.loads ≡ sea_named D0 H z ∷ ls) where
    sea_line : (b : Bool) → ltb D0 z ≡ b → says (9 + bool_byte b) f regs
    unfolding says templates load_numbers
    sea_line false e =
        let m : Among (record { pressure = 98100 * (D0 - z) + 50031 * H; source = 0 }) f.loads = subst (Among _) (sym bears) (first (sea_below (ltb-false D0 z e))) in
        (tt, (m, (tt, ((refl, refl, refl), (tt, tt)))))
    sea_line true e =
        let m : Among (record { pressure = crest H + wind H; source = 1 }) f.loads = subst (Among _) (sym bears) (first (sea_above (ltb-true D0 z e))) in
        (tt, (m, (tt, ((refl, refl, (tt, (ltb-true D0 z e, (tt, (tt, (tt, tt)))))), (tt, tt)))))

  wind_line : (b c : Bool) → eqb H 120 ≡ c → says (bool_byte b * (11 + bool_byte c)) f regs
  unfolding says templates load_numbers
  wind_line false false e = tt
  wind_line false true e = tt
  wind_line true false e =
      let w : crest H + wind H ≡ crest H + 250000 = ap (λ (b : Bool). crest H + cond b (3400 * H) 250000) e in
      (tt, ((eqb-false H 120 e, w), (tt, tt)))
  wind_line true true e =
      let w : crest H + wind H ≡ crest H + 3400 * H = ap (λ (b : Bool). crest H + cond b (3400 * H) 250000) e in
      (tt, ((eqb-true H 120 e, refl, w), (tt, tt)))

  module _ (a : Named) (is_ballast : Bool) (bears : f.loads ≡ a ∷ with_ballast is_ballast (ballast zL z - relief D0 H)) where
    tank_line : (b : Bool) → is_ballast ≡ b → says (bool_byte b * 13) f regs
    unfolding says templates load_numbers
    tank_line false e = tt
    tank_line true e =
        let l : f.loads ≡ a ∷ tank_named (ballast zL z - relief D0 H) ∷ [] = bears ∙ ap (λ (b : Bool). a ∷ with_ballast b (ballast zL z - relief D0 H)) e in
        let m : Among (record { pressure = ballast zL z - relief D0 H; source = 2 }) f.loads = subst (Among _) (sym l) (later (first refl)) in
        (tt, (m, (tt, (refl, (tt, tt)))))

  relief_line : (b c : Bool) → ltb (14715 * D0) (50031 * H) ≡ c → says (bool_byte b * (14 + bool_byte c)) f regs
  unfolding says templates load_numbers
  relief_line false false e = tt
  relief_line false true e = tt
  relief_line true false e = let l = ltb-false (14715 * D0) (50031 * H) e in ((refl, refl, omega arith), (tt, tt))
  relief_line true true e = let l = ltb-true (14715 * D0) (50031 * H) e in ((refl, refl, l, omega arith), (tt, tt))

  net_line : (b c : Bool) → ltb (ballast zL z) (relief D0 H) ≡ c → says (bool_byte b * (16 + bool_byte c)) f regs
  unfolding says templates load_numbers
  net_line false false e = tt
  net_line false true e = tt
  net_line true false e = let l = ltb-false (ballast zL z) (relief D0 H) e in (omega arith, (tt, tt))
  net_line true true e = let l = ltb-true (ballast zL z) (relief D0 H) e in ((l, omega arith), (tt, tt))

  inner_line : (a : Named) (is_ballast : Bool) → f.loads ≡ a ∷ with_ballast is_ballast (ballast zL z) → (b : Bool) → is_ballast ≡ b → says (bool_byte b * 19) f regs
  unfolding says templates load_numbers
  inner_line a is_ballast bears false e = tt
  inner_line a is_ballast bears true e =
      let l : f.loads ≡ a ∷ tank_named (ballast zL z) ∷ [] = bears ∙ ap (λ (b : Bool). a ∷ with_ballast b (ballast zL z)) e in
      let m : Among (record { pressure = ballast zL z; source = 2 }) f.loads = subst (Among _) (sym l) (later (first refl)) in
      (tt, (m, (tt, (refl, (tt, tt)))))

  deep_line : (b : Bool) → f.loads ≡ deep_named D0 H b ∷ [] → says (20 + bool_byte b) f regs
  unfolding says templates load_numbers deep_pressure
  deep_line false bears =
      let m : Among (deep_named D0 H false) f.loads = subst (Among _) (sym bears) (first refl) in
      (tt, (m, (tt, ((refl, refl, refl), (tt, tt)))))
  deep_line true bears =
      let m : Among (deep_named D0 H true) f.loads = subst (Among _) (sym bears) (first refl) in
      (tt, (m, (tt, ((divided (564075 * D0) 10 (lit< tt), ceil_up (564075 * D0) 10 (lit< tt)), (tt, (tt, (tt, ((refl, refl), (tt, tt)))))))))

  module _ (decided : Decides (record { pressure = P; source = source }) f.loads) where
    decides_line : says 22 f regs
    unfolding says templates load_numbers
    decides_line = (tt, (decided, (tt, tt)))

    cargo_line : (ls : List Named) → f.loads ≡ cargo_named cargo ∷ ls → says 18 f regs
    unfolding says templates load_numbers
    cargo_line ls bears =
        let m : Among (cargo_named cargo) f.loads = subst (Among _) (sym bears) (first refl) in
        (tt, (m, (tt, (refl, (tt, tt)))))

    -- the lines of the sea and of a tank on the bottom
    pub on_sea : (is_ballast : Bool) → f.loads ≡ sea_named D0 H z ∷ with_ballast is_ballast (ballast zL z - relief D0 H)
        → says (9 + bool_byte (ltb D0 z)) f regs × says (bool_byte (ltb D0 z) * (11 + bool_byte (eqb H 120))) f regs × says (bool_byte is_ballast * 13) f regs
        × says (bool_byte is_ballast * (14 + bool_byte (ltb (14715 * D0) (50031 * H)))) f regs × says (bool_byte is_ballast * (16 + bool_byte (ltb (ballast zL z) (relief D0 H)))) f regs × says 22 f regs
    on_sea is_ballast bears = (
      sea_line (with_ballast is_ballast (ballast zL z - relief D0 H)) bears (ltb D0 z) refl,
      wind_line (ltb D0 z) (eqb H 120) refl,
      tank_line (sea_named D0 H z) is_ballast bears is_ballast refl,
      relief_line is_ballast (ltb (14715 * D0) (50031 * H)) refl,
      net_line is_ballast (ltb (ballast zL z) (relief D0 H)) refl,
      decides_line,
    )

    pub on_inner_lem : (is_ballast : Bool) → f.loads ≡ cargo_named cargo ∷ with_ballast is_ballast (ballast zL z)
        → says 18 f regs × says (bool_byte is_ballast * 19) f regs × says 22 f regs
    on_inner_lem is_ballast bears = (cargo_line (with_ballast is_ballast (ballast zL z)) bears, inner_line (cargo_named cargo) is_ballast bears is_ballast refl, decides_line)

    pub on_whole : (b : Bool) → f.loads ≡ deep_named D0 H b ∷ [] → says (20 + bool_byte b) f regs × says 22 f regs
    on_whole b bears = (deep_line b bears, decides_line)
