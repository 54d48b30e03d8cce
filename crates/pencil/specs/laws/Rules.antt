-- The lines of a rule hold, whatever its numbers: up to the right side, the root and the rounding; the last step and the result by the shape.
-- Assumes nothing.
use Rattle.std.specs.Prelude.{ℕ, ◌+◌, ◌/◌, ◌%◌, ◌≤◌, ◌<◌, Bool, true, false, cond, ◌≡◌, refl, eqb}
use Rattle.std.proofs.Common.{◌∙◌, arith, mul-le-mul_left, mul-one, mod-eq_of_lt, eqb-true}
use Rattle.std.proofs.Math.Decide.{dec_le}
use Rattle.std.proofs.lemmas.Bool.{eqb-false}
use Rattle.root.specs.Root.{root_of}
use Rattle.root.specs.laws.RootLaws.{root_is}
use Rattle.gauge.specs.Ceil.{ceil_of}
use Rattle.pencil.specs.Registers.{Registers, at}
use Rattle.pencil.specs.Registers as reg
use Rattle.pencil.specs.Glossary.{Facts, Divides, rounded_up, unit_of}
use Rattle.pencil.specs.Templates.{templates, says}
use Rattle.pencil.specs.Trail.{verdict_line}
use Rattle.pencil.specs.laws.Divided.{over_divided, ceil_up}

-- ---- roots

-- a root is no greater than its square
root_small : (n : ℕ) → root_of n ≤ n
root_small n = go (dec_le 1 (root_of n))
  where
    go : Dec (1 ≤ root_of n) → root_of n ≤ n
    go (yes l) = omega (arith, (root_is n).low, mul-le-mul_left (root_of n) l, mul-one (root_of n))
    go (no l) = omega arith

pub root_fits : (n : ℕ) → n < 4294967296 → root_of n % 4294967296 ≡ root_of n
root_fits n l = mod-eq_of_lt (omega (arith, root_small n))

-- T from the root: the sum over the step, and rounded up
pub over_root : (n short step : ℕ) → n < 4294967296 → 0 < step
    → Divides (root_of n + short) step ((short + root_of n % 4294967296) / step) ((short + root_of n % 4294967296) % step)
over_root n short step l h = rw (root_fits n l) (over_divided (root_of n) short step h)

pub up_root : (n short step : ℕ) → n < 4294967296 → 0 < step
    → ceil_of (short + root_of n) step ≡ rounded_up ((short + root_of n % 4294967296) / step) ((short + root_of n % 4294967296) % step)
up_root n short step l h = rw (root_fits n l) (ceil_up (short + root_of n) step h)

-- ---- the verdict

pub verdict_holds : (f : Facts) (r : Registers) → f.verdict.rule ≡ at r reg.rule → f.verdict.required ≡ at r reg.required → says (verdict_line (at r reg.rule) (at r reg.required)) f r
unfolding says templates
verdict_holds f r p q = go (eqb (at r reg.rule) 0) (eqb (at r reg.required) 0) (eqb (at r reg.rule) 5) (eqb (at r reg.rule) 6) refl refl refl refl
  where
    go : (a b c d : Bool) → eqb (at r reg.rule) 0 ≡ a → eqb (at r reg.required) 0 ≡ b → eqb (at r reg.rule) 5 ≡ c → eqb (at r reg.rule) 6 ≡ d
        → says (cond a 86 (cond b 87 (cond c 89 (cond d 90 88)))) f r
    go true b c d e g h i = (tt, (p ∙ eqb-true (at r reg.rule) 0 e, (tt, tt)))
    go false true c d e g h i = let n = eqb-false (at r reg.rule) 0 e in (tt, ((p, omega arith), (tt, (q ∙ eqb-true (at r reg.required) 0 g, (tt, tt)))))
    go false false true d e g h i =
        let n = eqb-false (at r reg.rule) 0 e in
        let m = eqb-false (at r reg.required) 0 g in
        let u : unit_of (at r reg.rule) ≡ 37 = rw h in
        (tt, ((p, omega arith), (tt, ((q, omega arith, u), (tt, tt)))))
    go false false false true e g h i =
        let n = eqb-false (at r reg.rule) 0 e in
        let m = eqb-false (at r reg.required) 0 g in
        let u : unit_of (at r reg.rule) ≡ 38 = rw (h, i) in
        (tt, ((p, omega arith), (tt, ((q, omega arith, u), (tt, tt)))))
    go false false false false e g h i =
        let n = eqb-false (at r reg.rule) 0 e in
        let m = eqb-false (at r reg.required) 0 g in
        let u : unit_of (at r reg.rule) ≡ 36 = rw (h, i) in
        (tt, ((p, omega arith), (tt, ((q, omega arith, u), (tt, tt)))))
