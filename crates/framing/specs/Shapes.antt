-- The shape that each rule of a member takes: what its right side asks, with the quotient rounded up.
use Rattle.std.specs.Prelude.{ℕ, ◌+◌, ◌-◌, ◌*◌, cond, ltb}
use Rattle.gauge.specs.Ceil.{ceil_of}
use Rattle.gauge.specs.declared.Shape.{Shape}
use Rattle.gauge.specs.declared.Shape.TheVariants.{Never, Floor, Square}
use Rattle.sheet.specs.Kinds.{is_floor, is_deep}
use Rattle.framing.specs.Rules.{is_short}

-- nothing at σ1 = limit and above, and else a floor
abbrev pub stressed_shape : ℕ → ℕ → ℕ → ℕ → Shape
stressed_shape a limit σ1 p = cond (ltb σ1 limit) (Floor (ceil_of p (a * (limit - σ1)))) Never

-- a·X² ≥ p for X = step·T − short
abbrev pub square_shape : ℕ → ℕ → ℕ → ℕ → Shape
square_shape a step short p = Square step short (ceil_of p a)

-- rule 4. Kind 5 under L = 12000: X = 100T − 16300 − 45S, X² ≥ L²K/6250; from 12000: X = 10T − S, X² ≥ 15210K. Kinds 6 to 8: X = 100T − 38000,
-- X² ≥ 8L²K/3125
unfoldable pub shape4 : ℕ → ℕ → ℕ → ℕ → Shape
shape4 kind L K S =
    cond (is_deep kind)
    (square_shape 3125 100 38000 (8 * (L * L) * K))
    (cond (is_short L) (square_shape 6250 100 (16300 + 45 * S) (L * L * K)) (square_shape 1 10 S (15210 * K)))

-- the shape for kind 5, for kinds 6 and 7, or for kind 8
abbrev pub shape_by_kind : ℕ → Shape → Shape → Shape → Shape
shape_by_kind kind longitudinal floor girder = cond (is_deep kind) (cond (is_floor kind) floor girder) longitudinal

-- rule 5. Kind 5: W ≥ 833βbηql²/(10¹¹(214 − σ1)). Kinds 6, 7: W ≥ 29βbql²/(5·10⁹). Kind 8: W ≥ 25βbηql²/(2·10⁹(197 − σ1))
unfoldable pub shape5 : ℕ → ℕ → ℕ → ℕ → ℕ → ℕ → Shape
shape5 kind βb η σ1 q l =
    shape_by_kind kind
    (stressed_shape 100000000000 214 σ1 (833 * βb * η * q * (l * l)))
    (Floor (ceil_of (29 * βb * q * (l * l)) 5000000000))
    (stressed_shape 2000000000 197 σ1 (25 * βb * η * q * (l * l)))

-- rule 6. Kind 5: A ≥ 9βsηql/(2·10⁹). Kinds 6, 7: A ≥ 9βsql/(2·10⁷). Kind 8: A ≥ 7βsql/12,500,000
unfoldable pub shape6 : ℕ → ℕ → ℕ → ℕ → ℕ → Shape
shape6 kind βs η q l =
    shape_by_kind kind
    (Floor (ceil_of (9 * βs * η * q * l) 2000000000))
    (Floor (ceil_of (9 * βs * q * l) 20000000))
    (Floor (ceil_of (7 * βs * q * l) 12500000))
