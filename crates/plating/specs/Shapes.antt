-- The shape that each rule of a plate takes: what its right side asks of T, or of X, with the quotient rounded up.
use Rattle.std.specs.Prelude.{ℕ, ◌+◌, ◌-◌, ◌*◌, ◌/◌, cond, ltb}
use Rattle.quantity.specs.Range.{thickness}
use Rattle.gauge.specs.Ceil.{ceil_of}
use Rattle.gauge.specs.declared.Shape.{Shape}
use Rattle.gauge.specs.declared.Shape.TheVariants.{Never, Square}
use Rattle.sheet.specs.Kinds.{is_long, is_bottom}
use Rattle.plating.specs.Rules.{allowance, is_second, limit}

-- a·T² ≥ n
abbrev pub square_shape : ℕ → ℕ → Shape
square_shape a n = Square 1 0 (ceil_of n a)

-- a·T² ≥ b·c; nothing in the gauge meets it where b·c is above a·T² for the thickest plate
abbrev pub over_shape : ℕ → ℕ → ℕ → Shape
over_shape a b c = cond (ltb (a * (thickness.high * thickness.high) / b) c) Never (square_shape a (b * c))

-- X = 100T − short, X ≥ 0 and a·X² ≥ n
abbrev pub excess_shape : ℕ → ℕ → ℕ → Shape
excess_shape short a n = Square 100 short (ceil_of n a)

-- rule 1: X = 100T − c − 36S; kinds 1, 2: X² ≥ 9L²K/1000; kinds 3, 4: X² ≥ 8L²K/3125
unfoldable pub shape1 : ℕ → ℕ → ℕ → ℕ → Shape
shape1 kind L K S =
    let short = allowance kind + 36 * S in
    cond (is_bottom kind) (excess_shape short 1000 (9 * (L * L * K))) (excess_shape short 3125 (8 * (L * L * K)))

-- rule 2, kinds 1, 3: T² ≥ S²KP/39,062,500,000; kinds 2, 4: T² ≥ 9S²KP/625,000,000,000
unfoldable pub shape2 : ℕ → ℕ → ℕ → ℕ → Shape
shape2 kind K S P = cond (is_long kind) (square_shape 625000000000 (9 * (S * S * K * P))) (square_shape 39062500000 (S * S * K * P))

-- rule 3, the first form; transverse: T² ≥ 1156S²R/(25K2²); longitudinal: T² ≥ 1521S²R/100,000,000
unfoldable pub first_shape : ℕ → ℕ → ℕ → ℕ → Shape
first_shape kind S K2 R = cond (is_long kind) (over_shape 100000000 (1521 * (S * S)) R) (over_shape (25 * (K2 * K2)) (1156 * (S * S)) R)

-- the second form; kind 1: T² ≥ 504,100,000·S²K/(K2²(210,000 − R)); kind 2: T² ≥ 1681S²K/(10(210,000 − R)); nothing at R ≥ 210,000
unfoldable pub second_shape : ℕ → ℕ → ℕ → ℕ → ℕ → Shape
second_shape kind K S K2 R =
    cond (ltb R limit)
    (cond (is_long kind) (square_shape (10 * (limit - R)) (1681 * (S * S * K))) (square_shape (K2 * K2 * (limit - R)) (504100000 * (S * S * K))))
    Never

-- rule 3
unfoldable pub shape3 : ℕ → ℕ → ℕ → ℕ → ℕ → Shape
shape3 kind K S K2 R = cond (is_second kind K R) (second_shape kind K S K2 R) (first_shape kind S K2 R)
