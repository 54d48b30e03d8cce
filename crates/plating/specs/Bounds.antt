-- What the rules' arithmetic rests on: the bounds of the numbers that one plate brings.
use Rattle.std.specs.Prelude.{ℕ, ◌≤◌, ◌<◌, ◌≡◌, false}
use Rattle.sheet.specs.Kinds.{is_long}
use Rattle.sheet.specs.Lines.{plate_spacing}

-- the greatest R: the greatest moment on the least modulus
abbrev pub greatest_r : ℕ
greatest_r = 1000000000000

-- the spacing S of a plate's panel and its side b1, by which only transverse framing divides
pub record Panel (kind S b1 : ℕ) : Type 0 where
  pub spacing_low : plate_spacing.low ≤ S
  pub spacing_high : S ≤ plate_spacing.high
  pub b1_low : is_long kind ≡ false → 0 < b1
