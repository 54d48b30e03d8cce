-- The lowest and the highest value of each quantity.
use Rattle.std.specs.Prelude.{ℕ, Bool, ◌&&◌, leb}

-- from the lowest to the highest, both included
pub record Range : Type 0 where
  pub low : ℕ
  pub high : ℕ

abbrev pub from : ℕ → ℕ → Range
from low high = record { low = low; high = high }

-- whether a number lies from the lowest to the highest
abbrev pub within : Range → ℕ → Bool
within r x = leb r.low x && leb x r.high

-- lengths, heights and spans, cm
abbrev pub span : Range
span = from 0 13500

-- spacing S, mm
abbrev pub spacing : Range
spacing = from 100 4000

-- thickness T, hundredths of a mm
abbrev pub thickness : Range
thickness = from 1 4000

-- section modulus W, tenths of a cm³
abbrev pub modulus : Range
modulus = from 1 100000

-- shear area A, hundredths of a cm²
abbrev pub shear_area : Range
shear_area = from 1 16000

-- pressure P, thousandths of a Pa; the highest is that of the greatest cargo
abbrev pub pressure : Range
pressure = from 0 200000000

-- line load q, N/m; the highest is that of the greatest sea pressure on the widest spacing, rounded up
abbrev pub line_load : Range
line_load = from 0 416415

-- K = 1000k
abbrev pub steel_factor : Range
steel_factor = from 500 1000
