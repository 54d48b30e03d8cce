-- What the registers of a section hold: the numbers of the loads, and those of a rule from its right side to the margin.
use Rattle.std.specs.Prelude.{ℕ, ◌+◌, ◌-◌, ◌*◌, ◌/◌, ◌%◌, max, Bool, true, false, cond, List, [], ◌∷◌, get_or, leb, ltb, eqb}
use mir.Val.{bool_byte}
use Rattle.gauge.specs.declared.Shape.{Shape}
use Rattle.gauge.specs.declared.Shape.TheVariants.{Never, Floor, Square}
use Rattle.gauge.specs.Ceil.{ceil_of}
use Rattle.gauge.specs.Least.{number_of}
use Rattle.gauge.specs.Shape.{least_of}
use Rattle.gauge.specs.Worked.{root_in, first_in}
use Rattle.loads.specs.Loads.{wind}

-- a product as far as 64 bits hold it, and else 0; those of a sound record fit
unfoldable pub product : ℕ → ℕ → ℕ
product a b = cond (ltb (a * b) 18446744073709551616) (a * b) 0

abbrev pub apart : ℕ → ℕ → ℕ
apart a b = cond (leb a b) (b - a) (a - b)

-- nothing meets the shape
abbrev pub is_never : Shape → Bool
is_never Never = true
is_never (Floor n) = false
is_never (Square step short n) = false

-- of X = step·x − short and X² ≥ n
abbrev pub step_of : Shape → ℕ
step_of Never = 1
step_of (Floor n) = 1
step_of (Square step short n) = step

abbrev pub short_of : Shape → ℕ
short_of Never = 0
short_of (Floor n) = 0
short_of (Square step short n) = short

abbrev pub right_of : Shape → ℕ
right_of Never = 0
right_of (Floor n) = n
right_of (Square step short n) = n

-- the numbers of a rule: its right side p/a, what is taken off for each unit of S, its shape, the gauge's last, what the member has, and seven more; a root has
-- 32 bits
unfoldable pub rule_numbers : (p a per : ℕ) (d : Shape) (top has : ℕ) (more : List ℕ) → List ℕ
rule_numbers p a per d top has more =
    let sum = short_of d + root_in d % 4294967296 in
    let least = number_of (least_of d top) in
    let x = product (step_of d) (first_in d) - short_of d in
    let other = least - bool_byte (eqb least (first_in d)) in
    let y = product (step_of d) other - short_of d in
    0 ∷ p / a ∷ p % a ∷ right_of d ∷ root_in d ∷ per ∷ sum / step_of d ∷ sum % step_of d
    ∷ first_in d ∷ x ∷ product x x ∷ other ∷ y ∷ product y y ∷ least ∷ apart least has
    ∷ has ∷ top ∷ get_or more 0 0 ∷ get_or more 1 0 ∷ get_or more 2 0 ∷ get_or more 3 0 ∷ get_or more 4 0 ∷ get_or more 5 0
    ∷ get_or more 6 0 ∷ step_of d ∷ short_of d ∷ 0 ∷ 0 ∷ 0 ∷ 0 ∷ 0 ∷ []

-- no more
abbrev pub no_more : List ℕ
no_more = 0 ∷ 0 ∷ 0 ∷ 0 ∷ 0 ∷ 0 ∷ 0 ∷ []

-- a ratio before it is rounded, and what remains
abbrev pub with_ratio : (p a : ℕ) → List ℕ
with_ratio p a = p / a ∷ p % a ∷ 0 ∷ 0 ∷ 0 ∷ 0 ∷ 0 ∷ []

-- the numbers of the loads, whichever bear: D0, H, z, zL in cm and cargo in Pa
unfoldable pub load_numbers : (D0 H z zL cargo : ℕ) → List ℕ
load_numbers D0 H z zL cargo =
    let waves = 50031 * H in
    let crest = max (50150 * H) 3000000 in
    let tank = 98100 * (zL + 100 - z) in
    let relief = 14715 * D0 - waves in
    let half = ceil_of (564075 * D0) 10 in
    0 ∷ 98100 * (D0 - z) ∷ waves ∷ (98100 * (D0 - z) + waves) ∷ 50150 * H ∷ crest ∷ 3400 * H ∷ (crest + wind H)
    ∷ 0 ∷ tank ∷ 14715 * D0 ∷ relief ∷ (tank - relief) ∷ cargo * 1000 ∷ 98100 * D0 ∷ (98100 * D0 + waves)
    ∷ 564075 * D0 / 10 ∷ 564075 * D0 % 10 ∷ half ∷ (half + waves) ∷ 0 ∷ 0 ∷ 0 ∷ 0
    ∷ 0 ∷ 0 ∷ 0 ∷ 0 ∷ 0 ∷ 0 ∷ 0 ∷ 0 ∷ []
