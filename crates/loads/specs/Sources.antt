-- What a pressure comes from: the loads that bear on a member, each with its number, and the one of them that decides.
use Rattle.std.specs.Prelude.{ℕ, ◌-◌, ◌*◌, ◌≤◌, ◌≡◌, Bool, cond, List, [], ◌∷◌, leb, ltb}
use Rattle.loads.specs.declared.Source.{Source}
use Rattle.loads.specs.declared.Source.TheVariants.{SeaBelow, SeaAbove, Ballast, Cargo}
use Rattle.loads.specs.declared.Load.{Load}
use Rattle.loads.specs.declared.Line.{Line}
use Rattle.loads.specs.Loads.{sea, ballast, relief, deep_pressure, line_load}

-- 0 sea at or below the draught, 1 sea above it, 2 ballast, 3 cargo
abbrev pub number_of : Source → ℕ
number_of SeaBelow = 0
number_of SeaAbove = 1
number_of Ballast = 2
number_of Cargo = 3

-- a pressure, and the number of what it comes from
pub record Named : Type 0 where
  pub pressure : ℕ
  pub source : ℕ

-- what the code's answer says
abbrev pub told_load : Load → Named
told_load l = record { pressure = l.pressure.0; source = number_of l.source }

-- ---- the loads

-- the sea at z
abbrev pub sea_named : ℕ → ℕ → ℕ → Named
sea_named D0 H z = record { pressure = sea D0 H z; source = cond (leb z D0) (number_of SeaBelow) (number_of SeaAbove) }

-- a ballast tank's
abbrev pub tank_named : ℕ → Named
tank_named P = record { pressure = P; source = number_of Ballast }

-- cargo × 1000
abbrev pub cargo_named : ℕ → Named
cargo_named cargo = record { pressure = cargo * 1000; source = number_of Cargo }

-- kinds 6 to 8 say 0
abbrev pub deep_named : ℕ → ℕ → Bool → Named
deep_named D0 H two_runs = record { pressure = deep_pressure D0 H two_runs; source = number_of SeaBelow }

-- a tank's, where there is ballast
abbrev pub with_ballast : Bool → ℕ → List Named
with_ballast isBallast P = cond isBallast (tank_named P ∷ []) []

-- those on a bottom plate: the sea, and with ballast pB − pM, or 0 where that is negative; the sea is never negative and has the lower number, so that
-- the cut-off decides nothing
abbrev pub on_bottom : ℕ → ℕ → ℕ → Bool → ℕ → List Named
on_bottom D0 H z isBallast zL = sea_named D0 H z ∷ with_ballast isBallast (ballast zL z - relief D0 H)

-- those on an inner bottom plate: cargo, and with ballast pB
abbrev pub on_inner : ℕ → ℕ → Bool → ℕ → List Named
on_inner cargo z isBallast zL = cargo_named cargo ∷ with_ballast isBallast (ballast zL z)

-- that on a longitudinal: the sea at its height
abbrev pub on_longitudinal : ℕ → ℕ → ℕ → List Named
on_longitudinal D0 H z = sea_named D0 H z ∷ []

-- that on kinds 6 to 8
abbrev pub on_deep : ℕ → ℕ → Bool → List Named
on_deep D0 H two_runs = deep_named D0 H two_runs ∷ []

-- ---- the one that decides

-- of two the greater, and of two equal ones that of the lower number
abbrev pub heavier : Named → Named → Named
heavier a b =
    cond (ltb a.pressure b.pressure) b (cond (ltb b.pressure a.pressure) a (cond (ltb a.source b.source) a b))

-- of a first one and others
abbrev pub deciding_from : Named → List Named → Named
deciding_from a [] = a
deciding_from a (b ∷ bs) = deciding_from (heavier a b) bs

-- of several; of none, no pressure
abbrev pub deciding : List Named → Named
deciding [] = record { pressure = 0; source = 0 }
deciding (a ∷ bs) = deciding_from a bs

-- on a bottom plate
unfoldable pub bottom_named : ℕ → ℕ → ℕ → Bool → ℕ → Named
bottom_named D0 H z isBallast zL = deciding (on_bottom D0 H z isBallast zL)

-- on an inner bottom plate
unfoldable pub inner_named : ℕ → ℕ → Bool → ℕ → Named
inner_named cargo z isBallast zL = deciding (on_inner cargo z isBallast zL)

-- ---- on a line

-- a line load, and the number of what its pressure comes from
pub record NamedLine : Type 0 where
  pub load : ℕ
  pub source : ℕ

-- what the code's answer says
abbrev pub told_line : Line → NamedLine
told_line l = record { load = l.load.0; source = number_of l.source }

-- the line load of a pressure on a spacing
abbrev pub line_named : Named → ℕ → NamedLine
line_named n S = record { load = line_load n.pressure S; source = n.source }

-- ---- what it is to decide

-- a load is one of these
pub data Among (l : Named) : List Named → Type 0 where
  first : {k : Named} {ls : List Named} → l ≡ k → Among l (k ∷ ls)
  later : {k : Named} {ls : List Named} → Among l ls → Among l (k ∷ ls)

-- d is one of these, none of them is greater, and none that is as great has a lower number
pub record Decides (d : Named) (ls : List Named) : Type 0 where
  pub one_of_them : Among d ls
  pub none_greater : (l : Named) → Among l ls → l.pressure ≤ d.pressure
  pub lowest_number : (l : Named) → Among l ls → l.pressure ≡ d.pressure → d.source ≤ l.source
