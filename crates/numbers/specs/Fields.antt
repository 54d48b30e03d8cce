-- Fields as numbers in layout order: those of a header and of a record.
use Rattle.std.specs.Prelude.{ℕ, cond, List, [], ◌∷◌, ◌++◌}
use Rattle.sheet.specs.declared.Header.{Header}
use Rattle.sheet.specs.declared.Own.{Own}
use Rattle.sheet.specs.declared.Own.TheVariants.{One, Two}
use Rattle.sheet.specs.declared.Plate.{Plate}
use Rattle.sheet.specs.declared.Member.{Member}
use Rattle.sheet.specs.declared.Body.{Body}
use Rattle.sheet.specs.declared.Body.TheVariants.{Plate as isPlate, Member as isMember}
use Rattle.sheet.specs.declared.Record.{Record}
use Rattle.sheet.specs.Record.{plate_values, member_values}

-- what a version has of its own: ZDB and depth, and in version 1 two that are 0
abbrev pub own_numbers : Own → List ℕ
own_numbers One = 0 ∷ 0 ∷ []
own_numbers (Two s) = s.inner_modulus ∷ s.depth.0 ∷ []

-- a header: version, L, D0, H, runs, M, ZB, n, and those; ten in either version
abbrev pub header_numbers : Header → List ℕ
header_numbers h =
    h.version ∷ h.length.0 ∷ h.draught.0 ∷ h.wave.0 ∷ cond h.two_runs 1 0 ∷ h.moment ∷ h.bottom_modulus ∷ h.count ∷ own_numbers h.own

-- a plate: kind, id, K, z, S, T, b1, b2, ballast, zL, cargo pressure, and two that are 0
abbrev pub plate_numbers : (kind id : ℕ) → Plate → List ℕ
plate_numbers kind id p = plate_values kind id p 0 ++ 0 ∷ []

-- a member: kind, id, z, S, l, T, βb, βs, η, σ1, W, A, K
abbrev pub member_numbers : (kind id : ℕ) → Member → List ℕ
member_numbers kind id m = member_values kind id m

-- the same by what the record carries
abbrev pub body_numbers : (kind id : ℕ) → Body → List ℕ
body_numbers kind id (isPlate p) = plate_numbers kind id p
body_numbers kind id (isMember m) = member_numbers kind id m

-- a record: thirteen in either case
abbrev pub record_numbers : Record → List ℕ
record_numbers r = body_numbers r.kind r.id r.body
