-- The loads that bear on a record, and the pressure that its rules go by.
use Rattle.std.specs.Prelude.{ℕ, List}
use Rattle.loads.specs.Sources.{Named}
use Rattle.sheet.specs.declared.Header.{Header}
use Rattle.sheet.specs.declared.Record.{Record}
use Rattle.sheet.specs.declared.Body.{Body}
use Rattle.sheet.specs.declared.Body.TheVariants.{Plate as isPlate, Member as isMember}
use Rattle.plating.specs.Rules.{plate_pressure, plate_loads}
use Rattle.framing.specs.Rules.{member_pressure, member_loads}

-- those of a plate, or of a member
abbrev pub body_loads : Header → ℕ → Body → List Named
body_loads h kind (isPlate p) = plate_loads h kind p
body_loads h kind (isMember m) = member_loads h kind m

abbrev pub loads_on : Header → Record → List Named
loads_on h r = body_loads h r.kind r.body

-- P, which rule 2 of a plate, and through q rules 5 and 6 of a member, go by
abbrev pub body_pressure : Header → ℕ → Body → ℕ
body_pressure h kind (isPlate p) = plate_pressure h kind p
body_pressure h kind (isMember m) = member_pressure h kind m

abbrev pub pressure_on : Header → Record → ℕ
pressure_on h r = body_pressure h r.kind r.body
