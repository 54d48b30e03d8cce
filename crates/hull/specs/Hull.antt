-- The rules that a record answers to, and the verdict on it.
use Rattle.std.specs.Prelude.{ℕ, List}
use Rattle.sheet.specs.declared.Header.{Header}
use Rattle.sheet.specs.declared.Record.{Record}
use Rattle.sheet.specs.declared.Body.{Body}
use Rattle.sheet.specs.declared.Body.TheVariants.{Plate as isPlate, Member as isMember}
use Rattle.verdict.specs.declared.Verdict.{Verdict}
use Rattle.loads.specs.Sources.{Named}
use Rattle.verdict.specs.Verdict.{Rule, verdict_of}
use Rattle.verdict.specs.Judged.{Finding}
use Rattle.plating.specs.Rules.{plate_named, plate_rules}
use Rattle.framing.specs.Rules.{member_named, member_rules}

-- plates answer to 1, 2, 3; members to 4, 5, 6
abbrev pub body_rules : Header → ℕ → Body → List Rule
body_rules h kind (isPlate p) = plate_rules h kind p
body_rules h kind (isMember m) = member_rules h kind m

abbrev pub rules_of : Header → Record → List Rule
rules_of h r = body_rules h r.kind r.body

-- the first rule that fails, in their order, with the least number of the gauge that meets it
abbrev pub verdict : Header → Record → Verdict
verdict h r = verdict_of (rules_of h r)

-- the pressure on it, and what that comes from
abbrev pub body_named : Header → ℕ → Body → Named
body_named h kind (isPlate p) = plate_named h kind p
body_named h kind (isMember m) = member_named h kind m

abbrev pub source_of : Header → Record → ℕ
source_of h r = (body_named h r.kind r.body).source

-- the verdict with that source
abbrev pub finding : Header → Record → Finding
finding h r = record { verdict = verdict h r; source = source_of h r }
