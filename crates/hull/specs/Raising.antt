-- Another number in place of a scantling, all else held, and raising the one that fails to the number required.
use Rattle.std.specs.Prelude.{ℕ, zero, suc, ◌+◌, ◌≤◌, cond, eqb}
use Rattle.quantity.specs.Range.{thickness, modulus, shear_area}
use Rattle.sheet.specs.declared.Header.{Header}
use Rattle.sheet.specs.declared.Plate.{Plate}
use Rattle.sheet.specs.declared.Member.{Member}
use Rattle.sheet.specs.declared.Body.{Body}
use Rattle.sheet.specs.declared.Body.TheVariants.{Plate as isPlate, Member as isMember}
use Rattle.sheet.specs.declared.Record.{Record}
use Rattle.verdict.specs.declared.Verdict.{Verdict}
use Rattle.hull.specs.Hull.{verdict}

-- a plate's rules all speak of its thickness
abbrev pub raised_plate : ℕ → Plate → Plate
raised_plate T p =
    record {
      factor = p.factor;
      z = p.z;
      spacing = p.spacing;
      thickness = record { 0 = T };
      b1 = p.b1;
      b2 = p.b2;
      ballast = p.ballast;
      tank_top = p.tank_top;
      cargo = p.cargo;
    }

-- a member with these T, W and A
abbrev pub with_scantlings : ℕ → ℕ → ℕ → Member → Member
with_scantlings T W A m =
    record {
      z = m.z;
      spacing = m.spacing;
      span = m.span;
      thickness = record { 0 = T };
      bending = m.bending;
      shear = m.shear;
      eta = m.eta;
      stress = m.stress;
      modulus = record { 0 = W };
      area = record { 0 = A };
      factor = m.factor;
    }

-- the number required for a rule of this number, in place of what is there
abbrev pub instead : Verdict → ℕ → ℕ → ℕ
instead v rule has = cond (eqb v.rule rule) v.required has

-- rule 4 speaks of a member's thickness, rule 5 of its modulus, rule 6 of its area
abbrev pub raised_member : Verdict → Member → Member
raised_member v m = with_scantlings (instead v 4 m.thickness.0) (instead v 5 m.modulus.0) (instead v 6 m.area.0) m

abbrev pub raised_body : Verdict → Body → Body
raised_body v (isPlate p) = isPlate (raised_plate v.required p)
raised_body v (isMember m) = isMember (raised_member v m)

-- the record with the number of a verdict in place of the scantling that fails
abbrev pub raised : Verdict → Record → Record
raised v r = record { kind = r.kind; id = r.id; body = raised_body v r.body }

-- the record with x in place of the scantling that rule k speaks of: T for rules 1 to 4, W for rule 5, A for rule 6
abbrev pub put_body : (k x : ℕ) → Body → Body
put_body k x b = raised_body (record { rule = k; required = x }) b

abbrev pub put_record : (k x : ℕ) → Record → Record
put_record k x r = raised (record { rule = k; required = x }) r

-- the highest number of that scantling's gauge, which begins at 1
abbrev pub gauge_top : ℕ → ℕ
gauge_top k = cond (eqb k 5) modulus.high (cond (eqb k 6) shear_area.high thickness.high)

-- x is in the gauge of the scantling that rule k speaks of
abbrev pub InGauge : (k x : ℕ) → Type 0
InGauge k x = (1 ≤ x) × (x ≤ gauge_top k)

-- the rules of a plate are numbered from 1, those of a member from 4
abbrev pub base : Body → ℕ
base (isPlate p) = 0
base (isMember m) = 3

-- rule k is one of the three that a record with this body answers to
abbrev pub OwnRule : Body → ℕ → Type 0
OwnRule b k = (base b + 1 ≤ k) × (k ≤ base b + 3)

-- raised once, where the verdict has a number
unfoldable pub raised_once : Header → Record → Record
raised_once h r = cond (eqb (verdict h r).required 0) r (raised (verdict h r) r)

-- raised so many times
unfoldable pub raised_times : ℕ → Header → Record → Record
raised_times zero h r = r
raised_times (suc k) h r = raised_times k h (raised_once h r)
