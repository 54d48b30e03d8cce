-- `record::member::fault` meets its contract: the lines from the last to the first.
use Rattle.std.specs.Prelude.{ℕ, ◌≡◌, refl, Bool, true, false, cond}
use Rattle.std.proofs.Common.{rules}
use Rattle.sheet.specs.Kinds.{is_floor}
use Rattle.sheet.specs.Record.{member_fault}
use Rattle.record.proofs.member.fault.Goals.{then-floor, else-floor, then-floor-2, else-floor-2, then-is_deep, else-is_deep}
use Rattle.record.proofs.member.fault.Goals as goal

-- the highest η is the same of both kinds
same : (b : Bool) (n : ℕ) → cond b n n ≡ n
same true n = refl
same false n = refl

pub returns : goal.returns
unfolding member_fault
returns c =
    let floor = c.is_floor-floor.result in
    let stress : c.if-floor.stress ≡ cond floor 0 255 = elim c.if-floor.branch [ then-floor w ↦ search rules | else-floor w ↦ search rules ] in
    let eta : c.if-floor-2.eta ≡ cond floor 100 1 = elim c.if-floor-2.branch [ then-floor-2 w ↦ search rules | else-floor-2 w ↦ search rules ] in
    let z : c.if-is_deep.z ≡ cond c.is_deep.result 0 1000 = elim c.if-is_deep.branch [ then-is_deep w ↦ search rules | else-is_deep w ↦ search rules ] in
    rw (
      c.fault_unless.ensures,
      c.fault_unless-f-9.ensures,
      c.fault_unless-f-8.ensures,
      c.fault_unless-f-7.ensures,
      c.fault_unless-f-6.ensures,
      c.fault_unless-f-5.ensures,
      c.fault_unless-f-4.ensures,
      c.fault_unless-f-3.ensures,
      c.fault_unless-f-2.ensures,
      c.fault_unless-f.ensures,
      z,
      eta,
      stress,
      c.is_deep.ensures,
      c.scantling_fault-f.ensures,
      c.is_floor-floor.ensures,
      same (is_floor c.args.kind) 100,
    )
