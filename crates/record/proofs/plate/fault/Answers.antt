-- `record::plate::fault` meets its contract: the lines from the last to the first.
use Rattle.std.specs.Prelude.{◌≡◌, cond}
use Rattle.std.proofs.Common.{rules}
use Rattle.sheet.specs.Record.{plate_fault}
use Rattle.sheet.specs.laws.HeaderLaws.{flag_within}
use Rattle.record.proofs.plate.fault.Goals.{then-long, else-long, then-long-2, else-long-2, then-ballast, else-ballast, then-ballast-2, else-ballast-2, then-is_bottom, else-is_bottom}
use Rattle.record.proofs.plate.fault.Goals as goal

pub returns : goal.returns
unfolding plate_fault
returns c =
    let long = c.is_long-long.result in
    let ballast = c.args.p.ballast in
    let b_low : c.if-long.b_low ≡ cond long 0 10 = elim c.if-long.branch [ then-long w ↦ search rules | else-long w ↦ search rules ] in
    let b_high : c.if-long-2.b_high ≡ cond long 0 1000 = elim c.if-long-2.branch [ then-long-2 w ↦ search rules | else-long-2 w ↦ search rules ] in
    let top_low : c.if-ballast.top_low ≡ cond ballast c.args.p.z.0 0 = elim c.if-ballast.branch [ then-ballast w ↦ search rules | else-ballast w ↦ search rules ] in
    let top_high : c.if-ballast-2.top_high ≡ cond ballast 1200 0 = elim c.if-ballast-2.branch [ then-ballast-2 w ↦ search rules | else-ballast-2 w ↦ search rules ] in
    let cargo : c.if-is_bottom.cargo ≡ cond c.is_bottom.result 0 200000 = elim c.if-is_bottom.branch [ then-is_bottom w ↦ search rules | else-is_bottom w ↦ search rules ] in
    rw (
      c.fault_unless.ensures,
      c.fault_unless-f-10.ensures,
      c.fault_unless-f-9.ensures,
      c.fault_unless-f-8.ensures,
      c.fault_unless-f-7.ensures,
      c.fault_unless-f-6.ensures,
      c.fault_unless-f-5.ensures,
      c.fault_unless-f-4.ensures,
      c.fault_unless-f-3.ensures,
      c.fault_unless-f-2.ensures,
      c.fault_unless-f.ensures,
      cargo,
      top_high,
      top_low,
      b_high,
      b_low,
      c.is_bottom.ensures,
      c.is_long-long.ensures,
      flag_within c.args.p.ballast,
    )
