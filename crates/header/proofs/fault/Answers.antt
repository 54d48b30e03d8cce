-- `header::fault` meets its contract: the lines from the last to the first.
use Rattle.sheet.specs.Header.{raw_fault}
use Rattle.sheet.specs.laws.HeaderLaws.{flag_within}
use Rattle.header.proofs.fault.Goals as goal

-- src/lib.rt:59:1
pub returns : goal.returns
unfolding raw_fault
returns c =
    rw (
      c.fault_unless.ensures,
      c.fault_unless-f-6.ensures,
      c.fault_unless-f-5.ensures,
      c.wave_fault-f.ensures,
      c.fault_unless-f-4.ensures,
      c.fault_unless-f-3.ensures,
      c.fault_unless-f-2.ensures,
      c.fault_unless-f.ensures,
      c.own_fault-f.ensures,
      c.version-version.ensures.number,
      c.version-version.ensures.most,
      flag_within c.args.h.two_runs,
    )
