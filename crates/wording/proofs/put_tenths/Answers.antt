use Rattle.std.proofs.Common.{arith}
use Rattle.wording.specs.laws.WritesLaws.{and_then, within}
use Rattle.wording.proofs.put_tenths.Goals as goal

-- one number behind another
pub returns : goal.returns
returns c = within _ (omega arith) (and_then (and_then c.put_number-whole.ensures c.put_number-point.ensures) c.put_number.ensures)
