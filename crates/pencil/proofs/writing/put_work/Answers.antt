-- `pencil::writing::put_work` meets its contract.
use native.Mathlib.Omega.{arith}
use Rattle.wording.specs.laws.WritesLaws.{within, and_then}
use Rattle.pencil.proofs.writing.put_work.Goals as goal

-- src/writing.rt:46:1
pub returns : goal.returns
returns c =
    within _ (omega arith) (and_then (and_then (and_then c.put_section-next.ensures c.put_section-next-2.ensures) c.put_section-next-3.ensures) c.put_section.ensures)
