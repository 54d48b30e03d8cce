-- `pencil::trail_of` meets its contract.
use Rattle.pencil.specs.laws.TrailLaws.{on_blank}
use Rattle.pencil.specs.laws.True.{all_hold}
use Rattle.pencil.proofs.trail_of.Goals as goal

-- src/lib.rt:250:1
pub returns : goal.returns
returns c = record { written = on_blank _ _ c.work_of-work.ensures c.put_work-len.ensures; holds = all_hold _ _ }
