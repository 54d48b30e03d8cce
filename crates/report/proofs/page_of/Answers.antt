-- `report::page_of` meets its contract.
use native.Mathlib.Omega.{arith}
use Rattle.report.specs.laws.PageLaws.{page_laid}
use Rattle.report.specs.laws.PiecesLaws.{checked_counted, text_checked}
use Rattle.report.proofs.page_of.Goals as goal

pub put_checked-len-requires : goal.put_checked-len-requires
put_checked-len-requires c =
    record { counted = checked_counted _ _ _ c.check-checked.result c.check-checked.auto.out c.check-checked.ensures; room = omega arith }

pub returns : goal.returns
returns c =
    page_laid _ _ _ c.put_checked-len.ensures (text_checked _ _ _ c.check-checked.result c.check-checked.ensures (omega arith))
