-- `report::put_number` meets its contract.
use Prim.Native.Nat.{◌+◌, ◌-◌}
use mathlib.Core.List.{◌++◌}
use native.Mathlib.Omega.{arith}
use lib.ListN.{length}
use borrow.Rule.Slice.PartMut.{put_mid}
use Rattle.decimal.specs.Decimal.{decimal_of}
use Rattle.decimal.specs.Laid.{Laid}
use Rattle.decimal.specs.laws.LaidLaws.{laid_put}
use Rattle.report.proofs.put_number.Goals.{After-write_number}
use Rattle.report.proofs.put_number.Goals as goal

-- `report::put_number` meets its contract.
-- Assumes nothing.
-- the number stands in its place once the part is back
put : (c : After-write_number) → (let a = c.args in
    let o = a.page.now in
    Laid o a.at (decimal_of a.n ++ a.after.now) (a.at + c.write_number.result) (put_mid a.at (length o - a.at) o c.write_number.new.out))
put c =
    let a = c.args in
    laid_put a.page.now a.at (decimal_of a.n ++ a.after.now) c.requires c.write_number.result c.write_number.new.out c.write_number.ensures

pub overflow_add-result : goal.overflow_add-result
overflow_add-result c = omega (arith, (put (goal.at.overflow_add-result c).After-write_number).place, c.requires)

pub returns : goal.returns
returns c = let l = put (goal.at.returns c).After-write_number in record { place = l.place; bytes = l.bytes }
