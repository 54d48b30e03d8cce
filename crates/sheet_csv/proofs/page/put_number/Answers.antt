use Rattle.std.proofs.Common.{◌++◌, arith}
use Rattle.decimal.specs.Decimal.{decimal_of}
use Rattle.decimal.specs.laws.LaidLaws.{laid_put}
use Rattle.sheet_csv.proofs.page.put_number.Goals as goal

-- the number stands in its place once the part is back
pub overflow_add-result : goal.overflow_add-result
overflow_add-result c =
    let a = c.args in
    let l = laid_put a.page.now a.at (decimal_of a.n ++ a.after.now) c.requires c.write_number.result c.write_number.new.out c.write_number.ensures in
    omega (arith, l.place, c.requires)

pub returns : goal.returns
returns c =
    let a = c.args in
    let l = laid_put a.page.now a.at (decimal_of a.n ++ a.after.now) c.requires c.write_number.result c.write_number.new.out c.write_number.ensures in
    record { place = l.place; bytes = l.bytes }
