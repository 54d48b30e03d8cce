use Rattle.std.proofs.Common.{◌++◌, ap, arith}
use Rattle.decimal.specs.Decimal.{decimal_of}
use Rattle.wording.specs.Writes.{Spot}
use Rattle.wording.specs.laws.WritesLaws.{one, write_past, write_put, next_most, short_number}
use Rattle.wording.proofs.put_number.Goals as goal

pub returns-then-page-at : goal.returns-then-page-at
returns-then-page-at c =
    let a = c.args in
    one (decimal_of a.n ++ a.after.now) (short_number a.n a.after.now (omega arith)) (write_past a.page.now a.at (decimal_of a.n ++ a.after.now) c.if-page-at.true)

-- the piece stands in its place once the part is back
pub overflow_add-result : goal.overflow_add-result
overflow_add-result c =
    let a = c.args in
    let put = write_put a.page.now a.at (decimal_of a.n ++ a.after.now) c.if-page-at.false c.write_number.result c.write_number.new.out c.write_number.ensures in
    omega (arith, ap (λ (s : Spot). s.next) put, next_most a.page.now a.at (decimal_of a.n ++ a.after.now))

pub returns : goal.returns
returns c =
    let a = c.args in
    let put = write_put a.page.now a.at (decimal_of a.n ++ a.after.now) c.if-page-at.false c.write_number.result c.write_number.new.out c.write_number.ensures in
    one (decimal_of a.n ++ a.after.now) (short_number a.n a.after.now (omega arith)) put
