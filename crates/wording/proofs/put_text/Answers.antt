use Rattle.std.proofs.Common.{ap, arith}
use Rattle.wording.specs.Writes.{Spot}
use Rattle.wording.specs.laws.WritesLaws.{one, write_past, write_put, next_most}
use Rattle.wording.proofs.put_text.Goals as goal

pub returns-then-page-at : goal.returns-then-page-at
returns-then-page-at c =
    let a = c.args in
    one a.text.now (omega arith) (write_past a.page.now a.at a.text.now c.if-page-at.true)

-- the piece stands in its place once the part is back
pub overflow_add-result : goal.overflow_add-result
overflow_add-result c =
    let a = c.args in
    let put = write_put a.page.now a.at a.text.now c.if-page-at.false c.write_text.result c.write_text.new.out c.write_text.ensures in
    omega (arith, ap (λ (s : Spot). s.next) put, next_most a.page.now a.at a.text.now)

pub returns : goal.returns
returns c =
    let a = c.args in
    let put = write_put a.page.now a.at a.text.now c.if-page-at.false c.write_text.result c.write_text.new.out c.write_text.ensures in
    one a.text.now (omega arith) put
