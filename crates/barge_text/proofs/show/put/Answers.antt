-- The text stands in its place once the part is back.
use Rattle.std.proofs.Common.{arith}
use Rattle.decimal.specs.laws.LaidLaws.{laid_put}
use Rattle.barge_text.proofs.show.put.Goals as goal

pub overflow_add-result : goal.overflow_add-result
overflow_add-result c =
    let l = laid_put c.args.out.now c.args.at c.args.text.now c.requires c.write_text.result c.write_text.new.out c.write_text.ensures in
    omega (arith, l.place, c.requires)

pub returns : goal.returns
returns c =
    let l = laid_put c.args.out.now c.args.at c.args.text.now c.requires c.write_text.result c.write_text.new.out c.write_text.ensures in
    record { place = l.place; bytes = l.bytes }
