-- `barge_edit::remove_in` meets its contract.
use Rattle.barge_edit.specs.laws.OfficeLaws.{remove_of_file}
use Rattle.barge_edit.proofs.remove_in.Goals as goal

pub returns : goal.returns
returns c =
    remove_of_file c.args.buffer.now c.args.got c.requires.0 c.requires.1 c.remove.result c.remove.new.buf c.args.id c.remove.ensures
