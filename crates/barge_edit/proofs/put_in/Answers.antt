-- `barge_edit::put_in` meets its contract.
use Rattle.barge_edit.specs.laws.OfficeLaws.{put_of_file}
use Rattle.barge_edit.proofs.put_in.Goals as goal

pub returns : goal.returns
returns c =
    put_of_file c.args.buffer.now c.args.got c.requires.0 c.requires.1 c.put_numbers.result c.put_numbers.new.buf c.args.fields c.put_numbers.ensures
