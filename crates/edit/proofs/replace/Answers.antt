-- `edit::replace` meets its contract.
use Rattle.edit.proofs.Bytes.{replaced}
use Rattle.edit.proofs.replace.Goals as goal

-- src/lib.rt:58:1
pub returns : goal.returns
returns c =
    let a = c.args in
    replaced a.buf.now c.write_record.new.out a.h a.i c.size-size.result c.size-size.ensures a.r c.requires.0 c.requires.1 c.write_record.ensures.bytes
