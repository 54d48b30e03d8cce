-- `layout::write_long` meets its contract: a word and what follows it are the number's bytes together.
use Rattle.std.proofs.Common.{sym, ◌∙◌, arith}
use Rattle.layout.specs.Bytes.{long_of}
use Rattle.layout.specs.laws.BytesLaws.{write_few, write_all_lem}
use Rattle.layout.proofs.Parts.{put_law}
use Rattle.layout.proofs.write_long.Goals as goal

pub returns-then-out-ge16 : goal.returns-then-out-ge16
returns-then-out-ge16 c =
    let room = c.if-out-ge16.true in
    let a = c.args in
    put_law 8 a.out.now _ _ a.n.hi a.n.lo (omega arith) room c.write_word.ensures c.write_word-then-out-ge16.ensures
    ∙ sym (write_all_lem 16 (long_of a.n) a.out.now room)

pub returns-else-out-ge16 : goal.returns-else-out-ge16
returns-else-out-ge16 c = sym (write_few 16 _ _ c.if-out-ge16.false)
