-- `layout::write_short` meets its contract: a word and what follows it are the number's bytes together.
use Rattle.std.proofs.Common.{sym, ◌∙◌, arith}
use Rattle.layout.specs.Bytes.{short_of}
use Rattle.layout.specs.laws.BytesLaws.{write_few, write_all_lem}
use Rattle.layout.proofs.Parts.{put_law}
use Rattle.layout.proofs.write_short.Goals as goal

pub returns-then-out-ge12 : goal.returns-then-out-ge12
returns-then-out-ge12 c =
    let room = c.if-out-ge12.true in
    let a = c.args in
    put_law 4 a.out.now _ _ a.n.hi a.n.lo (omega arith) room c.write_word.ensures c.write_half.ensures
    ∙ sym (write_all_lem 12 (short_of a.n) a.out.now room)

pub returns-else-out-ge12 : goal.returns-else-out-ge12
returns-else-out-ge12 c = sym (write_few 12 _ _ c.if-out-ge12.false)
