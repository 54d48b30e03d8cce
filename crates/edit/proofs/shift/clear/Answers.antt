use Rattle.edit.proofs.Bytes.{zeroed}
use Rattle.edit.proofs.shift.clear.Goals as goal

pub returns : goal.returns
returns c =
    let a = c.args in
    zeroed a.buf.now c.fill.new.self a.at a.end c.requires.0 c.requires.1 (c.fill.ensures.after (λ y e. e))
