-- `report::tell` meets its contract.
use mathlib.Core.Path.{refl}
use Rattle.report.specs.laws.PageLaws.{tells_none, tells_all}
use Rattle.report.proofs.tell.Goals as goal

pub returns-then-text-len : goal.returns-then-text-len
returns-then-text-len c = let a = c.args in tells_none a.line.now a.text.now _ c.if-text-len.true refl

pub returns : goal.returns
returns c =
    let a = c.args in
    tells_all a.line.now a.text.now _ _ c.if-text-len.false refl c.write_text.ensures.bytes
