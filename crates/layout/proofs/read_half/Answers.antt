-- `layout::read_half` meets its contract.
use Rattle.std.specs.Int.{w32, from_be_bytes}
use Rattle.std.proofs.Common.{sym, ap, ◌∙◌}
use Rattle.layout.specs.laws.BytesLaws.{read_few, read_all}
use Rattle.layout.proofs.Endian.{read_4}
use Rattle.layout.proofs.read_half.Goals as goal

pub returns-in-Some : goal.returns-in-Some
returns-in-Some c =
    let first = c.in-Some.ensures.cases in
    let s = c.args.s.now in
    c.from_be_bytes.ensures ∙ ap (from_be_bytes w32) first.same ∙ read_4 s first.enough ∙ sym (read_all 4 s first.enough)

pub returns-in-None : goal.returns-in-None
returns-in-None c = sym (read_few 4 c.args.s.now c.in-None.ensures.cases)
