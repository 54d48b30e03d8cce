-- `layout::write_half` meets its contract.
use Rattle.std.proofs.Common.{sym, ap, ◌∙◌, ◌++◌, drop}
use Rattle.layout.specs.laws.BytesLaws.{write_few, write_all_lem}
use Rattle.layout.proofs.Endian.{written_4}
use Rattle.layout.proofs.write_half.Goals as goal

pub returns-in-Some : goal.returns-in-Some
returns-in-Some c =
    let out = c.args.out.now in
    ap (λ bs. bs ++ drop 4 out) (c.to_be_bytes.ensures ∙ written_4 c.args.w) ∙ sym (write_all_lem 4 c.args.w out c.in-Some.ensures.cases.enough)

pub returns-in_default : goal.returns-in_default
returns-in_default c = sym (write_few 4 c.args.w c.args.out.now c.in_default.ensures.cases)
