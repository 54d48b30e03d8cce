-- `layout::write_word` meets its contract.
use Rattle.std.specs.Prelude.{◌≡◌}
use Rattle.std.specs.Int.{w64, to_be_bytes}
use Rattle.std.proofs.Common.{sym, ap, ◌∙◌, ◌++◌, drop}
use Rattle.layout.specs.laws.BytesLaws.{write_few, write_all_lem}
use Rattle.layout.proofs.Endian.{written_8}
use Rattle.layout.proofs.write_word.Goals as goal

pub returns-in-Some : goal.returns-in-Some
returns-in-Some c =
    let out = c.args.out.now in
    let number : c.to_be_bytes.result ≡ to_be_bytes w64 c.args.w = c.to_be_bytes.ensures in
    ap (λ bs. bs ++ drop 8 out) (number ∙ written_8 c.args.w) ∙ sym (write_all_lem 8 c.args.w out c.in-Some.ensures.cases.enough)

pub returns-in_default : goal.returns-in_default
returns-in_default c = sym (write_few 8 c.args.w c.args.out.now c.in_default.ensures.cases)
