-- `layout::read_long` meets its contract: a word and what follows it make the number together.
use Rattle.std.specs.Prelude.{ℕ, ◌+◌, ◌*◌, ◌^◌}
use Rattle.std.proofs.Common.{sym, ap₂, ◌∙◌}
use Rattle.layout.specs.laws.BytesLaws.{read_few, read_all}
use Rattle.layout.proofs.Parts.{get_law}
use Rattle.layout.proofs.read_long.Goals as goal

pub returns-then-s-lt16 : goal.returns-then-s-lt16
returns-then-s-lt16 c = sym (read_few 16 _ c.if-s-lt16.true)

pub returns : goal.returns
returns c =
    let long = c.if-s-lt16.false in
    let s = c.args.s.now in
    ap₂ (λ (x y : ℕ). x * 2 ^ 64 + y) c.read_word.ensures c.read_word-2.ensures ∙ get_law 8 s long ∙ sym (read_all 16 s long)
