-- `layout::read_short` meets its contract: a word and what follows it make the number together.
use Rattle.std.specs.Prelude.{ℕ, ◌+◌, ◌*◌, ◌^◌}
use Rattle.std.proofs.Common.{sym, ap₂, ◌∙◌}
use Rattle.layout.specs.laws.BytesLaws.{read_few, read_all}
use Rattle.layout.proofs.Parts.{get_law}
use Rattle.layout.proofs.read_short.Goals as goal

pub returns-then-s-lt12 : goal.returns-then-s-lt12
returns-then-s-lt12 c = sym (read_few 12 _ c.if-s-lt12.true)

pub returns : goal.returns
returns c =
    let long = c.if-s-lt12.false in
    let s = c.args.s.now in
    ap₂ (λ (x y : ℕ). x * 2 ^ 32 + y) c.read_word.ensures c.read_half.ensures ∙ get_law 4 s long ∙ sym (read_all 12 s long)
