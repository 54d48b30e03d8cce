use Rattle.std.proofs.Common.{List, ◌++◌, ℕ, length, drop, refl, ap, arith}
use Rattle.decimal.specs.laws.PutLaws.{put_all, put_none}
use Rattle.decimal.proofs.write_text.Goals as goal

pub returns-then-out-text : goal.returns-then-out-text
returns-then-out-text c = put_none c.args.text.now c.args.out.now (omega arith)

pub returns : goal.returns
returns c =
    let text = c.args.text.now in
    put_all text c.args.out.now (omega arith) _ _ refl (ap (λ (t : List ℕ). t ++ drop (length text) c.args.out.now) c.copy_from_slice.ensures.after)
