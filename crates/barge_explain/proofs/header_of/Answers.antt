-- `barge_explain::header_of` meets its contract: no more of an input has to be read than the buffer holds.
use mathlib.Core.Path.{ap, subst, ◌∙◌}
use Prim.Native.Nat.{ℕ}
use lib.ListN.{length, take}
use lib.Seq.{length-take-le}
use Rattle.checker.specs.Unjudged.{sound_header}
use Rattle.barge_explain.specs.Explain.{Sized}
use Rattle.barge_explain.specs.laws.ExplainLaws.{header_cut, sized}
use Rattle.barge_explain.proofs.header_of.Goals as goal

pub returns : goal.returns
returns c =
    let b = c.args.buffer.now in
    let r = c.sound_header in
    (λ input e. r.ensures ∙ ap sound_header e ∙ header_cut (length b) input c.requires.0, subst (λ (n : ℕ). Sized r.result n) (length-take-le c.args.got b c.requires.1) (sized (take c.args.got b) r.result r.ensures))
