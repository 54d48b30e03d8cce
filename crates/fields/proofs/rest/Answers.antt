use Rattle.std.proofs.Common.{sym, ◌∙◌, refl, arith}
use Rattle.fields.specs.declared.Turn.TheVariants as Turn
use Rattle.fields.proofs.RestLaws.{rest_step, before_end}
use Rattle.fields.proofs.rest.Goals as goal

pub overflow_add-here : goal.overflow_add-here
overflow_add-here c = omega (arith, before_end c.args.text.now c.loop-next.here c.loop-next.m (Turn.On _) (sym c.in-On.is ∙ c.turn_at.ensures) refl)

pub loop-next-smaller : goal.loop-next-smaller
loop-next-smaller c = omega (arith, before_end c.args.text.now c.loop-next.here c.loop-next.m (Turn.On _) (sym c.in-On.is ∙ c.turn_at.ensures) refl)

pub loop-next-preserved : goal.loop-next-preserved
loop-next-preserved c = rest_step c.args.text.now c.loop-next.here c.loop-next.m (Turn.On _) (sym c.in-On.is ∙ c.turn_at.ensures) ∙ c.loop-next.invariant

pub returns-in-End : goal.returns-in-End
returns-in-End c = rest_step c.args.text.now c.loop-next.here c.loop-next.m Turn.End (sym c.in-End.is ∙ c.turn_at.ensures) ∙ c.loop-next.invariant

pub overflow_add-result : goal.overflow_add-result
overflow_add-result c = omega (arith, before_end c.args.text.now c.loop-next.here c.loop-next.m Turn.Comma (sym c.in-Comma.is ∙ c.turn_at.ensures) refl)

pub returns-in-Comma : goal.returns-in-Comma
returns-in-Comma c = rest_step c.args.text.now c.loop-next.here c.loop-next.m Turn.Comma (sym c.in-Comma.is ∙ c.turn_at.ensures) ∙ c.loop-next.invariant

pub overflow_add-result-in-Line : goal.overflow_add-result-in-Line
overflow_add-result-in-Line c = omega (arith, before_end c.args.text.now c.loop-next.here c.loop-next.m Turn.Line (sym c.in-Line.is ∙ c.turn_at.ensures) refl)

pub returns-in-Line : goal.returns-in-Line
returns-in-Line c = rest_step c.args.text.now c.loop-next.here c.loop-next.m Turn.Line (sym c.in-Line.is ∙ c.turn_at.ensures) ∙ c.loop-next.invariant

pub returns-in-Fault : goal.returns-in-Fault
returns-in-Fault c = rest_step c.args.text.now c.loop-next.here c.loop-next.m Turn.Fault (sym c.in-Fault.is ∙ c.turn_at.ensures) ∙ c.loop-next.invariant
