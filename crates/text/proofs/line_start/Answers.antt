use Rattle.std.proofs.Common.{◌+◌, ◌-◌, sym, ap, ◌∙◌}
use Rattle.text.specs.Line.{start_from}
use Rattle.text.specs.laws.LineLaws.{start_stays, start_next, start_none}
use Rattle.text.proofs.line_start.Goals as goal

pub returns-then-next-here : goal.returns-then-next-here
returns-then-next-here c =
    sym (start_stays _ c.args.text.now c.loop-i.here (sym c.next_start-next.ensures ∙ c.if-next-here.true)) ∙ c.loop-i.invariant

pub loop-i-preserved : goal.loop-i-preserved
loop-i-preserved c =
    ap (start_from (c.args.line - (c.loop-i.i + 1)) c.args.text.now) c.next_start-next.ensures
    ∙ sym (start_next c.args.text.now c.args.line c.loop-i.i c.loop-i.here c.loop-i-test.true)
    ∙ c.loop-i.invariant

pub returns : goal.returns
returns c = sym (start_none c.args.text.now c.args.line c.loop-i.i c.loop-i.here c.loop-i-test.false) ∙ c.loop-i.invariant
