-- `report::put_verdicts` meets its contract. The loop's invariant: what is left of the text, laid from `at` on, gives the whole.
use borrow.Author.Rules.{rules}
use Rattle.report.proofs.Lines.{begin, turn, done}
use Rattle.report.proofs.put_verdicts.Goals as goal

pub loop-i-init : goal.loop-i-init
loop-i-init c = begin c.requires.1

pub put_verdict-at-requires : goal.put_verdict-at-requires
put_verdict-at-requires c = search rules

pub loop-i-preserved : goal.loop-i-preserved
loop-i-preserved c =
    turn c.loop-i.invariant c.loop-i-test.true c.put_verdict-at.ensures

pub returns : goal.returns
returns c = done c.loop-i.invariant c.loop-i-test.false
