-- The test of the kind is the definition's.
use Rattle.std.proofs.Common.{lt-ltb, le-ltb}
use Rattle.barge_edit.specs.Office.{fields_of}
use Rattle.barge_edit.proofs.words.fields_of.Goals as goal

pub returns-then-kind-lt5 : goal.returns-then-kind-lt5
unfolding fields_of
returns-then-kind-lt5 c = rw (lt-ltb c.args.kind 5 c.if-kind-lt5.true)

pub returns : goal.returns
unfolding fields_of
returns c = rw (le-ltb c.args.kind 5 c.if-kind-lt5.false)
