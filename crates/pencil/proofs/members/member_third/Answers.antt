-- `pencil::members::member_third` meets its contract.
use borrow.Author.Tests.{lt-ltb, le-ltb}
use Rattle.pencil.specs.Trail.{member_third}
use Rattle.pencil.proofs.members.member_third.Goals.{then-kind-lt6, else-kind-lt6+then-kind-lt8, else-kind-lt6+else-kind-lt8}
use Rattle.pencil.proofs.members.member_third.Goals as goal

pub returns : goal.returns
unfolding member_third
returns c = elim c.if-kind-lt6.branch [
  | then-kind-lt6 w ↦
      let told = rw (w.line-is, w.times-then-kind-lt6.ensures, w.times.ensures, c.verdict_line-last.ensures) at c.ruled.ensures in
      rw (lt-ltb _ 6 w.if-kind-lt6.true) told
  | else-kind-lt6+then-kind-lt8 w ↦
      let told = rw (w.line-is, w.times-then-kind-lt8-2.ensures, w.times-then-kind-lt8.ensures, c.verdict_line-last.ensures) at c.ruled.ensures in
      rw (le-ltb _ 6 w.if-kind-lt6.false, lt-ltb _ 8 w.if-kind-lt8.true) told
  | else-kind-lt6+else-kind-lt8 w ↦
      let told = rw (w.line-is, w.times-else-kind-lt8-2.ensures, w.times-else-kind-lt8.ensures, c.verdict_line-last.ensures) at c.ruled.ensures in
      rw (le-ltb _ 6 w.if-kind-lt6.false, le-ltb _ 8 w.if-kind-lt8.false) told
]
