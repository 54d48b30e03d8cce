-- `pencil::members::member_first` meets its contract.
use borrow.Author.Tests.{le-leb, lt-leb, lt-ltb, le-ltb}
use Rattle.pencil.specs.Trail.{member_first}
use Rattle.pencil.proofs.members.member_first.Goals.{then-kind-ge6, else-kind-ge6+then-h-lt12000, else-kind-ge6+else-h-lt12000}
use Rattle.pencil.proofs.members.member_first.Goals as goal

pub returns : goal.returns
unfolding member_first
returns c = elim c.if-kind-ge6.branch [
  | then-kind-ge6 w ↦
      let told = rw (w.line-is, w.times.ensures) at c.ruled.ensures in
      rw (le-leb 6 _ w.if-kind-ge6.true) told
  | else-kind-ge6+then-h-lt12000 w ↦
      let told = rw (w.line-is, w.times-then-h-lt12000.ensures) at c.ruled.ensures in
      rw (lt-leb 6 _ w.if-kind-ge6.false, lt-ltb _ 12000 w.if-h-lt12000.true) told
  | else-kind-ge6+else-h-lt12000 w ↦
      let told = rw (w.line-is, w.times-else-h-lt12000.ensures) at c.ruled.ensures in
      rw (lt-leb 6 _ w.if-kind-ge6.false, le-ltb _ 12000 w.if-h-lt12000.false) told
]
