-- `pencil::members::member_second` meets its contract.
use borrow.Author.Tests.{lt-ltb, le-ltb}
use Rattle.pencil.specs.Trail.{member_second}
use Rattle.pencil.proofs.members.member_second.Goals as goal

-- src/members.rt:76:9
pub returns-then-kind-lt6 : goal.returns-then-kind-lt6
unfolding member_second
returns-then-kind-lt6 c =
    let d = c.divide-ratio.ensures in
    let told = rw (c.saturating_sub-a.ensures, c.times-p.ensures, c.times-then-kind-lt6.ensures, d.whole, d.left, c.times.ensures, c.is_never.ensures) at c.ruled.ensures in
    rw (lt-ltb _ 6 c.if-kind-lt6.true) told

-- src/members.rt:92:9
pub returns-then-kind-lt8 : goal.returns-then-kind-lt8
unfolding member_second
returns-then-kind-lt8 c =
    let d = c.divide-ratio.ensures in
    let told = rw (c.times-p-then-kind-lt8.ensures, c.times-then-kind-lt8.ensures, d.whole, d.left, c.times.ensures) at c.ruled-then-kind-lt8.ensures in
    rw (le-ltb _ 6 c.if-kind-lt6.false, lt-ltb _ 8 c.if-kind-lt8.true) told

-- src/members.rt:59:1
pub returns : goal.returns
unfolding member_second
returns c =
    let d = c.divide-ratio.ensures in
    let told = rw (c.saturating_sub-a-2.ensures, c.times-p-2.ensures, c.times-2.ensures, d.whole, d.left, c.times.ensures, c.is_never.ensures) at c.ruled-2.ensures in
    rw (le-ltb _ 6 c.if-kind-lt6.false, le-ltb _ 8 c.if-kind-lt8.false) told
