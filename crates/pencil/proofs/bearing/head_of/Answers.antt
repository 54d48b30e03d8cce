-- `pencil::bearing::head_of` meets its contract.
use borrow.Author.Tests.{le-leb, lt-leb, lt-ltb, le-ltb, ne_eqb}
use Rattle.pencil.specs.Trail.{head_of}
use Rattle.pencil.proofs.bearing.head_of.Goals as goal

-- src/bearing.rt:103:9
pub returns-then-kind-le2 : goal.returns-then-kind-le2
unfolding head_of
returns-then-kind-le2 c =
    let n = c.load_numbers-own.ensures in
    record { lines = rw (le-leb _ 2 c.if-kind-le2.true, n); own = n }

-- src/bearing.rt:107:9
pub returns-then-kind-lt5 : goal.returns-then-kind-lt5
unfolding head_of
returns-then-kind-lt5 c =
    let n = c.load_numbers-own.ensures in
    record { lines = rw (lt-leb _ 2 c.if-kind-le2.false, lt-ltb _ 5 c.if-kind-lt5.true); own = n }

-- src/bearing.rt:110:9
pub returns-then-kind-eq5 : goal.returns-then-kind-eq5
unfolding head_of
returns-then-kind-eq5 c =
    let n = c.load_numbers-own.ensures in
    record { lines = rw (c.if-kind-eq5.true, n); own = n }

-- src/bearing.rt:72:1
pub returns : goal.returns
unfolding head_of
returns c =
    let n = c.load_numbers-own.ensures in
    record { lines = rw (lt-leb _ 2 c.if-kind-le2.false, le-ltb _ 5 c.if-kind-lt5.false, ne_eqb _ 5 c.if-kind-eq5.false); own = n }
