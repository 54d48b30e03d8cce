-- `edit::find::place_of` meets its contract. The records passed and the place among those that are left make the place.
use borrow.Author.Rules.{rules}
use Prim.Native.Nat.{◌≤◌, ◌<◌}
use native.Mathlib.Omega.{arith}
use Rattle.checker.specs.Check.{record_part}
use Rattle.edit.specs.Steps.{id_in}
use Rattle.edit.proofs.Search.{place_start, place_here, place_next, place_end}
use Rattle.edit.proofs.find.place_of.Goals as goal

-- src/find.rt:23:5
pub loop-i-init : goal.loop-i-init
loop-i-init c =
    let a = c.args in
    omega (arith, place_start a.records.now a.n a.id)

-- src/find.rt:25:13
pub returns-then-id-id_at : goal.returns-then-id-id_at
returns-then-id-id_at c =
    let l = c.loop-i in
    let a = c.args in
    let u : a.id ≤ id_in (record_part a.records.now l.i) = omega (arith, c.id_at.ensures, c.if-id-id_at.true) in
    (omega (arith, place_here a.records.now a.n a.id l.i c.loop-i-test.true u, l.invariant), search rules)

-- src/find.rt:23:5
pub loop-i-preserved : goal.loop-i-preserved
loop-i-preserved c =
    let l = c.loop-i in
    let a = c.args in
    let u : id_in (record_part a.records.now l.i) < a.id = omega (arith, c.id_at.ensures, c.if-id-id_at.false) in
    omega (arith, place_next a.records.now a.n a.id l.i c.loop-i-test.true u, l.invariant)

-- src/find.rt:18:1
pub returns : goal.returns
returns c =
    let l = c.loop-i in
    let a = c.args in
    (omega (arith, place_end a.records.now a.n a.id l.i c.loop-i-test.false, l.invariant), search rules)
