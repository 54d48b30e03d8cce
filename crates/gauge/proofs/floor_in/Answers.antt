-- `gauge::floor_in` meets its contract: the least number that is at least n is n, or 1 where n is 0.
use Rattle.std.specs.Prelude.{Some, None}
use borrow.Author.Tests.{le-leb, lt-leb}
use native.Mathlib.Omega.{arith}
use Rattle.gauge.specs.declared.Shape.TheVariants.{Floor}
use Rattle.gauge.specs.Shape.{meets_of}
use Rattle.gauge.specs.laws.LeastLaws.{least_only}
use Rattle.gauge.proofs.floor_in.Goals as goal

-- src/lib.rt:87:9
pub returns-then-top-n : goal.returns-then-top-n
returns-then-top-n c =
    let a = c.args in
    least_only (meets_of (Floor a.n)) a.top None (λ j l h. lt-leb a.n j (omega arith))

-- src/lib.rt:91:13
pub returns-then-top-eq0 : goal.returns-then-top-eq0
returns-then-top-eq0 c =
    let a = c.args in
    least_only (meets_of (Floor a.n)) a.top None (λ j l h. absurd (omega arith))

-- src/lib.rt:93:9
pub returns-then-n-eq0 : goal.returns-then-n-eq0
returns-then-n-eq0 c =
    let a = c.args in
    least_only (meets_of (Floor a.n)) a.top (Some 1) (record { from = omega arith; within = omega arith; passes = le-leb a.n 1 (omega arith); least = λ j l h. absurd (omega arith) })

-- src/lib.rt:83:1
pub returns : goal.returns
returns c =
    let a = c.args in
    least_only (meets_of (Floor a.n)) a.top (Some a.n) (record { from = omega arith; within = omega arith; passes = le-leb a.n a.n (omega arith); least = λ j l h. lt-leb a.n j h })
