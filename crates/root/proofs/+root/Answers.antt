-- `root` meets its contract: the square of one more than twice a quarter's root fits.
use Rattle.std.proofs.Common.{◌+◌, ◌*◌, ◌≤◌, arith}
use native.Mathlib.Nat.{mul-le-mul}
use Rattle.root.specs.laws.RootLaws.{small}
use Rattle.root.proofs.+root.Goals as goal

-- src/lib.rt:18:8
pub overflow_mul-next : goal.overflow_mul-next
overflow_mul-next t c =
    let s = small _ _ 2147483648 c.root-low.ensures (omega arith) in
    let h : 2 * c.root-low.result + 1 ≤ 4294967295 = omega arith in
    record { fits = omega (arith, mul-le-mul h h) }
