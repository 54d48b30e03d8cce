use Rattle.std.proofs.Common.{◌+◌, ◌≡◌, ◌≤◌, length}
use Rattle.decimal.specs.Decimal.{decimal_of}
use Rattle.decimal.proofs.width.Given as goal

-- with the digits of what is left, the count is one more than that of all
abbrev pub invariant-loop-rest : goal.invariant-loop-rest
invariant-loop-rest l = (l.count + length (decimal_of l.rest) ≡ length (decimal_of l.n) + 1) × (l.count + l.rest ≤ l.n + 1)

abbrev pub decreases-loop-rest : goal.decreases-loop-rest
decreases-loop-rest l = l.rest
