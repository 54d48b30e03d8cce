use Rattle.std.proofs.Common.{◌≡◌, ◌≤◌, length}
use Rattle.edit.specs.Steps.{opened}
use Rattle.edit.proofs.shift.open.Given as goal

-- the bytes from k on have moved
abbrev pub invariant-loop-k : goal.invariant-loop-k
invariant-loop-k l = (l.at ≤ l.k) × (l.k ≤ l.end) × (length l.buf ≡ length l.initial.buf) × (l.buf ≡ opened l.initial.buf l.k l.end)
