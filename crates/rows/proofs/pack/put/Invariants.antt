use Rattle.std.proofs.Common.{length}
use Rattle.rows.proofs.Appending.{Appending}
use Rattle.rows.proofs.pack.put.Given as goal

-- the numbers left, appended to what the bytes hold, give the whole
abbrev pub invariant-loop-n : goal.invariant-loop-n
invariant-loop-n l = Appending l.initial.out l.limits l.nums l.out (length l.yielded)
