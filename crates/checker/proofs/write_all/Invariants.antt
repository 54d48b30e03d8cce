use Rattle.checker.proofs.Parts.{whole_from}
use Rattle.std.proofs.Common.{length, ◌-◌, ◌≡◌, ◌≤◌}
use Rattle.checker.proofs.write_all.Given as goal

abbrev pub invariant-loop-i : goal.invariant-loop-i
invariant-loop-i l = (l.i ≤ length l.draft) × (length l.out ≡ length l.initial.out) × (whole_from l.draft l.out l.i ≡ whole_from l.draft l.initial.out 0)

-- proposed from the loop's first test
abbrev pub decreases-loop-i : goal.decreases-loop-i
decreases-loop-i l = length l.draft - l.i
