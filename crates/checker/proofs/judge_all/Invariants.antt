use Rattle.checker.proofs.Pass.{pass_from}
use Rattle.std.proofs.Common.{◌-◌, ◌≡◌, ◌≤◌, length}
use Rattle.checker.specs.Passes.{pass_over}
use Rattle.checker.proofs.judge_all.Given as goal

abbrev pub invariant-loop-i : goal.invariant-loop-i
invariant-loop-i l = (l.i ≤ l.h.count) × (l.failed ≤ l.i) × (length l.draft ≡ length l.initial.draft) × (pass_from l.h.count l.h l.records l.i l.before l.failed l.draft ≡ pass_over l.h l.records l.initial.draft)

-- proposed from the loop's first test
abbrev pub decreases-loop-i : goal.decreases-loop-i
decreases-loop-i l = l.h.count - l.i
