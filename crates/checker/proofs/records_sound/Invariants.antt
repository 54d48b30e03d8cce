use Rattle.std.proofs.Common.{◌≡◌, ◌≤◌, ◌-◌}
use Rattle.checker.specs.Unjudged.{records_sound}
use Rattle.checker.proofs.Unjudged.{sound_from}
use Rattle.checker.proofs.records_sound.Given as goal

-- what the records come to from here on is what they come to in all
abbrev pub invariant-loop-i : goal.invariant-loop-i
invariant-loop-i l = (l.i ≤ l.n) × (sound_from l.n l.records l.i l.before ≡ records_sound l.records l.n)

abbrev pub decreases-loop-i : goal.decreases-loop-i
decreases-loop-i l = l.n - l.i
