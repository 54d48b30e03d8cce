use Rattle.std.proofs.Common.{◌≡◌, ◌≤◌, ◌-◌, true, length}
use Rattle.filling.specs.Filling.{line_left}
use Rattle.filling.specs.laws.StepLaws.{counted}
use Rattle.filling.proofs.count_at.Given as goal

-- the fields passed, and then those left without their filling, are the line's
abbrev pub invariant-loop-next : goal.invariant-loop-next
invariant-loop-next l =
    (l.count ≤ l.here)
    × (l.count ≤ length l.text)
    × ((line_left true l.text l.at).end ≡ (line_left true l.text l.here).end)
    × (length (line_left true l.text l.at).values ≡ counted l.text l.here l.count l.kept)

abbrev pub decreases-loop-next : goal.decreases-loop-next
decreases-loop-next l = length l.text - l.here
