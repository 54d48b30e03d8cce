use Rattle.std.proofs.Common.{◌-◌, length}
use Rattle.fields.proofs.+plain_quoted.Given as goal

-- each one's measure is the bytes left
abbrev pub decreases-plain : goal.decreases-plain
decreases-plain l = length l.text.now - l.at

abbrev pub decreases-quoted : goal.decreases-quoted
decreases-quoted l = length l.text.now - l.at
