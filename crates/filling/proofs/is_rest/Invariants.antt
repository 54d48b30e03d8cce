use Rattle.std.proofs.Common.{◌≡◌, true, drop}
use Rattle.filling.specs.Filling.{blank}
use Rattle.filling.proofs.is_rest.Given as goal

-- whether what is left is blank is the answer
abbrev pub invariant-loop-here : goal.invariant-loop-here
invariant-loop-here l = blank true (drop l.here l.text) ≡ blank true (drop l.at l.text)
