use Rattle.std.proofs.Common.{◌≡◌, ◌+◌}
use Rattle.edit.specs.Steps.{place_in}
use Rattle.edit.proofs.Search.{place_from}
use Rattle.edit.proofs.find.place_of.Given as goal

-- the records passed and the place among those that are left make the place
abbrev pub invariant-loop-i : goal.invariant-loop-i
invariant-loop-i l = l.i + place_from l.records l.n l.id l.i ≡ place_in l.records l.n l.id
