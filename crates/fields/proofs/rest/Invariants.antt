use Rattle.std.proofs.Common.{◌≡◌, ◌-◌, drop, length}
use Rattle.fields.specs.Field.{field_of}
use Rattle.fields.specs.Rest.{marks_in}
use Rattle.fields.specs.declared.Num.TheVariants.{Bad}
use Rattle.fields.proofs.rest.Given as goal

-- what is left of the field gives the answer
abbrev pub invariant-loop-next : goal.invariant-loop-next
invariant-loop-next l = field_of (marks_in l.m (drop l.here l.text) l.here) Bad ≡ field_of (marks_in l.initial.m (drop l.at l.text) l.at) Bad

abbrev pub decreases-loop-next : goal.decreases-loop-next
decreases-loop-next l = length l.text - l.here
