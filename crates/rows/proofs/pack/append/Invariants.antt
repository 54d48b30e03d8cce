use Rattle.rows.proofs.Carrying.{Carrying}
use Rattle.rows.proofs.pack.append.Given as goal

abbrev pub invariant-loop-i : goal.invariant-loop-i
invariant-loop-i l = Carrying l.initial.out l.limit l.value l.out l.carry l.i
