use Rattle.std.proofs.Common.{◌++◌, drop}
use Rattle.decimal.specs.Decimal.{decimal_of}
use Rattle.decimal.proofs.Spelling.{Left}
use Rattle.decimal.proofs.spell.Given as goal

abbrev pub invariant-loop-at : goal.invariant-loop-at
invariant-loop-at l = Left (decimal_of l.n ++ drop l.count l.initial.out) l.at l.left l.out
