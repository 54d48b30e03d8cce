-- `loads::line_load` meets its contract: its parts fit 64 bits and make up the whole.
use Prim.Native.Nat.{ℕ}
use mathlib.Core.Path.{ap}
use lib.Dec.{lit<}
use Rattle.gauge.specs.Ceil.{ceil_of}
use Rattle.loads.specs.Loads.{line_load}
use Rattle.loads.specs.Sources.{number_of, NamedLine}
use Rattle.loads.proofs.Parts.{ceil_parts}
use Rattle.loads.proofs.line_load.Goals as goal

pub returns : goal.returns
unfolding line_load ceil_of
returns c = ap {B = NamedLine} (λ (q : ℕ). record { load = q; source = number_of c.args.load.source }) (ceil_parts _ _ 1000000 (lit< tt))
