-- `pencil::head` meets its contract.
use mathlib.Core.Path.{refl}
use Rattle.pencil.specs.Templates.{head_words}
use Rattle.pencil.proofs.head.Goals as goal

-- src/lib.rt:260:1
pub returns : goal.returns
unfolding head_words
returns c = refl
