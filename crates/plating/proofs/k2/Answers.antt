-- `plating::k2` meets its contract.
use borrow.Author.Rules.{rules}
use Rattle.plating.specs.Rules.{K2}
use Rattle.plating.proofs.k2.Goals as goal

-- src/lib.rt:117:1
pub returns-then-ratio-lt-K2_HIGH : goal.returns-then-ratio-lt-K2_HIGH
unfolding K2
returns-then-ratio-lt-K2_HIGH c = search rules

-- src/lib.rt:117:1
pub returns-else-ratio-lt-K2_HIGH : goal.returns-else-ratio-lt-K2_HIGH
unfolding K2
returns-else-ratio-lt-K2_HIGH c = search rules
