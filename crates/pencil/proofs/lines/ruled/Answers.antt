-- `pencil::lines::ruled` meets its contract.
use Rattle.pencil.specs.Numbers.{rule_numbers}
use Rattle.pencil.specs.Trail.{ruled}
use Rattle.pencil.proofs.lines.ruled.Goals as goal

-- src/lines.rt:30:1
pub returns : goal.returns
unfolding ruled rule_numbers
returns c =
    record { lines = rw (c.step_line-step.ensures, c.is_never-never.ensures, c.rule_numbers-own.ensures); own = c.rule_numbers-own.ensures }
