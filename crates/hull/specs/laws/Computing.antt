-- A name for all that judging a record computes with: on an `unfolding` line it opens whatever its own line names.
use Rattle.gauge.specs.Least.{first_from, least_in}
use Rattle.gauge.specs.Ceil.{ceil_of}
use Rattle.loads.specs.Loads.{sea, bottom_pressure, inner_pressure, deep_pressure, line_load}
use Rattle.loads.specs.Sources.{bottom_named, inner_named}
use Rattle.plating.specs.Rules.{K2}
use Rattle.framing.specs.Rules.{rule4, rule5, rule6, member_line}

unfoldable pub judging : Type 0
unfolding first_from least_in ceil_of sea bottom_pressure inner_pressure deep_pressure line_load K2 rule4 rule5 rule6 member_line bottom_named inner_named
judging = Unit {0}
