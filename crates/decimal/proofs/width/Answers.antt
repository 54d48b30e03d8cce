use Rattle.std.proofs.Common.{length, ap, arith}
use Rattle.decimal.specs.laws.DecimalLaws.{decimal_one, one_longer}
use Rattle.decimal.proofs.width.Goals as goal

pub loop-rest-preserved : goal.loop-rest-preserved
loop-rest-preserved c = (omega (arith, one_longer c.loop-rest.rest (omega arith)), omega arith)

pub returns : goal.returns
returns c = omega (arith, ap length (decimal_one c.loop-rest.rest (omega arith)))
