-- `gauge::worked_in` meets its contract, shape by shape.
use mathlib.Core.Path.{refl, sym}
use Rattle.gauge.specs.declared.Shape.TheVariants.{Never}
use Rattle.gauge.specs.Shape.{meets_of}
use Rattle.gauge.specs.laws.LeastLaws.{none_given}
use Rattle.gauge.proofs.worked_in.Goals as goal

-- src/lib.rt:148:1
-- LOOK: κs/given
pub returns-in-Never : goal.returns-in-Never
returns-in-Never c =
    let top = c.args.top in
    rw c.in-Never.is (record { root = refl; first = refl; least = sym (none_given (meets_of Never) top (λ j l h. refl)) })
