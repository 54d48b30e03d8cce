-- `plating::rule3` meets its contract.
use mathlib.Core.Path.{◌≡◌, sym, ◌∙◌}
use mathlib.Core.Bool.{true, false}
use Rattle.plating.specs.Kinds.{number_of}
use Rattle.plating.specs.Rules.{is_second}
use Rattle.plating.specs.Shapes.{shape3}
use Rattle.plating.proofs.rule3.Goals as goal

-- src/lib.rt:179:9
pub returns-then-is_second : goal.returns-then-is_second
unfolding shape3
returns-then-is_second c =
    let a = c.args in
    let second : is_second (number_of a.kind) a.factor.0 a.r ≡ true = sym c.is_second.ensures ∙ c.if-is_second.true in
    rw second c.second_form.ensures

-- src/lib.rt:174:1
pub returns : goal.returns
unfolding shape3
returns c =
    let a = c.args in
    let first : is_second (number_of a.kind) a.factor.0 a.r ≡ false = sym c.is_second.ensures ∙ c.if-is_second.false in
    rw first c.first_form.ensures
