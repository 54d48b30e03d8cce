-- `gauge::tested` meets its contract: the first number that may meet the shape is the least if it does, and else the next one is.
use Rattle.std.specs.Prelude.{Some, None}
use Prim.Native.Nat.{◌≤◌}
use mathlib.Core.Path.{◌≡◌, sym, ◌∙◌}
use mathlib.Core.Bool.{true, false}
use native.Mathlib.Omega.{arith}
use lib.Dec.{leb}
use Rattle.gauge.specs.declared.Shape.TheVariants.{Floor}
use Rattle.gauge.specs.Shape.{meets_of, least_of}
use Rattle.gauge.specs.laws.LeastLaws.{least_is_lem}
use Rattle.gauge.specs.laws.WorkedLaws.{past_top, tested_at, tested_last, tested_next}
use Rattle.gauge.proofs.tested.Goals.{In_ok-x}
use Rattle.gauge.proofs.tested.Goals as goal

-- the number that is tested is the first, or 1 where that is 0
begins : (c : In_ok-x) → least_of (Floor c.args.first) c.args.top ≡ Some c.in_ok-x.x
begins c = sym c.floor_in.ensures ∙ c.in_ok-x.was

in_gauge : (c : In_ok-x) → c.in_ok-x.x ≤ c.args.top
in_gauge c =
    let a = c.args in
    omega (arith, (least_is_lem (leb a.first) a.top c.in_ok-x.x (begins c)).within)

-- src/lib.rt:106:13
pub returns-in_err-x : goal.returns-in_err-x
returns-in_err-x c =
    let a = c.args in
    c.from_residual.ensures ∙ past_top a.d a.first a.top c.requires (sym c.floor_in.ensures ∙ c.in_err-x.was)

-- src/lib.rt:108:9
pub returns-then-meets : goal.returns-then-meets
returns-then-meets c =
    let met : meets_of c.args.d c.in_ok-x.x ≡ true = sym c.meets.ensures ∙ c.if-meets.true in
    tested_at c.args.d c.args.first c.args.top c.requires c.in_ok-x.x (begins (goal.at.returns-then-meets c).In_ok-x) met

-- src/lib.rt:111:9
pub returns-then-x-top : goal.returns-then-x-top
returns-then-x-top c =
    let failed : meets_of c.args.d c.in_ok-x.x ≡ false = sym c.meets.ensures ∙ c.if-meets.false in
    tested_last c.args.d c.args.first c.args.top c.requires c.in_ok-x.x (begins (goal.at.returns-then-x-top c).In_ok-x) (omega arith) failed

-- src/lib.rt:113:10
pub overflow_add-result : goal.overflow_add-result
overflow_add-result c = omega (arith, in_gauge (goal.at.overflow_add-result c).In_ok-x)

-- src/lib.rt:102:1
pub returns : goal.returns
returns c =
    let failed : meets_of c.args.d c.in_ok-x.x ≡ false = sym c.meets.ensures ∙ c.if-meets.false in
    tested_next c.args.d c.args.first c.args.top c.requires c.in_ok-x.x (begins (goal.at.returns c).In_ok-x) (omega (arith, in_gauge (goal.at.returns c).In_ok-x)) failed
