-- `gauge::square_in` meets its contract.
use Prim.Native.Nat.{ℕ, ◌+◌}
use mathlib.Core.Path.{◌≡◌, ap, ◌∙◌}
use native.Mathlib.Omega.{arith}
use Rattle.root.specs.Root.{root_of}
use Rattle.root.specs.laws.RootLaws.{root_of_lem}
use Rattle.gauge.specs.Ceil.{ceil_of}
use Rattle.gauge.specs.laws.WorkedLaws.{none_over, square_step}
use Rattle.gauge.proofs.square_in.Goals.{After-ceil_div-first, After-root-root}
use Rattle.gauge.proofs.square_in.Goals as goal

-- `gauge::square_in` meets its contract.
-- Assumes nothing.
-- the root that is taken
taken : (c : After-root-root) → c.root-root.result ≡ root_of c.args.n
taken c = root_of_lem c.args.n c.root-root.result c.root-root.ensures

-- the first number is root and short over the step, rounded up
divided : (c : After-ceil_div-first)
    → c.ceil_div-first.result ≡ ceil_of (c.args.short + root_of c.args.n) c.args.step
divided c =
    let a = c.args in
    let up : c.ceil_div-first.result ≡ ceil_of (a.short + c.root-root.result) a.step = c.ceil_div-first.ensures in
    up ∙ ap (λ (r : ℕ). ceil_of (a.short + r) a.step) (taken c.before)

-- LOOK: passes ['After-root-root']
-- LOOK: before

-- src/lib.rt:140:9
pub returns-then-most-sum : goal.returns-then-most-sum
returns-then-most-sum c =
    let a = c.args in
    let r = taken (goal.at.returns-then-most-sum c).After-root-root in
    record { root = r; first = divided (goal.at.returns-then-most-sum c).After-ceil_div-first; least = none_over a.step a.short a.n a.top (omega arith) }

-- src/lib.rt:143:9
pub tested-least-requires : goal.tested-least-requires
tested-least-requires c =
    let a = c.args in
    let r = taken (goal.at.tested-least-requires c).After-root-root in
    rw (divided (goal.at.tested-least-requires c).After-ceil_div-first) (square_step a.step a.short a.n a.top (omega arith))

-- src/lib.rt:130:1
pub returns : goal.returns
returns c =
    record {
      root = taken (goal.at.returns c).After-root-root;
      first = divided (goal.at.returns c).After-ceil_div-first;
      least = c.tested-least.ensures;
    }
