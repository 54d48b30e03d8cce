-- `pencil::writing::put_line` meets its contract: the constants are the templates' texts and where each begins.
use Prim.Native.Nat.{ℕ}
use mathlib.Core.Path.{subst}
use mathlib.Core.List.{List}
use native.Mathlib.Omega.{arith}
use Rattle.decimal.specs.Decimal.{decimal_of, digits_in}
use Rattle.wording.specs.Words.{pieces, most}
use Rattle.wording.specs.Writes.{Writes, spot}
use Rattle.wording.specs.laws.WritesLaws.{within, none}
use Rattle.pencil.specs.Templates.{templates, texts}
use Rattle.pencil.specs.laws.Table.{short, piece_at, past}
use Rattle.pencil.proofs.writing.put_line.Goals as goal

-- src/writing.rt:15:9
pub returns-then-k-ge-COUNT : goal.returns-then-k-ge-COUNT
unfolding pieces
returns-then-k-ge-COUNT c = rw (past c.args.t c.if-k-ge-COUNT.true) (within _ (omega arith) none)

-- src/writing.rt:21:19
pub slice_bounds-fill-count : goal.slice_bounds-fill-count
unfolding texts templates decimal_of digits_in
slice_bounds-fill-count c = (piece_at c.args.t c.if-k-ge-COUNT.false).order

-- src/writing.rt:21:19
pub slice_bounds-fill-start : goal.slice_bounds-fill-start
unfolding texts templates decimal_of digits_in
slice_bounds-fill-start c = (piece_at c.args.t c.if-k-ge-COUNT.false).order

-- src/writing.rt:21:19
pub slice_bounds-fill-end : goal.slice_bounds-fill-end
unfolding texts templates decimal_of digits_in
slice_bounds-fill-end c = (piece_at c.args.t c.if-k-ge-COUNT.false).high

-- src/writing.rt:10:1
-- LOOK: κs/given
pub returns : goal.returns
unfolding texts templates decimal_of digits_in
returns c =
    let a = c.args in
    within _ (short a.t)
    (subst (λ (w : List ℕ). Writes (pieces a.given.now a.own.now 0 w) (most 0 w) (spot a.page.now a.at) (spot c.fill.new.page c.fill.result))
    (piece_at a.t c.if-k-ge-COUNT.false).part c.fill.ensures)
