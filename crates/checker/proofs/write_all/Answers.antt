-- `checker::write_all` meets its contract. The loop's invariant: writing what is left gives the whole.
use borrow.Author.Rules.{rules}
use mathlib.Core.Path.{refl, sym, ◌∙◌}
use native.Mathlib.Omega.{arith}
use Rattle.checker.proofs.Parts.{part_written, all_written}
use Rattle.checker.proofs.write_all.Goals as goal

-- src/lib.rt:319:5
pub loop-i-init : goal.loop-i-init
loop-i-init c = (search rules, refl, refl)

-- src/lib.rt:319:5
pub loop-i-preserved : goal.loop-i-preserved
loop-i-preserved c =
    let l = c.loop-i in
    let a = c.args in (
      search rules,
      omega (arith, l.invariant.1),
      part_written a.draft.now l.out l.i c.loop-i-test.true (omega (arith, l.invariant.1, c.requires)) _ c.write_number.new.out refl c.write_number.ensures ∙ l.invariant.2,
    )

-- src/lib.rt:314:1
pub returns : goal.returns
returns c =
    let l = c.loop-i in
    let a = c.args in
    sym (all_written a.draft.now l.out l.i (omega arith)) ∙ l.invariant.2
