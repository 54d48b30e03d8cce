use borrow.Author.Rules.{rules}
use mathlib.Core.Path.{◌≡◌, refl}
use native.Mathlib.Omega.{arith}
use lib.ListN.{length-set}
use Rattle.edit.proofs.Shifts.{open_none, open_turn}
use Rattle.edit.proofs.shift.open.Goals as goal

pub loop-k-init : goal.loop-k-init
loop-k-init c = (search rules, search rules, refl, open_none _ _ c.requires.1)

pub loop-k-preserved : goal.loop-k-preserved
loop-k-preserved c =
    let l = c.loop-k in
    (search rules, search rules, simp length-set l.invariant.2, rw l.invariant.3 (open_turn _ _ _ _ (omega arith) (omega arith) c.requires.1))

pub returns : goal.returns
returns c =
    let l = c.loop-k in
    let e : l.k ≡ c.args.at = omega arith in
    rw (← e) l.invariant.3
