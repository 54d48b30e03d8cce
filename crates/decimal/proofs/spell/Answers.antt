use Rattle.std.proofs.Common.{◌≡◌, ℕ, suc, ◌-◌, ◌/◌, ◌++◌, drop, set, sym, subst, arith}
use Rattle.decimal.specs.Decimal.{decimal_of}
use Rattle.decimal.proofs.Spelling.{Left, left_begins, left_less, left_none}
use Rattle.decimal.proofs.spell.Goals as goal

pub loop-at-init : goal.loop-at-init
loop-at-init c = left_begins c.args.n c.args.count c.args.out.now c.requires.0

pub loop-at-preserved : goal.loop-at-preserved
loop-at-preserved c =
    let l = c.loop-at in
    let whole = decimal_of c.args.n ++ drop c.args.count c.args.out.now in
    let one_more : l.at ≡ suc (l.at - 1) = omega arith in
    let before = subst (λ (k : ℕ). Left whole k l.left l.out) one_more l.invariant in
    subst (λ (b : ℕ). Left whole (l.at - 1) (l.left / 10) (set l.out (l.at - 1) b)) (sym c.digit.ensures) (left_less whole (l.at - 1) l.left l.out (omega arith) before)

pub returns : goal.returns
returns c =
    let l = c.loop-at in
    left_none (decimal_of c.args.n ++ drop c.args.count c.args.out.now) l.at l.left l.out (omega arith) l.invariant
