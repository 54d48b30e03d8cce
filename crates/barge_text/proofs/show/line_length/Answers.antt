-- It ends where a line end stands, or with the text.
use Rattle.std.proofs.Common.{ℕ, ◌-◌, ◌≡◌, List, length, take, drop, sym, ap, subst, ◌∙◌, arith, take_all, length-drop}
use Rattle.barge_text.specs.Shown.{ends_here, line_of}
use Rattle.barge_text.specs.laws.ShownLaws.{line_ends, line_all, line_goes_on}
use Rattle.barge_text.proofs.show.line_length.Goals as goal

-- the bytes from i on are all that are left
rest_is : (s : List ℕ) (i : ℕ) → ends_here (drop i s) ≡ ends_here (take (length s - i) (drop i s))
rest_is s i = ap ends_here (sym (take_all (length s - i) (drop i s) (omega (arith, length-drop i s))))

pub returns-then-ends_here : goal.returns-then-ends_here
returns-then-ends_here c =
    let i = c.loop-i.i in
    let s = c.args.text.now in
    record { inside = omega arith; line = line_ends s i c.loop-i.invariant (rest_is s i ∙ sym c.ends_here.ensures ∙ c.if-ends_here.true) }

pub loop-i-preserved : goal.loop-i-preserved
loop-i-preserved c =
    let i = c.loop-i.i in
    let s = c.args.text.now in
    line_goes_on s i c.loop-i.invariant c.loop-i-test.true (rest_is s i ∙ sym c.ends_here.ensures ∙ c.if-ends_here.false)

pub returns : goal.returns
returns c =
    let l = c.loop-i in
    let s = c.args.text.now in
    let all : l.i ≡ length s = omega arith in
    record { inside = omega arith; line = subst (λ (k : ℕ). take k s ≡ line_of s) all (line_all s l.i l.invariant c.loop-i-test.false) }
