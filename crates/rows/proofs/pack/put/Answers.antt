use Rattle.std.proofs.Common.{ℕ, ◌∷◌, [], Bor, length-append, sym, subst, ap₂, ◌∙◌, arith, rules}
use Rattle.std.proofs.lemmas.Slice.Zip.{zip_turn, zip_end}
use Rattle.rows.specs.Pack.{appended}
use Rattle.rows.proofs.Appending.{Appending, begin, turn, finish, slice_fit}
use Rattle.rows.proofs.pack.put.Goals as goal

pub loop-n-init : goal.loop-n-init
loop-n-init c = begin _ _ _ (slice_fit c.args.out.now (λ i. (c.type_inv.out i).fits))

pub loop-n-preserved : goal.loop-n-preserved
loop-n-preserved c =
    let l = c.loop-n in
    let pair : Bor ℕ × Bor ℕ = (c.in-Some.field-0-0, c.in-Some.field-0-1) in
    let now = zip_turn c.args.nums.now c.args.limits.now l.yielded c.into_iter-n-iterator.result l.n-iterator c.next.new.self c.next.result (search rules) (search rules) l.yielded_by pair c.in-Some.is c.next.ensures.steps in
    let put = c.append.ensures ∙ ap₂ (λ (x y : ℕ). appended x y l.out) (now.3 0) (now.2 0) in
    subst (λ (k : ℕ). Appending c.args.out.now c.args.limits.now c.args.nums.now c.append.new.out k) (sym (length-append l.yielded (pair ∷ [])))
    (turn _ _ _ _ _ l.invariant now.1 now.0 c.append.new.out put)

pub returns : goal.returns
returns c =
    let l = c.loop-n in
    let ends = zip_end c.args.nums.now c.args.limits.now l.yielded c.into_iter-n-iterator.result l.n-iterator c.next.new.self c.next.result (search rules) (search rules) l.yielded_by c.in-None.is c.next.ensures.steps in
    finish _ _ _ _ _ l.invariant (omega (arith, ends))
