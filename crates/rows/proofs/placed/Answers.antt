use Rattle.std.proofs.Common.{ℕ, ◌≡◌, ◌+◌, ◌-◌, List, ◌++◌, take, drop, ap, ap₂, ◌∙◌, arith}
use borrow.Rule.Slice.PartMut.{put_mid}
use Rattle.rows.specs.declared.form.Form.{Form}
use Rattle.rows.specs.Pack.{fields_of, packed_on}
use Rattle.rows.specs.Steps.{placed_of}
use Rattle.rows.proofs.Appending.{fields_taken}
use Rattle.rows.proofs.placed.Goals as goal

-- the part that was lent is back in its place
back : (ns : List ℕ) (f : Form) (at : ℕ) (b part : List ℕ) → part ≡ packed_on (fields_of f.count f.limits) (fields_of f.count ns) (take (at + f.size - at) (drop at b))
    → put_mid at (at + f.size - at) b part ≡ placed_of ns f at b
unfolding placed_of
back ns f at b part e =
    let s : at + f.size - at ≡ f.size = omega arith in
    ap (put_mid at (at + f.size - at) b) e
    ∙ ap (λ (k : ℕ). take at b ++ (packed_on (fields_of f.count f.limits) (fields_of f.count ns) (take k (drop at b)) ++ drop k (drop at b))) s

pub returns : goal.returns
returns c =
    let f = c.args.form in
    let fields = ap₂ (λ (ls vs : List ℕ). packed_on ls vs (take (c.args.at + f.size - c.args.at) (drop c.args.at c.args.bytes))) (fields_taken f.count f.limits (omega arith)) (fields_taken f.count c.args.nums (omega arith)) in
    back c.args.nums f c.args.at c.args.bytes _ (c.put.ensures ∙ fields)
