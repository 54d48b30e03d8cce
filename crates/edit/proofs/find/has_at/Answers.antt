-- `edit::find::has_at` meets its contract.
use mathlib.Core.Path.{ap, ◌∙◌}
use lib.Dec.{eqb}
use Rattle.edit.proofs.Search.{not_there, there}
use Rattle.edit.proofs.find.has_at.Goals as goal

-- src/find.rt:38:9
pub returns-then-n-place : goal.returns-then-n-place
returns-then-n-place c =
    let a = c.args in
    not_there a.records.now a.n a.id a.place c.requires.1 c.if-n-place.true

-- src/find.rt:33:1
pub returns : goal.returns
returns c =
    let a = c.args in
    ap (λ n. eqb n a.id) c.id_at.ensures ∙ there a.records.now a.n a.id a.place c.requires.1 c.if-n-place.false
