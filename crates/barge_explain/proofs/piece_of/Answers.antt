-- `barge_explain::piece_of` meets its contract.
use mathlib.Core.Path.{refl, sym, ap, ◌∙◌}
use native.Mathlib.Omega.{arith}
use Rattle.sheet.specs.Refusals.{told_result}
use Rattle.wording.specs.laws.WritesLaws.{and_then}
use Rattle.barge_explain.specs.Explain.{piece_of}
use Rattle.barge_explain.specs.laws.ExplainLaws.{on_page}
use Rattle.barge_explain.proofs.piece_of.Goals as goal

pub returns-then-not-is_wanted : goal.returns-then-not-is_wanted
unfolding piece_of
returns-then-not-is_wanted c =
    let e = sym c.record_at.ensures ∙ ap told_result c.in-Ok.is in
    rw (e, sym c.is_wanted.ensures ∙ c.if-not-is_wanted.true) (record { inside = omega arith; bytes = refl; begun = refl })

pub returns-in-Err : goal.returns-in-Err
unfolding piece_of
returns-in-Err c =
    let e = sym c.record_at.ensures ∙ ap told_result c.in-Err.is in
    rw e (record { inside = omega arith; bytes = refl; begun = refl })

pub returns-else-not-is_wanted : goal.returns-else-not-is_wanted
unfolding piece_of
returns-else-not-is_wanted c =
    let e = sym c.record_at.ensures ∙ ap told_result c.in-Ok.is in
    let f = on_page _ (and_then c.put_lead-at.ensures c.put_trail-len.ensures) in
    rw (e, sym c.is_wanted.ensures ∙ c.if-not-is_wanted.false) (record { inside = f.0; bytes = f.1; begun = refl })
