-- `barge_explain::put_lead` meets its contract.
use native.Mathlib.Omega.{arith}
use Rattle.wording.specs.laws.WritesLaws.{within, and_then}
use Rattle.barge_explain.specs.laws.ExplainLaws.{head_size_lem}
use Rattle.barge_explain.proofs.put_lead.Goals as goal

pub returns : goal.returns
returns c =
    let head = rw c.head-head.ensures at c.put_text-at.ensures in
    rw c.if-begun.false (within 1184 (omega (arith, head_size_lem)) (and_then head c.put_text-2.ensures))
