-- `checker::judged_after` meets its contract.
use Prim.Native.Nat.{ℕ}
use mathlib.Core.Path.{◌≡◌, sym, ap, ◌∙◌}
use Rattle.loads.specs.Sources.{number_of}
use Rattle.verdict.specs.Judged.{Finding, told_judged}
use Rattle.checker.specs.Check.{entry_with}
use Rattle.checker.proofs.Pass.{judged_refused, spare_refused, order_refused, judging_refused, judged_good}
use Rattle.checker.proofs.judged_after.Goals as goal

-- src/lib.rt:251:35
-- LOOK: before
pub why_refused-requires : goal.why_refused-requires
why_refused-requires c =
    let a = c.args in
    spare_refused a.h a.i a.before a.bytes.now c.record_in-raw.result c.record_in-raw.ensures c.if-raw-ne0.true

-- src/lib.rt:251:9
-- LOOK: before
pub returns-then-raw-ne0 : goal.returns-then-raw-ne0
returns-then-raw-ne0 c =
    let a = c.args in
    judged_refused a.h a.i a.before a.bytes.now _ _ c.why_refused.ensures

-- src/lib.rt:255:35
-- LOOK: before
pub why_refused-requires-then-id-before : goal.why_refused-requires-then-id-before
why_refused-requires-then-id-before c =
    let a = c.args in
    order_refused a.h a.i a.before a.bytes.now c.record_in-raw.result c.record_in-raw.ensures c.if-id-before.true

-- src/lib.rt:255:9
-- LOOK: before
pub returns-then-id-before : goal.returns-then-id-before
returns-then-id-before c =
    let a = c.args in
    judged_refused a.h a.i a.before a.bytes.now _ _ c.why_refused-then-id-before.ensures

-- src/lib.rt:259:35
-- LOOK: before
pub why_refused-requires-in_default : goal.why_refused-requires-in_default
why_refused-requires-in_default c =
    let a = c.args in
    judging_refused a.h a.i a.before a.bytes.now c.record_in-raw.result c.record_in-raw.ensures c.requires _ _
    (sym (ap told_judged c.in_default.is) ∙ c.judge.ensures)

-- src/lib.rt:259:9
-- LOOK: before
pub returns-in_default : goal.returns-in_default
returns-in_default c =
    let a = c.args in
    judged_refused a.h a.i a.before a.bytes.now _ _ c.why_refused-in_default.ensures

-- src/lib.rt:244:1
-- LOOK: before
pub returns : goal.returns
returns c =
    let a = c.args in
    let id = c.record_in-raw.result.values.id in
    let found : Finding = record { verdict = c.in-Ok.judged.verdict; source = number_of c.in-Ok.judged.source } in
    let entry : c.entry_with.result ≡ entry_with id found = c.entry_with.ensures in
    judged_good a.h a.i a.before a.bytes.now c.record_in-raw.result c.record_in-raw.ensures c.requires found c.if-raw-ne0.false
    c.if-id-before.false (sym (ap told_judged c.in-Ok.is) ∙ c.judge.ensures) c.entry_with.result entry
