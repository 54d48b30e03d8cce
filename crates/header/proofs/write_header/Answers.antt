-- `header::write_header` meets its contract.
use Rattle.std.specs.Prelude.{Result, Err}
use Rattle.std.proofs.Common.{rules}
use Rattle.sheet.specs.Refusals.{told_result}
use Rattle.sheet.specs.laws.RefusalLaws.{goes_on, stops}
use Rattle.sheet.specs.Writes.{Writes}
use Rattle.sheet.specs.declared.Refusal.{Refusal}
use native.Mathlib.Omega.{arith}
use Prim.Native.Nat.{◌≤◌}
use mathlib.Core.Path.{◌≡◌, sym, ap, subst, ◌∙◌}
use lib.ListN.{length, length-drop}
use Rattle.layout.specs.laws.Tail.{mid_tail}
use Rattle.sheet.specs.Header.{header_size, header_fault, write_header}
use Rattle.sheet.specs.laws.VersionLaws.{regular}
use Rattle.sheet.specs.laws.HeaderLaws.{header_fit}
use Rattle.header.proofs.Answers.{write_under, write_bad, room, write_good, both_parts}
use Rattle.header.proofs.write_header.Goals.{In_ok-outcome}
use Rattle.header.proofs.write_header.Goals as goal

-- none of the fields is at fault, and there is room
fine : (c : In_ok-outcome) → header_fault c.args.h ≡ 0
fine c = sym c.fault.ensures ∙ goes_on _ _ _ (sym c.outcome.ensures ∙ c.in_ok-outcome.was)

fits : (c : In_ok-outcome) → let a = c.args in (header_size a.h ≤ length a.out.now) × (12 ≤ header_size a.h)
fits c =
    let a = c.args in
    (room a.h a.out.now _ (omega (arith, c.if-out-needs.false, c.needs.ensures)) c.fault.ensures (goes_on _ _ _ (sym c.outcome.ensures ∙ c.in_ok-outcome.was)), (regular a.h.own).least)

-- src/lib.rt:216:9
pub returns-then-out-needs : goal.returns-then-out-needs
returns-then-out-needs c = write_under _ _ (omega (arith, c.if-out-needs.true, c.needs.ensures))

-- src/lib.rt:220:9
pub returns-in_err-outcome : goal.returns-in_err-outcome
returns-in_err-outcome c =
    let passed_on : c.from_residual.result ≡ Err c.in_err-outcome.field-0.0 = search rules in
    let stopped = stops c.fault.result _ _ (sym c.outcome.ensures ∙ c.in_err-outcome.was) in
    let a = c.args in
    subst (λ (r : Result (Unit {0}) Refusal). Writes (write_header a.h a.out.now) (told_result r) a.out.now) (sym passed_on)
    (write_bad a.h a.out.now _ (omega (arith, c.if-out-needs.false, c.needs.ensures)) c.fault.ensures _ stopped.1 stopped.0)

-- src/lib.rt:222:30
pub number_of-requires : goal.number_of-requires
number_of-requires c = (header_fit _ (fine (goal.at.number_of-requires c).In_ok-outcome)).0

-- src/lib.rt:224:5
-- LOOK: κs/given
pub write_own-requires : goal.write_own-requires
write_own-requires c =
    let a = c.args in
    ((header_fit a.h (fine (goal.at.write_own-requires c).In_ok-outcome)).1, omega (arith, ap length (mid_tail 12 c.write_short.new.out), length-drop 12 c.write_short.new.out, c.out-1.given, fits (goal.at.write_own-requires c).In_ok-outcome))

-- src/lib.rt:211:1
pub returns : goal.returns
returns c =
    let a = c.args in
    write_good a.h a.out.now _ (omega (arith, c.if-out-needs.false, c.needs.ensures)) c.fault.ensures (goes_on _ _ _ (sym c.outcome.ensures ∙ c.in_ok-outcome.was)) _
    (both_parts a.h a.out.now _ _ _ (fits (goal.at.returns c).In_ok-outcome).0 c.number_of.ensures c.write_short.ensures c.write_own.ensures)
