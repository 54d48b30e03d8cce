-- `yard::yard_write_header` meets its contract.
use mathlib.Core.Path.{sym, ap, ◌∙◌}
use native.Mathlib.Omega.{arith}
use Rattle.sheet.specs.Refusals.{number_of, place_of, told_result}
use Rattle.yard.proofs.Writing.{header_short, header_refused_lem, header_given}
use Rattle.yard.proofs.yard_write_header.Goals as goal

pub returns-then-out-least : goal.returns-then-out-least
returns-then-out-least c =
    let a = c.args in
    header_short a.fields.now a.out.now (omega (arith, c.if-out-least.true, c.header_size-least.ensures)) c.packed_refusal.ensures

pub returns-in-Err : goal.returns-in-Err
returns-in-Err c =
    let a = c.args in
    let x = c.in-Err.x in
    header_refused_lem a.fields.now a.out.now (number_of x) (place_of x) (omega (arith, c.if-out-least.false, c.header_size-least.ensures)) (sym (ap told_result c.in-Err.is) ∙ c.header_from.ensures) c.packed_refusal-in-Err.ensures

pub returns-in-Ok : goal.returns-in-Ok
returns-in-Ok c =
    let a = c.args in
    let x = c.in-Ok.h in
    header_given a.fields.now a.out.now x (sym (ap told_result c.in-Ok.is) ∙ c.header_from.ensures) c.packed_outcome.ensures c.write_header.ensures
