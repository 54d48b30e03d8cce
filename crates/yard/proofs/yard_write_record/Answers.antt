-- `yard::yard_write_record` meets its contract.
use mathlib.Core.Path.{sym, ap, ◌∙◌}
use Rattle.sheet.specs.Refusals.{number_of, place_of, told_result}
use Rattle.yard.proofs.Writing.{record_short, record_refused_lem, record_given}
use Rattle.yard.proofs.yard_write_record.Goals as goal

pub returns-then-out-lt16 : goal.returns-then-out-lt16
returns-then-out-lt16 c =
    let a = c.args in
    record_short a.fields.now a.out.now c.if-out-lt16.true c.packed_refusal.ensures

pub returns-in-Err : goal.returns-in-Err
returns-in-Err c =
    let a = c.args in
    let x = c.in-Err.x in
    record_refused_lem a.fields.now a.out.now (number_of x) (place_of x) c.if-out-lt16.false (sym (ap told_result c.in-Err.is) ∙ c.record_from.ensures) c.packed_refusal-in-Err.ensures

pub returns-in-Ok : goal.returns-in-Ok
returns-in-Ok c =
    let a = c.args in
    let x = c.in-Ok.r in
    record_given a.fields.now a.out.now x (sym (ap told_result c.in-Ok.is) ∙ c.record_from.ensures) c.packed_outcome.ensures c.write_record.ensures
