use Rattle.std.specs.Prelude.{Err}
use Rattle.std.proofs.Common.{◌≡◌, arith, ap, sym, ◌∙◌, rules}
use Rattle.rows.specs.Rows.{told_row}
use Rattle.sheet_csv.proofs.Filling.{begin, on, go_on, finish, turned_away, fills_on}
use Rattle.sheet_csv.proofs.put_records.Goals as goal

pub loop-row-init : goal.loop-row-init
loop-row-init c = begin _ _ _ _ _ c.requires.1 c.requires.0

pub loop-row-smaller : goal.loop-row-smaller
loop-row-smaller c =
    let g = on _ _ _ _ _ _ _ _ c.loop-row.invariant c.in_ok-row.row (sym (ap told_row c.in_ok-row.was) ∙ c.record_at.ensures) _ c.in-Some.is in
    omega (arith, g.on, g.within)

pub loop-row-preserved : goal.loop-row-preserved
loop-row-preserved c =
    go_on _ _ _ _ _ _ _ _ c.loop-row.invariant c.in_ok-row.row (sym (ap told_row c.in_ok-row.was) ∙ c.record_at.ensures) _ c.in-Some.is _ _ c.put_row-end.ensures _ c.next_line-line.ensures

pub returns-in_default : goal.returns-in_default
returns-in_default c = finish _ _ _ _ _ _ _ _ c.loop-row.invariant c.in_ok-row.row (sym (ap told_row c.in_ok-row.was) ∙ c.record_at.ensures) c.in_default.is _ _ c.put_row-end.ensures

pub returns-in_err-row : goal.returns-in_err-row
returns-in_err-row c =
    let passed_on : c.from_residual.result ≡ Err c.in_err-row.field-0.0 = search rules in
    fills_on _ _ c.loop-row.draft passed_on (turned_away _ _ _ _ _ _ _ _ c.loop-row.invariant _ (sym (ap told_row c.in_err-row.was) ∙ c.record_at.ensures))
