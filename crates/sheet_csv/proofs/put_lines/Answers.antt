use Rattle.std.specs.Prelude.{Err}
use Rattle.std.proofs.Common.{◌≡◌, ap, sym, ◌∙◌, rules}
use Rattle.rows.specs.Rows.{told_row}
use Rattle.sheet_csv.proofs.Filling.{head_refused, head_alone, head_room, head_and_records, fills_on}
use Rattle.sheet_csv.proofs.put_lines.Goals as goal

pub put_records-requires : goal.put_records-requires
put_records-requires c =
    head_room c.args.filled c.args.text.now c.args.draft.now c.requires c.in_ok-row.row (sym (ap told_row c.in_ok-row.was) ∙ c.header_at.ensures) _ c.in-Some.is _ _ c.put_row-head.ensures

pub returns-in_err-row : goal.returns-in_err-row
returns-in_err-row c =
    let passed_on : c.from_residual.result ≡ Err c.in_err-row.field-0.0 = search rules in
    fills_on _ _ c.args.draft.now passed_on (head_refused c.args.filled c.args.text.now c.args.draft.now _ (sym (ap told_row c.in_err-row.was) ∙ c.header_at.ensures))

pub returns-in-None : goal.returns-in-None
returns-in-None c =
    head_alone c.args.filled c.args.text.now c.args.draft.now c.requires c.in_ok-row.row (sym (ap told_row c.in_ok-row.was) ∙ c.header_at.ensures) c.in-None.is _ _ c.put_row-head.ensures

pub returns-in-Some : goal.returns-in-Some
returns-in-Some c =
    head_and_records c.args.filled c.args.text.now c.args.draft.now c.requires c.in_ok-row.row (sym (ap told_row c.in_ok-row.was) ∙ c.header_at.ensures) _ c.in-Some.is _ _ c.put_row-head.ensures _ _ c.put_records.ensures
