use Rattle.std.specs.Prelude.{ℕ, Option}
use Rattle.sheet.specs.Refusals.{given}
use Rattle.std.proofs.Common.{sym, ap, ◌∙◌}
use Rattle.rows.specs.Rows.{end_by, shown}
use Rattle.rows.specs.laws.RowLaws.{record_miscounted, record_wide, record_fine}
use Rattle.rows.proofs.record_row.Goals as goal

pub returns-then-miscounted : goal.returns-then-miscounted
returns-then-miscounted c =
    let a = c.args in
    ap shown
    (record_miscounted a.nums a.count a.line a.end (sym c.if-is_fault.false ∙ c.is_fault.ensures) c.is_within-known.result c.is_within-known.ensures c.record-form.result c.record-form.ensures
    (sym c.if-miscounted.true ∙ c.miscounted.ensures))

pub returns : goal.returns
returns c =
    let a = c.args in
    ap (λ (e : Option ℕ). record { answer = given (end_by e); size = c.record-form.result.size; bytes = c.placed-bytes.result }) c.next_of.ensures
    ∙ record_fine a.nums a.count a.line a.end (sym c.if-is_fault.false ∙ c.is_fault.ensures) c.is_within-known.result c.is_within-known.ensures c.record-form.result c.record-form.ensures
    (sym c.if-miscounted.false ∙ c.miscounted.ensures) c.taken-ns.result c.taken-ns.ensures (sym c.if-not-fits.false ∙ c.fits.ensures) c.placed-bytes.result c.placed-bytes.ensures

pub returns-then-not-fits : goal.returns-then-not-fits
returns-then-not-fits c =
    let a = c.args in
    ap shown
    (record_wide a.nums a.count a.line a.end (sym c.if-is_fault.false ∙ c.is_fault.ensures) c.is_within-known.result c.is_within-known.ensures c.record-form.result c.record-form.ensures
    (sym c.if-miscounted.false ∙ c.miscounted.ensures) c.taken-ns.result c.taken-ns.ensures (sym c.if-not-fits.true ∙ c.fits.ensures))
