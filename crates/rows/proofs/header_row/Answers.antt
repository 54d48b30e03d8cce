use Rattle.std.specs.Prelude.{ℕ, Option}
use Rattle.sheet.specs.Refusals.{given}
use Rattle.std.proofs.Common.{◌+◌, sym, ap, ◌∙◌}
use Rattle.rows.specs.Rows.{end_by, shown}
use Rattle.rows.specs.laws.RowLaws.{header_miscounted, header_wide, header_fine}
use Rattle.rows.proofs.header_row.Goals as goal

pub returns-then-miscounted : goal.returns-then-miscounted
returns-then-miscounted c =
    let a = c.args in
    ap shown
    (header_miscounted a.nums a.count a.line a.end (sym c.if-is_fault.false ∙ c.is_fault.ensures) c.is_within-known.result c.is_within-known.ensures
    c.first-first.result c.own-own.result c.first-first.ensures c.own-own.ensures (sym c.if-miscounted.true ∙ c.miscounted.ensures))

pub returns : goal.returns
returns c =
    let a = c.args in
    ap (λ (e : Option ℕ). record { answer = given (end_by e); size = c.first-first.result.size + c.own-own.result.size; bytes = c.placed-bytes.result }) c.next_of.ensures
    ∙ header_fine a.nums a.count a.line a.end (sym c.if-is_fault.false ∙ c.is_fault.ensures) c.is_within-known.result c.is_within-known.ensures
    c.first-first.result c.own-own.result c.first-first.ensures c.own-own.ensures (sym c.if-miscounted.false ∙ c.miscounted.ensures)
    c.taken-ns.result c.taken-ns.ensures c.first_part-head.result c.own_part-tail.result c.first_part-head.ensures c.own_part-tail.ensures (sym c.if-not-both_fit.false ∙ c.both_fit.ensures)
    c.placed-front.result c.placed-bytes.result c.placed-front.ensures c.placed-bytes.ensures

pub returns-then-not-both_fit : goal.returns-then-not-both_fit
returns-then-not-both_fit c =
    let a = c.args in
    ap shown
    (header_wide a.nums a.count a.line a.end (sym c.if-is_fault.false ∙ c.is_fault.ensures) c.is_within-known.result c.is_within-known.ensures
    c.first-first.result c.own-own.result c.first-first.ensures c.own-own.ensures (sym c.if-miscounted.false ∙ c.miscounted.ensures)
    c.taken-ns.result c.taken-ns.ensures c.first_part-head.result c.own_part-tail.result c.first_part-head.ensures c.own_part-tail.ensures (sym c.if-not-both_fit.true ∙ c.both_fit.ensures))
