-- There is a field for each word.
use Rattle.std.proofs.Common.{◌≤◌, sym, arith, length-take-le}
use Rattle.barge_edit.specs.laws.OfficeLaws.{fields_most}
use Rattle.barge_edit.proofs.words.fields.Goals as goal

pub slice_bounds-fields-end : goal.slice_bounds-fields-end
slice_bounds-fields-end g c = omega (arith, fields_most c.args.kind, c.fields_of-count.ensures)

pub slice_bounds-field-items-end : goal.slice_bounds-field-items-end
slice_bounds-field-items-end g c =
    let few : c.fields_of-count.result ≤ 13 = omega (arith, fields_most c.args.kind, c.fields_of-count.ensures) in
    sym (length-take-le _ _ few)
