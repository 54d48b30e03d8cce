use Rattle.std.proofs.Common.{ap₂, ◌∙◌, arith}
use Rattle.rows.specs.Pack.{below}
use Rattle.rows.proofs.Appending.{fields_taken}
use Rattle.rows.proofs.form.Form.fits.Goals as goal

pub returns : goal.returns
returns c =
    let f = c.args.self in
    c.fits.ensures ∙ ap₂ below (fields_taken f.count f.limits (omega arith)) (fields_taken f.count c.args.nums (omega arith))
