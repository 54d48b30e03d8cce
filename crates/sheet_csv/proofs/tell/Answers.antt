use Rattle.std.proofs.Common.{length, ◌∙◌}
use Rattle.sheet.specs.declared.Refusal.TheVariants.{OutputShort}
use Rattle.decimal.specs.laws.PutLaws.{bytes_all}
use Rattle.sheet_csv.specs.Steps.{fits_in}
use Rattle.sheet_csv.proofs.Telling.{refuses, converts, fits_short, fits_long}
use Rattle.sheet_csv.proofs.tell.Goals as goal

pub returns-then-out-len : goal.returns-then-out-len
returns-then-out-len c =
    let a = c.args in
    refuses (fits_in a.bytes.now (length a.out.now)) a.out.now OutputShort (fits_short a.bytes.now (length a.out.now) c.if-out-len.true)

pub returns : goal.returns
returns c =
    let a = c.args in
    converts (fits_in a.bytes.now (length a.out.now)) a.bytes.now a.out.now _ (fits_long a.bytes.now (length a.out.now) c.if-out-len.false)
    (c.write_text.ensures.bytes ∙ bytes_all a.bytes.now a.out.now c.if-out-len.false)
