use Rattle.std.proofs.Common.{Err, rules, ◌≡◌, length, sym, ap, ◌∙◌}
use Rattle.sheet.specs.Refusals.{told_result}
use Rattle.sheet_csv.specs.Steps.{fits_in, sound_in}
use Rattle.sheet_csv.proofs.Telling.{passes_on, refuses, converts_same, sound_refused, sound_given}
use Rattle.sheet_csv.proofs.tell_sheet.Goals as goal

pub returns-in_err-sound_header : goal.returns-in_err-sound_header
returns-in_err-sound_header c =
    let a = c.args in
    let passed_on : c.from_residual.result ≡ Err c.in_err-sound_header.field-0.0 = search rules in
    passes_on c.args.out.now passed_on (refuses (sound_in a.sheet.now (length a.out.now)) a.out.now _ (sound_refused a.sheet.now (length a.out.now) c.in_err-sound_header.field-0.0 (sym (ap told_result c.in_err-sound_header.was) ∙ c.sound_header.ensures)))

pub returns : goal.returns
returns c =
    let a = c.args in
    converts_same (fits_in a.sheet.now (length a.out.now)) (sound_in a.sheet.now (length a.out.now)) a.out.now _ _
    (sym (sound_given a.sheet.now (length a.out.now) _ (sym (ap told_result c.in_ok-sound_header.was) ∙ c.sound_header.ensures)))
    c.tell.ensures
