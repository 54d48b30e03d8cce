use Rattle.std.proofs.Common.{Err, rules, ◌≡◌, length}
use Rattle.filling.specs.Filling.{lines_left}
use Rattle.sheet_csv.specs.Read.{sheet_of}
use Rattle.sheet_csv.proofs.Telling.{passes_on, refuses, converts_same, lines_refused, lines_made}
use Rattle.sheet_csv.proofs.read_lines.Goals as goal

-- by what the lines filled
pub returns-in_err-len : goal.returns-in_err-len
returns-in_err-len c =
    let a = c.args in
    let passed_on : c.from_residual.result ≡ Err c.in_err-len.field-0.0 = search rules in
    passes_on c.args.out.now passed_on (refuses (sheet_of (lines_left a.filled a.text.now 0) (length a.out.now)) a.out.now _
    (lines_refused (lines_left a.filled a.text.now 0) (length a.out.now) c.put_lines.new.draft _ c.in_err-len.ensures))

pub returns : goal.returns
returns c =
    let a = c.args in
    converts_same _ (sheet_of (lines_left a.filled a.text.now 0) (length a.out.now)) a.out.now _ _
    (lines_made (lines_left a.filled a.text.now 0) (length a.out.now) c.put_lines.new.draft _ c.in_ok-len.ensures).1
    c.tell_sheet.ensures
