use Rattle.std.proofs.Common.{ℕ, ◌≡◌, List, length, sym, ap, ap₂, subst, ◌∙◌, arith}
use Rattle.decimal.specs.Laid.{Laid}
use Rattle.decimal.specs.laws.LaidLaws.{laid_none}
use Rattle.sheet.specs.Refusals.{told_result}
use Rattle.rows.specs.Pack.{fields_of}
use Rattle.sheet_csv.specs.Write.{line}
use Rattle.sheet_csv.specs.Steps.{record_text}
use Rattle.sheet_csv.specs.laws.WriteLaws.{record_fields_lem, count_few, text_given, text_none, text_most}
use Rattle.sheet_csv.proofs.page.put_record.Goals as goal

pub put_line-requires : goal.put_line-requires
put_line-requires c =
    let few = count_few c.in-Ok.r.kind in
    -- the line that is put is the record's
    let cells : line (fields_of c.record_count-count.result c.record_numbers-nums.result) ≡ record_text c.args.bytes.now =
    ap line (ap₂ fields_of c.record_count-count.ensures c.record_numbers-nums.ensures ∙ record_fields_lem c.in-Ok.r)
    ∙ text_given c.args.bytes.now c.in-Ok.r (sym (ap told_result c.in-Ok.is) ∙ c.read_record.ensures) in (
      omega (arith, c.record_count-count.ensures, few.0),
      omega (arith, c.record_count-count.ensures, few.1),
      omega (arith, ap length cells, text_most c.args.bytes.now, c.requires),
    )

pub returns-in-Err : goal.returns-in-Err
returns-in-Err c =
    subst (λ (t : List ℕ). Laid c.args.page.now c.args.at t c.args.at c.args.page.now) (text_none c.args.bytes.now _ _ (sym (ap told_result c.in-Err.is) ∙ c.read_record.ensures)) (laid_none c.args.page.now c.args.at)

pub returns-in-Ok : goal.returns-in-Ok
returns-in-Ok c =
    let cells : line (fields_of c.record_count-count.result c.record_numbers-nums.result) ≡ record_text c.args.bytes.now =
    ap line (ap₂ fields_of c.record_count-count.ensures c.record_numbers-nums.ensures ∙ record_fields_lem c.in-Ok.r)
    ∙ text_given c.args.bytes.now c.in-Ok.r (sym (ap told_result c.in-Ok.is) ∙ c.read_record.ensures) in
    subst (λ (t : List ℕ). Laid c.args.page.now c.args.at t c.put_line.result c.put_line.new.page) cells c.put_line.ensures
