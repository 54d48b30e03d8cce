use Rattle.std.proofs.Common.{ℕ, ◌≡◌, List, length, ap, ap₂, subst, ◌∙◌, arith}
use Rattle.decimal.specs.Laid.{Laid}
use Rattle.rows.specs.Pack.{fields_of}
use Rattle.sheet_csv.specs.Write.{line, header_cells}
use Rattle.sheet_csv.specs.Steps.{thirteen as thirteenOf}
use Rattle.sheet_csv.specs.laws.WriteLaws.{header_fields_lem, header_few, header_most}
use Rattle.sheet_csv.proofs.page.put_header.Goals as goal

pub put_line-requires : goal.put_line-requires
put_line-requires c =
    let few = header_few c.args.h.own in
    -- the numbers that are put are the header's
    let cells : fields_of c.header_count-count.result c.thirteen-nums.result ≡ header_cells c.args.h =
    ap₂ fields_of c.header_count-count.ensures (c.thirteen-nums.ensures ∙ ap thirteenOf c.header_numbers.ensures) ∙ header_fields_lem c.args.h in (
      omega (arith, c.header_count-count.ensures, few.0),
      omega (arith, c.header_count-count.ensures, few.1),
      omega (arith, ap (λ (ns : List ℕ). length (line ns)) cells, header_most c.args.h c.requires.0, c.requires.1),
    )

pub returns : goal.returns
returns c =
    let cells : fields_of c.header_count-count.result c.thirteen-nums.result ≡ header_cells c.args.h =
    ap₂ fields_of c.header_count-count.ensures (c.thirteen-nums.ensures ∙ ap thirteenOf c.header_numbers.ensures) ∙ header_fields_lem c.args.h in
    subst (λ (ns : List ℕ). Laid c.args.page.now 0 (line ns) c.put_line.result c.put_line.new.page) cells c.put_line.ensures
