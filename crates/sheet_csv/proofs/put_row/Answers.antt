use Rattle.std.proofs.Common.{take, arith}
use Rattle.sheet_csv.proofs.Filling.{put_behind, put_inside}
use Rattle.sheet_csv.proofs.put_row.Goals as goal

pub overflow_add-result : goal.overflow_add-result
overflow_add-result c =
    let a = c.args in
    omega (arith, put_inside (take a.row.size a.row.bytes) a.draft.now a.end c.write_text.result c.write_text.new.out c.requires.1 c.write_text.ensures)

pub returns : goal.returns
returns c =
    let a = c.args in
    let p = put_behind (take a.row.size a.row.bytes) a.draft.now a.end c.write_text.result c.write_text.new.out c.requires.1 c.write_text.ensures in
    record { place = p.place; bytes = p.bytes }
