-- The line has more bytes than are shown.
use Rattle.std.proofs.Common.{◌≤◌, length, sym, arith, length-take-le}
use Rattle.barge_text.proofs.show.print_line.Goals as goal

pub slice_bounds-print_bytes-end : goal.slice_bounds-print_bytes-end
slice_bounds-print_bytes-end g c =
    let few : 120 ≤ length c.args.line.now = omega (arith, c.if-line-gt-MOST.true) in
    sym (length-take-le _ _ few)

pub print_bytes-requires : goal.print_bytes-requires
print_bytes-requires g c =
    let few : 120 ≤ length c.args.line.now = omega (arith, c.if-line-gt-MOST.true) in
    omega (arith, length-take-le 120 c.args.line.now few)
