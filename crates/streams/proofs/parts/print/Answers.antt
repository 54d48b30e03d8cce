-- `streams::parts::print` is safe and ends: the line has room.
use Rattle.std.proofs.Common.{◌≡◌, ℕ, ◌≤◌, List, length, replicate, sym, arith, length-take-le}
use Rattle.sheet.specs.Refusals.{told_result}
use Rattle.decimal.specs.Laid.{Laid}
use Rattle.decimal.specs.laws.LaidLaws.{laid_inside}
use Rattle.streams.specs.Parts.{line_for}
use Rattle.streams.proofs.parts.print.Goals as goal

within : (text : List ℕ) {end : ℕ} {after : List ℕ} → length after ≡ 22 → Laid (replicate 22 0) 0 text end after → end ≤ length after
within text k l =
    let most = laid_inside (replicate 22 0) text l k in
    omega (arith, most, l.place, k)

pub slice_bounds-line-end : goal.slice_bounds-line-end
slice_bounds-line-end g c = within (line_for (told_result c.args.answer)) c.put_line-end.auto.line c.put_line-end.ensures

pub slice_bounds-write_all-end : goal.slice_bounds-write_all-end
slice_bounds-write_all-end g c = sym (length-take-le _ _ (within (line_for (told_result c.args.answer)) c.put_line-end.auto.line c.put_line-end.ensures))
