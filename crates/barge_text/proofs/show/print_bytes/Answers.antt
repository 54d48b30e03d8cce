-- There are four bytes for each of the line's.
use Rattle.std.proofs.Common.{ℕ, ◌≤◌, ◌≡◌, List, sym, arith, length, length-take-le, replicate}
use Rattle.decimal.specs.Laid.{Laid}
use Rattle.decimal.specs.laws.LaidLaws.{laid_inside}
use Rattle.barge_text.specs.Shown.{shown}
use Rattle.barge_text.proofs.show.print_bytes.Goals as goal

within : (line : List ℕ) {end : ℕ} {after : List ℕ} → length after ≡ 480 → Laid (replicate 480 0) 0 (shown line) end after → end ≤ length after
within line k l =
    let most = laid_inside (replicate 480 0) (shown line) l k in
    omega (arith, most, l.place, k)

pub slice_bounds-out-end : goal.slice_bounds-out-end
slice_bounds-out-end g c = within c.args.line.now c.put_bytes-end.auto.out c.put_bytes-end.ensures

pub slice_bounds-write_all-end : goal.slice_bounds-write_all-end
slice_bounds-write_all-end g c = sym (length-take-le _ _ (within c.args.line.now c.put_bytes-end.auto.out c.put_bytes-end.ensures))
