-- `report::print_refusal` meets its contract: the line has room, and is what is written.
use Rattle.std.proofs.Common.{◌≡◌, ℕ, ◌≤◌, List, length, replicate, sym, subst, arith, length-take-le, OnOk}
use Rattle.std.specs.Io.KnownBytes.{Appends}
use Rattle.decimal.specs.Laid.{Laid}
use Rattle.decimal.specs.laws.LaidLaws.{laid_inside, laid_taken}
use Rattle.report.specs.Pieces.{refusal_text}
use Rattle.report.proofs.print_refusal.Goals as goal

within : (line : List ℕ) {end : ℕ} {after : List ℕ} → length after ≡ 22 → Laid (replicate 22 0) 0 line end after → end ≤ length after
within line k l =
    let most = laid_inside (replicate 22 0) line l k in
    omega (arith, most, l.place, k)

pub slice_bounds-line-end : goal.slice_bounds-line-end
slice_bounds-line-end g c = within (refusal_text c.args.r) c.put_refusal-end.auto.page c.put_refusal-end.ensures

pub slice_bounds-write_all-end : goal.slice_bounds-write_all-end
slice_bounds-write_all-end g c = sym (length-take-le _ _ (within (refusal_text c.args.r) c.put_refusal-end.auto.page c.put_refusal-end.ensures))

pub returns : goal.returns
returns g c =
    subst (λ (t : List ℕ). OnOk c.write_all.result (Appends (g.W.Write.contents c.args.to.now) (g.W.Write.contents c.write_all.new.self) t))
    (laid_taken (replicate 22 0) (refusal_text c.args.r) c.put_refusal-end.ensures)
    c.write_all.ensures.bytes
