-- `report::write_refusal` meets its contract: the line stands in front of 22 zeros.
use Rattle.std.proofs.Common.{◌≡◌, ℕ, ◌≤◌, List, length, replicate, sym, subst, arith, length-take-le}
use Rattle.decimal.specs.Laid.{Laid}
use Rattle.decimal.specs.laws.LaidLaws.{laid_inside, laid_taken}
use Rattle.report.specs.Page.{Tells}
use Rattle.report.specs.Pieces.{refusal_text}
use Rattle.report.proofs.write_refusal.Goals as goal

within : (line : List ℕ) {end : ℕ} {after : List ℕ} → length after ≡ 22 → Laid (replicate 22 0) 0 line end after → end ≤ length after
within line k l =
    let most = laid_inside (replicate 22 0) line l k in
    omega (arith, most, l.place, k)

pub slice_bounds-bytes-end : goal.slice_bounds-bytes-end
slice_bounds-bytes-end c = within (refusal_text c.args.r) c.put_refusal-len.auto.page c.put_refusal-len.ensures

pub slice_bounds-tell-end : goal.slice_bounds-tell-end
slice_bounds-tell-end c = sym (length-take-le _ _ (within (refusal_text c.args.r) c.put_refusal-len.auto.page c.put_refusal-len.ensures))

pub returns : goal.returns
returns c =
    record {
      most = laid_inside (replicate 22 0) (refusal_text c.args.r) c.put_refusal-len.ensures c.put_refusal-len.auto.page;
      tells = subst (λ (x : List ℕ). Tells x c.args.text.now c.tell.result c.tell.new.text) (laid_taken (replicate 22 0) (refusal_text c.args.r) c.put_refusal-len.ensures) c.tell.ensures;
    }
