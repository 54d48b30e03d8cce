-- `barge::tell` meets its contract: the text of the answer is within its page, and is what is written.
use Rattle.std.proofs.Common.{◌≡◌, ℕ, ◌≤◌, List, length, take, sym, arith, length-take, length-take-le, take_all}
use Rattle.report.specs.declared.Page.{Page}
use Rattle.report.specs.Page.{Pages}
use Rattle.report.specs.laws.PageLaws.{page_within}
use Rattle.barge.proofs.tell.Goals as goal

-- the text of the bytes that were read
within : (b : List ℕ) (got : ℕ) (p : Page) → ((input : List ℕ) → take got b ≡ take (length b) input → Pages input p) → p.len ≤ length p.bytes
within b got p answered =
    page_within (take got b) p (answered (take got b) (sym (take_all (length b) (take got b) (simp length-take (omega arith)))))

pub slice_bounds-text-end : goal.slice_bounds-text-end
slice_bounds-text-end g c = within c.args.sheet.now c.args.got c.answer-page.result c.answer-page.ensures

pub slice_bounds-write_all-end : goal.slice_bounds-write_all-end
slice_bounds-write_all-end g c = sym (length-take-le _ _ (within c.args.sheet.now c.args.got c.answer-page.result c.answer-page.ensures))
