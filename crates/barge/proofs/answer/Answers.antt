-- `barge::answer` meets its contract: no more of an input has to be read than the buffer holds.
use Rattle.std.proofs.Common.{ap, ◌∙◌, length, take}
use Rattle.report.specs.Text.{text_of}
use Rattle.report.specs.laws.PageLaws.{page_same}
use Rattle.report.specs.laws.Longest.{text_cut}
use Rattle.barge.proofs.answer.Goals as goal

pub returns : goal.returns
returns c input e =
    let b = c.args.buffer.now in
    page_same (take c.args.got b) input c.page_of.result (ap text_of e ∙ text_cut (length b) input c.requires.0) c.page_of.ensures
