-- `barge_text::answer` meets its contract.
use mathlib.Core.Path.{ap, ◌∙◌}
use lib.ListN.{replicate}
use Rattle.sheet.specs.Versions.{longest_sheet}
use Rattle.barge_text.specs.Convert.{line_of}
use Rattle.barge_text.specs.laws.ConvertLaws.{made_printed}
use Rattle.barge_text.proofs.answer.Goals as goal

pub returns : goal.returns
returns c =
    let s = c.args.text.now in
    record {
      page = record {
        inside = c.page_by-page.ensures.inside;
        text = c.page_by-page.ensures.text ∙ made_printed s (replicate longest_sheet 0) c.read_table-converted.result c.read_table-converted.new.out c.read_table-converted.ensures;
      };
      line = c.line_at_fault-line.ensures ∙ ap line_of c.read_table-converted.ensures.answer;
    }
