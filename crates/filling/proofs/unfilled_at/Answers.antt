use Rattle.filling.specs.laws.StepLaws.{part_read, all_read}
use Rattle.filling.proofs.unfilled_at.Goals as goal

pub returns-then-count-nums : goal.returns-then-count-nums
returns-then-count-nums c =
    record {
      count = c.count_at-line.ensures.count;
      end = c.count_at-line.ensures.end;
      numbers = part_read c.args.text.now c.args.at c.args.nums.now c.count_at-line.result.count _ c.count_at-line.ensures.count c.line_at.ensures.numbers;
    }

pub returns-else-count-nums : goal.returns-else-count-nums
returns-else-count-nums c =
    record {
      count = c.count_at-line.ensures.count;
      end = c.count_at-line.ensures.end;
      numbers = all_read c.args.text.now c.args.at c.args.nums.now c.count_at-line.result.count _ c.count_at-line.ensures.count c.if-count-nums.false c.line_at-else-count-nums.ensures.numbers;
    }
