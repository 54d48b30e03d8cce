use Rattle.std.proofs.Common.{◌∙◌}
use Rattle.edit.proofs.Shifts.{moved_down}
use Rattle.edit.proofs.shift.close.Goals as goal

pub returns : goal.returns
returns c = c.copy_within.ensures.after ∙ moved_down c.args.buf.now c.args.at c.args.end c.requires.0 c.requires.1
