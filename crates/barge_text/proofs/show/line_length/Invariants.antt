-- The line is what was passed and the line of what is left.
use Rattle.std.proofs.Common.{◌≡◌, ◌++◌, take, drop}
use Rattle.barge_text.specs.Shown.{line_of}
use Rattle.barge_text.proofs.show.line_length.Given as goal

abbrev pub invariant-loop-i : goal.invariant-loop-i
invariant-loop-i l = take l.i l.text ++ line_of (drop l.i l.text) ≡ line_of l.text
