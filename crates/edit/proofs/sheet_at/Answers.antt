-- `edit::sheet_at` meets its contract.
use mathlib.Core.Path.{◌∙◌}
use Rattle.edit.proofs.Answers.{over_buffer, within_buffer}
use Rattle.edit.proofs.sheet_at.Goals as goal

-- src/lib.rt:28:9
pub returns-then-buf-len : goal.returns-then-buf-len
returns-then-buf-len c =
    let a = c.args in
    over_buffer a.buf.now a.len c.if-buf-len.true

-- src/lib.rt:24:1
pub returns : goal.returns
returns c =
    let a = c.args in
    c.sound_header.ensures ∙ within_buffer a.buf.now a.len c.if-buf-len.false
