-- `edit::take_out` meets its contract.
use mathlib.Core.Path.{◌≡◌, ap, ◌∙◌}
use Prim.Native.Nat.{ℕ, ◌+◌, ◌-◌, ◌*◌}
use Rattle.edit.specs.Edit.{start as start_of}
use Rattle.edit.specs.Steps.{closed, cleared}
use Rattle.edit.proofs.Bytes.{removed}
use Rattle.edit.proofs.take_out.Goals as goal

-- src/lib.rt:80:1
pub returns : goal.returns
returns c =
    let a = c.args in
    let moved : c.close.new.buf ≡ closed a.buf.now (start_of a.h a.i) (a.len - 16) = c.close.ensures ∙ ap (λ (k : ℕ). closed a.buf.now (k + 16 * a.i) (a.len - 16)) c.size.ensures in
    let freed : c.clear.new.buf ≡ cleared c.close.new.buf (a.len - 16) a.len = c.clear.ensures in
    removed a.buf.now a.h a.i a.len c.requires c.close.new.buf c.clear.new.buf c.write_header.new.out moved freed c.write_header.ensures.bytes
