-- `edit::insert` meets its contract.
use Prim.Native.Nat.{ℕ, ◌+◌, ◌*◌}
use mathlib.Core.Path.{◌≡◌, ap, ◌∙◌}
use Rattle.edit.specs.Edit.{start as start_of}
use Rattle.edit.specs.Steps.{opened}
use Rattle.edit.proofs.Bytes.{inserted}
use Rattle.edit.proofs.insert.Goals as goal

-- src/lib.rt:69:1
pub returns : goal.returns
returns c =
    let a = c.args in
    let opens : c.open.new.buf ≡ opened a.buf.now (start_of a.h a.i) a.len = c.open.ensures ∙ ap (λ (k : ℕ). opened a.buf.now (k + 16 * a.i) a.len) c.size.ensures in
    inserted a.buf.now a.h a.i a.len a.r c.requires c.open.new.buf c.replace.new.buf c.write_header.new.out opens c.replace.ensures
    c.write_header.ensures.bytes
