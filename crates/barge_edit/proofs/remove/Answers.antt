-- `barge_edit::remove` is safe and ends: the buffer is long enough, and the new sheet is in it.
use Prim.Native.Nat.{ℕ}
use mathlib.Core.Path.{sym, subst}
use Rattle.barge_edit.specs.Office.{EditInside}
use Rattle.barge_edit.specs.laws.OfficeLaws.{remove_inside}
use Rattle.barge_edit.proofs.remove.Goals as goal

pub finish-requires : goal.finish-requires
finish-requires g c =
    let e = c.remove_in-edited.result in
    subst (λ (n : ℕ). EditInside e n) (sym c.remove_in-edited.auto.buffer) (remove_inside _ _ _ e _ c.remove_in-edited.ensures.edits)
