-- `barge_edit::put` is safe and ends: the buffer is long enough, and the new sheet is in it.
use Prim.Native.Nat.{ℕ}
use mathlib.Core.Path.{sym, subst}
use Rattle.barge_edit.specs.Office.{EditInside}
use Rattle.barge_edit.specs.laws.OfficeLaws.{put_inside}
use Rattle.barge_edit.proofs.put.Goals as goal

pub finish-requires : goal.finish-requires
finish-requires g c =
    let e = c.put_in-edited.result in
    subst (λ (n : ℕ). EditInside e n) (sym c.put_in-edited.auto.buffer) (put_inside _ _ _ e _ c.put_in-edited.ensures.edits)
