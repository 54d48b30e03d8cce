-- `streams::edits::one_edit` is safe and ends: the sheet that an edit leaves is in the buffer, so that its length has room on the line.
use Prim.Native.Nat.{ℕ, ◌≤◌}
use mathlib.Core.Path.{◌≡◌, refl, sym, subst, ◌∙◌}
use mathlib.Core.List.{List}
use native.Mathlib.Omega.{arith}
use lib.ListN.{length}
use Rattle.sheet.specs.Refusals.{Answer, given, refused}
use Rattle.edit.specs.Edit.{After, size_by}
use Rattle.edit.specs.laws.Within.{numbers_within, remove_within}
use Rattle.streams.specs.Parts.{ShortLine}
use Rattle.streams.specs.Edits.{edit_of}
use Rattle.streams.specs.declared.edits.Edit.{Edit}
use Rattle.streams.specs.declared.edits.Edit.TheVariants.{Put, Remove}
use Rattle.streams.proofs.edits.one_edit.Goals as goal

-- `streams::edits::one_edit` is safe and ends: the sheet that an edit leaves is in the buffer, so that its length has room on the line.
edit_within : (e : Edit) (b : List ℕ) (len : ℕ) (a : After) → edit_of e b len ≡ given a → a.size ≤ length b
edit_within (Put fields) b len a e = numbers_within b len fields a e
edit_within (Remove id) b len a e = remove_within b len id a e

inside : (x : Answer After) (b : List ℕ) → length b ≤ 65536 → ((a : After) → x ≡ given a → a.size ≤ length b) → ShortLine (size_by x)
unfolding size_by
inside (given a) b l w = omega (arith, w a refl)
inside (refused k p) b l w = tt

pub print-requires : goal.print-requires
print-requires g c =
    let told = c.edited-answer.ensures.answer in
    subst ShortLine (sym told) (inside _ c.args.buf.now c.requires (edit_within _ c.args.buf.now _))
