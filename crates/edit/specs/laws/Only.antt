-- Two answers, and two buffers, that meet a promise of this crate are equal.
-- Assumes nothing.
use Rattle.std.specs.Prelude.{ℕ, ◌≡◌, List, Result, Ok, Err}
use Rattle.std.proofs.Common.{sym, ap, ◌∙◌}
use Rattle.sheet.specs.Refusals.{Answer, told_result}
use Rattle.sheet.specs.laws.RefusalLaws.{result_only}
use Rattle.edit.specs.Edit.{After, put_numbers_in, remove_in, Edits}
use Rattle.sheet.specs.declared.Refusal.{Refusal}

edits_only : (a : Answer After) (b : List ℕ) (q r : Result ℕ Refusal) (x y : List ℕ) → Edits a b q x → Edits a b r y → (q ≡ r) × (x ≡ y)
edits_only a b q r x y f g = (result_only _ q r f.answer g.answer, f.bytes ∙ sym g.bytes)

pub put_numbers_only : (b : List ℕ) (len : ℕ) (ns : List ℕ) (q r : Result ℕ Refusal) (x y : List ℕ) → Edits (put_numbers_in b len ns) b q x → Edits (put_numbers_in b len ns) b r y → (q ≡ r) × (x ≡ y)
put_numbers_only b len ns q r x y f g = edits_only (put_numbers_in b len ns) b q r x y f g

pub remove_only : (b : List ℕ) (len id : ℕ) (q r : Result ℕ Refusal) (x y : List ℕ) → Edits (remove_in b len id) b q x → Edits (remove_in b len id) b r y → (q ≡ r) × (x ≡ y)
remove_only b len id q r x y f g = edits_only (remove_in b len id) b q r x y f g
