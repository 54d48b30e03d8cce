-- What a reader promises, whatever the words for the answer it goes by.
-- Assumes nothing.
use Prim.Native.Nat.{ℕ}
use mathlib.Core.Path.{◌≡◌, subst}
use mathlib.Core.List.{List}
use Rattle.sheet.specs.Refusals.{Answer}
use Rattle.yard.specs.Packed.{Reads}
use Rattle.yard.specs.Fields.{numbered}

pub reads_as : {A : Type 0} (numbers : A → List ℕ) {a b : Answer A} {before after : List ℕ} {r : ℕ} → a ≡ b
    → Reads (numbered numbers a) before r after → Reads (numbered numbers b) before r after
reads_as {A} numbers {a} {b} {before} {after} {r} e h = subst (λ (t : Answer A). Reads (numbered numbers t) before r after) e h
