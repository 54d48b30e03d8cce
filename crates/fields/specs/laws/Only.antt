-- Two answers that meet a promise of this crate are equal.
-- Assumes nothing.
use Rattle.std.specs.Prelude.{ℕ, ◌≡◌, List, drop}
use Rattle.std.proofs.Common.{sym, ◌∙◌}
use Rattle.fields.specs.declared.Field.{Field}
use Rattle.fields.specs.declared.Seen.{Seen}
use Rattle.fields.specs.Marks.{seen_at}
use Rattle.fields.specs.Field.{field_at}

pub field_at_only : (s : List ℕ) (at : ℕ) (a b : Field) → a ≡ field_at s at → b ≡ field_at s at → a ≡ b
field_at_only s at a b e f = e ∙ sym f

pub look_only : (s : List ℕ) (at : ℕ) (a b : Seen) → a ≡ seen_at (drop at s) → b ≡ seen_at (drop at s) → a ≡ b
look_only s at a b e f = e ∙ sym f
