-- Two trails that meet the promise of `trail_of` are equal; the head's promise is an equation.
-- Assumes nothing.
use Rattle.std.specs.Prelude.{ℕ, ◌≡◌, List}
use Rattle.std.proofs.Common.{sym, ap₂, ◌∙◌}
use Rattle.sheet.specs.declared.Header.{Header}
use Rattle.sheet.specs.declared.Record.{Record}
use Rattle.pencil.specs.declared.Trail.{Trail}
use Rattle.pencil.specs.Trail.{Trails}

pub trail_only : (h : Header) (r : Record) (t u : Trail) → Trails h r t → Trails h r u → t ≡ u
trail_only h r t u f g =
    ap₂ {C = Trail} (λ (b : List ℕ) (n : ℕ). record { bytes = b; len = n }) (f.written.bytes ∙ sym g.written.bytes) (f.written.len ∙ sym g.written.len)
