-- Which forms floors, bottom transverses and girders answer to; and what rules without η ask.
-- Assumes nothing.
use Rattle.std.specs.Prelude.{ℕ, ◌*◌, ◌≡◌, refl, true, ◌⊎◌}
use Rattle.std.proofs.Common.{inl, inr, ap}
use native.Mathlib.Nat.{mul-one}
use Rattle.sheet.specs.Kinds.{is_floor, is_deep}
use Rattle.framing.specs.declared.kinds.Kind.{Kind}
use Rattle.framing.specs.declared.kinds.Kind.TheVariants.{Floor, Transverse, Girder}
use Rattle.framing.specs.Kinds.{number_of}

pub floors : (kind : Kind) → (kind ≡ Floor) ⊎ (kind ≡ Transverse) → (is_deep (number_of kind) ≡ true) × (is_floor (number_of kind) ≡ true)
floors kind (inl e) = rw e (refl, refl)
floors kind (inr e) = rw e (refl, refl)

pub deep : (kind : Kind) → (kind ≡ Floor) ⊎ ((kind ≡ Transverse) ⊎ (kind ≡ Girder)) → is_deep (number_of kind) ≡ true
deep kind (inl e) = rw e refl
deep kind (inr (inl e)) = rw e refl
deep kind (inr (inr e)) = rw e refl

-- a product with 1 in the place of η
pub without_η : (n q x : ℕ) → n * 1 * q * x ≡ n * q * x
without_η n q x = ap (λ (k : ℕ). k * q * x) (mul-one n)
