-- The version of a header and the kind of a record stand in the upper half of the first byte.
-- Assumes nothing.
use Rattle.std.specs.Prelude.{ℕ, suc, ◌+◌, ◌/◌, ◌%◌, ◌^◌, ◌≤◌, ◌<◌, ◌≡◌, List, [], ◌∷◌, length, get_or, take}
use Rattle.std.proofs.Common.{sym, ap, ◌∙◌, arith, mod-eq_of_lt, shr-shr}
use Rattle.std.proofs.Math.Pow.{high}
use Rattle.layout.specs.Layout.{total, pack, bytes, Fit}
use Rattle.layout.specs.laws.Laws.{pack_lt}
use Rattle.sheet.specs.Header.{version_field}
use Rattle.sheet.specs.Record.{number_in, kind_at}

upper_half : (k b : ℕ) (bs : List ℕ) → Fit (bytes (suc k)) (b ∷ bs) → pack (bytes (suc k)) (b ∷ bs) / 2 ^ (total (bytes k) + 4) % 2 ^ 4 ≡ b / 2 ^ 4
upper_half k b bs f =
    let t = total (bytes k) in
    let l : b / 16 < 16 = omega (arith, f.0) in
    ap (λ (n : ℕ). n % 2 ^ 4) (sym (shr-shr (pack (bytes (suc k)) (b ∷ bs)) t 4) ∙ ap (λ (n : ℕ). n / 2 ^ 4) (high b t (pack_lt (bytes k) bs f.1)))
    ∙ mod-eq_of_lt l

pub version_byte : (s : List ℕ) → 12 ≤ length s → Fit (bytes 12) (take 12 s) → version_field s ≡ get_or s 0 0 / 16
version_byte [] l f = absurd (omega arith)
version_byte (b ∷ s) l f = upper_half 11 b (take 11 s) f

pub kind_byte : (s : List ℕ) → 16 ≤ length s → Fit (bytes 16) (take 16 s) → kind_at (number_in s) ≡ get_or s 0 0 / 16
kind_byte [] l f = absurd (omega arith)
kind_byte (b ∷ s) l f = upper_half 15 b (take 15 s) f
