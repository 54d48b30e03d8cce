-- Two results that meet a promise of this crate are equal; the lower half of a `Short` or a `Long` is a number of its width.
-- Assumes nothing.
use Rattle.std.specs.Prelude.{ℕ, ◌/◌, ◌%◌, ◌*◌, ◌+◌, ◌^◌, ◌<◌, ◌≡◌, cond, List}
use Rattle.std.proofs.Common.{sym, ap, ap₂, ◌∙◌, mod-eq_of_lt}
use Rattle.std.proofs.Math.Nat.{mul-add-mod_self_right}
use Rattle.std.proofs.Math.Pow.{high}
use Rattle.quantity.specs.Range.{within, from}
use Rattle.layout.specs.declared.Short.{Short}
use Rattle.layout.specs.declared.Long.{Long}
use Rattle.layout.specs.Bytes.{short_of, long_of, read_of, written_of}

-- `read_half` and `read_word`, at k = 4 and k = 8
pub read_only : (k : ℕ) (s : List ℕ) (a b : ℕ) → a ≡ read_of k s → b ≡ read_of k s → a ≡ b
read_only k s a b p q = p ∙ sym q

-- `write_half`, `write_word`, `write_short` and `write_long`, at k = 4, 8, 12 and 16
pub write_only : (k n : ℕ) (o a b : List ℕ) → a ≡ written_of k n o → b ≡ written_of k n o → a ≡ b
write_only k n o a b p q = p ∙ sym q

-- two numbers in two parts are equal where their parts are
parts : (k h l h' l' : ℕ) → l < 2 ^ k → l' < 2 ^ k → h * 2 ^ k + l ≡ h' * 2 ^ k + l' → (h ≡ h') × (l ≡ l')
parts k h l h' l' m m' e = (
  sym (high h k m) ∙ ap (λ (n : ℕ). n / 2 ^ k) e ∙ high h' k m',
  sym (mul-add-mod_self_right h (2 ^ k) l ∙ mod-eq_of_lt m) ∙ ap (λ (n : ℕ). n % 2 ^ k) e ∙ mul-add-mod_self_right h' (2 ^ k) l' ∙ mod-eq_of_lt m',
)

pub read_short_only : (s : List ℕ) (a b : Short) → a.lo < 2 ^ 32 → b.lo < 2 ^ 32 → short_of a ≡ read_of 12 s → short_of b ≡ read_of 12 s → a ≡ b
read_short_only s a b m n p q =
    let e = parts 32 a.hi a.lo b.hi b.lo m n (p ∙ sym q) in
    ap₂ {C = Short} (λ h l. record { hi = h; lo = l }) e.0 e.1

pub read_long_only : (s : List ℕ) (a b : Long) → a.lo < 2 ^ 64 → b.lo < 2 ^ 64 → long_of a ≡ read_of 16 s → long_of b ≡ read_of 16 s → a ≡ b
read_long_only s a b m n p q =
    let e = parts 64 a.hi a.lo b.hi b.lo m n (p ∙ sym q) in
    ap₂ {C = Long} (λ h l. record { hi = h; lo = l }) e.0 e.1

pub fault_unless_only : (x low high field rest a b : ℕ) → a ≡ cond (within (from low high) x) rest field → b ≡ cond (within (from low high) x) rest field → a ≡ b
fault_unless_only x low high field rest a b p q = p ∙ sym q
