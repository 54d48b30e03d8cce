-- Fields that are appended one after another are packed as their layout says; and one byte of a number after another, from the last.
-- Assumes nothing.
use Rattle.std.specs.Prelude.{ℕ, suc, ◌+◌, ◌*◌, ◌/◌, ◌%◌, ◌^◌, ◌≡◌, List, [], ◌∷◌, length}
use Rattle.std.proofs.Common.{sym, ap, ap₂, ◌∙◌, arith, mul_assoc, add_assoc, add-mul, mul_right_comm, pow_pos, pow-add, shr-shr}
use Rattle.std.proofs.Math.Nat.{mul-add-div_right}
use Rattle.std.proofs.Math.Pow.{split}
use Rattle.layout.specs.Layout.{total, pack, unpack, bytes}
use Rattle.layout.specs.laws.Laws.{pack_unpack, unpack_over, length_bytes, length_unpack}
use Rattle.rows.specs.Pack.{appended, joined, packed_on, powers}

-- the number that goes past k bytes
abbrev pub beyond : ℕ → ℕ
beyond k = 2 ^ total (bytes k)

-- ---- one byte after another, from the last

-- the byte b in front of k bytes that hold the number n; of these x is made, and with the byte y
module _ (k b n l v : ℕ) where
  abbrev pub made : ℕ
  made = n * l + v

  abbrev pub made_on : ℕ
  made_on = (b * beyond k + n) * l + v

  apart : made_on ≡ b * l * beyond k + made
  apart =
      ap (λ (x : ℕ). x + v) (add-mul (b * beyond k) n l ∙ ap (λ (x : ℕ). x + n * l) (mul_right_comm b (beyond k) l))
      ∙ add_assoc (b * l * beyond k) (n * l) v

  pub turn_is : made_on / beyond k ≡ b * l + made / beyond k
  turn_is = ap (λ (x : ℕ). x / beyond k) apart ∙ mul-add-div_right (pow_pos (total (bytes k))) (b * l) made

  pub turn_bytes : unpack (bytes (suc k)) made_on ≡ (b * l + made / beyond k) % 256 ∷ unpack (bytes k) made
  turn_bytes =
      ap₂ {C = List ℕ} (λ x xs. x ∷ xs) (ap (λ (x : ℕ). x % 256) turn_is) (ap (unpack (bytes k)) apart ∙ unpack_over (bytes k) (b * l) made)

  pub turn_carry : made_on / beyond (suc k) ≡ (b * l + made / beyond k) / 256
  turn_carry =
      ap (λ (e : ℕ). made_on / 2 ^ e) (let s : 8 + total (bytes k) ≡ total (bytes k) + 8 = omega arith in s)
      ∙ sym (shr-shr made_on (total (bytes k)) 8)
      ∙ ap (λ (x : ℕ). x / 256) turn_is

-- ---- one field after another

-- what the bytes of a number hold once a field is appended
pub appended_number : (k n l v : ℕ) → appended l v (unpack (bytes k) n) ≡ unpack (bytes k) (n * l + v)
unfolding appended
appended_number k n l v =
    let size : length (unpack (bytes k) n) ≡ k = length_unpack (bytes k) n ∙ length_bytes k in
    let m = n % beyond k in
    let q = n / beyond k in
    let parts : n * l + v ≡ q * l * beyond k + (m * l + v) =
    ap (λ (x : ℕ). x * l + v) (sym (split n (total (bytes k))))
    ∙ ap (λ (x : ℕ). x + v) (add-mul (q * beyond k) m l ∙ ap (λ (x : ℕ). x + m * l) (mul_right_comm q (beyond k) l))
    ∙ add_assoc (q * l * beyond k) (m * l) v in
    ap (λ (j : ℕ). unpack (bytes j) (pack (bytes j) (unpack (bytes k) n) * l + v)) size
    ∙ ap (λ (x : ℕ). unpack (bytes k) (x * l + v)) (pack_unpack (bytes k) n)
    ∙ sym (unpack_over (bytes k) (q * l) (m * l + v))
    ∙ ap (unpack (bytes k)) (sym parts)

-- fields that are appended to a number stand behind it as their layout packs them
pub joined_pack : (ws vs : List ℕ) (n : ℕ) → length vs ≡ length ws → joined (powers ws) vs n ≡ n * 2 ^ total ws + pack ws vs
unfolding joined
joined_pack [] [] n e = omega arith
joined_pack [] (v ∷ vs) n e = absurd (omega arith)
joined_pack (w ∷ ws) [] n e = absurd (omega arith)
joined_pack (w ∷ ws) (v ∷ vs) n e =
    let t = 2 ^ total ws in
    joined_pack ws vs (n * 2 ^ w + v) (omega arith)
    ∙ ap (λ (x : ℕ). x + pack ws vs) (add-mul (n * 2 ^ w) v t ∙ ap (λ (x : ℕ). x + v * t) (mul_assoc n (2 ^ w) t ∙ ap (λ (x : ℕ). n * x) (sym (pow-add 2 w (total ws)))))
    ∙ add_assoc (n * 2 ^ (w + total ws)) (v * t) (pack ws vs)

-- a layout of whole bytes leaves nothing of what they held
pub packed_whole : (ws vs o : List ℕ) → length vs ≡ length ws → total ws ≡ total (bytes (length o)) → packed_on (powers ws) vs o ≡ unpack (bytes (length o)) (pack ws vs)
unfolding packed_on
packed_whole ws vs o e same =
    let n = pack (bytes (length o)) o in
    ap (unpack (bytes (length o))) (joined_pack ws vs n e ∙ ap (λ (t : ℕ). n * 2 ^ t + pack ws vs) same)
    ∙ unpack_over (bytes (length o)) n (pack ws vs)

pub packed_length : (ls vs o : List ℕ) → length (packed_on ls vs o) ≡ length o
unfolding packed_on
packed_length ls vs o = length_unpack (bytes (length o)) _ ∙ length_bytes (length o)
