-- The laws of layouts, over any layout. Assumes nothing.
use Rattle.std.specs.Prelude.{ℕ, zero, suc, ◌+◌, ◌*◌, ◌/◌, ◌%◌, ◌^◌, ◌<◌, ◌≤◌, ◌≡◌, refl, List, [], ◌∷◌, ◌++◌, length, take, get_or}
use Rattle.std.proofs.Common.{sym, ap, ap₂, subst, ◌∙◌, mod-lt, mod-eq_of_lt, mul_assoc, add_assoc, zero-mul, zero-add, not-suc-le-zero, le_of_suc-le-suc, add-mul, add_comm, div-lt_iff_lt-mul, arith, pow_pos, pow-add, shr-shr}
use Rattle.std.proofs.Math.Nat.{mod-one, mul-add-div_right, mul-add-mod_self_right}
use Rattle.std.proofs.Math.Arith.{digits_lt}
use Rattle.std.proofs.lemmas.Nat.{mod-pow-add}
use Rattle.std.proofs.Math.Pow.{high, split}
use Rattle.layout.specs.Layout.{total, pack, unpack, Fit, bytes, firsts}

-- what a number's fields are made into is the number again, below 2 ^ total
pub pack_unpack : (ws : List ℕ) (n : ℕ) → pack ws (unpack ws n) ≡ n % 2 ^ total ws
pack_unpack [] n = sym (mod-one n)
pack_unpack (w ∷ ws) n = rw (pack_unpack ws n) (sym (mod-pow-add n w (total ws)))

pub pack_unpack_lt : (ws : List ℕ) (n : ℕ) → n < 2 ^ total ws → pack ws (unpack ws n) ≡ n
pack_unpack_lt ws n h = pack_unpack ws n ∙ mod-eq_of_lt h

pub unpack_fit : (ws : List ℕ) (n : ℕ) → Fit ws (unpack ws n)
unpack_fit [] n = tt
unpack_fit (w ∷ ws) n = (mod-lt (n / 2 ^ total ws) (pow_pos w), unpack_fit ws n)

pub pack_lt : (ws vs : List ℕ) → Fit ws vs → pack ws vs < 2 ^ total ws
pack_lt [] [] f = omega arith
pack_lt (w ∷ ws) (v ∷ vs) f = rw (pow-add 2 w (total ws)) (digits_lt f.0 (pack_lt ws vs f.1))
pack_lt [] (v ∷ vs) f = elim f [ ]
pack_lt (w ∷ ws) [] f = elim f [ ]

-- what stands above a layout's bits does not show in its fields
pub unpack_over : (ws : List ℕ) (a b : ℕ) → unpack ws (a * 2 ^ total ws + b) ≡ unpack ws b
unpack_over [] a b = refl
unpack_over (w ∷ ws) a b =
    let t = 2 ^ total ws in
    let e : a * 2 ^ (w + total ws) + b ≡ (a * 2 ^ w) * t + b = rw (pow-add 2 w (total ws)) (ap (λ (x : ℕ). x + b) (sym (mul_assoc a (2 ^ w) t))) in
    rw e
    (ap₂ {C = List ℕ} (λ x xs. x ∷ xs)
    (ap (λ (x : ℕ). x % 2 ^ w) (mul-add-div_right (pow_pos (total ws)) (a * 2 ^ w) b) ∙ mul-add-mod_self_right a (2 ^ w) (b / t))
    (unpack_over ws (a * 2 ^ w) b))

-- the fields of a number that is made of fields are those fields
pub unpack_pack : (ws vs : List ℕ) → Fit ws vs → unpack ws (pack ws vs) ≡ vs
unpack_pack [] [] f = refl
unpack_pack (w ∷ ws) (v ∷ vs) f =
    ap₂ {C = List ℕ} (λ x xs. x ∷ xs)
    (ap (λ (x : ℕ). x % 2 ^ w) (high v (total ws) (pack_lt ws vs f.1)) ∙ mod-eq_of_lt f.0)
    (unpack_over ws v (pack ws vs) ∙ unpack_pack ws vs f.1)
unpack_pack [] (v ∷ vs) f = elim f [ ]
unpack_pack (w ∷ ws) [] f = elim f [ ]

-- a layout in two parts
total_append : (us ws : List ℕ) → total (us ++ ws) ≡ total us + total ws
total_append [] ws = sym (zero-add (total ws))
total_append (u ∷ us) ws = omega (arith, total_append us ws)

pub pack_append : (us ws vs bs : List ℕ) → length vs ≡ length us → pack (us ++ ws) (vs ++ bs) ≡ pack us vs * 2 ^ total ws + pack ws bs
pack_append [] ws [] bs e = rw (zero-mul, zero-add) refl
pack_append [] ws (a ∷ vs) bs e = absurd (omega arith)
pack_append (u ∷ us) ws [] bs e = absurd (omega arith)
pack_append (u ∷ us) ws (a ∷ vs) bs e =
    let t = 2 ^ total us in
    let s = 2 ^ total ws in
    rw (total_append us ws, pow-add 2 (total us) (total ws), pack_append us ws vs bs (omega arith))
    (ap (λ (x : ℕ). x + (pack us vs * s + pack ws bs)) (sym (mul_assoc a t s))
    ∙ sym (add_assoc (a * t * s) (pack us vs * s) (pack ws bs))
    ∙ ap (λ (x : ℕ). x + pack ws bs) (sym (add-mul (a * t) (pack us vs) s)))

pub unpack_append : (us ws : List ℕ) (a b : ℕ) → b < 2 ^ total ws → unpack (us ++ ws) (a * 2 ^ total ws + b) ≡ unpack us a ++ unpack ws b
unpack_append [] ws a b h = unpack_over ws a b
unpack_append (u ∷ us) ws a b h =
    ap₂ {C = List ℕ} (λ x xs. x ∷ xs)
    (ap (λ (k : ℕ). (a * 2 ^ total ws + b) / 2 ^ k % 2 ^ u) (total_append us ws ∙ add_comm (total us) (total ws))
    ∙ ap (λ (x : ℕ). x % 2 ^ u) (sym (shr-shr (a * 2 ^ total ws + b) (total ws) (total us)) ∙ ap (λ (x : ℕ). x / 2 ^ total us) (high a (total ws) h)))
    (unpack_append us ws a b h)

pub length_bytes : (k : ℕ) → length (bytes k) ≡ k
length_bytes zero = refl
length_bytes (suc k) = ap suc (length_bytes k)

pub bytes_add : (a b : ℕ) → bytes (a + b) ≡ bytes a ++ bytes b
bytes_add zero b = ap bytes (zero-add b)
bytes_add (suc a) b = let s : suc a + b ≡ suc (a + b) = omega arith in ap bytes s ∙ ap (λ (l : List ℕ). 8 ∷ l) (bytes_add a b)

pub length_unpack : (ws : List ℕ) (n : ℕ) → length (unpack ws n) ≡ length ws
length_unpack [] n = refl
length_unpack (w ∷ ws) n = ap suc (length_unpack ws n)

-- what fits a layout in two parts fits each of them
pub fit_parts : (us ws vs bs : List ℕ) → length vs ≡ length us → Fit (us ++ ws) (vs ++ bs) → Fit us vs × Fit ws bs
fit_parts [] ws [] bs e f = (tt, f)
fit_parts [] ws (a ∷ vs) bs e f = absurd (omega arith)
fit_parts (u ∷ us) ws [] bs e f = absurd (omega arith)
fit_parts (u ∷ us) ws (a ∷ vs) bs e f = let r = fit_parts us ws vs bs (omega arith) f.1 in ((f.0, r.0), r.1)

-- a layout of so many whole bytes: fields that are written into them are read again, and bytes that are read as fields are written again
module _ (ws : List ℕ) (k : ℕ) (same : total ws ≡ total (bytes k)) where
  pub fields_again : (vs : List ℕ) → Fit ws vs → unpack ws (pack (bytes k) (unpack (bytes k) (pack ws vs))) ≡ vs
  fields_again vs f =
      ap (unpack ws) (pack_unpack_lt (bytes k) (pack ws vs) (subst (λ (t : ℕ). pack ws vs < 2 ^ t) same (pack_lt ws vs f)))
      ∙ unpack_pack ws vs f

  pub bytes_again : (bs : List ℕ) → Fit (bytes k) bs → unpack (bytes k) (pack ws (unpack ws (pack (bytes k) bs))) ≡ bs
  bytes_again bs f =
      ap (unpack (bytes k)) (pack_unpack_lt ws (pack (bytes k) bs) (subst (λ (t : ℕ). pack (bytes k) bs < 2 ^ t) (sym same) (pack_lt (bytes k) bs f)))
      ∙ unpack_pack (bytes k) bs f

-- the first elements of a long enough list, by their indices
pub take_firsts : (k : ℕ) (s : List ℕ) → k ≤ length s → take k s ≡ firsts k (λ i. get_or s i 0)
take_firsts zero s h = refl
take_firsts (suc k) [] h = absurd (not-suc-le-zero h)
take_firsts (suc k) (x ∷ xs) h = ap {B = List ℕ} (λ l. x ∷ l) (take_firsts k xs (le_of_suc-le-suc h))

-- A layout over two words of k bits. One field of a + b bits has its upper a bits in the first word and its lower b bits in the second.
module _ (us ws : List ℕ) (a b k : ℕ) (e : b + total ws ≡ k) where
  two : 2 ^ k ≡ 2 ^ b * 2 ^ total ws
  two = ap (λ (x : ℕ). 2 ^ x) (sym e) ∙ pow-add 2 b (total ws)

  pub pack_words : (xs ys : List ℕ) (v : ℕ) → length xs ≡ length us
      → pack (us ++ (a + b) ∷ ws) (xs ++ v ∷ ys) ≡ (pack us xs * 2 ^ a + v / 2 ^ b) * 2 ^ k + (v % 2 ^ b * 2 ^ total ws + pack ws ys)
  pack_words xs ys v h =
      let P = pack us xs in
      let W = 2 ^ k in
      let t = 2 ^ total ws in
      let q = v / 2 ^ b in
      let r = v % 2 ^ b in
      let e₀ : 2 ^ (a + b + total ws) ≡ 2 ^ a * W = ap (λ (x : ℕ). 2 ^ x) (add_assoc a b (total ws) ∙ ap (λ (x : ℕ). a + x) e) ∙ pow-add 2 a k in
      let e₁ : P * 2 ^ (a + b + total ws) ≡ P * 2 ^ a * W = ap (λ (x : ℕ). P * x) e₀ ∙ sym (mul_assoc P (2 ^ a) W) in
      let e₂ : (P * 2 ^ a + q) * W ≡ P * 2 ^ a * W + q * W = add-mul (P * 2 ^ a) q W in
      let e₃ : v * t ≡ q * W + r * t = ap (λ (x : ℕ). x * t) (sym (split v b)) ∙ add-mul (q * 2 ^ b) r t ∙ ap (λ (x : ℕ). x + r * t) (mul_assoc q (2 ^ b) t ∙ ap (λ (x : ℕ). q * x) (sym two)) in
      pack_append us ((a + b) ∷ ws) xs (v ∷ ys) h ∙ omega arith

  pub unpack_words : (hi lo : ℕ) → lo < 2 ^ k
      → unpack (us ++ (a + b) ∷ ws) (hi * 2 ^ k + lo) ≡ unpack us (hi / 2 ^ a) ++ (hi % 2 ^ a * 2 ^ b + lo / 2 ^ total ws % 2 ^ b) ∷ unpack ws lo
  unpack_words hi lo h =
      let W = 2 ^ k in
      let t = 2 ^ total ws in
      let q = hi / 2 ^ a in
      let r = hi % 2 ^ a in
      let r< : r < 2 ^ a = mod-lt hi (pow_pos a) in
      let e₀ : 2 ^ (a + b + total ws) ≡ 2 ^ a * W = ap (λ (x : ℕ). 2 ^ x) (add_assoc a b (total ws) ∙ ap (λ (x : ℕ). a + x) e) ∙ pow-add 2 a k in
      let e₁ : hi * W ≡ q * 2 ^ (a + b + total ws) + r * W = ap (λ (x : ℕ). x * W) (sym (split hi a)) ∙ add-mul (q * 2 ^ a) r W ∙ ap (λ (x : ℕ). x + r * W) (mul_assoc q (2 ^ a) W ∙ ap (λ (x : ℕ). q * x) (sym e₀)) in
      let e₂ : hi * W + lo ≡ q * 2 ^ (a + b + total ws) + (r * W + lo) = omega arith in
      let lt : r * W + lo < 2 ^ (a + b + total ws) = rw e₀ (digits_lt r< h) in
      let e₃ : r * W + lo ≡ r * 2 ^ b * t + lo = ap (λ (x : ℕ). x + lo) (ap (λ (x : ℕ). r * x) two ∙ sym (mul_assoc r (2 ^ b) t)) in
      let lo< : lo / t < 2 ^ b = (div-lt_iff_lt-mul (pow_pos (total ws))).1 (rw (← two) h) in
      let top : (r * W + lo) / t % 2 ^ (a + b) ≡ r * 2 ^ b + lo / t % 2 ^ b =
      ap (λ (x : ℕ). x / t % 2 ^ (a + b)) e₃ ∙ ap (λ (x : ℕ). x % 2 ^ (a + b)) (mul-add-div_right (pow_pos (total ws)) (r * 2 ^ b) lo) ∙ mod-eq_of_lt (rw (pow-add 2 a b) (digits_lt r< lo<)) ∙ ap (λ (x : ℕ). r * 2 ^ b + x) (sym (mod-eq_of_lt lo<)) in
      ap (unpack (us ++ (a + b) ∷ ws)) e₂
      ∙ unpack_append us ((a + b) ∷ ws) q (r * W + lo) lt
      ∙ ap (λ (l : List ℕ). unpack us q ++ l)
      (ap₂ {C = List ℕ} (λ x xs. x ∷ xs) top (ap (unpack ws) e₃ ∙ unpack_over ws (r * 2 ^ b) lo))
