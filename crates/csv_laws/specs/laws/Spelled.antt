-- A number's decimal is read as the number, and bytes that spell a number are its decimal: each number of a text has one spelling.
-- Assumes nothing.
use Rattle.std.specs.Prelude.{ℕ, zero, suc, ◌+◌, ◌-◌, ◌*◌, ◌≤◌, ◌<◌, ◌⊎◌, ◌≡◌, refl, Bool, true, false, cond, List, [], ◌∷◌, length, get_or, ltb, eqb}
use Rattle.std.proofs.Common.{inl, inr, sym, ap, ◌∙◌, arith, lt-ltb, le-ltb, ne_eqb, ltb-true, ltb-false}
use Rattle.std.proofs.lemmas.Bool.{eqb-false}
use Rattle.decimal.specs.Decimal.{decimal_of, value_from, value_of}
use Rattle.decimal.specs.laws.DecimalLaws.{Digits, none, next, decimal_one, decimal_back, decimal_digits, no_zero_first}
use Rattle.decimal.specs.laws.Spelled.{spelled}
use Rattle.fields.specs.Number.{digit_of, digits_of, longer_of, number_of}
use Rattle.fields.specs.Number as N
use Rattle.fields.specs.declared.Num.{Num}
use Rattle.fields.specs.declared.Num.TheVariants.{Empty, Value, Bad}

-- ---- from the number to its bytes and back

-- more digits make it no smaller
grows : (v : ℕ) (ds : List ℕ) → v ≤ value_from v ds
unfolding value_from
grows v [] = omega arith
grows v (b ∷ bs) = omega (arith, grows (10 * v + (b - 48)) bs)

one_digit : (x : Num) (b : ℕ) → 48 ≤ b → b ≤ 57 → digit_of x b ≡ N.next x (b - 48)
unfolding digit_of
one_digit x b l h = rw (le-ltb b 48 l, le-ltb 57 b h)

run : (v : ℕ) {ds : List ℕ} → Digits ds → 1 ≤ v → value_from v ds < 1000000000 → digits_of (Value v) ds ≡ Value (value_from v ds)
unfolding digits_of value_from longer_of
run v none p l = refl
run v (next {b = b} {bs = bs} h k d) p l =
    let small : 10 * v + (b - 48) < 1000000000 = omega (arith, grows (10 * v + (b - 48)) bs) in
    let e : digit_of (Value v) b ≡ Value (10 * v + (b - 48)) = one_digit (Value v) b h k ∙ rw (ne_eqb v 0 (λ z. omega arith), lt-ltb v 100000000 (omega arith)) in
    ap (λ (x : Num). digits_of x bs) e ∙ run (10 * v + (b - 48)) d (omega arith) l

-- a number of nine digits at most is read as itself
pub number_back : (n : ℕ) → n < 1000000000 → number_of (decimal_of n) ≡ Value n
unfolding digits_of value_of value_from
number_back zero l = ap number_of (decimal_one 0 (omega arith)) ∙ one_digit Empty 48 (omega arith) (omega arith)
number_back (suc m) l = go (decimal_of (suc m)) (decimal_digits (suc m)) (no_zero_first (suc m) (omega arith)) (decimal_back (suc m))
  where
    go : (ds : List ℕ) → Digits ds → 49 ≤ get_or ds 0 0 → value_of ds ≡ suc m → number_of ds ≡ Value (suc m)
    go [] d f e = absurd (omega arith)
    go (b ∷ bs) (next h k d) f e =
        let z : 10 * 0 + (b - 48) ≡ b - 48 = omega arith in
        let w : value_from (b - 48) bs ≡ suc m = ap (λ (v : ℕ). value_from v bs) (sym z) ∙ e in
        ap (λ (x : Num). digits_of x bs) (one_digit Empty b h k) ∙ run (b - 48) d (omega arith) (omega arith) ∙ ap Value w

-- ---- from the bytes to the number and back

-- a digit was taken behind v, and made n
record Took (v b n : ℕ) : Type 0 where
  low : 48 ≤ b
  high : b ≤ 57
  pos : 1 ≤ v
  made : 10 * v + (b - 48) ≡ n

no : {A : Type 0} → ◌≡◌ {A = ℕ} 0 1 → A
no z = absurd (omega arith)

took : (v b : ℕ) (x : Num) → digit_of (Value v) b ≡ x → (x ≡ Bad) ⊎ ((n : ℕ) × (x ≡ Value n) × Took v b n)
unfolding digit_of longer_of
took v b x e = go (ltb b 48) (ltb 57 b) (eqb v 0) (ltb v 100000000) refl refl refl e
  where
    go : (t u y z : Bool) → ltb b 48 ≡ t → ltb 57 b ≡ u → eqb v 0 ≡ y → cond t Bad (cond u Bad (cond y Bad (cond z (Value (10 * v + (b - 48))) Bad))) ≡ x → (x ≡ Bad) ⊎ ((n : ℕ) × (x ≡ Value n) × Took v b n)
    go true u y z p q r f = inl (sym f)
    go false true y z p q r f = inl (sym f)
    go false false true z p q r f = inl (sym f)
    go false false false true p q r f =
        inr (10 * v + (b - 48), sym f, record { low = ltb-false b 48 p; high = ltb-false 57 b q; pos = (let h = eqb-false v 0 r in omega arith); made = refl })
    go false false false false p q r f = inl (sym f)

stays : (bs : List ℕ) → digits_of Bad bs ≡ Bad
unfolding digits_of digit_of
stays [] = refl
stays (b ∷ bs) = go (ltb b 48) (ltb 57 b) (stays bs)
  where
    go : (t u : Bool) → digits_of Bad bs ≡ Bad → digits_of (cond t Bad (cond u Bad Bad)) bs ≡ Bad
    go true u e = e
    go false true e = e
    go false false e = e

-- what was read as a number, behind the number u
record Read (u : ℕ) (bs : List ℕ) (v : ℕ) : Type 0 where
  digits : Digits bs
  value : value_from u bs ≡ v
  first : 1 ≤ length bs → 1 ≤ u

follow : (bs : List ℕ) (u v : ℕ) → digits_of (Value u) bs ≡ Value v → Read u bs v
unfolding digits_of value_from
follow [] u v e = record { digits = none; value = (cc); first = λ l. absurd (omega arith) }
follow (b ∷ bs) u v e = go (took u b (digit_of (Value u) b) refl) (λ m. follow bs m v)
  where
    go : (digit_of (Value u) b ≡ Bad) ⊎ ((n : ℕ) × (digit_of (Value u) b ≡ Value n) × Took u b n) → ((m : ℕ) → digits_of (Value m) bs ≡ Value v → Read m bs v) → Read u (b ∷ bs) v
    go (inl f) on = no (let g = ap (λ (x : Num). digits_of x bs) f in let h = stays bs in cc)
    go (inr t) on =
        let r = on t.0 (ap (λ (x : Num). digits_of x bs) (sym t.1) ∙ e) in
        let k = t.2 in
        record { digits = next k.low k.high r.digits; value = ap (λ (m : ℕ). value_from m bs) k.made ∙ r.value; first = λ l. k.pos }

-- bytes that are read as a number are its decimal
pub number_spelled : (f : List ℕ) (v : ℕ) → number_of f ≡ Value v → f ≡ decimal_of v
unfolding digits_of digit_of value_of value_from
number_spelled [] v e = no (cc)
number_spelled (b ∷ bs) v e = go (ltb b 48) (ltb 57 b) refl refl e
  where
    go : (t u : Bool) → ltb b 48 ≡ t → ltb 57 b ≡ u → digits_of (cond t Bad (cond u Bad (Value (b - 48)))) bs ≡ Value v → b ∷ bs ≡ decimal_of v
    go true u p q f = no (let h = stays bs in cc)
    go false true p q f = no (let h = stays bs in cc)
    go false false p q f =
        let r = follow bs (b - 48) v f in
        let l = ltb-false b 48 p in
        let h = ltb-false 57 b q in
        let z : 10 * 0 + (b - 48) ≡ b - 48 = omega arith in
        spelled b bs (next l h r.digits) (λ k. omega (arith, r.first k)) ∙ ap decimal_of (ap (λ (m : ℕ). value_from m bs) z ∙ r.value)
