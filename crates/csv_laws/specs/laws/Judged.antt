-- A line is turned away exactly when it is at fault: the tests of numbers that the reading goes by, and what they say of the fields.
-- Assumes nothing.
use Rattle.std.specs.Prelude.{ℕ, zero, suc, ◌+◌, ◌^◌, ◌≤◌, ◌<◌, ◌⊎◌, ◌≡◌, refl, Bool, true, false, cond, not, ◌&&◌, List, [], ◌∷◌, ◌++◌, map, length, get_or, take, replicate, leb, ltb, eqb}
use Rattle.std.proofs.Common.{inl, inr, sym, ap, ap₂, subst, ◌∙◌, arith, ne_eqb, eq-eqb, leb-true, ltb-true, lt-ltb}
use Rattle.std.proofs.Math.Nat.{pow-le-pow_right}
use Rattle.std.proofs.lemmas.List.{length-map}
use Rattle.std.proofs.lemmas.Bool.{eqb-false}
use Rattle.truth.specs.laws.Tests.{both, clash}
use Rattle.quantity.specs.Range.{within}
use Rattle.decimal.specs.Decimal.{decimal_of}
use Rattle.decimal.specs.laws.DecimalLaws.{decimal_one, decimal_some, no_zero_first}
use Rattle.sheet.specs.Versions.{version_numbers, numbered, one, two}
use Rattle.sheet.specs.Lines.{first_widths, own_widths, plate_widths, member_widths}
use Rattle.sheet.specs.Exactly.{Exactly}
use Rattle.fields.specs.Number.{number_of, value_of}
use Rattle.fields.specs.declared.Num.{Num}
use Rattle.fields.specs.declared.Num.TheVariants.{Empty, Value, Bad}
use Rattle.text.specs.laws.LinesLaws.{value_in}
use Rattle.rows.specs.Pack.{fields_from, fields_of, below, powers}
use Rattle.rows.specs.Forms.{first_count, own_count, record_widths}
use Rattle.rows.specs.Rows.{kinds, first_of, taken, firsts_of, owns_of, records_of}
use Rattle.csv_laws.specs.Faults.{Spells, Misspelt, here, behind, Names, count_for, widths_for, first_width, Amiss, count, field, first}
use Rattle.csv_laws.specs.laws.RowForms.{fields_all, counted}
use Rattle.csv_laws.specs.laws.Spelled.{number_back, number_spelled}

-- ---- the tests

-- the first number of a line's fields; what is no number counts as one that is too wide
abbrev pub first_in : List (List ℕ) → ℕ
first_in fs = first_of (map value_in fs)

-- the version of the first line, or the kind of another, is known
abbrev pub known : (head : Bool) → List (List ℕ) → Bool
known head fs = cond head (within version_numbers (first_in fs)) (within kinds (first_in fs))

-- and the fields are not as many
abbrev pub miscounted : (head : Bool) → List (List ℕ) → Bool
miscounted head fs = known head fs && not (eqb (length fs) (count_for head (first_in fs)))

-- no number that the line is judged by is too wide for its field
abbrev pub fitting : (head : Bool) → List (List ℕ) → Bool
fitting true fs =
    let ns = taken (known true fs) (map value_in fs) in
    let v = numbered (first_in fs) in
    below (powers first_widths) (firsts_of ns) && below (powers (own_widths v)) (owns_of v ns)
fitting false fs = below (powers (record_widths (first_in fs))) (records_of (first_in fs) (taken (known false fs) (map value_in fs)))

-- ---- a field

-- a field's number is below so many bits exactly when the field is a number so written, of so many bits at most
pub spells_exactly : (bits : ℕ) (f : List ℕ) → bits ≤ 29 → Exactly (value_in f < 2 ^ bits) (Spells bits f)
spells_exactly bits f l = (go (number_of f) refl, back)
  where
    most : 2 ^ bits ≤ 536870912
    most = pow-le-pow_right (omega arith) l

    go : (x : Num) → number_of f ≡ x → value_of x < 2 ^ bits → Spells bits f
    go Empty e h = absurd (omega (arith, most))
    go (Value v) e h = (v, number_spelled f v e, omega arith)
    go Bad e h = absurd (omega (arith, most))

    back : Spells bits f → value_in f < 2 ^ bits
    back s =
        let same : value_in f ≡ s.0 = ap value_in s.1 ∙ ap value_of (number_back s.0 (omega (arith, s.2, most))) in
        omega (arith, s.2)

-- an empty field is none, nor is one with a zero before other bytes
pub empty_none : (bits : ℕ) → Spells bits [] → ⊥
empty_none bits s = omega (arith, ap length s.1, decimal_some s.0)

pub leading_none : (bits b : ℕ) (f : List ℕ) → Spells bits (48 ∷ b ∷ f) → ⊥
leading_none bits b f s = go s.0 s.1
  where
    go : (v : ℕ) → 48 ∷ b ∷ f ≡ decimal_of v → ⊥
    go zero e = omega (arith, ap length (e ∙ decimal_one 0 (omega arith)))
    go (suc v) e = omega (arith, ap (λ (x : List ℕ). get_or x 0 0) e, no_zero_first (suc v) (omega arith))

-- ---- fields and widths

-- no width is over 29
abbrev narrow : List ℕ → Bool
narrow [] = true
narrow (w ∷ ws) = leb w 29 && narrow ws

misspelt_not : {ws : List ℕ} {fs : List (List ℕ)} → Misspelt ws fs → narrow ws ≡ true → below (powers ws) (map value_in fs) ≡ false
unfolding below
misspelt_not (here {w = w} {ws = ws} {f = f} {fs = fs} n) e = go (ltb (value_in f) (2 ^ w)) refl
  where
    l : w ≤ 29
    l = leb-true w 29 (both (leb w 29) (narrow ws) e).0

    go : (t : Bool) → ltb (value_in f) (2 ^ w) ≡ t → (t && below (powers ws) (map value_in fs)) ≡ false
    go true g = absurd (n ((spells_exactly w f l).0 (ltb-true (value_in f) (2 ^ w) g)))
    go false g = refl
misspelt_not (behind {w = w} {ws = ws} {f = f} {fs = fs} m) e = go (ltb (value_in f) (2 ^ w)) (misspelt_not m (both (leb w 29) (narrow ws) e).1)
  where
    go : (t : Bool) → below (powers ws) (map value_in fs) ≡ false → (t && below (powers ws) (map value_in fs)) ≡ false
    go true g = g
    go false g = refl

not_misspelt : (ws : List ℕ) (fs : List (List ℕ)) → narrow ws ≡ true → length fs ≡ length ws → below (powers ws) (map value_in fs) ≡ false → Misspelt ws fs
unfolding below
not_misspelt [] [] e l b = clash refl b
not_misspelt [] (f ∷ fs) e l b = absurd (omega arith)
not_misspelt (w ∷ ws) [] e l b = absurd (omega arith)
not_misspelt (w ∷ ws) (f ∷ fs) e l b = go (ltb (value_in f) (2 ^ w)) refl b (λ d. not_misspelt ws fs (both (leb w 29) (narrow ws) e).1 (omega arith) d)
  where
    most : w ≤ 29
    most = leb-true w 29 (both (leb w 29) (narrow ws) e).0

    go : (t : Bool) → ltb (value_in f) (2 ^ w) ≡ t → (t && below (powers ws) (map value_in fs)) ≡ false → (below (powers ws) (map value_in fs) ≡ false → Misspelt ws fs) → Misspelt (w ∷ ws) (f ∷ fs)
    go true g d on = behind (on d)
    go false g d on = here (λ s. clash (lt-ltb (value_in f) (2 ^ w) ((spells_exactly w f most).1 s)) g)

-- ---- the first field

-- a number that is named is the first, and known; and what is known is named
module _ (head : Bool) (fs : List (List ℕ)) where
  within_small : (k : ℕ) → within (cond head version_numbers kinds) k ≡ true → k ≤ 8
  within_small k e = go head e
    where
      go : (t : Bool) → within (cond t version_numbers kinds) k ≡ true → k ≤ 8
      go true f = omega (arith, leb-true k 2 (both (leb 1 k) (leb k 2) f).1)
      go false f = leb-true k 8 (both (leb 1 k) (leb k 8) f).1

  known_within : known head fs ≡ within (cond head version_numbers kinds) (first_in fs)
  known_within = go head
    where
      go : (t : Bool) → cond t (within version_numbers (first_in fs)) (within kinds (first_in fs)) ≡ within (cond t version_numbers kinds) (first_in fs)
      go true = refl
      go false = refl

  named_first : (k : ℕ) → Names head fs k → first_in fs ≡ k
  named_first k n =
      let l = within_small k n.2 in
      ap first_in n.1 ∙ ap value_of (number_back k (omega arith))

  named_known : (k : ℕ) → Names head fs k → known head fs ≡ true
  named_known k n = known_within ∙ ap (within (cond head version_numbers kinds)) (named_first k n) ∙ n.2

  known_named : known head fs ≡ true → Names head fs (first_in fs)
  known_named e = go fs (sym known_within ∙ e)
    where
      go : (gs : List (List ℕ)) → within (cond head version_numbers kinds) (first_in gs) ≡ true → Names head gs (first_in gs)
      go [] f = none head f
        where
          none : (t : Bool) → within (cond t version_numbers kinds) 0 ≡ true → Names head [] 0
          none true d = clash d refl
          none false d = clash d refl
      go (g ∷ gs) f = (gs, ap (λ (x : List ℕ). x ∷ gs) (spelt (number_of g) refl (within_small (value_in g) f)), f)
        where
          spelt : (x : Num) → number_of g ≡ x → value_of x ≤ 8 → g ≡ decimal_of (value_in g)
          spelt Empty d l = absurd (omega arith)
          spelt (Value v) d l = number_spelled g v d ∙ ap (λ (y : Num). decimal_of (value_of y)) (sym d)
          spelt Bad d l = absurd (omega arith)

-- ---- the numbers that a line is judged by

-- what is missing is 0
missing : (vs : List ℕ) (i : ℕ) → length vs ≤ i → get_or vs i 0 ≡ 0
missing [] zero l = refl
missing [] (suc i) l = refl
missing (v ∷ vs) zero l = absurd (omega arith)
missing (v ∷ vs) (suc i) l = missing vs i (omega arith)

-- one test behind another
below_append : (a x b y : List ℕ) → length a ≡ length x → below (a ++ b) (x ++ y) ≡ (below a x && below b y)
unfolding below
below_append [] [] b y e = refl
below_append [] (v ∷ x) b y e = absurd (omega arith)
below_append (l ∷ a) [] b y e = absurd (omega arith)
below_append (l ∷ a) (v ∷ x) b y e = go (ltb v l) (below_append a x b y (omega arith))
  where
    go : (t : Bool) → below (a ++ b) (x ++ y) ≡ (below a x && below b y) → (t && below (a ++ b) (x ++ y)) ≡ ((t && below a x) && below b y)
    go true f = f
    go false f = refl

-- all of a header's, and of a record's
header_tests : (t : Bool) (vs : List ℕ) → length vs ≡ first_count + own_count (cond t two one)
    → (below (powers first_widths) (firsts_of vs) && below (powers (own_widths (cond t two one))) (owns_of (cond t two one) vs))
    ≡ below (powers (take first_count first_widths ++ take (own_count (cond t two one)) (own_widths (cond t two one)))) vs
unfolding below
header_tests true vs l =
    rw (missing vs 10 (omega arith)) (sym (below_append (powers (take 8 first_widths)) (fields_of 8 vs) (powers (take 2 (own_widths two))) (fields_from 8 2 vs) refl) ∙ ap (below (powers (take 8 first_widths ++ take 2 (own_widths two)))) (fields_all vs 10 l))
header_tests false vs l = sym (below_append (powers (take 8 first_widths)) (fields_of 8 vs) [] [] refl) ∙ ap (below (powers (take 8 first_widths))) (fields_all vs 8 l)

record_tests : (t : Bool) (vs : List ℕ) → length vs ≡ cond t 11 13
    → below (powers (cond t plate_widths member_widths)) (fields_of (length (cond t plate_widths member_widths)) vs) ≡ below (powers (take (cond t 11 13) (cond t plate_widths member_widths))) vs
unfolding below
record_tests true vs l = rw (missing vs 11 (omega arith)) (ap (below (powers (take 11 plate_widths))) (fields_all vs 11 l))
record_tests false vs l = ap (below (powers member_widths)) (fields_all vs 13 l)

-- of a line that is not known only the first
and_true : (t : Bool) → (t && true) ≡ t
and_true true = refl
and_true false = refl

header_first : (t : Bool) (x : ℕ)
    → (below (powers first_widths) (firsts_of (x ∷ replicate 12 0)) && below (powers (own_widths (cond t two one))) (owns_of (cond t two one) (x ∷ replicate 12 0))) ≡ ltb x (2 ^ first_width true)
unfolding below
header_first true x = and_true (ltb x 16 && true) ∙ and_true (ltb x 16)
header_first false x = and_true (ltb x 16 && true) ∙ and_true (ltb x 16)

record_first : (t : Bool) (x : ℕ) → below (powers (cond t plate_widths member_widths)) (fields_of (length (cond t plate_widths member_widths)) (x ∷ replicate 12 0)) ≡ ltb x (2 ^ first_width false)
unfolding below
record_first true x = and_true (ltb x 16)
record_first false x = and_true (ltb x 16)

-- how many widths there are, none of them over 29
widths_fine : (head : Bool) (k : ℕ) → (narrow (widths_for head k) ≡ true) × (length (widths_for head k) ≡ count_for head k)
widths_fine true k = go (eqb k 2)
  where
    go : (t : Bool) → (narrow (take first_count first_widths ++ take (own_count (cond t two one)) (own_widths (cond t two one))) ≡ true)
        × (length (take first_count first_widths ++ take (own_count (cond t two one)) (own_widths (cond t two one))) ≡ first_count + own_count (cond t two one))
    go true = (refl, refl)
    go false = (refl, refl)
widths_fine false k = go (ltb k 5)
  where
    go : (t : Bool) → (narrow (take (cond t 11 13) (cond t plate_widths member_widths)) ≡ true) × (length (take (cond t 11 13) (cond t plate_widths member_widths)) ≡ cond t 11 13)
    go true = (refl, refl)
    go false = (refl, refl)

-- the tests of a line whose version or kind is known and which has as many fields, and of one where it is not
fitting_known : (head : Bool) (fs : List (List ℕ)) → known head fs ≡ true → length fs ≡ count_for head (first_in fs) → fitting head fs ≡ below (powers (widths_for head (first_in fs))) (map value_in fs)
fitting_known true fs e l = rw e (header_tests (eqb (first_in fs) 2) (map value_in fs) (length-map fs value_in ∙ l))
fitting_known false fs e l = rw e (record_tests (ltb (first_in fs) 5) (map value_in fs) (length-map fs value_in ∙ l))

fitting_unknown : (head : Bool) (fs : List (List ℕ)) → known head fs ≡ false → fitting head fs ≡ ltb (first_in fs) (2 ^ first_width head)
fitting_unknown true fs e = rw e (header_first (eqb (first_in fs) 2) (first_in fs))
fitting_unknown false fs e = rw e (record_first (ltb (first_in fs) 5) (first_in fs))

-- ---- the first field's width

first_bits : (head : Bool) → first_width head ≡ 4
first_bits true = refl
first_bits false = refl

misspelt_some : {ws : List ℕ} {fs : List (List ℕ)} → Misspelt ws fs → 1 ≤ length ws
misspelt_some (here n) = omega arith
misspelt_some (behind m) = omega arith

first_not : {fs : List (List ℕ)} → Misspelt (4 ∷ []) fs → ltb (first_in fs) 16 ≡ false
first_not (here {f = f} n) = go (ltb (value_in f) 16) refl
  where
    go : (t : Bool) → ltb (value_in f) 16 ≡ t → ltb (value_in f) 16 ≡ false
    go true e = absurd (n ((spells_exactly 4 f (omega arith)).0 (ltb-true (value_in f) 16 e)))
    go false e = e
first_not (behind m) = absurd (omega (arith, misspelt_some m))

not_first : (fs : List (List ℕ)) → ltb (first_in fs) 16 ≡ false → Misspelt (4 ∷ []) fs
not_first [] e = clash refl e
not_first (f ∷ fs) e = let four : 4 ≤ 29 = omega arith in here (λ s. clash (lt-ltb (value_in f) 16 ((spells_exactly 4 f four).1 s)) e)

-- ---- the tests and the fault

-- the test that a line fails, and the refusal
abbrev pub Fails : (head : Bool) → List (List ℕ) → (number : ℕ) → Type 0
Fails head fs n = ((n ≡ 15) × (miscounted head fs ≡ true)) ⊎ ((n ≡ 14) × (miscounted head fs ≡ false) × (fitting head fs ≡ false))

module _ (head : Bool) (fs : List (List ℕ)) where
  -- a line that is at fault fails a test
  pub amiss_tests : {n : ℕ} → Amiss head fs n → Fails head fs n
  amiss_tests (count k n d) =
      let uneven = ne_eqb (length fs) (count_for head (first_in fs)) (λ e. d (e ∙ ap (count_for head) (named_first head fs k n))) in
      inl (refl, ap₂ {C = Bool} (λ a b. a && not b) (named_known head fs k n) uneven)
  amiss_tests (field k n l m) =
      let is = named_first head fs k n in
      let kn = named_known head fs k n in
      let as_many : length fs ≡ count_for head (first_in fs) = l ∙ sym (ap (count_for head) is) in
      inr (
        refl,
        ap₂ {C = Bool} (λ a b. a && not b) kn (eq-eqb (length fs) (count_for head (first_in fs)) as_many),
        fitting_known head fs kn as_many ∙ misspelt_not (subst (λ (j : ℕ). Misspelt (widths_for head j) fs) (sym is) m) (widths_fine head (first_in fs)).0,
      )
  amiss_tests (first unnamed m) = go (known head fs) refl
    where
      go : (t : Bool) → known head fs ≡ t → Fails head fs 14
      go true e = absurd (unnamed (first_in fs) (known_named head fs e))
      go false e =
          inr (
            refl,
            ap (λ (a : Bool). a && not (eqb (length fs) (count_for head (first_in fs)))) e,
            fitting_unknown head fs e ∙ ap (λ (w : ℕ). ltb (first_in fs) (2 ^ w)) (first_bits head) ∙ first_not (subst (λ (w : ℕ). Misspelt (w ∷ []) fs) (first_bits head) m),
          )

  -- and one that fails a test is at fault
  pub tests_15 : miscounted head fs ≡ true → Amiss head fs 15
  tests_15 e =
      let h = both (known head fs) (not (eqb (length fs) (count_for head (first_in fs)))) e in
      count (first_in fs) (known_named head fs h.0) (go (eqb (length fs) (count_for head (first_in fs))) refl h.1)
    where
      go : (t : Bool) → eqb (length fs) (count_for head (first_in fs)) ≡ t → not t ≡ true → length fs ≡ count_for head (first_in fs) → ⊥
      go true f g = clash g refl
      go false f g = eqb-false (length fs) (count_for head (first_in fs)) f

  pub tests_14 : miscounted head fs ≡ false → fitting head fs ≡ false → Amiss head fs 14
  tests_14 e f = go (known head fs) refl
    where
      go : (t : Bool) → known head fs ≡ t → Amiss head fs 14
      go true k =
          let l : length fs ≡ count_for head (first_in fs) = counted (known head fs) (length fs) (count_for head (first_in fs)) k e in
          let w = widths_fine head (first_in fs) in
          field (first_in fs) (known_named head fs k) l (not_misspelt (widths_for head (first_in fs)) fs w.0 (l ∙ sym w.1) (sym (fitting_known head fs k l) ∙ f))
      go false k =
          first (λ j n. clash (named_known head fs j n) k)
          (subst (λ (w : ℕ). Misspelt (w ∷ []) fs) (sym (first_bits head)) (not_first fs (sym (ap (λ (w : ℕ). ltb (first_in fs) (2 ^ w)) (first_bits head)) ∙ sym (fitting_unknown head fs k) ∙ f)))
