-- The versions: a number goes by its own version or by none; and how many bytes a header needs.
-- Assumes nothing.
use Rattle.std.specs.Prelude.{ℕ, suc, ◌+◌, ◌-◌, ◌*◌, ◌≤◌, ◌<◌, ◌≡◌, refl, Bool, true, false, cond, ◌&&◌, List, [], ◌∷◌, length, eqb, leb, ltb}
use Rattle.std.proofs.Common.{ap, subst, ◌∙◌, arith, eq-eqb, ne_eqb, le-leb, leb-true, ltb-true, eqb-true}
use Rattle.std.proofs.Math.Decide.{dec_lt, ℕ_discrete}
use Rattle.quantity.specs.Range.{within}
use Rattle.layout.specs.Layout.{total, bytes}
use Rattle.layout.specs.Line.{lines_fit}
use Rattle.quantity.specs.laws.RangeLaws.{low_high}
use Rattle.truth.specs.laws.Tests.{both, clash, false_of}
use Rattle.sheet.specs.declared.Own.{Own}
use Rattle.sheet.specs.declared.Own.TheVariants.{One, Two}
use Rattle.sheet.specs.Versions.{Under, under_first, under_own, Version, first_bytes, one, later, versions, version_numbers, found, numbered, version_of, bytes_needed, most_records, longest_sheet}
use Rattle.sheet.specs.Lines.{header_lines, own_widths}
use Rattle.sheet.specs.Exactly.{Exactly}

-- ---- what all versions have in common

-- there are bytes for the first fields, the own fields fill the others, which are fewer than a record's, every value fits its field, no sheet has more than
-- `most_records` records or `longest_sheet` bytes, and a field's number has five bits
pub record Regular (v : Version) : Type 0 where
  pub least : first_bytes ≤ v.size
  pub less : v.size < first_bytes + 16
  pub filled : total (own_widths v) ≡ total (bytes (v.size - first_bytes))
  pub fit : lines_fit (header_lines v) ≡ true
  pub few : v.most ≤ most_records
  pub short : v.size + 16 * v.most ≤ longest_sheet
  pub named : length (header_lines v) < 32

-- the same as a test
abbrev is_regular : Version → Bool
is_regular v =
    leb first_bytes v.size
    && (ltb v.size (first_bytes + 16)
    && (eqb (total (own_widths v)) (total (bytes (v.size - first_bytes)))
    && (lines_fit (header_lines v)
    && (leb v.most most_records
    && (leb (v.size + 16 * v.most) longest_sheet
    && ltb (length (header_lines v)) 32)))))

tested : (v : Version) → is_regular v ≡ true → Regular v
tested v e =
    let a = both _ _ e in
    let b = both _ _ a.1 in
    let c = both _ _ b.1 in
    let d = both _ _ c.1 in
    let f = both _ _ d.1 in
    let g = both _ _ f.1 in
    record {
      least = leb-true _ _ a.0;
      less = ltb-true _ _ b.0;
      filled = eqb-true _ _ c.0;
      fit = d.0;
      few = leb-true _ _ f.0;
      short = leb-true _ _ g.0;
      named = ltb-true _ _ g.1;
    }

-- whether every version of a list passes a test; then so does the version of any number
abbrev every : (Version → Bool) → List Version → Bool
every t [] = true
every t (v ∷ vs) = t v && every t vs

found_every : (t : Version → Bool) → t one ≡ true → (vs : List Version) (k : ℕ) → every t vs ≡ true → t (found vs k) ≡ true
found_every t first [] k e = first
found_every t first (v ∷ vs) k e = go (eqb k v.number) (found_every t first vs k (both (t v) (every t vs) e).1)
  where
    go : (b : Bool) → t (found vs k) ≡ true → t (cond b v (found vs k)) ≡ true
    go true f = (both (t v) (every t vs) e).0
    go false f = f

pub regular_at : (k : ℕ) → Regular (numbered k)
regular_at k = tested (numbered k) (found_every is_regular refl later k refl)

-- a version's number goes by it
pub numbered_own : (o : Own) (k : ℕ) → k ≡ (version_of o).number → numbered k ≡ version_of o
numbered_own One k e = ap numbered e
numbered_own (Two s) k e = ap numbered e

pub regular : (o : Own) → Regular (version_of o)
regular o = subst Regular (numbered_own o (version_of o).number refl) (regular_at (version_of o).number)

-- ---- the versions are numbered one after the other

abbrev counted_from : ℕ → List Version → Bool
counted_from j [] = true
counted_from j (v ∷ vs) = eqb v.number j && counted_from (suc j) vs

-- so a number within a list is that of the version found, and by any other version 1 is found
found_own : (vs : List Version) (j k : ℕ) → counted_from j vs ≡ true → j ≤ k → k < j + length vs → k ≡ (found vs k).number
found_own [] j k c l m = absurd (omega arith)
found_own (v ∷ vs) j k c l m = go (ℕ_discrete k v.number) (λ n. found_own vs (suc j) k counted.1 (omega (arith, first, n)) (omega arith))
  where
    counted : (eqb v.number j ≡ true) × (counted_from (suc j) vs ≡ true)
    counted = both (eqb v.number j) (counted_from (suc j) vs) c

    first : v.number ≡ j
    first = eqb-true v.number j counted.0

    go : Dec (k ≡ v.number) → ((k ≡ v.number → ⊥) → k ≡ (found vs k).number) → k ≡ (found (v ∷ vs) k).number
    go (yes e) f = rw (eq-eqb k v.number e) e
    go (no n) f = rw (ne_eqb k v.number n) (f n)

found_first : (vs : List Version) (j k : ℕ) → counted_from j vs ≡ true → (j ≤ k → k < j + length vs → ⊥) → found vs k ≡ one
found_first [] j k c out = refl
found_first (v ∷ vs) j k c out =
    let counted = both (eqb v.number j) (counted_from (suc j) vs) c in
    let first : v.number ≡ j = eqb-true v.number j counted.0 in
    rw (ne_eqb k v.number (λ e. out (omega arith) (omega arith)))
    (found_first vs (suc j) k counted.1 (λ l m. out (omega arith) (omega arith)))

-- a number goes by a version that has it exactly where it is one of theirs
pub number_own : (k : ℕ) → within version_numbers k ≡ true → k ≡ (numbered k).number
number_own k e = go (dec_lt k 2)
  where
    inside : (1 ≤ k) × (k ≤ length versions)
    inside = low_high version_numbers k e

    go : Dec (k < 2) → k ≡ (numbered k).number
    go (yes l) = rw (found_first later 2 k refl (λ a b. omega arith)) (omega (arith, inside))
    go (no l) = found_own later 2 k refl (omega arith) (omega (arith, inside))

pub own_number : (k : ℕ) → k ≡ (numbered k).number → within version_numbers k ≡ true
own_number k e = go (dec_lt k 2) (dec_lt k (2 + length later))
  where
    first : (2 ≤ k → k < 2 + length later → ⊥) → within version_numbers k ≡ true
    first out = rw (e ∙ ap (λ (v : Version). v.number) (found_first later 2 k refl out))

    go : Dec (k < 2) → Dec (k < 2 + length later) → within version_numbers k ≡ true
    go (yes l) d = first (λ a b. omega arith)
    go (no l) (yes m) = rw (le-leb 1 k (omega arith), le-leb k (length versions) (omega arith))
    go (no l) (no m) = first (λ a b. m b)

pub other_number : (k : ℕ) → Exactly (k ≡ (numbered k).number → ⊥) (within version_numbers k ≡ false)
other_number k = (λ n. false_of (within version_numbers k) (λ e. n (number_own k e)), λ e q. clash (own_number k q) e)

-- ---- how many bytes are needed

module _ (k : ℕ) (v : Version) where
  pub needs_own : k ≡ v.number → bytes_needed k v ≡ v.size
  needs_own e = rw (eq-eqb k v.number e)

  pub needs_first : (k ≡ v.number → ⊥) → bytes_needed k v ≡ first_bytes
  needs_first n = rw (ne_eqb k v.number n)

  pub needs_most : first_bytes ≤ v.size → bytes_needed k v ≤ v.size
  needs_most l = go (ℕ_discrete k v.number)
    where
      go : Dec (k ≡ v.number) → bytes_needed k v ≤ v.size
      go (yes e) = omega (arith, needs_own e)
      go (no n) = omega (arith, needs_first n)

  module _ (least : first_bytes ≤ v.size) (len : ℕ) where
    pub under_exactly : Exactly (len < bytes_needed k v) (Under len k v)
    under_exactly = (forth (ℕ_discrete k v.number), back (ℕ_discrete k v.number))
      where
        forth : Dec (k ≡ v.number) → len < bytes_needed k v → Under len k v
        forth (yes e) l = under_own e (omega (arith, needs_own e))
        forth (no n) l = under_first (omega (arith, needs_first n))

        back : Dec (k ≡ v.number) → Under len k v → len < bytes_needed k v
        back d (under_own e l) = omega (arith, needs_own e)
        back (yes e) (under_first l) = omega (arith, needs_own e)
        back (no n) (under_first l) = omega (arith, needs_first n)
