-- The hull of a sound header is too slender exactly as the table says.
-- Assumes nothing.
use Rattle.std.specs.Prelude.{ℕ, ◌*◌, ◌≤◌, ◌≡◌, refl, Bool, true, false, cond, ◌||◌, List, ◌++◌, get_or, ltb, eqb}
use Rattle.std.proofs.Common.{sym, ◌∙◌, arith, lt-ltb, ltb-true, ne_eqb, eqb-true}
use Rattle.quantity.specs.Range.{within, from}
use Rattle.layout.specs.Line.{among}
use Rattle.quantity.specs.laws.RangeLaws.{low_high}
use Rattle.truth.specs.laws.Tests.{clash, false_of}
use Rattle.sheet.specs.declared.Own.TheVariants.{One, Two}
use Rattle.sheet.specs.Versions.{one, two, numbered}
use Rattle.sheet.specs.Lines.{waves}
use Rattle.sheet.specs.Header.{first_fields, own_fields, version_field, header_of}
use Rattle.sheet.specs.Slender.{beyond_of, beyond_own, too_slender}
use Rattle.sheet.specs.Exactly.{Exactly}
use Rattle.demands.specs.Table.{length_of, wave_of, depth_of, HeaderSound, TooSlender, at_60, from_120}

-- a wave height that the header may have is 0, 60, or at least 120
data Sea (H : ℕ) : Type 0 where
  still : H ≡ 0 → Sea H
  low : H ≡ 60 → Sea H
  high : 120 ≤ H → Sea H

sea_of : (H : ℕ) → among waves H ≡ true → Sea H
sea_of H e = go (within (from 0 0) H) refl (within (from 60 60) H) refl e
  where
    go : (x : Bool) → within (from 0 0) H ≡ x → (y : Bool) → within (from 60 60) H ≡ y → (x || (y || within (from 120 120) H)) ≡ true → Sea H
    go true a y b f = still (let r = low_high (from 0 0) H a in omega arith)
    go false a true b f = low (let r = low_high (from 60 60) H b in omega arith)
    go false a false b f = high (low_high (from 120 120) H f).0

-- the test in each of them
module _ (L depth H : ℕ) where
  in_still : H ≡ 0 → beyond_of L depth H ≡ false
  in_still w = rw w

  in_low : H ≡ 60 → beyond_of L depth H ≡ ltb (35 * depth) L
  in_low w = rw w

  in_high : 120 ≤ H → beyond_of L depth H ≡ ltb (25 * depth) L
  in_high w = rw (ne_eqb H 0 (λ z. omega arith), ne_eqb H 60 (λ z. omega arith))

module _ (s : List ℕ) where
  abbrev L : ℕ
  L = length_of s

  abbrev depth : ℕ
  depth = depth_of s

  abbrev H : ℕ
  H = wave_of s

  pub later_version : TooSlender s → 2 ≤ version_field s
  later_version (at_60 later w l) = later
  later_version (from_120 later w l) = later

  told_beyond : TooSlender s → beyond_of L depth H ≡ true
  told_beyond (at_60 later w l) = in_low L depth H w ∙ lt-ltb (35 * depth) L l
  told_beyond (from_120 later w l) = in_high L depth H w ∙ lt-ltb (25 * depth) L l

  beyond_told : 2 ≤ version_field s → Sea H → beyond_of L depth H ≡ true → TooSlender s
  beyond_told later (still w) b = clash b (in_still L depth H w)
  beyond_told later (low w) b = at_60 later w (ltb-true (35 * depth) L (sym (in_low L depth H w) ∙ b))
  beyond_told later (high w) b = from_120 later w (ltb-true (25 * depth) L (sym (in_high L depth H w) ∙ b))

  -- in version 2 the header's depth is the table's
  in_second_lem : (t : Bool) → t ≡ true
      → beyond_own L H (cond t (Two (record { inner_modulus = get_or (own_fields (cond t two one) s) 0 0; depth = record { 0 = get_or (own_fields (cond t two one) s) 1 0 } })) One)
      ≡ beyond_of L (get_or (first_fields s ++ own_fields (cond t two one) s) 10 0) H
  in_second_lem true e = refl
  in_second_lem false e = clash e refl

  module _ (f : HeaderSound s) where
    -- a version that is not the second is the first
    first_version : eqb (version_field s) two.number ≡ false → version_field s ≡ 1
    first_version e = let r = low_high _ (version_field s) f.fields.0 in let n : (numbered (version_field s)).number ≡ 1 = rw e in omega (arith, n, r.0, r.1)

    -- the hull of a sound header is too slender exactly as the table says
    pub slender_read : Exactly (too_slender (header_of s) ≡ true) (TooSlender s)
    slender_read = go (eqb (version_field s) two.number) refl
      where
        go : (t : Bool) → eqb (version_field s) two.number ≡ t → Exactly (too_slender (header_of s) ≡ true) (TooSlender s)
        go true e =
            let same : too_slender (header_of s) ≡ beyond_of L depth H = in_second_lem (eqb (version_field s) two.number) e in
            let later : 2 ≤ version_field s = omega (arith, eqb-true (version_field s) two.number e) in
            (λ b. beyond_told later (sea_of H f.fields.1.1.1.0) (sym same ∙ b), λ z. same ∙ told_beyond z)
        go false e = (λ b. let none : too_slender (header_of s) ≡ false = rw e in clash b none, λ z. absurd (omega (arith, first_version e, later_version z)))

    pub slim_read : (TooSlender s → ⊥) → too_slender (header_of s) ≡ false
    slim_read n = false_of (too_slender (header_of s)) (λ e. n (slender_read.0 e))
