-- Words taken byte by byte.
-- Assumes nothing.
use Prim.Native.Nat.{ℕ, suc, ◌+◌, ◌≤◌, ◌<◌}
use Rattle.std.specs.Prelude.{◌≡◌, refl}
use Rattle.std.proofs.Math.Path.{sym, ap}
use Rattle.std.proofs.Common.{◌∙◌}
use mathlib.Core.List.{List, [], ◌∷◌, ◌++◌}
use native.Mathlib.Omega.{arith}
use Rattle.std.proofs.Math.ListN.{length, drop, get_or, length-append, drop_of_length-le}
use Rattle.std.proofs.Math.Seq.{drop-cons}
use Rattle.wording.specs.Words.{piece_of, behind, pieces, room_of, most}
use Rattle.wording.specs.Writes.{Spot, spot, write_all, text_of, Writes}
use Rattle.wording.specs.laws.WritesLaws.{text_append, write_append, all_length}

-- of the words those from i on are left, behind this mark
pub record Filling (words given own page₀ : List ℕ) (at : ℕ) (page : List ℕ) (next mark i : ℕ) : Type 0 where
  pub upto : i ≤ length words
  pub same : length page ≡ length page₀
  pub ends : write_all (spot page next) (pieces given own mark (drop i words)) ≡ write_all (spot page₀ at) (pieces given own 0 words)
  pub size : length (text_of (pieces given own 0 words)) + most mark (drop i words) ≤ most 0 words + length (text_of (pieces given own mark (drop i words)))

pub begin : (words given own page : List ℕ) (at : ℕ) → Filling words given own page at page at 0 0
begin words given own page at = record { upto = omega arith; same = refl; ends = refl; size = omega arith }

module _ {words given own page₀ : List ℕ} {at : ℕ} {page : List ℕ} {next mark i : ℕ} (p : Filling words given own page₀ at page next mark i) where
  -- the byte at i is put
  pub turn : i < length words → {after : List ℕ} {place on : ℕ} → on ≡ behind mark (get_or words i 0)
      → Writes (piece_of given own mark (get_or words i 0)) (room_of mark) (spot page next) (spot after place)
      → Filling words given own page₀ at after place on (i + 1)
  unfolding pieces most
  turn l {after} {place} {on} u f =
      let b = get_or words i 0 in
      let w = drop (i + 1) words in
      let one = piece_of given own mark b in
      let one_on : suc i ≡ i + 1 = omega arith in
      let cut : drop i words ≡ b ∷ w = drop-cons words i 0 l ∙ ap (λ (n : ℕ). b ∷ drop n words) one_on in
      let whole : pieces given own mark (drop i words) ≡ one ++ pieces given own on w
      = ap (pieces given own mark) cut ∙ ap (λ (m : ℕ). one ++ pieces given own m w) (sym u) in
      let go : write_all (spot page next) (pieces given own mark (drop i words)) ≡ write_all (spot after place) (pieces given own on w)
      = ap (write_all (spot page next)) whole ∙ write_append (spot page next) one _ ∙ ap (λ (s : Spot). write_all s (pieces given own on w)) (sym f.ends) in
      let sizes = ap (λ (ts : List (List ℕ)). length (text_of ts)) whole ∙ ap length (text_append one _) ∙ length-append (text_of one) _ in
      let long_most : most mark (drop i words) ≡ room_of mark + most on w = ap (most mark) cut ∙ ap (λ (m : ℕ). room_of mark + most m w) (sym u) in
      record {
        upto = omega arith;
        same = ap (λ (s : Spot). length s.bytes) f.ends ∙ all_length (spot page next) one ∙ p.same;
        ends = sym go ∙ p.ends;
        size = omega (arith, p.size, sizes, f.size, long_most);
      }

  -- none is left
  pub done : length words ≤ i → Writes (pieces given own 0 words) (most 0 words) (spot page₀ at) (spot page next)
  unfolding pieces most write_all text_of
  done l =
      let over : drop i words ≡ [] = drop_of_length-le words {i = i} l in
      let none : pieces given own mark (drop i words) ≡ [] = ap (pieces given own mark) over in
      record {
        ends = sym (ap (write_all (spot page next)) none) ∙ p.ends;
        size = omega (arith, p.size, ap (λ (ts : List (List ℕ)). length (text_of ts)) none);
      }
