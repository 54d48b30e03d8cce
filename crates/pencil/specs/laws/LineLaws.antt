-- Lines taken one by one.
-- Assumes nothing.
use Prim.Native.Nat.{ℕ, suc, ◌+◌, ◌*◌, ◌≤◌, ◌<◌}
use Rattle.std.specs.Prelude.{◌≡◌, refl}
use Rattle.std.proofs.Math.Path.{sym, ap}
use Rattle.std.proofs.Common.{◌∙◌, drop_of_length-le, drop-cons}
use mathlib.Core.List.{List, [], ◌∷◌, ◌++◌}
use native.Mathlib.Omega.{arith}
use Rattle.std.proofs.Math.ListN.{length, drop, get_or, length-append}
use Rattle.wording.specs.Words.{pieces}
use Rattle.wording.specs.Writes.{Spot, spot, write_all, text_of, Writes}
use Rattle.wording.specs.laws.WritesLaws.{text_append, write_append, all_length}
use Rattle.pencil.specs.Templates.{text}
use Rattle.pencil.specs.Trail.{longest, line_pieces}

-- the lines from i on are left
pub record Writing (lines given own page₀ : List ℕ) (at : ℕ) (page : List ℕ) (next i : ℕ) : Type 0 where
  pub upto : i ≤ length lines
  pub same : length page ≡ length page₀
  pub ends : write_all (spot page next) (line_pieces given own (drop i lines)) ≡ write_all (spot page₀ at) (line_pieces given own lines)
  pub size : length (text_of (line_pieces given own lines)) ≤ longest * i + length (text_of (line_pieces given own (drop i lines)))

pub begin : (lines given own page : List ℕ) (at : ℕ) → Writing lines given own page at page at 0
begin lines given own page at = record { upto = omega arith; same = refl; ends = refl; size = omega arith }

module _ {lines given own page₀ : List ℕ} {at : ℕ} {page : List ℕ} {next i : ℕ} (p : Writing lines given own page₀ at page next i) where
  pub turn : i < length lines → {after : List ℕ} {place : ℕ} → Writes (pieces given own 0 (text (get_or lines i 0))) longest (spot page next) (spot after place)
      → Writing lines given own page₀ at after place (i + 1)
  unfolding line_pieces
  turn l {after} {place} f =
      let w = drop (i + 1) lines in
      let one = pieces given own 0 (text (get_or lines i 0)) in
      let one_on : suc i ≡ i + 1 = omega arith in
      let whole : line_pieces given own (drop i lines) ≡ one ++ line_pieces given own w
      = ap (line_pieces given own) (drop-cons lines i 0 l ∙ ap (λ (n : ℕ). get_or lines i 0 ∷ drop n lines) one_on) in
      let go : write_all (spot page next) (line_pieces given own (drop i lines)) ≡ write_all (spot after place) (line_pieces given own w)
      = ap (write_all (spot page next)) whole ∙ write_append (spot page next) one _ ∙ ap (λ (s : Spot). write_all s (line_pieces given own w)) (sym f.ends) in
      let sizes = ap (λ (ts : List (List ℕ)). length (text_of ts)) whole ∙ ap length (text_append one _) ∙ length-append (text_of one) _ in
      record {
        upto = omega arith;
        same = ap (λ (s : Spot). length s.bytes) f.ends ∙ all_length (spot page next) one ∙ p.same;
        ends = sym go ∙ p.ends;
        size = omega (arith, p.size, sizes, f.size);
      }

  pub done : length lines ≤ i → Writes (line_pieces given own lines) (longest * length lines) (spot page₀ at) (spot page next)
  unfolding line_pieces write_all text_of
  done l =
      let none : line_pieces given own (drop i lines) ≡ [] = ap (line_pieces given own) (drop_of_length-le lines {i = i} l) in
      record {
        ends = sym (ap (write_all (spot page next)) none) ∙ p.ends;
        size = omega (arith, p.size, p.upto, ap (λ (ts : List (List ℕ)). length (text_of ts)) none);
      }
