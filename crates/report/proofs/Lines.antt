-- The lines of the verdicts, put one after another.
-- Assumes nothing.
use Prim.Native.Nat.{ℕ, suc, ◌+◌, ◌-◌, ◌*◌, ◌≤◌, ◌<◌}
use mathlib.Core.Path.{◌≡◌, refl, sym, ap, ◌∙◌}
use mathlib.Core.List.{List, [], ◌++◌}
use native.Mathlib.Omega.{arith}
use native.Mathlib.Nat.{sub-zero}
use lib.ListN.{length, length-append}
use Rattle.checker.specs.Check.{part}
use Rattle.decimal.specs.Laid.{laid, Laid}
use Rattle.decimal.specs.laws.LaidLaws.{laid_length, laid_laid, laid_none}
use Rattle.report.specs.Page.{longest_line}
use Rattle.report.specs.Pieces.{verdict_text, verdicts_text}
use Rattle.report.specs.laws.PiecesLaws.{verdict_most, verdicts_most}

-- of n lines, those from i on are left, and go to `at` on
pub record Putting (out : List ℕ) (n : ℕ) (page₀ page : List ℕ) (at i : ℕ) : Type 0 where
  pub upto : i ≤ n
  pub short : at ≤ longest_line * i
  pub room : longest_line * n ≤ length page
  pub same : length page ≡ length page₀
  pub place : at + length (verdicts_text out i (n - i)) ≡ length (verdicts_text out 0 n)
  pub bytes : laid page at (verdicts_text out i (n - i)) ≡ laid page₀ 0 (verdicts_text out 0 n)

pub begin : {out : List ℕ} {n : ℕ} {page : List ℕ} → longest_line * n ≤ length page → Putting out n page page 0 0
begin {out} {n} {page} l = record {
  upto = omega arith;
  short = omega arith;
  room = l;
  same = refl;
  place = omega (arith, ap (λ (k : ℕ). length (verdicts_text out 0 k)) (sub-zero n));
  bytes = ap (λ (k : ℕ). laid page 0 (verdicts_text out 0 k)) (sub-zero n);
}

module _ {out : List ℕ} {n : ℕ} {page₀ page : List ℕ} {at i : ℕ} (p : Putting out n page₀ page at i) where
  -- the line of verdict i is put
  pub turn : i < n → {next : ℕ} {after : List ℕ} → Laid page at (verdict_text (part out (4 * i) (4 * i + 4))) next after → Putting out n page₀ after next (i + 1)
  unfolding verdicts_text
  turn l {next} {after} f =
      let x = verdict_text (part out (4 * i) (4 * i + 4)) in
      let rest = verdicts_text out (i + 1) (n - (i + 1)) in
      let m : n - i ≡ suc (n - (i + 1)) = omega arith in
      let step : verdicts_text out i (n - i) ≡ x ++ rest = ap (verdicts_text out i) m in
      let sizes = length-append x rest in
      let few = verdict_most (part out (4 * i) (4 * i + 4)) in
      let fewer = verdicts_most out (i + 1) (n - (i + 1)) in
      let room : at + length x + length rest ≤ length page = omega (arith, p.short, p.room, p.upto) in
      let same : length after ≡ length page = ap length f.bytes ∙ laid_length page at x (omega arith) in
      record {
        upto = omega arith;
        short = omega (arith, f.place, p.short);
        room = omega (arith, p.room);
        same = same ∙ p.same;
        place = omega (arith, f.place, ap length step, p.place);
        bytes = ap (λ (k : List ℕ). laid k next rest) f.bytes ∙ ap (λ (k : ℕ). laid (laid page at x) k rest) f.place ∙ laid_laid page at x rest room ∙ ap (laid page at) (sym step) ∙ p.bytes;
      }

  -- none is left
  pub done : n ≤ i → Laid page₀ 0 (verdicts_text out 0 n) at page
  unfolding verdicts_text
  done l =
      let none : verdicts_text out i (n - i) ≡ [] = let z : n - i ≡ 0 = omega arith in ap (verdicts_text out i) z in
      record { place = omega (arith, ap length none, p.place); bytes = (laid_none page at).bytes ∙ ap (laid page at) (sym none) ∙ p.bytes }
