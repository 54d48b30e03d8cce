-- A work is written as the sections that it shows, and the page has room for every trail, so that none is cut.
-- Assumes nothing.
use Rattle.std.specs.Prelude.{ℕ, zero, suc, ◌+◌, ◌-◌, ◌*◌, ◌≤◌, ◌≡◌, List, ◌++◌, length, drop, replicate}
use Rattle.std.proofs.Common.{sym, ap, subst, ◌∙◌, arith}
use Rattle.std.proofs.Math.Nat.{sub-zero}
use Rattle.std.proofs.lemmas.List.{length-replicate}
use Rattle.decimal.specs.laws.LaidLaws.{laid_front}
use Rattle.wording.specs.Writes.{Spot, spot, Writes}
use Rattle.wording.specs.laws.WritesLaws.{all_laid}
use Rattle.pencil.specs.declared.Section.{Section}
use Rattle.pencil.specs.declared.Work.{Work}
use Rattle.pencil.specs.Trail.{longest, line_pieces, Told, Tells, Sections, Shows, section_pieces, work_pieces, all_pieces, sections_text, room, Written}

-- a section's pieces are those of what it tells
told : {g k : List ℕ} {t : Told} {s : Section} → g ≡ k → Tells t s → line_pieces g s.own s.lines ≡ section_pieces k t
told e f = rw (e, f.lines, f.own)

-- zeros from a place on
blank_from : (n k : ℕ) → drop k (replicate {A = ℕ} n 0) ≡ replicate (n - k) 0
blank_from n zero = ap (λ (m : ℕ). replicate {A = ℕ} m 0) (sym (sub-zero n))
blank_from zero (suc k) = let e : 0 ≡ 0 - suc k = omega arith in ap (λ (m : ℕ). replicate {A = ℕ} m 0) e
blank_from (suc n) (suc k) = let e : n - k ≡ suc n - suc k = omega arith in blank_from n k ∙ ap (λ (m : ℕ). replicate {A = ℕ} m 0) e

shown : (t : Sections) (w : Work) → Shows t w → work_pieces w ≡ all_pieces t
shown t w f = rw (told f.given f.head, told f.given f.one, told f.given f.two, told f.given f.three)

-- thirty-six templates on an empty page
pub on_blank : (t : Sections) (w : Work) → Shows t w → {len : ℕ} {after : List ℕ} → Writes (work_pieces w) (longest * 36) (spot (replicate room 0) 0) (spot after len)
    → Written (sections_text t) (record { bytes = after; len = len })
on_blank t w s {len} {after} v =
    let text = sections_text t in
    let f : Writes (all_pieces t) (longest * 36) (spot (replicate room 0) 0) (spot after len)
    = subst (λ (ts : List (List ℕ)). Writes ts (longest * 36) (spot (replicate room 0) 0) (spot after len)) (shown t w s) v in
    let fits : 0 + length text ≤ length (replicate {A = ℕ} room 0) = omega (arith, f.size, length-replicate {A = ℕ} room 0) in
    let ends = f.ends ∙ all_laid (all_pieces t) (replicate room 0) 0 fits in
    let next : len ≡ 0 + length text = ap (λ (s : Spot). s.next) ends in
    record {
      len = omega (arith, next);
      bytes = ap (λ (s : Spot). s.bytes) ends ∙ laid_front (replicate room 0) text ∙ ap (λ (x : List ℕ). text ++ x) (blank_from room (length text));
    }
