-- No text is longer than a page, and none rests on more of the sheet or of the output than is there.
-- Assumes nothing.
use Rattle.std.specs.Prelude.{ℕ, ◌+◌, ◌*◌, ◌≤◌, ◌≡◌, refl, List, [], ◌∷◌, ◌++◌, map, length, take, drop, Result}
use Rattle.std.proofs.Common.{sym, ap, ◌∙◌, arith, length-append, take-take}
use Rattle.sheet.specs.declared.Header.{Header}
use Rattle.sheet.specs.declared.Record.{Record}
use Rattle.sheet.specs.Refusals.{Answer, given, refused, told_result}
use Rattle.sheet.specs.laws.RecordBack.{record_read_fine}
use Rattle.checker.specs.Check.{◌then◌, records_part, record_part, Sheet, sheet_in, entry_of, verdicts, failures}
use Rattle.checker.specs.Entry.{entry_values}
use Rattle.checker.specs.Unjudged.{room}
use Rattle.checker.specs.Whole.{Taken, next}
use Rattle.checker.specs.laws.CheckLaws.{sheet_whole}
use Rattle.checker.specs.laws.Sound.{entry_sound}
use Rattle.checker.specs.laws.Longer.{sheet_cut}
use Rattle.sheet.specs.Versions.{enough}
use Rattle.checker.specs.Rows.{Refusable}
use Rattle.checker.specs.laws.Bounds.{sheet_told, sheet_counts}
use Rattle.report.specs.Text.{lines_of, printed, line, lines_text, refused_word, text_by, text_of}
use Rattle.report.specs.laws.TextLaws.{pair_most, entry_most, lines_last}
use Rattle.report.specs.Page.{longest_line, longest, Tells}
use Rattle.report.specs.laws.PageLaws.{told_all}
use Rattle.sheet.specs.declared.Refusal.{Refusal}

-- ---- the longest

lines_most : (h : Header) (s : List ℕ) (i before : ℕ) (rs : List Record) → Taken s i before rs → length (lines_text (map entry_values (map (entry_of h) rs))) ≤ longest_line * length rs
unfolding lines_text
lines_most h s i before [] t = omega arith
lines_most h s i before (r ∷ rs) (next e o t) =
    let x = line (entry_values (entry_of h r)) in
    let rest = lines_text (map entry_values (map (entry_of h) rs)) in
    omega (arith, length-append x rest, entry_most (entry_of h r) (entry_sound h r (record_read_fine i (record_part s i) r e)), lines_most h s (i + 1) r.id rs t)

sheet_most : (s : List ℕ) (t : Sheet) → sheet_in s room ≡ given t → length (lines_text (lines_of t)) ≤ longest
unfolding verdicts
sheet_most s t e =
    let w = sheet_whole s room t e in
    let k = sheet_counts s room t e in
    let vs = lines_text (map entry_values (verdicts t)) in
    let totals = t.header.count ∷ failures (verdicts t) ∷ [] in
    omega (
      arith,
      ap length (lines_last (map entry_values (verdicts t)) totals),
      length-append vs (line totals),
      lines_most t.header (records_part t.header s) 0 0 t.records w.records,
      w.number,
      k.records,
      pair_most 2 2 t.header.count (failures (verdicts t)) (omega (arith, k.records)) (omega (arith, k.failed)),
    )

-- every text has room on a page
pub text_most : (s : List ℕ) → length (text_of s) ≤ longest
unfolding text_of printed text_by ◌then◌
text_most s = go (sheet_in s room) refl (sheet_told s room)
  where
    go : (x : Answer Sheet) → sheet_in s room ≡ x → Refusable x → length (text_by (x then λ t. given (lines_of t))) ≤ longest
    go (given t) e r = sheet_most s t e
    go (refused k p) e r =
        let most = pair_most 0 4 k p (omega (arith, r.last)) (omega (arith, r.inside)) in
        omega (arith, length-append refused_word (line (k ∷ p ∷ [])), most)

-- so that a slice as long as a page is never too short
pub answer_told : (s o : List ℕ) (r : Result ℕ Refusal) (after : List ℕ) → longest ≤ length o → Tells (text_of s) o r after → (told_result r ≡ given (length (text_of s))) × (after ≡ text_of s ++ drop (length (text_of s)) o)
answer_told s o r after l t = told_all (text_of s) o r after (omega (arith, text_most s)) t

-- ---- the sheet's length

-- what is read of a sheet up to there, or further, says what is printed of the whole
pub text_cut : (n : ℕ) (s : List ℕ) → enough ≤ n → text_of (take n s) ≡ text_of s
unfolding text_of printed
text_cut n s l =
    let cut : sheet_in (take n s) room ≡ sheet_in s room = sym (sheet_cut (take n s) room) ∙ ap (λ (b : List ℕ). sheet_in b room) (take-take enough n s l) ∙ sheet_cut s room in
    rw cut
