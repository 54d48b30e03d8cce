-- What is made of the input is in the output, what is printed of a text is what is printed of its sheet, and no more of a sheet has to be read than is.
-- Assumes nothing.
use Rattle.std.specs.Prelude.{ℕ, ◌≤◌, ◌≡◌, refl, List, [], ◌∷◌, ◌++◌, length, take, drop, Result, Ok, Err, Bool, true, false, cond, eqb, Option, Some, None}
use Rattle.std.specs.Option.{unwrap_or}
use Rattle.std.proofs.Common.{sym, ap, ap₂, ◌∙◌, arith, length-append, take_at, take-take}
use Rattle.sheet.specs.declared.Refusal.{Refusal}
use Rattle.sheet.specs.Versions.{longest_sheet, enough}
use Rattle.sheet.specs.Refusals.{Answer, given, refused, number_of, place_of}
use Rattle.sheet.specs.laws.RefusalLaws.{given_same, given_refused, refused_number, refused_place}
use Rattle.checker.specs.Check.{◌then◌, sheet_in}
use Rattle.checker.specs.Unjudged.{room, sound_sheet}
use Rattle.checker.specs.laws.Longer.{sheet_cut}
use Rattle.report.specs.Text.{line, refused_word, printed, text_by, text_of}
use Rattle.report.specs.Pieces.{refusal_text}
use Rattle.sheet_csv.specs.Read.{length_of, output_by, Converts}
use Rattle.sheet_csv.specs.Table.{table_from}
use Rattle.sheet_csv.specs.Write.{text_from}
use Rattle.barge_text.specs.Convert.{MadeInside, line_in, line_of, printed_text, printed_by}

-- ---- the output

-- what stands in front of it has no more bytes than it
within : (a : Answer (List ℕ)) (o : List ℕ) (n : ℕ) (after : List ℕ) → length after ≡ length o → Converts a o (Ok n) after → n ≤ length o
within a o n after k d = go a refl
  where
    go : (x : Answer (List ℕ)) → a ≡ x → n ≤ length o
    go (given b) e = omega (arith, given_same (d.answer ∙ ap length_of e), ap length (d.bytes ∙ ap (λ (x : Answer (List ℕ)). output_by x o) e), length-append b (drop (length b) o))
    go (refused m p) e = given_refused (d.answer ∙ ap length_of e)

pub made_inside : (a : Answer (List ℕ)) (o : List ℕ) (r : Result ℕ Refusal) (after : List ℕ) → length after ≡ length o → Converts a o r after → MadeInside r (length after)
made_inside a o (Ok n) after k d = omega (arith, within a o n after k d)
made_inside a o (Err x) after k d = tt

-- ---- what is printed of a text

refusal_text_lem : (r : Refusal) (k p : ℕ) → number_of r ≡ k → place_of r ≡ p → refusal_text r ≡ text_by (refused k p)
unfolding refusal_text text_by
refusal_text_lem r k p e f = ap₂ {C = List ℕ} (λ x y. refused_word ++ line (x ∷ y ∷ [])) e f

by_answer : (a : Answer (List ℕ)) (o : List ℕ) (r : Result ℕ Refusal) (after : List ℕ) → Converts a o r after → printed_by r after ≡ text_by (a then printed)
unfolding ◌then◌ text_of
by_answer (given b) o (Ok n) after d = ap text_of (ap (take n) d.bytes ∙ take_at b (drop (length b) o) n (sym (given_same d.answer)))
by_answer (given b) o (Err x) after d = given_refused (sym d.answer)
by_answer (refused k p) o (Ok n) after d = given_refused d.answer
by_answer (refused k p) o (Err x) after d = refusal_text_lem x k p (refused_number d.answer) (refused_place d.answer)

pub made_printed : (s o : List ℕ) (r : Result ℕ Refusal) (after : List ℕ) → Converts (table_from s longest_sheet) o r after → printed_by r after ≡ printed_text s
unfolding printed_text
made_printed s o r after d = by_answer (table_from s longest_sheet) o r after d

-- ---- the sheet's length

-- what is read of a sheet up to there, or further, says what the text of the whole is
pub text_cut : (n : ℕ) (s : List ℕ) (size : ℕ) → enough ≤ n → text_from (take n s) size ≡ text_from s size
unfolding text_from sound_sheet
text_cut n s size l =
    let cut : sheet_in (take n s) room ≡ sheet_in s room = sym (sheet_cut (take n s) room) ∙ ap (λ (b : List ℕ). sheet_in b room) (take-take enough n s l) ∙ sheet_cut s room in
    rw cut

-- ---- the line that a text is turned away by

-- as a number, 0 where there is none
pub line_number : (a : Answer ℕ) → unwrap_or (line_of a) 0 ≡ line_in a
line_number (given n) = refl
line_number (refused number place) = go (eqb number 14) (eqb number 15)
  where
    go : (t u : Bool) → unwrap_or (cond t (Some place) (cond u (Some place) None)) 0 ≡ cond t place (cond u place 0)
    go true u = refl
    go false true = refl
    go false false = refl
