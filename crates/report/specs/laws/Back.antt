-- A printed text reads back as the numbers that it was made of, so that two answers with the same text are equal.
-- Assumes nothing.
use Rattle.std.specs.Prelude.{ℕ, ◌≤◌, ◌≡◌, refl, List, [], ◌∷◌, ◌++◌, map, length, get_or}
use Rattle.std.proofs.Common.{sym, ap, ap₂, ◌∙◌, append_assoc, append-nil, arith, ne_eqb}
use Rattle.decimal.specs.Decimal.{decimal_of}
use Rattle.decimal.specs.laws.DecimalLaws.{Digits, next, decimal_digits, decimal_some}
use Rattle.decimal.specs.Line.{line_of, more_of, pieces, numbers_in}
use Rattle.decimal.specs.laws.LineLaws.{pieces_first, line_end, line_without, line_back}
use Rattle.sheet.specs.Refusals.{Answer, given, refused}
use Rattle.sheet.specs.laws.RefusalLaws.{given_same}
use Rattle.checker.specs.declared.Entry.{Entry}
use Rattle.checker.specs.Entry.{entry_values}
use Rattle.checker.specs.Check.{◌then◌, Sheet, sheet_in, verdicts, failures}
use Rattle.checker.specs.Unjudged.{room}
use Rattle.report.specs.Text.{lines_of, printed, line, lines_text, text_by, text_of}
use Rattle.report.specs.Reading.{lines_in, refusal_in, answer_in}

-- ---- the lines

-- lines of one number at least
pub data Filled : List (List ℕ) → Type 0 where
  last : Filled []
  more : {n : ℕ} {ns : List ℕ} {rest : List (List ℕ)} → Filled rest → Filled ((n ∷ ns) ∷ rest)

nothing_back : lines_in [] ≡ []
unfolding lines_in pieces
nothing_back = refl

lines_back : {ls : List (List ℕ)} → Filled ls → lines_in (lines_text ls) ≡ ls
unfolding lines_in lines_text
lines_back last = nothing_back
lines_back (more {n = n} {ns = ns} {rest = rest} f) =
    let bare = line_of 32 [] (n ∷ ns) in
    let apart : line (n ∷ ns) ++ lines_text rest ≡ bare ++ (10 ∷ lines_text rest)
    = ap (λ (t : List ℕ). t ++ lines_text rest) (line_end 32 (10 ∷ []) (n ∷ ns)) ∙ append_assoc bare (10 ∷ []) (lines_text rest) in
    ap (λ (t : List ℕ). map (numbers_in 32) (pieces 10 t)) apart
    ∙ ap (map (numbers_in 32)) (pieces_first (line_without 10 32 (n ∷ ns) (omega arith) (λ e. omega arith)) (lines_text rest))
    ∙ ap₂ {C = List (List ℕ)} (λ a b. a ∷ b) (line_back 32 n ns (omega arith)) (lines_back f)

-- ---- the first byte tells a refusal from lines

first_digit : (ds more : List ℕ) → Digits ds → 1 ≤ length ds → get_or (ds ++ more) 0 0 ≤ 57
first_digit [] t d l = absurd (omega arith)
first_digit (b ∷ bs) t (next m h d) l = h

no_refusal : {ls : List (List ℕ)} → Filled ls → get_or (lines_text ls) 0 0 ≡ 114 → ⊥
unfolding lines_text line_of
no_refusal last e = omega arith
no_refusal (more {n = n} {ns = ns} {rest = rest} f) e =
    let rests = more_of 32 (10 ∷ []) ns in
    omega (arith, first_digit (decimal_of n) (rests ++ lines_text rest) (decimal_digits n) (decimal_some n), ap (λ (t : List ℕ). get_or t 0 0) (append_assoc (decimal_of n) rests (lines_text rest)))

-- ---- an answer

lines_answer : {ls : List (List ℕ)} → Filled ls → answer_in (text_by (given ls)) ≡ given ls
unfolding answer_in text_by
lines_answer {ls} f = rw (ne_eqb (get_or (lines_text ls) 0 0) 114 (no_refusal f)) (ap given (lines_back f))

refusal_answer : (k p : ℕ) → answer_in (text_by (refused k p)) ≡ refused k p
unfolding answer_in text_by lines_text
refusal_answer k p =
    let one : line (k ∷ p ∷ []) ≡ lines_text ((k ∷ p ∷ []) ∷ []) = sym (append-nil (line (k ∷ p ∷ []))) in
    ap (λ (t : List ℕ). refusal_in (lines_in t)) one ∙ ap refusal_in (lines_back (more {n = k} {ns = p ∷ []} last))

filled_lines : (es : List Entry) (n failed : ℕ) → Filled (map entry_values es ++ ((n ∷ failed ∷ []) ∷ []))
filled_lines [] n failed = more last
filled_lines (e ∷ es) n failed = more (filled_lines es n failed)

-- the text of the answer to a sheet reads back as that answer
pub text_back : (s : List ℕ) → answer_in (text_of s) ≡ printed s
unfolding text_of printed ◌then◌
text_back s = go (sheet_in s room)
  where
    go : (x : Answer Sheet) → answer_in (text_by (x then λ t. given (lines_of t))) ≡ x then λ t. given (lines_of t)
    go (given t) = lines_answer (filled_lines (verdicts t) t.header.count (failures (verdicts t)))
    go (refused k p) = refusal_answer k p

-- two sheets with the same text have the same answer
pub same_text : (s t : List ℕ) → text_of s ≡ text_of t → printed s ≡ printed t
same_text s t e = sym (text_back s) ∙ ap answer_in e ∙ text_back t

-- ---- and the same verdicts

one_left : (x : List ℕ) (es : List Entry) (a y : List ℕ) → ◌≡◌ {A = List (List ℕ)} (x ∷ []) (a ∷ (map entry_values es ++ (y ∷ []))) → ⊥
one_left x [] a y e = let z : ◌≡◌ {A = ℕ} 0 1 = cc in omega arith
one_left x (f ∷ es) a y e = let z : ◌≡◌ {A = ℕ} 0 1 = cc in omega arith

entries_same : (es fs : List Entry) (x y : List ℕ) → map entry_values es ++ (x ∷ []) ≡ map entry_values fs ++ (y ∷ []) → (es ≡ fs) × (x ≡ y)
entries_same [] [] x y e = (refl, cc)
entries_same [] (f ∷ fs) x y e = absurd (one_left x fs (entry_values f) y e)
entries_same (d ∷ es) [] x y e = absurd (one_left y es (entry_values d) x (sym e))
entries_same (d ∷ es) (f ∷ fs) x y e =
    let tails : map entry_values es ++ (x ∷ []) ≡ map entry_values fs ++ (y ∷ []) = cc in
    let rest = entries_same es fs x y tails in
    let one : d.id ≡ f.id = cc in
    let two : d.rule ≡ f.rule = cc in
    let three : d.required ≡ f.required = cc in
    let four : d.source ≡ f.source = cc in
    let same : d ≡ f = ap₂ {C = Entry} (λ (a b : ℕ × ℕ). record { id = a.0; rule = a.1; required = b.0; source = b.1 }) (ap₂ {C = ℕ × ℕ} (λ a b. (a, b)) one two) (ap₂ {C = ℕ × ℕ} (λ a b. (a, b)) three four) in
    (ap₂ {C = List Entry} (λ a b. a ∷ b) same rest.0, rest.1)

pub same_verdicts : (s t : List ℕ) (a b : Sheet) → sheet_in s room ≡ given a → sheet_in t room ≡ given b → text_of s ≡ text_of t → verdicts a ≡ verdicts b
unfolding printed ◌then◌
same_verdicts s t a b p q e =
    let lines : ◌≡◌ {A = Answer (List (List ℕ))} (given (lines_of a)) (given (lines_of b)) = rw (p, q) at (same_text s t e) in
    (entries_same (verdicts a) (verdicts b) _ _ (given_same lines)).0
