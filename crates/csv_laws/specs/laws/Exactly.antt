-- Exactly when a text, or a sheet, is turned away with 14, 15, 4 and 5, and with which place.
-- Assumes nothing.
use Rattle.std.specs.Prelude.{ℕ, ◌+◌, ◌≡◌, refl, Bool, true, false, List, ◌++◌, map, length}
use Rattle.std.proofs.Common.{inl, inr, sym, ap, ap₂, subst, ◌∙◌, arith}
use Rattle.truth.specs.laws.Tests.{clash}
use Rattle.sheet.specs.Refusals.{Answer, given, refused}
use Rattle.sheet.specs.laws.RefusalLaws.{given_refused, refused_number, refused_place}
use Rattle.sheet.specs.Exactly.{Exactly}
use Rattle.fields.specs.Lines.{Lines, none, bad, row}
use Rattle.text.specs.laws.LinesLaws.{value_in}
use Rattle.rows.specs.Rows.{line_by, header_line, record_line}
use Rattle.checker.specs.Check.{◌then◌}
use Rattle.checker.specs.laws.ThenLaws.{By, first, later, by, stays}
use Rattle.sheet_csv.specs.Read.{next_line, records_made, sheet_made}
use Rattle.csv_laws.specs.Faults as F
use Rattle.csv_laws.specs.Faults.{Amiss, FirstFaulty}
use Rattle.csv_laws.specs.laws.Judged.{miscounted, fitting, Fails, amiss_tests, tests_15, tests_14}

-- ---- a line

-- by the two tests of a line
module _ (head : Bool) (fs : List (List ℕ)) where
  by_tests : (p : ℕ) (t u : Bool) → miscounted head fs ≡ t → fitting head fs ≡ u → (b : List ℕ) (n q : ℕ) → Exactly (line_by p t u b ≡ refused n q) (Amiss head fs n × (q ≡ p))
  by_tests p true u c f b n q = (λ e. (subst (Amiss head fs) (refused_number e) (tests_15 head fs c), sym (refused_place e)), λ z. go (amiss_tests head fs z.0) z.1)
    where
      go : Fails head fs n → q ≡ p → line_by p true u b ≡ refused n q
      go (inl w) l = ap₂ refused (sym w.0) (sym l)
      go (inr w) l = clash c w.1
  by_tests p false true c f b n q = (λ e. given_refused e, λ z. go (amiss_tests head fs z.0))
    where
      go : Fails head fs n → line_by p false true b ≡ refused n q
      go (inl w) = clash w.1 c
      go (inr w) = clash f w.2
  by_tests p false false c f b n q = (λ e. (subst (Amiss head fs) (refused_number e) (tests_14 head fs c f), sym (refused_place e)), λ z. go (amiss_tests head fs z.0) z.1)
    where
      go : Fails head fs n → q ≡ p → line_by p false false b ≡ refused n q
      go (inl w) l = clash w.1 c
      go (inr w) l = ap₂ refused (sym w.0) (sym l)

  by_none : (p : ℕ) (t u : Bool) → miscounted head fs ≡ t → fitting head fs ≡ u → (b : List ℕ) → Exactly ((c : List ℕ) × (line_by p t u b ≡ given c)) ((n : ℕ) → Amiss head fs n → ⊥)
  by_none p true u c f b = (λ z. given_refused (sym z.1), λ fine. absurd (fine 15 (tests_15 head fs c)))
  by_none p false true c f b = (λ z n a. given_refused ((by_tests p false true c f b n p).1 (a, refl)), λ fine. (b, refl))
  by_none p false false c f b = (λ z. given_refused (sym z.1), λ fine. absurd (fine 14 (tests_14 head fs c f)))

-- the answer to a line, as the first or as another
abbrev answer : (head : Bool) (p : ℕ) → List (List ℕ) → Answer (List ℕ)
answer true p fs = header_line p (length fs) (map value_in fs)
answer false p fs = record_line p (length fs) (map value_in fs)

-- it is turned away exactly when it is at fault, and otherwise it is taken
pub line_exactly : (head : Bool) (p : ℕ) (fs : List (List ℕ)) (n q : ℕ) → Exactly (answer head p fs ≡ refused n q) (Amiss head fs n × (q ≡ p))
unfolding header_line record_line
line_exactly true p fs n q = by_tests true fs p (miscounted true fs) (fitting true fs) refl refl _ n q
line_exactly false p fs n q = by_tests false fs p (miscounted false fs) (fitting false fs) refl refl _ n q

pub line_fine : (head : Bool) (p : ℕ) (fs : List (List ℕ)) → Exactly ((b : List ℕ) × (answer head p fs ≡ given b)) ((n : ℕ) → Amiss head fs n → ⊥)
unfolding header_line record_line
line_fine true p fs = by_none true fs p (miscounted true fs) (fitting true fs) refl refl _
line_fine false p fs = by_none false fs p (miscounted false fs) (fitting false fs) refl refl _

-- ---- lines in turn

records_fault : (p : ℕ) (ls : Lines) (n q : ℕ) → records_made p ls ≡ refused n q → FirstFaulty false p ls n q
unfolding records_made
records_fault p none n q e = given_refused e
records_fault p bad n q e = subst (λ (k : ℕ). FirstFaulty false p bad k q) (refused_number e) (subst (λ (k : ℕ). FirstFaulty false p bad 14 k) (refused_place e) F.quotes)
records_fault p (row fs ls) n q e = go (by (answer false p fs) _ n q e) (λ f. records_fault (next_line p) ls n q f)
  where
    go : By (answer false p fs) (λ b. records_made (next_line p) ls then λ bs. given (b ++ bs)) n q → (records_made (next_line p) ls ≡ refused n q → FirstFaulty false (next_line p) ls n q) → FirstFaulty false p (row fs ls) n q
    go (first f) on = let z = (line_exactly false p fs n q).0 f in subst (λ (k : ℕ). FirstFaulty false p (row fs ls) n k) (sym z.1) (F.line z.0)
    go (later b f g) on = F.later ((line_fine false p fs).0 (b, f)) (rest (by (records_made (next_line p) ls) (λ bs. given (b ++ bs)) n q g))
      where
        rest : By (records_made (next_line p) ls) (λ bs. given (b ++ bs)) n q → FirstFaulty false (next_line p) ls n q
        rest (first h) = on h
        rest (later bs h i) = given_refused i

fault_records : (p : ℕ) (ls : Lines) (n q : ℕ) → FirstFaulty false p ls n q → records_made p ls ≡ refused n q
unfolding records_made ◌then◌
fault_records p none n q x' = elim x' [ ]
fault_records p bad n q F.quotes = refl
fault_records p (row fs ls) n q (F.line j) = stays (answer false p fs) _ n p ((line_exactly false p fs n p).1 (j, refl))
fault_records p (row fs ls) n q (F.later j f) =
    let b = (line_fine false p fs).1 j in
    ap (λ (x : Answer (List ℕ)). x then λ c. records_made (next_line p) ls then λ bs. given (c ++ bs)) b.1
    ∙ stays (records_made (next_line p) ls) _ n q (fault_records (next_line p) ls n q f)

pub sheet_fault : (ls : Lines) (n q : ℕ) → sheet_made ls ≡ refused n q → (ls ≡ none → ⊥) → FirstFaulty true 1 ls n q
unfolding sheet_made
sheet_fault none n q e some = absurd (some refl)
sheet_fault bad n q e some = subst (λ (k : ℕ). FirstFaulty true 1 bad k q) (refused_number e) (subst (λ (k : ℕ). FirstFaulty true 1 bad 14 k) (refused_place e) F.quotes)
sheet_fault (row fs ls) n q e some = go (by (answer true 1 fs) _ n q e)
  where
    go : By (answer true 1 fs) (λ b. records_made 2 ls then λ bs. given (b ++ bs)) n q → FirstFaulty true 1 (row fs ls) n q
    go (first f) = let z = (line_exactly true 1 fs n q).0 f in subst (λ (k : ℕ). FirstFaulty true 1 (row fs ls) n k) (sym z.1) (F.line z.0)
    go (later b f g) = F.later ((line_fine true 1 fs).0 (b, f)) (rest (by (records_made 2 ls) (λ bs. given (b ++ bs)) n q g))
      where
        rest : By (records_made 2 ls) (λ bs. given (b ++ bs)) n q → FirstFaulty false 2 ls n q
        rest (first h) = records_fault 2 ls n q h
        rest (later bs h i) = given_refused i

pub fault_sheet : (ls : Lines) (n q : ℕ) → FirstFaulty true 1 ls n q → sheet_made ls ≡ refused n q
unfolding sheet_made ◌then◌
fault_sheet none n q x' = elim x' [ ]
fault_sheet bad n q F.quotes = refl
fault_sheet (row fs ls) n q (F.line j) = stays (answer true 1 fs) _ n 1 ((line_exactly true 1 fs n 1).1 (j, refl))
fault_sheet (row fs ls) n q (F.later j f) =
    let b = (line_fine true 1 fs).1 j in
    ap (λ (x : Answer (List ℕ)). x then λ c. records_made 2 ls then λ bs. given (c ++ bs)) b.1
    ∙ stays (records_made 2 ls) _ n q (fault_records 2 ls n q f)
