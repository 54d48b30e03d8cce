-- The three demands on a program that checks sheets.
use Rattle.std.specs.Prelude.{ℕ, zero, suc, ◌+◌, ◌*◌, ◌≤◌, ◌<◌, ◌≡◌, true, false, cond, List, length, drop, ltb, eqb}
use Rattle.sheet.specs.Exactly.{Exactly}
use Rattle.hull.specs.Hull.{finding}
use Rattle.hull.specs.Raising.{put_record, InGauge}
use Rattle.checker.specs.declared.Entry.{Entry}
use Rattle.checker.specs.Entry.{entry_bytes}
use Rattle.checker.specs.Check.{entry_with, four_at, tallied}
use Rattle.demands.specs.Table.{head_size, count_of, kind_of, id_of, HeaderSound, TooSlender, Row, Accepted}
use Rattle.demands.specs.Program.{Program, Refuses, Leaves}
use Rattle.demands.specs.Raise.{the_header, the_record, with_scantling, Reaches, meets_rule, raised_times}

-- a sheet is accepted, or turned away by a row of the table
pub data Covered (s : List ℕ) (room : ℕ) : Type 0 where
  accepted : Accepted s room → Covered s room
  turned_away : (k p : ℕ) → Row s room k p → Covered s room

-- 1. Every input gets an answer: for every sheet and every lent output
pub record First (P : Program) (s out : List ℕ) : Type 0 where
  -- the table leaves no sheet out, and no two of its rows hold for one sheet
  pub covered : Covered s (length out)
  pub one_row : (k p l q : ℕ) → Row s (length out) k p → Row s (length out) l q → (k ≡ l) × (p ≡ q)
  -- refusal k with place p exactly when row k of the table holds with place p and no earlier row does
  pub refused_exactly : (k p : ℕ) → Exactly (Refuses P s out k p) (Row s (length out) k p)
  -- n and the number of failed records exactly when no row holds
  pub accepted_exactly : Exactly ((n failed : ℕ) × (P.answer s out ≡ tallied n failed)) (Accepted s (length out))
  pub accepted_otherwise : Exactly (Accepted s (length out)) ((k p : ℕ) → Row s (length out) k p → ⊥)
  -- a refusal writes nothing
  pub refusal_writes_nothing : (k p : ℕ) → Refuses P s out k p → P.after s out ≡ out
  -- with n = 0 every sound header of a hull that is not too slender is accepted, and nothing is judged or written
  pub none_judged : length s ≡ head_size s → HeaderSound s → (TooSlender s → ⊥) → count_of s ≡ 0 → (P.answer s out ≡ tallied 0 0) × (P.after s out ≡ out)

-- the verdict on record i under the sheet's header and what its pressure comes from, with its id
abbrev pub entry_on : List ℕ → ℕ → Entry
entry_on s i = entry_with (id_of s i) (finding (the_header s) (the_record s i))

-- how many of the records i, i + 1, .., so many of them, have a verdict with a rule
abbrev pub failed_from : List ℕ → (i count : ℕ) → ℕ
failed_from s i zero = 0
failed_from s i (suc count) = cond (eqb (entry_on s i).rule 0) 0 1 + failed_from s (i + 1) count

-- the first of the three rules that record i answers to: 1 up to kind 4, which are plates, else 4
abbrev pub first_rule : List ℕ → (i : ℕ) → ℕ
first_rule s i = cond (ltb (kind_of s i) 5) 1 4

-- rule k is one of the three
abbrev pub AnswersTo : List ℕ → (i k : ℕ) → Type 0
AnswersTo s i k = (first_rule s i ≤ k) × (k ≤ first_rule s i + 2)

-- rule k is the first of them that it does not meet
pub record FirstUnmet (s : List ℕ) (i k : ℕ) : Type 0 where
  pub own : AnswersTo s i k
  pub unmet : meets_rule s i k ≡ false
  pub earlier : (j : ℕ) → AnswersTo s i j → j < k → meets_rule s i j ≡ true

-- 2. Each verdict is the rules' own: for every sheet that is answered with n and a number of failed records
pub record Second (P : Program) (s out : List ℕ) (n failed : ℕ) : Type 0 where
  -- n is the header's
  pub number : n ≡ count_of s
  -- the four bytes at 4i are those of the verdict on record i, for every i below n, and are read as it
  pub verdict_bytes_lem : (i : ℕ) → i < n → four_at i (P.after s out) ≡ entry_bytes (entry_on s i)
  pub verdict_of_record : (i : ℕ) → i < n → Leaves P s out i (entry_on s i)
  -- the rule that is read at 4i is 0 exactly when the record meets every rule that it answers to, and else k exactly when k is the first that it does not meet
  pub passes_exactly : (i : ℕ) (e : Entry) → i < n → Leaves P s out i e → Exactly (e.rule ≡ 0) ((k : ℕ) → AnswersTo s i k → meets_rule s i k ≡ true)
  pub fails_exactly : (i k : ℕ) (e : Entry) → i < n → Leaves P s out i e → 1 ≤ k → Exactly (e.rule ≡ k) (FirstUnmet s i k)
  -- the failure count is the number of verdicts with a rule
  pub counted : failed ≡ failed_from s 0 n
  -- every other byte is as it was lent
  pub others_as_lent : drop (4 * n) (P.after s out) ≡ drop (4 * n) out
  pub same_length : length (P.after s out) ≡ length out

-- a verdict that is a pass, or names a rule after rule k
pub data Later (k : ℕ) (e : Entry) : Type 0 where
  passed : e.rule ≡ 0 → e.required ≡ 0 → Later k e
  above : k < e.rule → Later k e

-- 3. The required number is the least in the gauge that meets the rule: for record i of such a sheet, whose verdict e, as it is read at 4i, has a rule
pub record Third (P : Program) (s out : List ℕ) (n i : ℕ) (e : Entry) : Type 0 where
  -- the number is in the gauge; 0 stands for none
  pub in_gauge : 1 ≤ e.required → InGauge e.rule e.required
  -- with x of the gauge in the scantling's place the sheet meets the rule exactly when x is not below the number; with no number, for no x
  pub least_number : (x : ℕ) → InGauge e.rule x → Exactly (meets_rule (with_scantling i e.rule x s) i e.rule ≡ true) (Reaches e.required x)
  -- record i of that sheet is the record as it was with x in that place
  pub with_record : (x : ℕ) → InGauge e.rule x → the_record (with_scantling i e.rule x s) i ≡ put_record e.rule x (the_record s i)
  -- the sheet is accepted, with n again
  pub with_accepted : (x : ℕ) → InGauge e.rule x → (failed : ℕ) × (P.answer (with_scantling i e.rule x s) out ≡ tallied n failed)
  -- what is read at 4i then is a pass or a later rule exactly when x is not below the number
  pub with_verdict : (x : ℕ) → InGauge e.rule x → (f : Entry) × Leaves P (with_scantling i e.rule x s) out i f × Exactly (Later e.rule f) (Reaches e.required x)
  -- and no other verdict's bytes change
  pub with_others : (x : ℕ) → InGauge e.rule x → (j : ℕ) → j < n → (j ≡ i → ⊥) → four_at j (P.after (with_scantling i e.rule x s) out) ≡ four_at j (P.after s out)
  -- so that, raised to the number, the record passes or fails a later rule
  pub raised_verdict : 1 ≤ e.required → (f : Entry) × Leaves P (with_scantling i e.rule e.required s) out i f × Later e.rule f

-- the verdict on record i is a pass, or names a rule that no number of the gauge meets
pub data Settled (s : List ℕ) (i : ℕ) (e : Entry) : Type 0 where
  passes : e.rule ≡ 0 → e.required ≡ 0 → Settled s i e
  none_meets : 1 ≤ e.rule → ((x : ℕ) → InGauge e.rule x → meets_rule (with_scantling i e.rule x s) i e.rule ≡ false) → Settled s i e

-- at most three raisings: of record i of such a sheet, each to the number that is read at 4i
pub record ThreeRaisings (P : Program) (s out : List ℕ) (n i : ℕ) : Type 0 where
  -- the sheet is accepted, with n again
  pub three_accepted : (failed : ℕ) × (P.answer (raised_times P out 3 i s) out ≡ tallied n failed)
  -- what is read at 4i then is a pass, or names a rule that no number of the gauge meets
  pub three_enough : (e : Entry) × Leaves P (raised_times P out 3 i s) out i e × Settled (raised_times P out 3 i s) i e
  -- and no other verdict's bytes have changed
  pub three_others : (j : ℕ) → j < n → (j ≡ i → ⊥) → four_at j (P.after (raised_times P out 3 i s) out) ≡ four_at j (P.after s out)

-- all of them
pub record Demands (P : Program) : Type 0 where
  pub first : (s out : List ℕ) → First P s out
  pub second : (s out : List ℕ) (n failed : ℕ) → P.answer s out ≡ tallied n failed → Second P s out n failed
  pub third : (s out : List ℕ) (n failed i : ℕ) (e : Entry) → P.answer s out ≡ tallied n failed → i < n → Leaves P s out i e → 1 ≤ e.rule → Third P s out n i e
  pub three : (s out : List ℕ) (n failed i : ℕ) → P.answer s out ≡ tallied n failed → i < n → ThreeRaisings P s out n i
