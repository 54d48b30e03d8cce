-- The five empty programs are of their kinds, and the demands shut each kind out; the checker meets the demands.
-- Assumes nothing.
use Prim.Native.Nat.{ℕ, zero, suc, ◌+◌, ◌*◌, ◌≤◌, ◌<◌}
use Rattle.std.specs.Prelude.{◌≡◌, Bool, true, false, cond, length, get_or, drop, eqb, Result, Err}
use Rattle.std.proofs.Math.Path.{refl, sym, ap, subst}
use Rattle.std.proofs.Common.{ap₂, ◌∙◌, add-zero, le-leb, eq-eqb, ne_eqb}
use mathlib.Core.List.{List, [], ◌∷◌, ◌++◌, map, append-nil}
use native.Mathlib.Omega.{arith}
use Rattle.std.proofs.Math.ListN.{take}
use Rattle.quantity.specs.Range.{within, from, modulus}
use Rattle.loads.specs.declared.Source.TheVariants.{Cargo}
use Rattle.loads.specs.Sources.{number_of}
use Rattle.layout.specs.laws.LineLaws.{none_all}
use Rattle.sheet.specs.declared.Header.{Header}
use Rattle.sheet.specs.declared.Record.{Record}
use Rattle.sheet.specs.Refusals.{Answer, given, refused}
use Rattle.sheet.specs.laws.RefusalLaws.{refusal_of, given_refused, given_same}
use Rattle.sheet.specs.laws.RecordBack.{record_read_fine}
use Rattle.checker.specs.declared.Entry.{Entry}
use Rattle.checker.specs.Entry.{verdict_lines, entry_values, entry_fault, entry_bytes, read_entry}
use Rattle.checker.specs.laws.EntryLaws.{allowed_entry, bytes_read}
use Rattle.checker.specs.laws.Sound.{entry_sound}
use Rattle.checker.specs.Check.{◌then◌, records_part, record_part, Sheet, sheet_in, entry_of, verdicts, bytes_of, failures, Totals, told_checked, answer_of, output_by, output_of, four_at, tallied}
use Rattle.checker.specs.Whole.{Taken, none, next}
use Rattle.checker.specs.laws.CheckLaws.{sheet_whole, verdicts_count, answer_done}
use Rattle.hull.specs.laws.Computing.{judging}
use Rattle.checker.specs.laws.Computing.{checking}
use Rattle.demands.specs.Table.{head_size, Row, sheet_short, version, header_short, header_field, slender, sheet_length, output_short, kind, field, order, Accepted}
use Rattle.demands.specs.Program.{Program, Meets}
use Rattle.demands.specs.Demands.{entry_on, failed_from, Second, Demands}
use Rattle.demands.specs.Empty.{ShutOut, OfVerdicts, LeavesAsLent, RefusesAll, PassesAll, NamesOne, PassesRest, rule_in, failed_in, Miscounts, MakesUpCount, DropsSource}
use Rattle.demands.specs.EmptyPrograms.{answer_by, after_by, checker, changed_from, changing, pass_instead, number_instead, pass_after_first, idle, refusing, passing, naming, first_only, counting, source_dropped, dropping}
use Rattle.demands.specs.laws.Rows.{refused_exactly}
use Rattle.demands.specs.laws.Proved.{given_fits, demands_met}
use Rattle.demands.specs.laws.Example.{example, mended, lent, example_answer, mended_answer}
use Rattle.sheet.specs.declared.Refusal.{Refusal}
use Rattle.checker.specs.declared.Checked.{Checked}

-- ---- the checker

-- the refusal of a row has its number and its place
row_told : (s : List ℕ) (room k p : ℕ) → Row s room k p → told_checked (Err (refusal_of k p)) ≡ refused k p
row_told s room k p (sheet_short l) = refl
row_told s room k p (version l n) = refl
row_told s room k p (header_short l v m) = refl
row_told s room k p (header_field f l c) = refl
row_told s room k p (slender h z) = refl
row_told s room k p (sheet_length h slim n) = refl
row_told s room k p (output_short h slim w n) = refl
row_told s room k p (kind i t c) = refl
row_told s room k p (field i f t c) = refl
row_told s room k p (order i t a l) = refl

pub checker_meets : Meets checker
unfolding answer_of output_of ◌then◌
checker_meets s out = record { answer = answers (sheet_in s (length out)) refl; bytes = writes }
  where
    refusal : (k p : ℕ) → sheet_in s (length out) ≡ refused k p → answer_of s (length out) ≡ refused k p
    refusal k p e = rw e

    answers : (a : Answer Sheet) → sheet_in s (length out) ≡ a → told_checked (answer_by (λ t. failures (verdicts t)) a) ≡ answer_of s (length out)
    answers (given t) e = sym (answer_done s out t e)
    answers (refused k p) e = row_told s (length out) k p ((refused_exactly s (length out) k p).0 (refusal k p e)) ∙ sym (refusal k p e)

    same : (a : Answer Sheet) → after_by verdicts a out ≡ output_by a out
    same (given t) = refl
    same (refused k p) = refl

    writes : after_by verdicts (sheet_in s (length out)) out ≡ output_of s out
    writes = same (sheet_in s (length out))

pub checker_demands : Demands checker
checker_demands = demands_met checker checker_meets

-- ---- each empty program is of its kind

-- the verdicts of a sheet that is accepted can be written and read
abbrev AllSound : List Entry → Type 0
AllSound [] = Unit {0}
AllSound (e ∷ es) = (entry_fault e ≡ 0) × AllSound es

taken_sound : (h : Header) (s : List ℕ) (i before : ℕ) (rs : List Record) → Taken s i before rs → AllSound (map (entry_of h) rs)
taken_sound h s i before [] none = tt
taken_sound h s i before (r ∷ rs) (next e l t) = (entry_sound h r (record_read_fine i (record_part s i) r e), taken_sound h s (i + 1) r.id rs t)

-- a verdict with no fault has an id that a verdict can carry
id_within : (e : Entry) → entry_fault e ≡ 0 → within (from 1 1000) e.id ≡ true
unfolding entry_fault
id_within e z = (none_all 0 (verdict_lines e.rule) (entry_values e) z).0

rule_within : (e : Entry) → entry_fault e ≡ 0 → within (from 0 6) e.rule ≡ true
unfolding entry_fault
rule_within e z = (none_all 0 (verdict_lines e.rule) (entry_values e) z).1.0

required_within : (e : Entry) → entry_fault e ≡ 0 → within (from 0 (cond (eqb e.rule 0) 0 modulus.high)) e.required ≡ true
unfolding entry_fault
required_within e z = (none_all 0 (verdict_lines e.rule) (entry_values e) z).1.1.0

source_within : (e : Entry) → entry_fault e ≡ 0 → within (from 0 (number_of Cargo)) e.source ≡ true
unfolding entry_fault
source_within e z = (none_all 0 (verdict_lines e.rule) (entry_values e) z).1.1.1.0

-- what is said of every changed verdict, which can be written where the verdict can
module _ (change : ℕ → Entry → Entry) (Says : ℕ → Entry → Type 0) (says : (i : ℕ) (e : Entry) → entry_fault e ≡ 0 → (entry_fault (change i e) ≡ 0) × Says i (change i e)) where
  changed_at : (i : ℕ) (es : List Entry) (tail : List ℕ) → AllSound es → (j : ℕ) → j < length es
      → (e : Entry) × (entry_fault e ≡ 0) × Says (i + j) e × (four_at j (bytes_of (changed_from change i es) ++ tail) ≡ entry_bytes e)
  unfolding bytes_of
  changed_at i [] tail a j l = absurd (omega arith)
  changed_at i (e ∷ es) tail a zero l = let q = says i e a.0 in (change i e, q.0, subst (λ (n : ℕ). Says n (change i e)) (sym (add-zero i)) q.1, refl)
  changed_at i (e ∷ es) tail a (suc j) l =
      let q = changed_at (suc i) es tail a.1 j (omega arith) in
      let m : suc i + j ≡ i + suc j = omega arith in
      let four : 4 * suc j ≡ suc (suc (suc (suc (4 * j)))) = omega arith in
      (q.0, q.1, subst (λ (n : ℕ). Says n q.0) m q.2, ap (λ (k : ℕ). take 4 (drop k (bytes_of (changed_from change i (e ∷ es)) ++ tail))) four ∙ q.3)

  changing_says : OfVerdicts Says (changing change)
  unfolding verdicts
  changing_says s out n failed i e done l leaves = go (sheet_in s (length out)) refl done leaves
    where
      go : (a : Answer Sheet) → sheet_in s (length out) ≡ a → answer_by (λ t. failures (changed_from change 0 (verdicts t))) a ≡ tallied n failed
          → read_entry (four_at i (after_by (λ t. changed_from change 0 (verdicts t)) a out)) ≡ given e → Says i e
      go (given t) f d r =
          let count : t.header.count ≡ n = ap (λ (w : Totals). w.n) (given_same (ap (λ (c : Result Checked Refusal). told_checked c) d)) in
          let w = sheet_whole s (length out) t f in
          let q = changed_at 0 (verdicts t) (drop (4 * t.header.count) out) (taken_sound t.header (records_part t.header s) 0 0 t.records w.records) i (omega (arith, verdicts_count s out t f)) in
          let read : read_entry (four_at i (after_by (λ t. changed_from change 0 (verdicts t)) (given t) out)) ≡ given q.0 = ap read_entry (q.3 ∙ sym (append-nil (entry_bytes q.0))) ∙ bytes_read q.0 [] q.1 in
          let same : q.0 ≡ e = given_same (sym read ∙ r) in
          let m : 0 + i ≡ i = omega arith in
          subst (λ (x : Entry). Says i x) same (subst (λ (k : ℕ). Says k q.0) m q.2)
      go (refused k p) f d r = given_refused (sym (ap (λ (c : Result Checked Refusal). told_checked c) d))

pass_sound : (i : ℕ) (e : Entry) → entry_fault e ≡ 0 → entry_fault (pass_instead i e) ≡ 0
pass_sound i e z = allowed_entry (pass_instead i e) (id_within e z, (refl, (refl, (source_within e z, tt))))

pub idle_is : LeavesAsLent idle
idle_is s out n failed e = refl

pub refusing_is : RefusesAll refusing
refusing_is s out = (_, refl)

pub passing_is : PassesAll passing
passing_is = changing_says pass_instead (λ i e. e.rule ≡ 0) (λ i e z. (pass_sound i e z, refl))

pub naming_is : (q : ℕ) → q ≤ modulus.high → NamesOne q (naming q)
naming_is q l = changing_says (number_instead q) (λ i e. 1 ≤ e.rule → e.required ≡ q) (λ i e z. (sound i e z, named i e))
  where
    carried : (b : Bool) → within (from 0 (cond b 0 modulus.high)) (cond b 0 q) ≡ true
    carried true = refl
    carried false = rw (le-leb 0 q (omega arith), le-leb q modulus.high l)

    sound : (i : ℕ) (e : Entry) → entry_fault e ≡ 0 → entry_fault (number_instead q i e) ≡ 0
    sound i e z = allowed_entry (number_instead q i e) (id_within e z, (rule_within e z, (carried (eqb e.rule 0), (source_within e z, tt))))

    named : (i : ℕ) (e : Entry) → 1 ≤ e.rule → cond (eqb e.rule 0) 0 q ≡ q
    named i e m = rw (ne_eqb e.rule 0 (λ z. omega arith))

pub first_only_is : PassesRest first_only
first_only_is = changing_says pass_after_first (λ i e. 1 ≤ i → e.rule ≡ 0) rest_passed
  where
    rest_passed : (i : ℕ) (e : Entry) → entry_fault e ≡ 0 → (entry_fault (pass_after_first i e) ≡ 0) × (1 ≤ i → (pass_after_first i e).rule ≡ 0)
    rest_passed zero e z = (z, λ l. absurd (omega arith))
    rest_passed (suc i) e z = (pass_sound (suc i) e z, λ l. refl)

pub dropping_is : DropsSource dropping
dropping_is = changing_says source_dropped (λ i e. e.rule ≡ 0 → e.source ≡ 0) (λ i e z. (sound i e z, λ r. rw (eq-eqb e.rule 0 r)))
  where
    carried : (e : Entry) → entry_fault e ≡ 0 → (b : Bool) → within (from 0 (number_of Cargo)) (cond b 0 e.source) ≡ true
    carried e z true = refl
    carried e z false = source_within e z

    sound : (i : ℕ) (e : Entry) → entry_fault e ≡ 0 → entry_fault (source_dropped i e) ≡ 0
    sound i e z = allowed_entry (source_dropped i e) (id_within e z, (rule_within e z, (required_within e z, (carried e z (eqb e.rule 0), tt))))

pub counting_is : (count : List ℕ → ℕ) → MakesUpCount count (counting count)
counting_is count s out n failed e = go (sheet_in s (length out)) e
  where
    go : (a : Answer Sheet) → answer_by (λ t. count (take (head_size s) s)) a ≡ tallied n failed → failed ≡ count (take (head_size s) s)
    go (given t) f = sym (ap (λ (w : Totals). w.failed) (given_same (ap (λ (c : Result Checked Refusal). told_checked c) f)))
    go (refused k p) f = given_refused (sym (ap (λ (c : Result Checked Refusal). told_checked c) f))

-- one that always says 1 failure says so of the example, where it leaves two
pub counting_miscounts : Miscounts (counting (λ h. 1))
unfolding checking
counting_miscounts = (example, lent, 2, 1, refl, λ e. omega (arith, e))

-- ---- and is shut out

-- no row holds for the two sheets
example_accepted : Accepted example 9
example_accepted = given_fits example 9 (record { n = 2; failed = 2 }) example_answer

mended_accepted : Accepted mended 9
mended_accepted = given_fits mended 9 (record { n = 2; failed = 0 }) mended_answer

-- demand 2's verdicts on the example, and its counts on both
first_verdict : entry_on example 0 ≡ record { id = 7; rule = 3; required = 617; source = 0 }
unfolding judging
first_verdict = refl

second_verdict : entry_on example 1 ≡ record { id = 12; rule = 5; required = 567; source = 0 }
unfolding judging
second_verdict = refl

two_failed : failed_from example 0 2 ≡ 2
unfolding judging
two_failed = refl

none_failed : failed_from mended 0 2 ≡ 0
unfolding judging
none_failed = refl

module _ (P : Program) (d : Demands P) where
  -- a sheet on which demand 1 has the program answer, and demand 2 says what it answers
  record Answers (s : List ℕ) : Type 0 where
    pub n : ℕ
    pub failed : ℕ
    pub done : P.answer s lent ≡ tallied n failed
    pub judged : Second P s lent n failed

  answers : (s : List ℕ) → Accepted s 9 → Answers s
  answers s a = let q = (d.first s lent).accepted_exactly.1 a in record { n = q.0; failed = q.1; done = q.2; judged = d.second s lent q.0 q.1 q.2 }

  on_example : Answers example
  on_example = answers example example_accepted

  two : on_example.n ≡ 2
  two = on_example.judged.number

  -- what is said of every verdict is said of the two that it leaves on the example
  on_first : (Says : ℕ → Entry → Type 0) → OfVerdicts Says P → Says 0 (record { id = 7; rule = 3; required = 617; source = 0 })
  on_first Says f =
      let a = on_example in
      subst (λ (e : Entry). Says 0 e) first_verdict (f example lent a.n a.failed 0 _ a.done (omega (arith, two)) (a.judged.verdict_of_record 0 (omega (arith, two))))

  on_second : (Says : ℕ → Entry → Type 0) → OfVerdicts Says P → Says 1 (record { id = 12; rule = 5; required = 567; source = 0 })
  on_second Says f =
      let a = on_example in
      subst (λ (e : Entry). Says 1 e) second_verdict (f example lent a.n a.failed 1 _ a.done (omega (arith, two)) (a.judged.verdict_of_record 1 (omega (arith, two))))

pub not_as_lent : ShutOut LeavesAsLent
not_as_lent P d f =
    let a = on_example P d in
    let bytes = ap (four_at 0) (sym (f example lent a.n a.failed a.done)) ∙ a.judged.verdict_bytes_lem 0 (omega (arith, two P d)) ∙ ap entry_bytes first_verdict in
    absurd (omega (arith, ap (λ (o : List ℕ). get_or o 0 0) bytes))

pub not_refusing_all : ShutOut RefusesAll
not_refusing_all P d f = given_refused (ap (λ (c : Result Checked Refusal). told_checked c) (sym (on_example P d).done ∙ (f example lent).1))

pub not_passing_all : ShutOut PassesAll
not_passing_all P d f = omega (arith, on_first P d (λ i e. e.rule ≡ 0) f)

pub not_one_number : (q : ℕ) → ShutOut (NamesOne q)
not_one_number q P d f =
    omega (arith, on_first P d (λ i e. 1 ≤ e.rule → e.required ≡ q) f (omega arith), on_second P d (λ i e. 1 ≤ e.rule → e.required ≡ q) f (omega arith))

pub not_first_only : ShutOut PassesRest
not_first_only P d f = omega (arith, on_second P d (λ i e. 1 ≤ i → e.rule ≡ 0) f (omega arith))

-- the count of demand 2 is that of the verdicts with a rule in the output
own_count_lem : (P : Program) → Demands P → (s out : List ℕ) (n failed : ℕ) → P.answer s out ≡ tallied n failed → failed ≡ failed_in (P.after s out) 0 n
own_count_lem P d s out n failed e = judged.counted ∙ sym (go n 0 (omega arith))
  where
    judged : Second P s out n failed
    judged = d.second s out n failed e

    go : (count i : ℕ) → i + count ≤ n → failed_in (P.after s out) i count ≡ failed_from s i count
    go zero i l = refl
    go (suc count) i l =
        ap₂ (λ (a : Answer Entry) (m : ℕ). cond (eqb (rule_in a) 0) 0 1 + m) (judged.verdict_of_record i (omega arith)) (go count (i + 1) (omega arith))

pub not_miscounting : ShutOut Miscounts
not_miscounting P d f = f.5 (own_count_lem P d f.0 f.1 f.2 f.3 f.4)

pub not_made_up : (count : List ℕ → ℕ) → ShutOut (MakesUpCount count)
not_made_up count P d f =
    let a = on_example P d in
    let b = answers P d mended mended_accepted in
    let all : a.failed ≡ 2 = a.judged.counted ∙ ap (failed_from example 0) a.judged.number ∙ two_failed in
    let no : b.failed ≡ 0 = b.judged.counted ∙ ap (failed_from mended 0) b.judged.number ∙ none_failed in
    let same : a.failed ≡ b.failed = f example lent a.n a.failed a.done ∙ sym (f mended lent b.n b.failed b.done) in
    absurd (omega arith)
