-- Every program that meets the promise of `check` meets the three demands.
-- Assumes nothing.
use Prim.Native.Nat.{ℕ, zero, suc, ◌+◌, ◌*◌, ◌≤◌, ◌<◌}
use Rattle.std.specs.Prelude.{◌≡◌, Bool, length, drop, Result, Ok, Err}
use Rattle.std.proofs.Math.Path.{refl, ap, ap₂, subst}
use Rattle.std.proofs.Common.{sym, ◌∙◌, length-append, length-drop}
use Rattle.std.proofs.Math.Bool.{true, false, cond}
use mathlib.Core.List.{List, [], ◌∷◌, map}
use native.Mathlib.Omega.{arith}
use Rattle.std.proofs.Math.Dec.{eqb}
use borrow.Author.Tests.{eqb-false}
use Rattle.truth.specs.laws.Tests.{false_of}
use Rattle.sheet.specs.declared.Header.{Header}
use Rattle.sheet.specs.declared.Record.{Record}
use Rattle.sheet.specs.Refusals.{Answer, given, refused}
use Rattle.sheet.specs.laws.RefusalLaws.{given_refused, given_same}
use Rattle.sheet.specs.laws.ExactlyLaws.{exactly_of, exactly_then}
use Rattle.sheet.specs.Exactly.{Exactly}
use Rattle.sheet.specs.Record.{record_fault, record_bytes}
use Rattle.sheet.specs.laws.RecordBack.{record_read_fine}
use Rattle.verdict.specs.declared.Verdict.{Verdict}
use Rattle.verdict.specs.Raising.{Later as LaterVerdict, passed as passedVerdict, above as aboveVerdict}
use Rattle.verdict.specs.Verdict.{met_in}
use Rattle.hull.specs.Hull.{rules_of, verdict, finding}
use Rattle.hull.specs.Raising.{raised, put_record, InGauge, OwnRule, raised_once, raised_times as raisedRecord}
use Rattle.hull.specs.laws.PutLaws.{own_sound}
use Rattle.hull.specs.laws.RaisingLaws.{with_number, three_raisings}
use Rattle.checker.specs.declared.Entry.{Entry}
use Rattle.checker.specs.Entry.{entry_bytes, read_entry}
use Rattle.checker.specs.Check.{◌then◌, records_part, record_part, record_of, Sheet, sheet_in, entry_with, entry_of, verdicts, bytes_of, failures, Totals, told_checked, answer_of, output_of, four_at, tallied}
use Rattle.checker.specs.Whole.{Taken, none, next}
use Rattle.checker.specs.laws.CheckLaws.{sheet_whole, record_given, verdict_at, verdict_read, verdicts_count, rest_as_lent, answer_done, answer_sheet, output_done, bytes_length, refused_as_lent}
use Rattle.demands.specs.Table.{head_size, count_of, HeaderSound, TooSlender, Row, Accepted}
use Rattle.demands.specs.Program.{Program, Meets, Leaves}
use Rattle.demands.specs.Raise.{the_header, the_record, replaced, with_scantling, Reaches, meets_rule, raised_by, raised_times}
use Rattle.demands.specs.Demands.{Covered, accepted, turned_away, First, entry_on, failed_from, Second, Later, passed, above, Third, Settled, passes, none_meets, ThreeRaisings, Demands}
use Rattle.demands.specs.laws.FieldsRead.{records_of, records_read, record_sound, record_id_field}
use Rattle.demands.specs.laws.FirstUnmet.{rule_passes, rule_fails}
use Rattle.demands.specs.laws.Rows as rows
use Rattle.demands.specs.laws.Scantling.{rule_above, named_own, number_in_gauge, met_exactly, later_exactly}
use Rattle.demands.specs.laws.Exchange as exchange
use Rattle.sheet.specs.declared.Refusal.{Refusal}
use Rattle.checker.specs.declared.Checked.{Checked}

-- ---- a sheet that is not refused

-- no row holds for it
pub given_fits : (s : List ℕ) (room : ℕ) (w : Totals) → answer_of s room ≡ given w → Accepted s room
given_fits s room w e = let q = answer_sheet s room w e in (rows.given_accepted s room q.0 q.1).0

module _ (s out : List ℕ) (t : Sheet) (given_t : sheet_in s (length out) ≡ given t) where
  pub header_is : the_header s ≡ t.header
  header_is = (rows.given_accepted s (length out) t given_t).1

  -- the bytes of its records
  abbrev kept : List ℕ
  kept = records_part t.header s

  all_records : records_of s ≡ kept
  all_records = records_read s t.header (sheet_whole s (length out) t given_t).header.read

  -- the verdict that the promise writes for a record is the one on its fields
  pub entry_is : (i : ℕ) (r : Record) → record_of kept i ≡ given r → entry_of t.header r ≡ entry_on s i
  unfolding entry_of
  entry_is i r e =
      ap₂ entry_of (sym header_is) (sym (record_sound s kept all_records i r e).1)
      ∙ ap (λ (id : ℕ). entry_with id (finding (the_header s) (the_record s i))) (record_id_field s i)

  failures_from : (i before : ℕ) (rs : List Record) → Taken kept i before rs → failures (map (entry_of t.header) rs) ≡ failed_from s i (length rs)
  unfolding failures
  failures_from i before [] none = refl
  failures_from i before (r ∷ rs) (next e l u) =
      ap₂ (λ (x : Entry) (n : ℕ). cond (eqb x.rule 0) 0 1 + n) (entry_is i r e) (failures_from (i + 1) r.id rs u)

  pub all_failures : failures (verdicts t) ≡ failed_from s 0 t.header.count
  unfolding verdicts
  all_failures = let w = sheet_whole s (length out) t given_t in failures_from 0 0 t.records w.records ∙ ap (failed_from s 0) w.number

  output_length : length (output_of s out) ≡ length out
  output_length =
      let n = t.header.count in
      omega (
        arith,
        ap length (output_done s out t given_t),
        length-append (bytes_of (verdicts t)) (drop (4 * n) out),
        length-drop (4 * n) out,
        bytes_length (verdicts t),
        verdicts_count s out t given_t,
        (sheet_whole s (length out) t given_t).header.fits,
      )

-- a verdict with a number has a rule
rule_of : (h : Header) (r : Record) → 1 ≤ (verdict h r).required → 1 ≤ (verdict h r).rule
rule_of h r l = rule_above h r (with_number h r l)

-- ---- a program that meets the promise

module _ (P : Program) (meets : Meets P) where
  -- what it answers and what it leaves
  done_given : (s out : List ℕ) (n failed : ℕ) → P.answer s out ≡ tallied n failed → answer_of s (length out) ≡ given (record { n = n; failed = failed })
  done_given s out n failed e = sym (meets s out).answer ∙ ap (λ (c : Result Checked Refusal). told_checked c) e

  given_done : (s out : List ℕ) (w : Totals) → answer_of s (length out) ≡ given w → P.answer s out ≡ tallied w.n w.failed
  given_done s out w e = go (P.answer s out) refl
    where
      go : (c : Result Checked Refusal) → P.answer s out ≡ c → P.answer s out ≡ tallied w.n w.failed
      go (Ok k) f =
          let same = given_same (sym (done_given s out k.n k.failed f) ∙ e) in
          f ∙ ap₂ tallied (ap (λ (u : Totals). u.n) same) (ap (λ (u : Totals). u.failed) same)
      go (Err r) f = given_refused (sym e ∙ sym (meets s out).answer ∙ ap (λ (c : Result Checked Refusal). told_checked c) f)

  left : (s out : List ℕ) → P.after s out ≡ output_of s out
  left s out = (meets s out).bytes

  sheet_done : (s out : List ℕ) (t : Sheet) → sheet_in s (length out) ≡ given t → P.answer s out ≡ tallied t.header.count (failures (verdicts t))
  sheet_done s out t e = given_done s out (record { n = t.header.count; failed = failures (verdicts t) }) (answer_done s out t e)

  -- ---- demand 2

  -- what is read at 4i
  module _ (s out : List ℕ) (t : Sheet) (given_t : sheet_in s (length out) ≡ given t) (i : ℕ) (inside : i < t.header.count) where
    verdict_left : Leaves P s out i (entry_on s i)
    verdict_left =
        let r = record_given s out t given_t i inside in
        ap (λ (o : List ℕ). read_entry (four_at i o)) (left s out) ∙ verdict_read s out t given_t i inside r.0 r.1 ∙ ap given (entry_is s out t given_t i r.0 r.1)

    rule_left : (f : Entry) → Leaves P s out i f → f.rule ≡ (verdict (the_header s) (the_record s i)).rule
    rule_left f leaves = ap (λ (x : Entry). x.rule) (given_same (sym leaves ∙ verdict_left))

  pub second_demand : (s out : List ℕ) (n failed : ℕ) → P.answer s out ≡ tallied n failed → Second P s out n failed
  second_demand s out n failed e =
      let q = answer_sheet s (length out) (record { n = n; failed = failed }) (done_given s out n failed e) in
      let t = q.0 in
      let count : n ≡ t.header.count = ap (λ (w : Totals). w.n) q.2 in
      record {
        number = count ∙ ap (λ (h : Header). h.count) (sym (header_is s out t q.1));
        verdict_bytes_lem = λ i l.
            let r = record_given s out t q.1 i (omega arith) in
            ap (four_at i) (left s out) ∙ verdict_at s out t q.1 i (omega arith) r.0 r.1 ∙ ap entry_bytes (entry_is s out t q.1 i r.0 r.1);
        verdict_of_record = λ i l. verdict_left s out t q.1 i (omega arith);
        passes_exactly = λ i f l leaves. exactly_of (rule_left s out t q.1 i (omega arith) f leaves) (rule_passes s i);
        fails_exactly = λ i k f l leaves from. exactly_of (rule_left s out t q.1 i (omega arith) f leaves) (rule_fails s i k from);
        counted = ap (λ (w : Totals). w.failed) q.2 ∙ all_failures s out t q.1 ∙ ap (failed_from s 0) (sym count);
        others_as_lent = ap (drop (4 * n)) (left s out) ∙ subst (λ (m : ℕ). drop (4 * m) (output_of s out) ≡ drop (4 * m) out) (sym count) (rest_as_lent s out t q.1);
        same_length = ap length (left s out) ∙ output_length s out t q.1;
      }

  -- ---- demand 1

  module _ (s out : List ℕ) where
    fits_done : Accepted s (length out) → (n failed : ℕ) × (P.answer s out ≡ tallied n failed)
    fits_done a =
        let q = rows.accepted_given s (length out) a in
        (q.0.header.count, failures (verdicts q.0), sheet_done s out q.0 q.1)

    covers : Covered s (length out)
    covers = go (answer_of s (length out)) refl
      where
        go : (a : Answer Totals) → answer_of s (length out) ≡ a → Covered s (length out)
        go (given w) e = accepted (given_fits s (length out) w e)
        go (refused k p) e = turned_away k p ((rows.refused_exactly s (length out) k p).0 e)

    no_row : Accepted s (length out) → (k p : ℕ) → Row s (length out) k p → ⊥
    no_row a k p r =
        let d = fits_done a in
        given_refused (sym (done_given s out d.0 d.1 d.2) ∙ (rows.refused_exactly s (length out) k p).1 r)

    otherwise : Covered s (length out) → ((k p : ℕ) → Row s (length out) k p → ⊥) → Accepted s (length out)
    otherwise (accepted a) n = a
    otherwise (turned_away k p r) n = absurd (n k p r)

    nothing_written : (k p : ℕ) → answer_of s (length out) ≡ refused k p → output_of s out ≡ out
    unfolding answer_of ◌then◌
    nothing_written k p e = go (sheet_in s (length out)) refl e
      where
        totals : Sheet → Answer Totals
        totals t = given (record { n = t.header.count; failed = failures (verdicts t) })

        go : (a : Answer Sheet) → sheet_in s (length out) ≡ a → (a then totals) ≡ refused k p → output_of s out ≡ out
        go (given t) f g = given_refused g
        go (refused l q) f g = refused_as_lent s out l q f

    none_judged : (n failed : ℕ) → P.answer s out ≡ tallied n failed → count_of s ≡ 0 → (P.answer s out ≡ tallied 0 0) × (P.after s out ≡ out)
    none_judged n failed e z =
        let q = second_demand s out n failed e in
        let m : n ≡ 0 = q.number ∙ z in
        (e ∙ ap₂ tallied m (q.counted ∙ ap (failed_from s 0) m), subst (λ (k : ℕ). drop (4 * k) (P.after s out) ≡ drop (4 * k) out) m q.others_as_lent)

    no_records : length s ≡ head_size s → HeaderSound s → (TooSlender s → ⊥) → count_of s ≡ 0 → Accepted s (length out)
    no_records l f slim z =
        record {
          fits = record { header = f; slim = slim; whole = omega arith; enough = omega arith };
          records = record { sound = λ j m. absurd (omega arith); rising = λ j m. absurd (omega arith) };
        }

    pub first_demand : First P s out
    first_demand =
        record {
          covered = covers;
          one_row = rows.one_row s (length out);
          refused_exactly = λ k p. exactly_of (meets s out).answer (rows.refused_exactly s (length out) k p);
          accepted_exactly = (λ d. given_fits s (length out) (record { n = d.0; failed = d.1 }) (done_given s out d.0 d.1 d.2), fits_done);
          accepted_otherwise = (no_row, otherwise covers);
          refusal_writes_nothing = λ k p e. left s out ∙ nothing_written k p (sym (meets s out).answer ∙ e);
          none_judged = λ l f slim z. let d = fits_done (no_records l f slim z) in none_judged d.0 d.1 d.2 z;
        }

  -- ---- demand 3

  -- a verdict and its four bytes are later than rule k alike
  later_entry : (h : Header) (r : Record) (k : ℕ) → Exactly (Later k (entry_of h r)) (LaterVerdict k (verdict h r))
  unfolding entry_of
  later_entry h r k = (there, back)
    where
      there : Later k (entry_of h r) → LaterVerdict k (verdict h r)
      there (passed a b) = passedVerdict (ap₂ {C = Verdict} (λ x y. record { rule = x; required = y }) a b)
      there (above l) = aboveVerdict l

      back : LaterVerdict k (verdict h r) → Later k (entry_of h r)
      back (passedVerdict e) = passed (ap (λ (v : Verdict). v.rule) e) (ap (λ (v : Verdict). v.required) e)
      back (aboveVerdict l) = above l

  module _ (s out : List ℕ) (t : Sheet) (given_t : sheet_in s (length out) ≡ given t) (i : ℕ) (inside : i < t.header.count) where
    abbrev Holds : List ℕ → Record → Type 0
    Holds s' r = exchange.Holds s out t given_t i inside s' r

    -- what the program does on a sheet in which only record i is another
    module _ (s' : List ℕ) (r : Record) (holds : exchange.Holds s out t given_t i inside s' r) where
      pub holds_leaves : Leaves P s' out i (entry_of t.header r)
      holds_leaves = ap (λ (o : List ℕ). read_entry (four_at i o)) (left s' out) ∙ exchange.own_verdict s out t given_t i inside s' r holds

      pub holds_done : (failed : ℕ) × (P.answer s' out ≡ tallied t.header.count failed)
      holds_done = (
        failures (verdicts holds.sheet),
        sheet_done s' out holds.sheet holds.taken ∙ ap (λ (h : Header). tallied h.count (failures (verdicts holds.sheet))) holds.header,
      )

      holds_others : (j : ℕ) → j < t.header.count → (j ≡ i → ⊥) → four_at j (P.after s' out) ≡ four_at j (P.after s out)
      holds_others j l n = ap (four_at j) (left s' out) ∙ exchange.other_verdicts s out t given_t i inside s' r holds j l n ∙ ap (four_at j) (sym (left s out))

      -- with x in place of the scantling that a rule of its own speaks of
      pub put_own : (k x : ℕ) → OwnRule r.body k → InGauge k x → exchange.Holds s out t given_t i inside (with_scantling i k x s') (put_record k x r)
      unfolding with_scantling
      put_own k x own gauge =
          let new = put_record k x r in
          let z : record_fault new 0 ≡ 0 = own_sound r.kind r.id r.body k x own gauge (record_read_fine i (record_part (records_part t.header s') i) r holds.own) in
          subst (λ (q : Record). exchange.Holds s out t given_t i inside (replaced i (record_bytes (put_record k x q)) s') new) (sym (exchange.its_record s out t given_t i inside s' r holds))
          (exchange.in_place s out t given_t i inside s' r holds new z refl)

      -- and of the one that fails
      module _ (some : 1 ≤ (verdict t.header r).rule) (x : ℕ) (gauge : InGauge (verdict t.header r).rule x) where
        put_holds : exchange.Holds s out t given_t i inside (with_scantling i (verdict t.header r).rule x s') (put_record (verdict t.header r).rule x r)
        put_holds = put_own (verdict t.header r).rule x (named_own t.header r some) gauge

        put_meets : meets_rule (with_scantling i (verdict t.header r).rule x s') i (verdict t.header r).rule
            ≡ met_in (verdict t.header r).rule (rules_of t.header (put_record (verdict t.header r).rule x r))
        put_meets =
            let k = (verdict t.header r).rule in
            let new = with_scantling i k x s' in
            ap₂ (λ (h : Header) (q : Record). met_in k (rules_of h q)) (exchange.its_header s out t given_t i inside new (put_record k x r) put_holds)
            (exchange.its_record s out t given_t i inside new (put_record k x r) put_holds)

        put_met_exactly : Exactly (meets_rule (with_scantling i (verdict t.header r).rule x s') i (verdict t.header r).rule ≡ true)
            (Reaches (verdict t.header r).required x)
        put_met_exactly = exactly_of put_meets (met_exactly t.header r some x gauge)

      -- raised by what the program leaves for it
      raised_holds : exchange.Holds s out t given_t i inside (raised_by i s' (read_entry (four_at i (P.after s' out)))) (raised_once t.header r)
      unfolding raised_once entry_of
      raised_holds = subst (λ (a : Answer Entry). Holds (raised_by i s' a) (raised_once t.header r)) (sym holds_leaves) (go (eqb (verdict t.header r).required 0) refl)
        where
          go : (b : Bool) → eqb (verdict t.header r).required 0 ≡ b
              → Holds (cond b s' (with_scantling i (verdict t.header r).rule (verdict t.header r).required s')) (cond b r (raised (verdict t.header r) r))
          go true e = holds
          go false e =
              let l : 1 ≤ (verdict t.header r).required = omega (arith, eqb-false (verdict t.header r).required 0 e) in
              let some = rule_of t.header r l in
              put_holds some (verdict t.header r).required (l, number_in_gauge t.header r some)

    pub times_holds : (count : ℕ) (s' : List ℕ) (r : Record) → Holds s' r → Holds (raised_times P out count i s') (raisedRecord count t.header r)
    unfolding raised_times raisedRecord
    times_holds zero s' r holds = holds
    times_holds (suc count) s' r holds = times_holds count _ (raised_once t.header r) (raised_holds s' r holds)

    -- a verdict with no number is a pass, or its rule is met by no number of the gauge
    settled : (s' : List ℕ) (r : Record) → Holds s' r → (verdict t.header r).required ≡ 0 → Settled s' i (entry_of t.header r)
    unfolding entry_of
    settled s' r holds z = go (verdict t.header r).rule refl
      where
        go : (k : ℕ) → (verdict t.header r).rule ≡ k → Settled s' i (entry_of t.header r)
        go zero e = passes e z
        go (suc k) e =
            let some : 1 ≤ (verdict t.header r).rule = omega arith in
            none_meets some (λ x g. false_of _ (λ w. omega (arith, ((put_met_exactly s' r holds some x g).0 w).0)))

    module _ (r : Record) (read : record_of (records_part t.header s) i ≡ given r) where
      pub at_first : exchange.Holds s out t given_t i inside s r
      at_first = exchange.holds_at_first s out t given_t i inside r read

      third_of : 1 ≤ (verdict t.header r).rule → Third P s out t.header.count i (entry_of t.header r)
      unfolding entry_of
      third_of some =
          let h = t.header in
          let k = (verdict h r).rule in
          let e = entry_of h r in
          let holds : (x : ℕ) → InGauge e.rule x → Holds (with_scantling i k x s) (put_record k x r) = λ x g. put_holds s r at_first some x g in
          let gauge : 1 ≤ e.required → InGauge e.rule e.required = λ l. (l, number_in_gauge h r some) in
          let after : (x : ℕ) → InGauge e.rule x → (f : Entry) × Leaves P (with_scantling i k x s) out i f × Exactly (Later k f) (Reaches e.required x) = λ x g. (
            entry_of h (put_record k x r),
            holds_leaves (with_scantling i k x s) (put_record k x r) (holds x g),
            exactly_then (later_entry h (put_record k x r) k) (later_exactly h r some x g),
          ) in
          record {
            in_gauge = gauge;
            least_number = λ x g. put_met_exactly s r at_first some x g;
            with_record = λ x g.
                exchange.its_record s out t given_t i inside (with_scantling i k x s) (put_record k x r) (holds x g)
                ∙ ap (put_record k x) (sym (exchange.its_record s out t given_t i inside s r at_first));
            with_accepted = λ x g. holds_done (with_scantling i k x s) (put_record k x r) (holds x g);
            with_verdict = after;
            with_others = λ x g. holds_others (with_scantling i k x s) (put_record k x r) (holds x g);
            raised_verdict = λ l. let w = after e.required (gauge l) in (w.0, w.1, w.2.1 (l, omega arith));
          }

      three_of : ThreeRaisings P s out t.header.count i
      three_of =
          let after = times_holds 3 s r at_first in
          let q = raisedRecord 3 t.header r in
          record {
            three_accepted = holds_done (raised_times P out 3 i s) q after;
            three_enough = (entry_of t.header q, holds_leaves (raised_times P out 3 i s) q after, settled (raised_times P out 3 i s) q after (three_raisings t.header r));
            three_others = holds_others (raised_times P out 3 i s) q after;
          }

  module _ (s out : List ℕ) (n failed i : ℕ) (e : P.answer s out ≡ tallied n failed) (l : i < n) where
    pub taken : (t : Sheet) × (sheet_in s (length out) ≡ given t) × (n ≡ t.header.count)
    taken = let q = answer_sheet s (length out) (record { n = n; failed = failed }) (done_given s out n failed e) in (q.0, q.1, ap (λ (w : Totals). w.n) q.2)

    pub inside : i < taken.0.header.count
    inside = omega (arith, taken.2)

    pub its : (r : Record) × (record_of (records_part taken.0.header s) i ≡ given r)
    its = record_given s out taken.0 taken.1 i inside

    pub third_demand : (f : Entry) → Leaves P s out i f → 1 ≤ f.rule → Third P s out n i f
    unfolding entry_of
    third_demand f leaves some =
        let t = taken.0 in
        let r = its.0 in
        let same : f ≡ entry_of t.header r = given_same (sym leaves ∙ holds_leaves s out t taken.1 i inside s r (at_first s out t taken.1 i inside r its.1)) in
        let rule : 1 ≤ (verdict t.header r).rule = omega (arith, ap (λ (x : Entry). x.rule) same) in
        subst (λ (x : Entry). Third P s out n i x) (sym same)
        (subst (λ (m : ℕ). Third P s out m i (entry_of t.header r)) (sym taken.2) (third_of s out t taken.1 i inside r its.1 rule))

    pub three_demand : ThreeRaisings P s out n i
    three_demand = subst (λ (m : ℕ). ThreeRaisings P s out m i) (sym taken.2) (three_of s out taken.0 taken.1 i inside its.0 its.1)

  -- ---- all of them

  pub demands_met : Demands P
  demands_met =
      record {
        first = first_demand;
        second = second_demand;
        third = λ s out n failed i f e l. third_demand s out n failed i e l f;
        three = three_demand;
      }
