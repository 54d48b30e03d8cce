-- `checker::judge_sheet` meets its contract.
use Rattle.std.specs.Prelude.{Result, Err}
use Rattle.std.proofs.Common.{rules}
use Rattle.sheet.specs.declared.Refusal.{Refusal}
use Rattle.checker.specs.declared.Checked.{Checked}
use native.Mathlib.Omega.{arith}
use Prim.Native.Nat.{◌-◌, ◌*◌, ◌≤◌}
use mathlib.Core.Path.{◌≡◌, ap, sym, subst, ◌∙◌}
use mathlib.Core.List.{List, ◌++◌}
use Prim.Native.Nat.{ℕ}
use borrow.Rule.Slice.PartMut.{mid_of}
use lib.ListN.{length, take, drop, length-take}
use Rattle.layout.specs.laws.Tail.{mid_past}
use Rattle.sheet.specs.Header.{header_size}
use Rattle.checker.specs.Check.{records_part, Checks}
use Rattle.checker.specs.laws.FrontLaws.{header_fits}
use Rattle.checker.specs.Passes.{Ready, told_passed, pass_over, number_bytes}
use Rattle.checker.proofs.Whole.{ready, at_records, refused_checks, done_checks}
use Rattle.checker.proofs.judge_sheet.Goals.{After-size, After-judge_all}
use Rattle.checker.proofs.judge_sheet.Goals as goal

inside : (c : After-size) → c.size.result ≤ length c.args.sheet.now
inside c = omega (arith, c.size.ensures, (header_fits _ _ _ (sym c.requires.0)).whole)

-- `checker::judge_sheet` meets its contract.
-- Assumes nothing.
-- the bytes of all records, and where they stand
past : (c : After-size) → let a = c.args in
    mid_of c.size.result (length a.sheet.now - c.size.result) a.sheet.now ≡ records_part a.h a.sheet.now
past c = let a = c.args in mid_past c.size.result (header_size a.h) a.sheet.now c.size.ensures

-- the part of the draft that is written has all the verdicts
as_many : (c : After-judge_all) → length (take c.args.h.count c.judge_all.new.draft) ≡ c.args.h.count
as_many c = simp length-take (omega (arith, c.judge_all.auto.draft, c.requires.1))

-- what the pass comes to
passed : (c : After-judge_all) → let a = c.args in mid_of c.size.result (length a.sheet.now - c.size.result) a.sheet.now ≡ records_part a.h a.sheet.now →
    told_passed c.judge_all.result c.judge_all.new.draft ≡ pass_over a.h (records_part a.h a.sheet.now) a.draft.now
passed c e = c.judge_all.ensures ∙ ap (λ (b : List ℕ). pass_over c.args.h b c.args.draft.now) e

-- src/lib.rt:332:31
pub slice_bounds-judge_all-count : goal.slice_bounds-judge_all-count
slice_bounds-judge_all-count c = omega (arith, inside c)

-- src/lib.rt:332:31
pub slice_bounds-judge_all-start : goal.slice_bounds-judge_all-start
slice_bounds-judge_all-start c = omega (arith, inside c)

-- src/lib.rt:332:9
pub judge_all-requires : goal.judge_all-requires
judge_all-requires c =
    let a = c.args in
    subst (λ (b : List ℕ). Ready a.h b (length a.draft.now)) (sym (past (goal.at.judge_all-requires c).After-size)) (ready a.sheet.now (length a.out.now) a.h c.requires.0 _ c.requires.1)

-- src/lib.rt:336:13
pub write_all-requires : goal.write_all-requires
write_all-requires c =
    omega (arith, as_many (goal.at.write_all-requires c).After-judge_all, (header_fits _ _ _ (sym c.requires.0)).fits)

-- src/lib.rt:328:1
pub returns-in_err-failed : goal.returns-in_err-failed
returns-in_err-failed c =
    let a = c.args in
    let drawn = c.judge_all.new.draft in
    let at = goal.at.returns-in_err-failed c in
    let passed_on : c.from_residual.result ≡ Err c.in_err-failed.field-0.0 = search rules in
    subst (λ (r : Result Checked Refusal). Checks a.sheet.now a.out.now r a.out.now) (sym passed_on)
    (refused_checks a.sheet.now a.out.now _
    (at_records a.sheet.now (length a.out.now) a.h c.requires.0 _ _ _
    (sym (ap (λ p. told_passed p drawn) c.in_err-failed.was) ∙ passed at.After-judge_all (past at.After-size))))

-- src/lib.rt:328:1
pub returns : goal.returns
returns c =
    let a = c.args in
    let drawn = c.judge_all.new.draft in
    let all = take a.h.count drawn in
    let at = goal.at.returns c in
    let wrote : c.write_all.new.out ≡ number_bytes all ++ drop (4 * length all) a.out.now = c.write_all.ensures in
    done_checks a.sheet.now a.out.now a.h c.requires.0 a.draft.now _ drawn _
    (wrote ∙ ap (λ (k : ℕ). number_bytes all ++ drop (4 * k) a.out.now) (as_many at.After-judge_all))
    (sym (ap (λ p. told_passed p drawn) c.in_ok-failed.was) ∙ passed at.After-judge_all (past at.After-size))
