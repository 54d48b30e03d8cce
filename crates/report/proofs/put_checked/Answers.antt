-- `report::put_checked` meets its contract: the verdicts' lines stand in front, and that of the totals behind them, for which there is room.
use Rattle.std.specs.Prelude.{Result}
use Rattle.std.proofs.Common.{◌≡◌, ℕ, ◌+◌, ◌*◌, ◌≤◌, List, [], ◌∷◌, ◌++◌, length, sym, ap, subst, arith, length-append}
use Rattle.sheet.specs.Versions.{most_records}
use Rattle.decimal.specs.Laid.{Laid}
use Rattle.decimal.specs.laws.LaidLaws.{second_fits, laid_both}
use Rattle.report.specs.Text.{line}
use Rattle.report.specs.laws.TextLaws.{pair_most}
use Rattle.report.specs.Pieces.{verdicts_text, checked_text, Counted, Roomy}
use Rattle.report.specs.laws.PiecesLaws.{verdicts_most}
use Rattle.report.proofs.put_checked.Goals as goal
use Rattle.sheet.specs.declared.Refusal.{Refusal}
use Rattle.checker.specs.declared.Checked.{Checked}
use Rattle.checker.specs.Check.{tallied}

-- the sheet was checked: its two counts, and the text in two pieces
module _ (k : Result Checked Refusal) (out page : List ℕ) (n failed : ℕ) (done : k ≡ tallied n failed) (pre : Roomy k out page) where
  abbrev totals : List ℕ
  totals = line (n ∷ failed ∷ [])

  abbrev first : List ℕ
  first = verdicts_text out 0 n

  counted : (4 * n ≤ length out) × (n ≤ most_records) × (failed ≤ most_records)
  counted = subst (λ (x : Result Checked Refusal). Counted x out) done pre.counted

  split : checked_text k out ≡ first ++ totals
  unfolding checked_text
  split = ap (λ (x : Result Checked Refusal). checked_text x out) done

  fits : 0 + length (checked_text k out) ≤ length page
  fits =
      let k = counted in
      let most = pair_most 2 2 n failed (omega (arith, k.1)) (omega (arith, k.2)) in
      omega (arith, ap length split, length-append first totals, verdicts_most out 0 n, most, pre.room, k.1)

pub put_verdicts-at-requires : goal.put_verdicts-at-requires
put_verdicts-at-requires c =
    let k = counted c.args.checked c.args.out.now c.args.page.now c.in-Ok.totals.n c.in-Ok.totals.failed c.in-Ok.is c.requires in
    (k.0, omega (arith, k.1, c.requires.room))

pub put_pair-requires : goal.put_pair-requires
put_pair-requires c =
    let k = c.args.checked in
    let out = c.args.out.now in
    let page = c.args.page.now in
    let n = c.in-Ok.totals.n in
    let failed = c.in-Ok.totals.failed in
    let done = c.in-Ok.is in
    second_fits page 0 (verdicts_text out 0 n) (line (n ∷ failed ∷ [])) (split k out page n failed done c.requires) (fits k out page n failed done c.requires) c.put_verdicts-at.ensures

pub returns-in-Err : goal.returns-in-Err
unfolding checked_text
returns-in-Err c =
    subst (λ (x : Result Checked Refusal). Laid c.args.page.now 0 (checked_text x c.args.out.now) c.put_refusal.result c.put_refusal.new.page) (sym c.in-Err.is) c.put_refusal.ensures

pub returns-in-Ok : goal.returns-in-Ok
returns-in-Ok c =
    let k = c.args.checked in
    let out = c.args.out.now in
    let page = c.args.page.now in
    let n = c.in-Ok.totals.n in
    let failed = c.in-Ok.totals.failed in
    let done = c.in-Ok.is in
    let l = laid_both page 0 (verdicts_text out 0 n) (line (n ∷ failed ∷ [])) (split k out page n failed done c.requires) (fits k out page n failed done c.requires) c.put_verdicts-at.ensures c.put_pair.ensures in
    record { place = l.place; bytes = l.bytes }
