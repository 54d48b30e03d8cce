use Rattle.std.proofs.Common.{◌+◌, ◌-◌, arith}
use Rattle.checker.specs.Check.{record_part}
use Rattle.sheet_csv.specs.Steps.{record_text, records_text}
use Rattle.sheet_csv.specs.laws.WriteLaws.{text_most, texts_most}
use Rattle.sheet_csv.proofs.Laying.{begin, turn, done, record_more, record_none, all_records}
use Rattle.sheet_csv.proofs.page.put_records.Goals as goal

pub loop-i-init : goal.loop-i-init
loop-i-init c =
    (omega arith, omega arith, begin _ _ _ _ (all_records c.args.records.now c.args.n) (omega (arith, texts_most c.args.records.now 0 c.args.n, c.requires.1)))

pub loop-i-preserved : goal.loop-i-preserved
loop-i-preserved c =
    let b = c.args.records.now in
    let i = c.loop-i.i in
    let n = c.args.n in (
      omega (arith, c.loop-i-test.true),
      omega (arith, c.put_record-here.ensures.place, text_most (record_part b i), c.loop-i.invariant.1),
      turn _ _ _ _ _ _ c.loop-i.invariant.2 (record_text (record_part b i)) (records_text b (i + 1) (n - (i + 1))) (record_more b n i c.loop-i-test.true) _ _ c.put_record-here.ensures,
    )

pub returns : goal.returns
returns c = done _ _ _ _ _ _ c.loop-i.invariant.2 (record_none c.args.records.now c.args.n c.loop-i.i c.loop-i-test.false)
