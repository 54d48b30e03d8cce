use Rattle.std.proofs.Common.{refl, sym, ◌∙◌, arith}
use Rattle.fields.specs.Number.{value_of}
use Rattle.text.specs.laws.LineLaws.{goes, at_line, at_end, at_fault}
use Rattle.text.proofs.Reading.{go_on, ends, stops}
use Rattle.text.proofs.line_at.Goals as goal

pub loop-num-smaller : goal.loop-num-smaller
loop-num-smaller c =
    let g = goes c.args.text.now c.loop-num.here c.in-Comma.num c.in-Comma.next (sym c.field_from.ensures ∙ c.in-Comma.is) in
    omega (arith, g.on, g.within)

pub loop-num-preserved : goal.loop-num-preserved
loop-num-preserved c =
    let g = goes c.args.text.now c.loop-num.here c.in-Comma.num c.in-Comma.next (sym c.field_from.ensures ∙ c.in-Comma.is) in (
      omega (arith, g.on),
      omega (arith, g.on, g.within),
      go_on _ _ _ _ _ c.loop-num.invariant.2 (value_of c.in-Comma.num) _ g.line _ c.store.ensures _ refl,
    )

pub returns-in-Line : goal.returns-in-Line
returns-in-Line c = ends _ _ _ _ _ c.loop-num.invariant.2 (value_of c.in-Line.num) _ (at_line _ _ _ _ (sym c.field_from.ensures ∙ c.in-Line.is)) _ c.store-in-Line.ensures

pub returns-in-End : goal.returns-in-End
returns-in-End c = ends _ _ _ _ _ c.loop-num.invariant.2 (value_of c.in-End.num) _ (at_end _ _ _ (sym c.field_from.ensures ∙ c.in-End.is)) _ c.store-in-End.ensures

pub returns-in-Fault : goal.returns-in-Fault
returns-in-Fault c = stops _ _ _ _ _ c.loop-num.invariant.2 _ (at_fault _ _ (sym c.field_from.ensures ∙ c.in-Fault.is))
