use Rattle.std.proofs.Common.{ℕ, ◌≡◌, ◌+◌, Bool, cond, List, refl, sym, ap, ◌∙◌, arith}
use Rattle.filling.specs.laws.RowLaws.{one_left}
use Rattle.filling.specs.laws.StepLaws.{counted, empty_at, at_comma, at_line, at_end, at_fault}
use Rattle.filling.proofs.count_at.Goals as goal

-- the fields up to the row's end, by the last of them
last : (s : List ℕ) (here kept count all n : ℕ) (empty : Bool) → n ≡ cond empty kept (count + 1) → empty ≡ empty_at s here
    → counted s here count kept ≡ cond (empty_at s here) kept (count + 1) → all ≡ counted s here count kept → n ≡ all
last s here kept count all n empty k e f a = k ∙ ap (λ (t : Bool). cond t kept (count + 1)) e ∙ sym f ∙ sym a

pub loop-next-init : goal.loop-next-init
loop-next-init c = (omega arith, omega arith, refl, one_left _ _)

pub loop-next-smaller : goal.loop-next-smaller
loop-next-smaller c =
    let g = at_comma c.args.text.now c.loop-next.here c.in-Comma.num c.in-Comma.next (sym c.field_from.ensures ∙ c.in-Comma.is) in
    omega (arith, g.on, g.within)

pub loop-next-preserved : goal.loop-next-preserved
loop-next-preserved c =
    let l = c.loop-next in
    let s = c.args.text.now in
    let g = at_comma s l.here c.in-Comma.num c.in-Comma.next (sym c.field_from.ensures ∙ c.in-Comma.is) in
    let kept : c.kept_by-kept.result ≡ cond c.is_empty-empty.result l.kept (l.count + 1) = c.kept_by-kept.ensures in (
      omega (arith, g.on),
      omega (arith, g.on, g.within),
      l.invariant.2 ∙ g.end,
      l.invariant.3
          ∙ g.count l.count l.kept
          ∙ ap (counted s c.in-Comma.next (l.count + 1)) (ap (λ (t : Bool). cond t l.kept (l.count + 1)) (sym c.is_empty-empty.ensures) ∙ sym kept),
    )

pub returns-in-Line : goal.returns-in-Line
returns-in-Line c =
    let l = c.loop-next in
    let g = at_line c.args.text.now l.here c.in-Line.num c.in-Line.next (sym c.field_from.ensures ∙ c.in-Line.is) in
    record {
      count = last c.args.text.now l.here l.kept l.count _ _ _ c.kept_by.ensures c.is_empty-empty.ensures (g.count l.count l.kept) l.invariant.3;
      end = c.end_before.ensures ∙ sym (l.invariant.2 ∙ g.end);
    }

pub returns-in-End : goal.returns-in-End
returns-in-End c =
    let l = c.loop-next in
    let g = at_end c.args.text.now l.here _ (sym c.field_from.ensures ∙ c.in-End.is) in
    record {
      count = last c.args.text.now l.here l.kept l.count _ _ _ c.kept_by-in-End.ensures c.is_empty-empty.ensures (g.count l.count l.kept) l.invariant.3;
      end = sym (l.invariant.2 ∙ g.end);
    }

pub returns-in-Fault : goal.returns-in-Fault
returns-in-Fault c =
    let l = c.loop-next in
    let g = at_fault c.args.text.now l.here (sym c.field_from.ensures ∙ c.in-Fault.is) in
    record { count = sym (l.invariant.3 ∙ g.count l.count l.kept); end = sym (l.invariant.2 ∙ g.end) }
