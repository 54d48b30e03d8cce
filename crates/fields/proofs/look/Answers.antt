use Rattle.std.proofs.Common.{ℕ, ◌≡◌, ◌+◌, ◌<◌, List, length, get_or, drop, sym, ap, ◌∙◌, ltb-false}
use borrow.Author.Tests.{ne_eqb}
use Rattle.fields.specs.Marks.{seen, seen_at}
use Rattle.fields.proofs.Laws.{seen_here, seen_end}
use Rattle.fields.proofs.look.Goals as goal

-- by the byte that is there
seen_by : (s : List ℕ) (at b : ℕ) → at < length s → b ≡ get_or s at 0 → seen_at (drop at s) ≡ seen b (drop (at + 1) s)
seen_by s at b l e = seen_here s at l ∙ ap (λ (x : ℕ). seen x (drop (at + 1) s)) (sym e)

pub returns-in-None : goal.returns-in-None
returns-in-None c =
    sym (seen_end _ _ (ltb-false _ _ (sym c.in-None.ensures.lookup.0)))

pub returns-in-Some-eq44 : goal.returns-in-Some-eq44
returns-in-Some-eq44 c =
    let there = c.in-Some-eq44.ensures.lookup.3 in
    sym (seen_by _ _ 44 there.0 (sym c.in-Some-eq44.field-0-test ∙ there.1 0))

pub returns-in-Some-eq34 : goal.returns-in-Some-eq34
returns-in-Some-eq34 c =
    let there = c.in-Some-eq34.ensures.lookup.3 in
    sym (seen_by _ _ 34 there.0 (sym c.in-Some-eq34.field-0-test ∙ there.1 0))

pub returns-in-Some-eq10 : goal.returns-in-Some-eq10
returns-in-Some-eq10 c =
    let there = c.in-Some-eq10.ensures.lookup.3 in
    c.after_feed.ensures ∙ sym (seen_by _ _ 10 there.0 (sym c.in-Some-eq10.field-0-test ∙ there.1 0))

pub returns-in-Some-eq13 : goal.returns-in-Some-eq13
returns-in-Some-eq13 c =
    let there = c.in-Some-eq13.ensures.lookup.3 in
    c.after_return.ensures ∙ sym (seen_by _ _ 13 there.0 (sym c.in-Some-eq13.field-0-test ∙ there.1 0))

pub returns-in-Some : goal.returns-in-Some
returns-in-Some c =
    let there = c.in-Some.ensures.lookup.3 in
    let other = c.in-Some.field-0-test in
    sym (seen_by _ _ _ there.0 (there.1 0) ∙ simp (ne_eqb _ _ other.0.0.0.1, ne_eqb _ _ other.0.0.1, ne_eqb _ _ other.0.1, ne_eqb _ _ other.1))
