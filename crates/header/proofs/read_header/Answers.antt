-- `header::read_header` meets its contract.
use Rattle.std.specs.Prelude.{Err}
use Rattle.std.proofs.Common.{rules}
use Rattle.sheet.specs.Refusals.{told_result}
use Rattle.sheet.specs.laws.RefusalLaws.{goes_on, stops}
use native.Mathlib.Omega.{arith}
use Prim.Native.Nat.{ℕ, ◌+◌, ◌*◌, ◌%◌, ◌^◌, ◌<◌}
use mathlib.Core.Path.{◌≡◌, refl, sym, ap, ◌∙◌}
use mathlib.Core.List.{List}
use lib.ListN.{get_or, drop}
use Rattle.layout.specs.Layout.{unpack}
use Rattle.layout.specs.Bytes.{read_of}
use Rattle.layout.specs.laws.Tail.{mid_tail}
use Rattle.sheet.specs.Lines.{first_widths}
use Rattle.header.proofs.Fields.{first_fields_lem}
use Rattle.header.proofs.Answers.{read_few, read_under, read_good, read_bad}
use Rattle.header.proofs.read_header.Goals.{After-read_word-rest}
use Rattle.header.proofs.read_header.Goals as goal

-- `header::read_header` meets its contract.
-- Assumes nothing.
-- what stands after the first bytes, read as a word
word : (c : After-read_word-rest) → let s = c.args.s.now in c.read_word-rest.result ≡ read_of 8 (drop 12 s)
word c = c.read_word-rest.ensures ∙ ap (read_of 8) (mid_tail 12 c.args.s.now)

-- the three bits that carry nothing
spare : (hi lo : ℕ) → lo < 2 ^ 32 → lo % 8 ≡ get_or (unpack first_widths (hi * 2 ^ 32 + lo)) 8 0
spare hi lo l = sym (ap (λ (fs : List ℕ). get_or fs 8 0) (first_fields_lem hi lo l))

-- src/lib.rt:171:9
pub returns-then-s-lt-FIRST : goal.returns-then-s-lt-FIRST
returns-then-s-lt-FIRST c = read_few _ c.if-s-lt-FIRST.true

-- src/lib.rt:178:9
pub returns-then-s-needs : goal.returns-then-s-needs
returns-then-s-needs c =
    let a = c.args in
    read_under a.s.now c.if-s-lt-FIRST.false _ _ _ c.read_short-n.ensures (word (goal.at.returns-then-s-needs c).After-read_word-rest) c.header_of-h.ensures
    (omega (arith, c.if-s-needs.true, c.needs.ensures))

-- src/lib.rt:182:9
-- LOOK: κs/given
pub returns : goal.returns
returns c =
    let a = c.args in
    read_good a.s.now c.if-s-lt-FIRST.false _ _ _ c.read_short-n.ensures (word (goal.at.returns c).After-read_word-rest) c.header_of-h.ensures
    (omega (arith, c.if-s-needs.false, c.needs.ensures)) _ _ _
    (spare c.read_short-n.result.hi c.read_short-n.result.lo (omega (arith, c.struct_known-1.given))) refl c.fault.ensures (goes_on _ _ _ (sym c.outcome.ensures ∙ c.in_ok-outcome.was))

-- src/lib.rt:167:1
-- LOOK: κs/given
pub returns-in_err-outcome : goal.returns-in_err-outcome
returns-in_err-outcome c =
    let passed_on : c.from_residual.result ≡ Err c.in_err-outcome.field-0.0 = search rules in
    let stopped = stops _ _ _ (sym c.outcome.ensures ∙ c.in_err-outcome.was) in
    let a = c.args in
    ap told_result passed_on ∙ read_bad a.s.now c.if-s-lt-FIRST.false _ _ _ c.read_short-n.ensures (word (goal.at.returns-in_err-outcome c).After-read_word-rest) c.header_of-h.ensures
    (omega (arith, c.if-s-needs.false, c.needs.ensures)) _ _ _
    (spare c.read_short-n.result.hi c.read_short-n.result.lo (omega (arith, c.struct_known-1.given))) refl c.fault.ensures _ stopped.1 stopped.0
