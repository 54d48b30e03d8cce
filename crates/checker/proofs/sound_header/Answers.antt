use Rattle.std.proofs.Common.{rules, Err, ℕ, ◌-◌, ◌≡◌, List, length, length-drop, sym, ap, ◌∙◌, arith}
use borrow.Rule.Slice.PartMut.{mid_of}
use Rattle.layout.specs.laws.Tail.{mid_past}
use Rattle.sheet.specs.declared.Header.{Header}
use Rattle.sheet.specs.Refusals.{told_result}
use Rattle.sheet.specs.Header.{header_size}
use Rattle.checker.specs.Check.{records_part}
use Rattle.checker.specs.Unjudged.{records_sound}
use Rattle.checker.specs.laws.FrontLaws.{header_fits}
use Rattle.checker.proofs.Unjudged.{header_refused_lem, records_refused, all_sound}
use Rattle.checker.proofs.sound_header.Goals as goal

-- the bytes of all records
past : (s : List ℕ) (h : Header) (size : ℕ) → size ≡ header_size h → mid_of size (length s - size) s ≡ records_part h s
past s h size e = mid_past size (header_size h) s e

pub slice_bounds-records_sound-count : goal.slice_bounds-records_sound-count
slice_bounds-records_sound-count c =
    let read = sym (ap told_result c.in_ok-h.was) ∙ c.header_for.ensures in
    omega (arith, c.size.ensures, (header_fits _ _ _ (sym read)).whole)

pub slice_bounds-records_sound-start : goal.slice_bounds-records_sound-start
slice_bounds-records_sound-start c =
    let read = sym (ap told_result c.in_ok-h.was) ∙ c.header_for.ensures in
    omega (arith, c.size.ensures, (header_fits _ _ _ (sym read)).whole)

pub records_sound-requires : goal.records_sound-requires
records_sound-requires c =
    let s = c.args.sheet.now in
    let h = c.in_ok-h.h in
    let read = sym (ap told_result c.in_ok-h.was) ∙ c.header_for.ensures in
    omega (arith, ap length (past s h c.size.result c.size.ensures), length-drop (header_size h) s, (header_fits _ _ _ (sym read)).whole)

pub returns-in_err-h : goal.returns-in_err-h
returns-in_err-h c =
    let passed_on : c.from_residual.result ≡ Err c.in_err-h.field-0.0 = search rules in
    ap told_result passed_on ∙ header_refused_lem c.args.sheet.now _ _ (sym (ap told_result c.in_err-h.was) ∙ c.header_for.ensures)

-- what is said of the records
pub returns-in_err-records_sound : goal.returns-in_err-records_sound
returns-in_err-records_sound c =
    let s = c.args.sheet.now in
    let h = c.in_ok-h.h in
    let read = sym (ap told_result c.in_ok-h.was) ∙ c.header_for.ensures in
    let passed_on : c.from_residual-in_err-records_sound.result ≡ Err c.in_err-records_sound.field-0.0 = search rules in
    ap told_result passed_on ∙ records_refused s _ read _ _
    (sym (ap told_result c.in_err-records_sound.was) ∙ c.records_sound.ensures ∙ ap (λ (b : List ℕ). records_sound b h.count) (past s h c.size.result c.size.ensures))

pub returns : goal.returns
returns c =
    let s = c.args.sheet.now in
    let h = c.in_ok-h.h in
    let read = sym (ap told_result c.in_ok-h.was) ∙ c.header_for.ensures in
    all_sound s _ read
    (sym (ap told_result c.in_ok-records_sound.was) ∙ c.records_sound.ensures ∙ ap (λ (b : List ℕ). records_sound b h.count) (past s h c.size.result c.size.ensures))
