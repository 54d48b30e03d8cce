use Rattle.std.proofs.Common.{Err, rules, ℕ, ◌≡◌, ◌-◌, List, length, length-drop, length-take-le, refl, sym, ap, subst, ◌∙◌, arith}
use borrow.Rule.Slice.PartMut.{mid_of}
use Rattle.layout.specs.laws.Tail.{mid_past}
use Rattle.decimal.specs.Laid.{Laid}
use Rattle.sheet.specs.declared.Header.{Header}
use Rattle.sheet.specs.Refusals.{told_result}
use Rattle.sheet.specs.Header.{header_size}
use Rattle.checker.specs.Check.{records_part}
use Rattle.sheet_csv.specs.Write.{text_from}
use Rattle.sheet_csv.specs.Steps.{fits_in, records_text}
use Rattle.sheet_csv.specs.laws.WriteLaws.{header_written}
use Rattle.sheet_csv.proofs.Laying.{rest_fits, text_inside, text_taken}
use Rattle.sheet_csv.proofs.Telling.{passes_on, refuses, converts_same, text_refused, text_given}
use Rattle.sheet_csv.proofs.write_text.Goals as goal

-- the bytes of all records
past : (s : List ℕ) (h : Header) (size : ℕ) → size ≡ header_size h → mid_of size (length s - size) s ≡ records_part h s
past s h size e = mid_past size (header_size h) s e

-- the lines on the page
laid : (s : List ℕ) (h : Header) (size : ℕ) → size ≡ header_size h → (page after : List ℕ) (at len : ℕ) → Laid page at (records_text (mid_of size (length s - size) s) 0 h.count) len after
    → Laid page at (records_text (records_part h s) 0 h.count) len after
laid s h size e page after at len l = subst (λ (b : List ℕ). Laid page at (records_text b 0 h.count) len after) (past s h size e) l

pub put_header-at-requires : goal.put_header-at-requires
put_header-at-requires c = ((header_written c.args.sheet.now c.in_ok-h.h (sym (ap told_result c.in_ok-h.was) ∙ c.sound_header.ensures)).fine, omega arith)

pub slice_bounds-put_records-count : goal.slice_bounds-put_records-count
slice_bounds-put_records-count c =
    let w = header_written c.args.sheet.now c.in_ok-h.h (sym (ap told_result c.in_ok-h.was) ∙ c.sound_header.ensures) in
    omega (arith, c.size.ensures, w.whole)

pub slice_bounds-put_records-start : goal.slice_bounds-put_records-start
slice_bounds-put_records-start c =
    let w = header_written c.args.sheet.now c.in_ok-h.h (sym (ap told_result c.in_ok-h.was) ∙ c.sound_header.ensures) in
    omega (arith, c.size.ensures, w.whole)

pub put_records-len-requires : goal.put_records-len-requires
put_records-len-requires c =
    let s = c.args.sheet.now in
    let h = c.in_ok-h.h in
    let w = header_written s h (sym (ap told_result c.in_ok-h.was) ∙ c.sound_header.ensures) in
    (omega (arith, ap length (past s h c.size.result c.size.ensures), length-drop (header_size h) s, w.whole), rest_fits s h w _ refl _ _ c.put_header-at.ensures)

pub slice_bounds-page-end : goal.slice_bounds-page-end
slice_bounds-page-end c =
    let s = c.args.sheet.now in
    let h = c.in_ok-h.h in
    let w = header_written s h (sym (ap told_result c.in_ok-h.was) ∙ c.sound_header.ensures) in
    text_inside s h w _ refl _ _ c.put_header-at.ensures _ _ (laid s h c.size.result c.size.ensures _ _ _ _ c.put_records-len.ensures)

pub slice_bounds-tell-end : goal.slice_bounds-tell-end
slice_bounds-tell-end c =
    let s = c.args.sheet.now in
    let h = c.in_ok-h.h in
    let w = header_written s h (sym (ap told_result c.in_ok-h.was) ∙ c.sound_header.ensures) in
    sym (length-take-le _ _ (text_inside s h w _ refl _ _ c.put_header-at.ensures _ _ (laid s h c.size.result c.size.ensures _ _ _ _ c.put_records-len.ensures)))

pub returns-in_err-h : goal.returns-in_err-h
returns-in_err-h c =
    let a = c.args in
    let passed_on : c.from_residual.result ≡ Err c.in_err-h.field-0.0 = search rules in
    passes_on c.args.out.now passed_on (refuses (text_from a.sheet.now (length a.out.now)) a.out.now _ (text_refused a.sheet.now (length a.out.now) c.in_err-h.field-0.0 (sym (ap told_result c.in_err-h.was) ∙ c.sound_header.ensures)))

pub returns : goal.returns
returns c =
    let s = c.args.sheet.now in
    let room = length c.args.out.now in
    let h = c.in_ok-h.h in
    let w = header_written s h (sym (ap told_result c.in_ok-h.was) ∙ c.sound_header.ensures) in
    let is = text_taken s h w _ refl _ _ c.put_header-at.ensures _ _ (laid s h c.size.result c.size.ensures _ _ _ _ c.put_records-len.ensures) in
    converts_same _ (text_from s room) c.args.out.now _ _ (ap (λ (b : List ℕ). fits_in b room) is ∙ text_given s room w.sheet w.sound) c.tell.ensures
