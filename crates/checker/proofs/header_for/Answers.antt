use Rattle.std.proofs.Common.{◌≡◌, Err, sym, ap, ◌∙◌, arith, rules}
use Rattle.sheet.specs.Refusals.{told_result}
use Rattle.checker.specs.laws.FrontLaws.{header_refused_lem, header_slender, header_length, header_room, header_good}
use Rattle.checker.proofs.header_for.Goals as goal

pub returns-then-too_slender : goal.returns-then-too_slender
returns-then-too_slender c =
    let read = sym c.read_header.ensures ∙ ap told_result c.in_ok-h.was in
    sym (header_slender c.args.sheet.now c.args.room c.in_ok-h.h read (sym c.too_slender.ensures ∙ c.if-too_slender.true))

pub returns-then-sheet-size : goal.returns-then-sheet-size
returns-then-sheet-size c =
    let read = sym c.read_header.ensures ∙ ap told_result c.in_ok-h.was in
    sym (header_length c.args.sheet.now c.args.room c.in_ok-h.h read (sym c.too_slender.ensures ∙ c.if-too_slender.false) (λ e. c.if-sheet-size.true (omega (arith, e, c.size.ensures))))

pub returns-then-room-n : goal.returns-then-room-n
returns-then-room-n c =
    let read = sym c.read_header.ensures ∙ ap told_result c.in_ok-h.was in
    sym (header_room c.args.sheet.now c.args.room c.in_ok-h.h read (sym c.too_slender.ensures ∙ c.if-too_slender.false) (omega (arith, c.if-sheet-size.false, c.size.ensures)) c.if-room-n.true)

pub returns-in_err-h : goal.returns-in_err-h
returns-in_err-h c =
    let passed_on : c.from_residual.result ≡ Err c.in_err-h.field-0.0 = search rules in
    ap told_result passed_on ∙ sym (header_refused_lem c.args.sheet.now _ _ _ (sym c.read_header.ensures ∙ ap told_result c.in_err-h.was))

pub returns : goal.returns
returns c =
    let read = sym c.read_header.ensures ∙ ap told_result c.in_ok-h.was in
    sym (header_good c.args.sheet.now c.args.room c.in_ok-h.h read (sym c.too_slender.ensures ∙ c.if-too_slender.false) (omega (arith, c.if-sheet-size.false, c.size.ensures)) c.if-room-n.false)
