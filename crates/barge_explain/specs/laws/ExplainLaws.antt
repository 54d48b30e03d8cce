-- What is read of an input says all; a sheet that is not turned away has the bytes that its header says; and a trail is within its page.
-- Assumes nothing.
use Rattle.std.specs.Prelude.{ℕ, ◌+◌, ◌-◌, ◌≤◌, ◌≡◌, refl, List, ◌++◌, length, take, drop, replicate, Result, Ok, Err}
use Rattle.std.proofs.Common.{sym, ap, subst, ◌∙◌, arith, length-append, take_at, take-take}
use Rattle.std.proofs.lemmas.List.{length-replicate}
use Rattle.sheet.specs.declared.Header.{Header}
use Rattle.sheet.specs.declared.Record.{Record}
use Rattle.sheet.specs.Refusals.{Answer, given, told_result}
use Rattle.sheet.specs.laws.RefusalLaws.{given_same}
use Rattle.checker.specs.Check.{◌then◌, sheet_size, Sheet, sheet_in}
use Rattle.checker.specs.Unjudged.{room as sheetRoom, sound_sheet, sound_header}
use Rattle.checker.specs.laws.ThenLaws.{then_given}
use Rattle.checker.specs.laws.CheckLaws.{sheet_whole}
use Rattle.checker.specs.laws.Longer.{sheet_cut}
use Rattle.sheet.specs.Versions.{enough}
use Rattle.pencil.specs.declared.Trail.{Trail}
use Rattle.pencil.specs.Templates.{head_words}
use Rattle.pencil.specs.Trail.{trail_text, room as room_of, Trails}
use Rattle.decimal.specs.laws.LaidLaws.{laid_front}
use Rattle.wording.specs.Writes.{Spot, spot, Writes, text_of}
use Rattle.wording.specs.laws.WritesLaws.{all_laid}
use Rattle.barge_explain.specs.Explain.{Sized, room}
use Rattle.sheet.specs.declared.Refusal.{Refusal}

-- what is read of an input up to `enough` bytes or more says what the whole of it says
pub header_cut : (k : ℕ) (s : List ℕ) → enough ≤ k → sound_header (take k s) ≡ sound_header s
unfolding sound_header sound_sheet
header_cut k s l =
    let cut : sheet_in (take k s) sheetRoom ≡ sheet_in s sheetRoom
    = sym (sheet_cut (take k s) sheetRoom) ∙ ap (λ (b : List ℕ). sheet_in b sheetRoom) (take-take enough k s l) ∙ sheet_cut s sheetRoom in
    ap (λ (x : Answer Sheet). x then λ t. given t.header) cut

pub sized : (s : List ℕ) (r : Result Header Refusal) → told_result r ≡ sound_header s → Sized r (length s)
unfolding sound_header sound_sheet
sized s (Ok h) e =
    let a = then_given (sheet_in s sheetRoom) (λ t. given t.header) h (sym e) in
    subst (λ (g : Header). sheet_size g ≡ length s) (given_same a.2) (sym (sheet_whole s sheetRoom a.0 a.1).header.whole)
sized s (Err r) e = tt

pub trail_inside : (h : Header) (r : Record) (t : Trail) → Trails h r t → t.len ≤ length t.bytes
trail_inside h r t w =
    let rest : List ℕ = replicate (room_of - length (trail_text h r)) 0 in
    omega (arith, w.written.len, ap length w.written.bytes, length-append (trail_text h r) rest)

-- the text of a trail is what stands in front of its page
pub trail_front : (h : Header) (r : Record) (t : Trail) → Trails h r t → take t.len t.bytes ≡ trail_text h r
trail_front h r t w =
    let rest : List ℕ = replicate (room_of - length (trail_text h r)) 0 in
    ap (take t.len) w.written.bytes ∙ take_at (trail_text h r) rest t.len (sym w.written.len)

-- no trail is longer than its page
pub trail_room : (h : Header) (r : Record) (t : Trail) → length t.bytes ≡ room_of → Trails h r t → length (trail_text h r) ≤ room_of
trail_room h r t e w = omega (arith, e, trail_inside h r t w, w.written.len)

-- pieces on an empty page that has room for them
pub on_page : (ts : List (List ℕ)) {len : ℕ} {after : List ℕ} → Writes ts room (spot (replicate room 0) 0) (spot after len) → (len ≤ length after) × (take len after ≡ text_of ts)
on_page ts {len} {after} f =
    let text = text_of ts in
    let blank = length-replicate {A = ℕ} room 0 in
    let fits : 0 + length text ≤ length (replicate {A = ℕ} room 0) = omega (arith, f.size, blank) in
    let ends = f.ends ∙ all_laid ts (replicate room 0) 0 fits in
    let next : len ≡ 0 + length text = ap (λ (s : Spot). s.next) ends in
    let front : after ≡ text ++ drop (length text) (replicate room 0) = ap (λ (s : Spot). s.bytes) ends ∙ laid_front (replicate room 0) text in (
      omega (arith, next, ap length front, length-append text (drop (length text) (replicate {A = ℕ} room 0))),
      ap (take len) front ∙ take_at text (drop (length text) (replicate room 0)) len (omega (arith, next)),
    )

pub head_size_lem : length head_words ≡ 1183
unfolding head_words
head_size_lem = refl
