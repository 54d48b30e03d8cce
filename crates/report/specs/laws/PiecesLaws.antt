-- The pieces that are put together from a check's answer and its output are the text of the sheet, and none is too long.
-- Assumes nothing.
use Rattle.std.specs.Prelude.{ℕ, zero, suc, ◌+◌, ◌-◌, ◌*◌, ◌≤◌, ◌<◌, ◌≡◌, refl, List, [], ◌∷◌, ◌++◌, map, length, take, drop, Result, Ok, Err}
use Rattle.std.proofs.Common.{sym, ap₂, ◌∙◌, arith, length-append}
use Rattle.std.proofs.Math.Path.{ap}
use Rattle.sheet.specs.declared.Header.{Header}
use Rattle.sheet.specs.declared.Record.{Record}
use Rattle.sheet.specs.declared.Refusal.{Refusal}
use Rattle.sheet.specs.declared.Refusal.TheVariants.{SheetShort, Version, HeaderField, TooSlender, SheetLength, OutputShort, Kind, Field, Order, NoSuchId, NoRoom, Text, FieldCount}
use Rattle.sheet.specs.Refusals.{Answer, given, refused, number_of, place_of}
use Rattle.sheet.specs.laws.RefusalLaws.{given_refused, refused_number, refused_place}
use Rattle.checker.specs.declared.Entry.{Entry}
use Rattle.checker.specs.Entry.{entry_values, read_entry}
use Rattle.checker.specs.laws.EntryLaws.{read_sound}
use Rattle.checker.specs.Check.{four_at, ◌then◌, part, records_part, record_of, Sheet, sheet_in, entry_of, verdicts, failures, Totals, answer_of, output_of, Checks}
use Rattle.checker.specs.Unjudged.{room}
use Rattle.checker.specs.Whole.{Taken, next}
use Rattle.checker.specs.laws.CheckLaws.{sheet_whole, verdict_read, answer_sheet}
use Rattle.checker.specs.laws.Bounds.{sheet_counts}
use Rattle.report.specs.Text.{lines_of, printed, line, lines_text, refused_word, text_by, text_of}
use Rattle.report.specs.Page.{longest_line}
use Rattle.report.specs.laws.TextLaws.{entry_most, lines_last}
use Rattle.report.specs.Pieces.{read_text, verdict_text, verdicts_text, refusal_text, checked_text, Counted}
use Rattle.checker.specs.declared.Checked.{Checked}

-- ---- how long they are

-- the line of a verdict that was read, and of none
pub verdict_line_lem : (b : List ℕ) (e : Entry) → given e ≡ read_entry b → line (entry_values e) ≡ verdict_text b
unfolding verdict_text
verdict_line_lem b e f = ap read_text f

pub verdict_none : (b : List ℕ) (k p : ℕ) → refused k p ≡ read_entry b → [] ≡ verdict_text b
unfolding verdict_text
verdict_none b k p f = ap read_text f

pub verdict_most : (b : List ℕ) → length (verdict_text b) ≤ longest_line
unfolding verdict_text
verdict_most b = go (read_entry b) refl
  where
    go : (x : Answer Entry) → read_entry b ≡ x → length (read_text x) ≤ longest_line
    go (given e) f = entry_most e (read_sound b e f)
    go (refused k p) f = omega arith

pub verdicts_most : (out : List ℕ) (i count : ℕ) → length (verdicts_text out i count) ≤ longest_line * count
unfolding verdicts_text
verdicts_most out i zero = omega arith
verdicts_most out i (suc count) =
    let b = part out (4 * i) (4 * i + 4) in
    omega (arith, length-append (verdict_text b) (verdicts_text out (i + 1) count), verdict_most b, verdicts_most out (i + 1) count)

-- a refusal's number has two digits at most
pub number_small : (r : Refusal) → number_of r < 100
number_small SheetShort = omega arith
number_small Version = omega arith
number_small (HeaderField p) = omega arith
number_small TooSlender = omega arith
number_small SheetLength = omega arith
number_small OutputShort = omega arith
number_small (Kind p) = omega arith
number_small (Field p) = omega arith
number_small (Order p) = omega arith
number_small NoSuchId = omega arith
number_small NoRoom = omega arith
number_small (Text p) = omega arith
number_small (FieldCount p) = omega arith

-- so that the counts of a check are within their bounds
pub checked_counted : (s out after : List ℕ) (r : Result Checked Refusal) → length after ≡ length out → Checks s out r after → Counted r after
checked_counted s out after (Ok x) l c =
    let a = answer_sheet s (length out) _ (sym c.answer) in
    let k = sheet_counts s (length out) a.0 a.1 in
    let same_n = ap (λ (w : Totals). w.n) a.2 in
    let same_failed = ap (λ (w : Totals). w.failed) a.2 in
    (omega (arith, k.inside), omega (arith, k.records), omega (arith, k.failed))
checked_counted s out after (Err r) l c = tt

-- ---- the verdicts of a sheet

-- the bytes of verdict i in the output
four : (out : List ℕ) (i : ℕ) → part out (4 * i) (4 * i + 4) ≡ four_at i out
four out i = let e : 4 * i + 4 - 4 * i ≡ 4 = omega arith in ap (λ (k : ℕ). take k (drop (4 * i) out)) e

-- each verdict's line, for the records from i on of n
lines_taken : (h : Header) (s out : List ℕ) (n i before : ℕ) (rs : List Record) → ((j : ℕ) → j < n → (r : Record) → record_of s j ≡ given r → read_entry (take 4 (drop (4 * j) out)) ≡ given (entry_of h r))
    → i + length rs ≤ n → Taken s i before rs → verdicts_text out i (length rs) ≡ lines_text (map entry_values (map (entry_of h) rs))
unfolding verdicts_text verdict_text lines_text
lines_taken h s out n i before [] read l t = refl
lines_taken h s out n i before (r ∷ rs) read l (next e o t) =
    ap₂ {C = List ℕ} (λ a b. a ++ b)
    (ap (λ (b : List ℕ). read_text (read_entry b)) (four out i) ∙ ap read_text (read i (omega arith) r e))
    (lines_taken h s out n (i + 1) r.id rs read (omega arith) t)

module _ (s out : List ℕ) (t : Sheet) (given_t : sheet_in s (length out) ≡ given t) where
  lines_verdicts : verdicts_text (output_of s out) 0 t.header.count ≡ lines_text (map entry_values (verdicts t))
  unfolding verdicts
  lines_verdicts =
      let w = sheet_whole s (length out) t given_t in
      ap (verdicts_text (output_of s out) 0) (sym w.number)
      ∙ lines_taken t.header (records_part t.header s) (output_of s out) t.header.count 0 0 t.records (verdict_read s out t given_t) (omega (arith, w.number)) w.records

-- ---- the whole

-- what a sheet prints, by the answer of a check
printed_given : (s : List ℕ) (t : Sheet) → sheet_in s room ≡ given t → text_of s ≡ lines_text (lines_of t)
unfolding text_of printed text_by ◌then◌
printed_given s t e = rw e

printed_refused : (s : List ℕ) (k p : ℕ) → sheet_in s room ≡ refused k p → text_of s ≡ refused_word ++ line (k ∷ p ∷ [])
unfolding text_of printed text_by ◌then◌
printed_refused s k p e = rw e

-- a check that is refused has turned the sheet away
pub answer_refused : (s : List ℕ) (room k p : ℕ) → answer_of s room ≡ refused k p → sheet_in s room ≡ refused k p
unfolding answer_of ◌then◌
answer_refused s room k p e = go (sheet_in s room) e
  where
    go : (x : Answer Sheet) → ◌then◌ {B = Totals} x (λ t. given (record { n = t.header.count; failed = failures (verdicts t) })) ≡ refused k p → x ≡ refused k p
    go (given t) f = given_refused f
    go (refused l q) f = ap₂ refused (refused_number f) (refused_place f)

-- the pieces are the text
pub text_checked : (s out after : List ℕ) (r : Result Checked Refusal) → Checks s out r after → length out ≡ room → checked_text r after ≡ text_of s
unfolding checked_text refusal_text
text_checked s out after (Ok k) c l =
    let a = answer_sheet s (length out) _ (sym c.answer) in
    let t = a.0 in
    let totals : ◌≡◌ {A = List ℕ} (k.n ∷ k.failed ∷ []) (t.header.count ∷ failures (verdicts t) ∷ []) = ap (λ (w : Totals). w.n ∷ w.failed ∷ []) a.2 in
    ap₂ {C = List ℕ} (λ o m. verdicts_text o 0 m ++ line (k.n ∷ k.failed ∷ [])) c.bytes (ap (λ (w : Totals). w.n) a.2)
    ∙ ap₂ {C = List ℕ} (λ x w. x ++ line w) (lines_verdicts s out t a.1) totals
    ∙ sym (lines_last (map entry_values (verdicts t)) (t.header.count ∷ failures (verdicts t) ∷ []))
    ∙ sym (printed_given s t (ap (sheet_in s) (sym l) ∙ a.1))
text_checked s out after (Err r) c l = sym (printed_refused s (number_of r) (place_of r) (ap (sheet_in s) (sym l) ∙ answer_refused s (length out) (number_of r) (place_of r) (sym c.answer)))
