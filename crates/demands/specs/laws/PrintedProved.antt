-- What is printed of a sheet says the verdicts on its records, or the row of the table that turns it away.
-- Assumes nothing.
use Rattle.std.specs.Prelude.{ℕ, zero, suc, ◌+◌, ◌*◌, ◌≤◌, ◌<◌, ◌≡◌, refl, List, [], ◌∷◌, ◌++◌, map, get_or, replicate}
use Rattle.std.proofs.Common.{sym, subst, ◌∙◌, arith, add-zero}
use Rattle.std.proofs.Math.Path.{ap}
use Rattle.std.proofs.Math.ListN.{length, length-append, length-map}
use Rattle.std.proofs.lemmas.List.{length-replicate}
use Rattle.sheet.specs.declared.Header.{Header}
use Rattle.sheet.specs.declared.Record.{Record}
use Rattle.sheet.specs.Versions.{most_records}
use Rattle.sheet.specs.Refusals.{Answer, given, refused}
use Rattle.sheet.specs.Header.{header_of}
use Rattle.checker.specs.Entry.{entry_values}
use Rattle.checker.specs.Check.{◌then◌, records_part, Sheet, sheet_in, entry_of, verdicts, failures}
use Rattle.checker.specs.Unjudged.{room}
use Rattle.checker.specs.Whole.{Taken, none, next}
use Rattle.checker.specs.laws.Bounds.{count_most}
use Rattle.checker.specs.laws.CheckLaws.{sheet_whole, verdicts_count}
use Rattle.report.specs.Text.{lines_of, printed, line, lines_text, refused_word, text_by, text_of}
use Rattle.report.specs.laws.Back.{text_back}
use Rattle.report.specs.laws.PiecesLaws.{answer_refused}
use Rattle.demands.specs.Table.{count_of, id_of, HeaderSound, Fits, Reached, Row, sheet_short, version, header_short, header_field, slender, sheet_length, output_short, kind, field, order, Accepted}
use Rattle.demands.specs.Demands.{entry_on, failed_from}
use Rattle.demands.specs.Printed.{VerdictLines, RefusalLine, Printed}
use Rattle.demands.specs.laws.FieldsRead.{header_given}
use Rattle.demands.specs.laws.Rows.{accepted_given, refused_exactly}
use Rattle.demands.specs.laws.Proved.{header_is, entry_is, all_failures}

-- ---- the output plays no part but in row 5

module _ (s : List ℕ) where
  count_few : HeaderSound s → count_of s ≤ most_records
  count_few f = count_most s (header_of s) (header_given s f)

  fits_room : (out : ℕ) → Fits s out → Fits s room
  fits_room out f = record { header = f.header; slim = f.slim; whole = f.whole; enough = omega (arith, count_few f.header) }

  accepted_room : (out : ℕ) → Accepted s out → Accepted s room
  accepted_room out a = record { fits = fits_room out a.fits; records = a.records }

  reached_room : (out i : ℕ) → Reached s out i → Reached s room i
  reached_room out i r = record { fits = fits_room out r.fits; inside = r.inside; before = r.before }

  row_room : (out k p : ℕ) → Row s out k p → (k ≡ 5 → ⊥) → Row s room k p
  row_room out k p (sheet_short l) n = sheet_short l
  row_room out k p (version l v) n = version l v
  row_room out k p (header_short l v m) n = header_short l v m
  row_room out k p (header_field f l c) n = header_field f l c
  row_room out k p (slender h z) n = slender h z
  row_room out k p (sheet_length h z m) n = sheet_length h z m
  row_room out k p (output_short h z w l) n = absurd (n refl)
  row_room out k p (kind i r c) n = kind i (reached_room out i r) c
  row_room out k p (field i f r c) n = field i f (reached_room out i r) c
  row_room out k p (order i r a l) n = order i (reached_room out (suc i) r) a l

-- ---- the lines

get_d_last : (ls : List (List ℕ)) (l : List ℕ) (n : ℕ) → length ls ≡ n → get_or (ls ++ (l ∷ [])) n [] ≡ l
get_d_last [] l zero e = refl
get_d_last [] l (suc n) e = absurd (omega arith)
get_d_last (k ∷ ls) l zero e = absurd (omega arith)
get_d_last (k ∷ ls) l (suc n) e = get_d_last ls l n (omega arith)

module _ (s out : List ℕ) (t : Sheet) (given_t : sheet_in s (length out) ≡ given t) where
  line_at_lem : (i before : ℕ) (rs : List Record) (rest : List (List ℕ)) → Taken (records_part t.header s) i before rs → (j : ℕ) → j < length rs
      → get_or (map entry_values (map (entry_of t.header) rs) ++ rest) j [] ≡ entry_values (entry_on s (i + j))
  line_at_lem i before [] rest none j l = absurd (omega arith)
  line_at_lem i before (r ∷ rs) rest (next e o u) zero l = ap entry_values (entry_is s out t given_t i r e) ∙ ap (λ (k : ℕ). entry_values (entry_on s k)) (sym (add-zero i))
  line_at_lem i before (r ∷ rs) rest (next e o u) (suc j) l =
      let m : i + 1 + j ≡ i + suc j = omega arith in
      line_at_lem (i + 1) r.id rs rest u j (omega arith) ∙ ap (λ (k : ℕ). entry_values (entry_on s k)) m

  count : t.header.count ≡ count_of s
  count = ap (λ (h : Header). h.count) (sym (header_is s out t given_t))

  says_lines : length out ≡ room → VerdictLines s (lines_of t)
  unfolding printed text_of text_by ◌then◌ verdicts
  says_lines e =
      let w = sheet_whole s (length out) t given_t in
      let is : printed s ≡ given (lines_of t) = rw (ap (sheet_in s) (sym e) ∙ given_t) in
      let number : length (map entry_values (verdicts t)) ≡ count_of s = omega (arith, length-map (verdicts t) entry_values, verdicts_count s out t given_t, count) in
      record {
        read = text_back s ∙ is;
        spelled = ap text_by is;
        of_record = λ i l. line_at_lem 0 0 t.records _ w.records i (omega (arith, w.number, count)) ∙ ap (λ (k : ℕ). entry_values (entry_on s k)) (omega arith);
        of_all =
            get_d_last (map entry_values (verdicts t)) (t.header.count ∷ failures (verdicts t) ∷ []) (count_of s) number
            ∙ ap (λ (f : ℕ). t.header.count ∷ f ∷ []) (all_failures s out t given_t)
            ∙ ap (λ (n : ℕ). n ∷ failed_from s 0 n ∷ []) count;
        many = length-append (map entry_values (verdicts t)) ((t.header.count ∷ failures (verdicts t) ∷ []) ∷ []) ∙ ap (λ (n : ℕ). n + 1) number;
      }

module _ (s : List ℕ) where
  lines_of_lem : Accepted s room → (lines : List (List ℕ)) × VerdictLines s lines
  lines_of_lem a =
      let q = accepted_given s room a in
      let out : List ℕ = replicate room 0 in
      let long : length out ≡ room = length-replicate {A = ℕ} room 0 in
      (lines_of q.0, says_lines s out q.0 (ap (sheet_in s) long ∙ q.1) long)

  refusal_of_lem : (k p : ℕ) → Row s room k p → RefusalLine s k p
  unfolding printed text_of text_by ◌then◌
  refusal_of_lem k p r =
      let is : printed s ≡ refused k p = rw (answer_refused s room k p ((refused_exactly s room k p).1 r)) in
      record { read = text_back s ∙ is; spelled = ap text_by is }

pub printed_lines : (s : List ℕ) → Printed s
printed_lines s =
    record {
      verdicts_printed = λ out a. lines_of_lem s (accepted_room s out a);
      refusal_printed = λ out k p r n. refusal_of_lem s k p (row_room s out k p r n);
    }
