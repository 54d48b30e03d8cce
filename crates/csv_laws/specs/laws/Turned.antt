-- Exactly when a text, and a sheet to be written, is turned away with each number, and with which place.
-- Assumes nothing.
use Rattle.std.specs.Prelude.{ℕ, suc, ◌+◌, ◌*◌, ◌≤◌, ◌<◌, ◌⊎◌, ◌≡◌, refl, Bool, true, false, List, leb}
use Rattle.std.proofs.Common.{inl, inr, ⊎_elim, sym, ap, subst, ◌∙◌, arith, length-append}
use Rattle.std.proofs.Math.Decide.{ℕ_discrete}
use Rattle.std.proofs.Math.ListN.{length}
use borrow.Author.Tests.{leb-false, lt-leb}
use Rattle.sheet.specs.declared.Header.{Header}
use Rattle.sheet.specs.Refusals.{Answer, given, refused}
use Rattle.sheet.specs.laws.RefusalLaws.{given_refused, given_same, refused_number, refused_place}
use Rattle.sheet.specs.Exactly.{Exactly}
use Rattle.sheet.specs.Header.{header_size, read_header}
use Rattle.sheet.specs.Slender.{too_slender}
use Rattle.sheet.specs.laws.HeaderLaws.{header_ranges}
use Rattle.sheet.specs.laws.HeaderBack.{header_read_fine}
use Rattle.sheet.specs.laws.HeaderExactly.{header_read_others}
use Rattle.sheet.specs.laws.RecordExactly.{record_read_others}
use Rattle.fields.specs.Lines.{Lines, none, bad, row, lines_in}
use Rattle.text.specs.laws.LinesLaws.{RowAt, more, last, broken, row_at}
use Rattle.checker.specs.Check.{◌then◌, demand, sheet_size, header_for, Sheet, sheet_in}
use Rattle.checker.specs.laws.FrontLaws.{header_length, header_good}
use Rattle.checker.specs.laws.ThenLaws.{By, by, stays, demanded}
use Rattle.checker.specs.laws.ThenLaws as T
use Rattle.checker.specs.Rows.{Refusable}
use Rattle.checker.specs.laws.Bounds.{sheet_told}
use Rattle.checker.specs.Unjudged.{room, sound_sheet}
use Rattle.checker.specs.laws.SheetRefusals.{sheet_not, never_5, under, sheet_9}
use Rattle.sheet_csv.specs.Read.{next_line, records_made, sheet_made, sheet_from}
use Rattle.sheet_csv.specs.Write.{text_of, text_from}
use Rattle.csv_laws.specs.laws.RowForms.{header_size_lem}
use Rattle.csv_laws.specs.laws.TextAgain.{record_bytes_lem, rows, lined}
use Rattle.csv_laws.specs.Faults.{Amiss, FirstFaulty, lines_count, record_lines}
use Rattle.csv_laws.specs.Faults as F
use Rattle.csv_laws.specs.laws.Exactly.{sheet_fault, fault_sheet}

-- every text has a line
some_line : (x : List ℕ) → lines_in x ≡ none → ⊥
some_line x e = go (row_at x 0)
  where
    no : ◌≡◌ {A = ℕ} 0 1 → ⊥
    no z = omega arith

    go : RowAt x 0 → ⊥
    go (more fs n o l f g) = no (cc)
    go (last fs f g) = no (cc)
    go (broken vs f g) = no (cc)

-- a line is turned away with 14 or 15 only
amiss_number : {head : Bool} {fs : List (List ℕ)} {n : ℕ} → Amiss head fs n → (n ≡ 14) ⊎ (n ≡ 15)
amiss_number (F.count k m d) = inr refl
amiss_number (F.field k m l d) = inl refl
amiss_number (F.first u m) = inl refl

fault_number : {head : Bool} {p : ℕ} {ls : Lines} {n q : ℕ} → FirstFaulty head p ls n q → (n ≡ 14) ⊎ (n ≡ 15)
fault_number F.quotes = inl refl
fault_number (F.line a) = amiss_number a
fault_number (F.later u f) = fault_number f

-- ---- why a text is turned away

-- the sheet that the lines make
abbrev pub Makes : List ℕ → List ℕ → Type 0
Makes x s = sheet_made (lines_in x) ≡ given s

pub data Why (x : List ℕ) (space k q : ℕ) : Type 0 where
  line : FirstFaulty true 1 (lines_in x) k q → Why x space k q
  table : (s : List ℕ) → Makes x s → sound_sheet s ≡ refused k q → Why x space k q
  short : (s : List ℕ) (t : Sheet) → Makes x s → sound_sheet s ≡ given t → space < length s → k ≡ 5 → q ≡ 0 → Why x space k q

pub text_why : (x : List ℕ) (space k q : ℕ) → sheet_from x space ≡ refused k q → Why x space k q
unfolding sheet_from
text_why x space k q e = go (by (sheet_made (lines_in x)) _ k q e)
  where
    go : By (sheet_made (lines_in x)) (λ b. sound_sheet b then λ t. demand (leb (length b) space) 5 then λ u. given b) k q → Why x space k q
    go (T.first f) = line (sheet_fault (lines_in x) k q f (some_line x))
    go (T.later s f g) = rest (by (sound_sheet s) _ k q g)
      where
        rest : By (sound_sheet s) (λ t. demand (leb (length s) space) 5 then λ u. given s) k q → Why x space k q
        rest (T.first h) = table s f h
        rest (T.later t h i) = room_for (by (demand (leb (length s) space) 5) _ k q i)
          where
            room_for : By (demand (leb (length s) space) 5) (λ u. given s) k q → Why x space k q
            room_for (T.first j) = let d = demanded (leb (length s) space) 5 k q j in short s t f h (leb-false (length s) space d.0) (sym d.1) d.2
            room_for (T.later u j m) = given_refused m

-- the table's own has numbers up to 9, and never 5
table_number : (s : List ℕ) (k q : ℕ) → sound_sheet s ≡ refused k q → (k ≤ 9) × (k ≡ 5 → ⊥)
unfolding sound_sheet
table_number s k q e = (
  (subst (λ (a : Answer Sheet). Refusable a) e (sheet_told s room)).last,
  λ z. never_5 s q (e ∙ ap (λ (j : ℕ). refused j q) z),
)

-- ---- 14 and 15

-- refused with one of them exactly when the first faulty line says so
module _ (x : List ℕ) (space k q : ℕ) where
  line_refused : FirstFaulty true 1 (lines_in x) k q → sheet_from x space ≡ refused k q
  unfolding sheet_from
  line_refused f = stays (sheet_made (lines_in x)) _ k q (fault_sheet (lines_in x) k q f)

  pub by_line_lem : 10 ≤ k → Exactly (sheet_from x space ≡ refused k q) (FirstFaulty true 1 (lines_in x) k q)
  by_line_lem l = (λ e. go (text_why x space k q e), line_refused)
    where
      go : Why x space k q → FirstFaulty true 1 (lines_in x) k q
      go (line f) = f
      go (table s m e) = absurd (omega (arith, (table_number s k q e).0))
      go (short s t m e r n z) = absurd (omega arith)

pub text_14 : (x : List ℕ) (space q : ℕ) → Exactly (sheet_from x space ≡ refused 14 q) (FirstFaulty true 1 (lines_in x) 14 q)
text_14 x space q = by_line_lem x space 14 q (omega arith)

pub text_15 : (x : List ℕ) (space q : ℕ) → Exactly (sheet_from x space ≡ refused 15 q) (FirstFaulty true 1 (lines_in x) 15 q)
text_15 x space q = by_line_lem x space 15 q (omega arith)

-- ---- the table's own, and 4 among them

-- refused with one of the table's own exactly when the sheet that the lines make is
pub text_table : (x : List ℕ) (space k q : ℕ) → k ≤ 9 → (k ≡ 5 → ⊥) → Exactly (sheet_from x space ≡ refused k q) ((s : List ℕ) × Makes x s × (sound_sheet s ≡ refused k q))
unfolding sheet_from ◌then◌
text_table x space k q l n = (λ e. go (text_why x space k q e), λ z. rw z.1 (stays (sound_sheet z.0) _ k q z.2))
  where
    go : Why x space k q → (s : List ℕ) × Makes x s × (sound_sheet s ≡ refused k q)
    go (line f) = ⊎_elim (λ e. absurd (omega arith)) (λ e. absurd (omega arith)) (fault_number f)
    go (table s m e) = (s, m, e)
    go (short s t m e r z y) = absurd (n z)

-- a sheet that the lines make has sixteen bytes for each line of a record behind its header's
record_size : (p : ℕ) (ls : Lines) (b : List ℕ) → records_made p ls ≡ given b → length b ≡ 16 * lines_count ls
unfolding records_made lines_count
record_size p none b e = ap length (sym (given_same e))
record_size p bad b e = given_refused (sym e)
record_size p (row fs ls) b e =
    let w = rows p fs ls b e in
    omega (arith, sym (ap length w.bytes_are), length-append w.first w.rest, (record_bytes_lem p fs w.first w.line_is).1, record_size (next_line p) ls w.rest w.rest_is)

made_size : (x s : List ℕ) (h : Header) → Makes x s → read_header s ≡ given h → length s ≡ header_size h + 16 * record_lines (lines_in x)
unfolding sheet_made
made_size x s h m r = go (lines_in x) m
  where
    go : (ls : Lines) → sheet_made ls ≡ given s → length s ≡ header_size h + 16 * record_lines ls
    go none e = given_refused (sym e)
    go bad e = given_refused (sym e)
    go (row fs ls) e =
        let w = lined fs ls s e in
        let size = header_size_lem 1 fs w.first w.rest h (ap read_header w.bytes_are ∙ r) w.line_is in
        omega (arith, sym (ap length w.bytes_are), length-append w.first w.rest, record_size 2 ls w.rest w.rest_is)

-- the table's 4, by its header
sheet_4 : (s : List ℕ) (q : ℕ) → Exactly (sound_sheet s ≡ refused 4 q) ((h : Header) × (read_header s ≡ given h) × (too_slender h ≡ false) × (length s ≡ sheet_size h → ⊥) × (q ≡ 0))
unfolding sound_sheet sheet_in
sheet_4 s q = (λ e. by_header e (read_header s) refl, λ z. length_refused z.0 z.1 z.2 z.3 ∙ ap (refused 4) (sym z.4))
  where
    length_refused : (h : Header) → read_header s ≡ given h → too_slender h ≡ false → (length s ≡ sheet_size h → ⊥) → sound_sheet s ≡ refused 4 0
    length_refused h e slim n = stays (header_for s room) _ 4 0 (header_length s room h e slim n)

    -- with its length a sheet is not refused by it
    right_length : (h : Header) → read_header s ≡ given h → too_slender h ≡ false → length s ≡ sheet_size h → sound_sheet s ≡ refused 4 q → ⊥
    right_length h e slim l f =
        let few = (header_ranges h (header_read_fine s h e)).count_few in
        sheet_not 4 s (λ z. omega arith) (λ i b m p. record_read_others i b 4 p (λ z. omega arith) (λ z. omega arith) (λ z. omega arith))
        (λ p g. given_refused (sym (header_good s room h e slim l (omega arith)) ∙ g)) q f

    by_length : sound_sheet s ≡ refused 4 q → (h : Header) → read_header s ≡ given h → too_slender h ≡ false → Dec (length s ≡ sheet_size h) → (g : Header) × (read_header s ≡ given g) × (too_slender g ≡ false) × (length s ≡ sheet_size g → ⊥) × (q ≡ 0)
    by_length e h f slim (yes l) = absurd (right_length h f slim l e)
    by_length e h f slim (no n) = (h, f, slim, n, refused_place (sym e ∙ length_refused h f slim n))

    by_test : sound_sheet s ≡ refused 4 q → (h : Header) → read_header s ≡ given h → (t : Bool) → too_slender h ≡ t → (g : Header) × (read_header s ≡ given g) × (too_slender g ≡ false) × (length s ≡ sheet_size g → ⊥) × (q ≡ 0)
    by_test e h f true x = absurd (omega (arith, refused_number (sym e ∙ (sheet_9 s 0).1 (h, f, x, refl))))
    by_test e h f false x = by_length e h f x (ℕ_discrete (length s) (sheet_size h))

    by_header : sound_sheet s ≡ refused 4 q → (x : Answer Header) → read_header s ≡ x → (g : Header) × (read_header s ≡ given g) × (too_slender g ≡ false) × (length s ≡ sheet_size g → ⊥) × (q ≡ 0)
    by_header e (given h) f = by_test e h f (too_slender h) refl
    by_header e (refused k p) f =
        let four : k ≡ 4 = refused_number (sym (under s k p f) ∙ e) in
        absurd (header_read_others s 4 p (λ z. omega arith) (λ z. omega arith) (λ z. omega arith) (f ∙ ap (λ (j : ℕ). refused j p) four))

-- 4 exactly when the header is read, its hull is not too slender, and the lines of records are not as many as it says
pub text_4 : (x : List ℕ) (space q : ℕ) → Exactly (sheet_from x space ≡ refused 4 q)
    ((s : List ℕ) × (h : Header) × Makes x s × (read_header s ≡ given h) × (too_slender h ≡ false) × (record_lines (lines_in x) ≡ h.count → ⊥) × (q ≡ 0))
text_4 x space q = (
  λ e. let z = (text_table x space 4 q (omega arith) (λ n. omega arith)).0 e in there z.0 z.1 ((sheet_4 z.0 q).0 z.2),
  λ z. (text_table x space 4 q (omega arith) (λ n. omega arith)).1 (z.0, z.2, (sheet_4 z.0 q).1 (z.1, z.3, z.4, (λ l. z.5 (omega (arith, made_size x z.0 z.1 z.2 z.3))), z.6)),
)
  where
    there : (s : List ℕ) → Makes x s → (h : Header) × (read_header s ≡ given h) × (too_slender h ≡ false) × (length s ≡ sheet_size h → ⊥) × (q ≡ 0)
        → (u : List ℕ) × (h : Header) × Makes x u × (read_header u ≡ given h) × (too_slender h ≡ false) × (record_lines (lines_in x) ≡ h.count → ⊥) × (q ≡ 0)
    there s m z = (s, z.0, m, z.1, z.2, (λ l. z.3 (omega (arith, made_size x s z.0 m z.1))), z.4)

-- ---- 5

-- 5 exactly when all else is sound and the output is too short for the sheet
pub text_5 : (x : List ℕ) (space q : ℕ) → Exactly (sheet_from x space ≡ refused 5 q) ((s : List ℕ) × (t : Sheet) × Makes x s × (sound_sheet s ≡ given t) × (space < length s) × (q ≡ 0))
unfolding sheet_from ◌then◌ demand
text_5 x space q = (λ e. go (text_why x space 5 q e), λ z. rw (z.2, z.3, lt-leb (length z.0) space z.4) (ap (refused 5) (sym z.5)))
  where
    go : Why x space 5 q → (s : List ℕ) × (t : Sheet) × Makes x s × (sound_sheet s ≡ given t) × (space < length s) × (q ≡ 0)
    go (line f) = ⊎_elim (λ e. absurd (omega arith)) (λ e. absurd (omega arith)) (fault_number f)
    go (table s m e) = absurd ((table_number s 5 q e).1 refl)
    go (short s t m e r z y) = (s, t, m, e, r, y)

-- a sheet to be written: the table's own first, and 5 exactly when the text does not fit
module _ (s : List ℕ) (space q : ℕ) where
  pub written_5 : Exactly (text_from s space ≡ refused 5 q) ((t : Sheet) × (sound_sheet s ≡ given t) × (space < length (text_of t)) × (q ≡ 0))
  unfolding text_from ◌then◌ demand
  written_5 = (λ e. go (by (sound_sheet s) _ 5 q e), λ z. rw (z.1, lt-leb (length (text_of z.0)) space z.2) (ap (refused 5) (sym z.3)))
    where
      go : By (sound_sheet s) (λ t. demand (leb (length (text_of t)) space) 5 then λ u. given (text_of t)) 5 q → (t : Sheet) × (sound_sheet s ≡ given t) × (space < length (text_of t)) × (q ≡ 0)
      go (T.first f) = absurd (never_5 s q f)
      go (T.later t f g) = room_for (by (demand (leb (length (text_of t)) space) 5) _ 5 q g)
        where
          room_for : By (demand (leb (length (text_of t)) space) 5) (λ u. given (text_of t)) 5 q → (u : Sheet) × (sound_sheet s ≡ given u) × (space < length (text_of u)) × (q ≡ 0)
          room_for (T.first j) = let d = demanded (leb (length (text_of t)) space) 5 5 q j in (t, f, leb-false (length (text_of t)) space d.0, d.2)
          room_for (T.later u j m) = given_refused m

  pub written_others : (k : ℕ) → (k ≡ 5 → ⊥) → Exactly (text_from s space ≡ refused k q) (sound_sheet s ≡ refused k q)
  unfolding text_from
  written_others k n = (λ e. go (by (sound_sheet s) _ k q e), λ e. stays (sound_sheet s) _ k q e)
    where
      go : By (sound_sheet s) (λ t. demand (leb (length (text_of t)) space) 5 then λ u. given (text_of t)) k q → sound_sheet s ≡ refused k q
      go (T.first f) = f
      go (T.later t f g) = room_for (by (demand (leb (length (text_of t)) space) 5) _ k q g)
        where
          room_for : By (demand (leb (length (text_of t)) space) 5) (λ u. given (text_of t)) k q → sound_sheet s ≡ refused k q
          room_for (T.first j) = absurd (n (sym (demanded (leb (length (text_of t)) space) 5 k q j).1))
          room_for (T.later u j m) = given_refused m
