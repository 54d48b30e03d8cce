-- Text to sheet to text gives the written form; and a text reads as its written form does.
-- Assumes nothing.
use Rattle.std.specs.Prelude.{ℕ, ◌+◌, ◌*◌, ◌≤◌, ◌≡◌, refl, not, ◌&&◌, List, [], ◌∷◌, ◌++◌, map, length, take, drop, leb, eqb}
use Rattle.std.proofs.Common.{sym, ap, ap₂, subst, ◌∙◌, arith, length-append, take_at, drop_at, drop-drop}
use borrow.Author.Tests.{le-leb, leb-true}
use Rattle.quantity.specs.Range.{within}
use Rattle.layout.specs.Layout.{pack, unpack, bytes, Fit}
use Rattle.layout.specs.laws.Laws.{unpack_fit}
use Rattle.sheet.specs.declared.Record.{Record}
use Rattle.sheet.specs.Versions.{first_bytes, version_numbers, numbered}
use Rattle.sheet.specs.Lines.{first_widths, own_widths}
use Rattle.sheet.specs.Refusals.{given}
use Rattle.sheet.specs.laws.RefusalLaws.{given_same, given_refused}
use Rattle.sheet.specs.Header.{header_size, own_bytes, read_header}
use Rattle.sheet.specs.Record.{read_record}
use Rattle.fields.specs.Lines.{Lines, none, bad, row, lines_in}
use Rattle.text.specs.laws.LinesLaws.{value_in}
use Rattle.rows.specs.Pack.{below, powers}
use Rattle.rows.specs.Forms.{first_count, own_count, record_widths, record_count}
use Rattle.rows.specs.laws.RowLaws.{made_length}
use Rattle.rows.specs.Rows.{kinds, first_of, taken, firsts_of, owns_of, header_made, header_line, records_of, record_made, record_line}
use Rattle.checker.specs.Check.{◌then◌, demand, records_part, record_part, Sheet}
use Rattle.checker.specs.Whole.{Taken, next}
use Rattle.checker.specs.laws.CheckLaws.{part_taken, sheet_whole}
use Rattle.checker.specs.laws.ThenLaws.{then_given, demand_given}
use Rattle.checker.specs.Unjudged.{room, sound_sheet}
use Rattle.sheet_csv.specs.Read.{next_line, records_made, sheet_made, sheet_from}
use Rattle.sheet_csv.specs.Write.{record_cells, lines_text, text_of, text_from}
use Rattle.csv_laws.specs.Form.{form_of, written_form}
use Rattle.csv_laws.specs.laws.RowForms.{line_given, record_form_lem, header_form, header_size_lem}
use Rattle.csv_laws.specs.laws.SheetBytes.{Bytes}
use Rattle.csv_laws.specs.laws.Accepted.{sheet_taken}
use Rattle.csv_laws.specs.laws.SheetAgain.{text_made}

-- ---- the bytes that lines make are bytes

made_bytes : (k n : ℕ) → Bytes (unpack (bytes k) n)
made_bytes k n = subst (λ (j : ℕ). Fit (bytes j) (unpack (bytes k) n)) (sym (made_length k n)) (unpack_fit (bytes k) n)

bytes_append : (a b : List ℕ) → Bytes a → Bytes b → Bytes (a ++ b)
bytes_append [] b f g = g
bytes_append (x ∷ a) b f g = (f.0, bytes_append a b f.1 g)

-- a record's line makes sixteen of them
pub record_bytes_lem : (p : ℕ) (fs : List (List ℕ)) (b : List ℕ) → record_line p (length fs) (map value_in fs) ≡ given b → Bytes b × (length b ≡ 16)
unfolding record_line
record_bytes_lem p fs b e =
    let vs = map value_in fs in
    let kind = first_of vs in
    let ns = taken (within kinds kind) vs in
    let n = pack (record_widths kind) (records_of kind ns) in
    let g = line_given p (within kinds kind && not (eqb (length fs) (record_count kind))) (below (powers (record_widths kind)) (records_of kind ns)) (record_made kind ns) b e in
    (subst Bytes g.2 (made_bytes 16 n), sym (ap length g.2) ∙ made_length 16 n)

header_bytes_lem : (p : ℕ) (fs : List (List ℕ)) (b : List ℕ) → header_line p (length fs) (map value_in fs) ≡ given b → Bytes b
unfolding header_line
header_bytes_lem p fs b e =
    let vs = map value_in fs in
    let v = numbered (first_of vs) in
    let known = within version_numbers (first_of vs) in
    let ns = taken known vs in
    let g = line_given p (known && not (eqb (length fs) (first_count + own_count v))) (below (powers first_widths) (firsts_of ns) && below (powers (own_widths v)) (owns_of v ns)) (header_made v ns) b e in
    let x = pack first_widths (firsts_of ns) in
    let y = pack (own_widths v) (owns_of v ns) in
    subst Bytes g.2 (bytes_append (unpack (bytes first_bytes) x) (unpack (bytes (own_bytes v)) y) (made_bytes first_bytes x) (made_bytes (own_bytes v) y))

-- ---- the lines of records

-- the first line and those behind it
pub record Rows (p : ℕ) (fs : List (List ℕ)) (ls : Lines) (b : List ℕ) : Type 0 where
  pub first : List ℕ
  pub rest : List ℕ
  pub line_is : record_line p (length fs) (map value_in fs) ≡ given first
  pub rest_is : records_made (next_line p) ls ≡ given rest
  pub bytes_are : first ++ rest ≡ b

pub rows : (p : ℕ) (fs : List (List ℕ)) (ls : Lines) (b : List ℕ) → records_made p (row fs ls) ≡ given b → Rows p fs ls b
unfolding records_made
rows p fs ls b e =
    let x = then_given (record_line p (length fs) (map value_in fs)) _ b e in
    let y = then_given (records_made (next_line p) ls) _ b x.2 in
    record { first = x.0; rest = y.0; line_is = x.1; rest_is = y.1; bytes_are = given_same y.2 }

records_bytes : (p : ℕ) (ls : Lines) (b : List ℕ) → records_made p ls ≡ given b → Bytes b
unfolding records_made
records_bytes p none b e = subst Bytes (given_same e) tt
records_bytes p bad b e = given_refused (sym e)
records_bytes p (row fs ls) b e =
    let w = rows p fs ls b e in
    subst Bytes w.bytes_are (bytes_append w.first w.rest (record_bytes_lem p fs w.first w.line_is).0 (records_bytes (next_line p) ls w.rest w.rest_is))

records_form : (b : List ℕ) (i before p : ℕ) (ls : Lines) (rs : List Record) (c : List ℕ) → records_made p ls ≡ given c → drop (16 * i) b ≡ c → Taken b i before rs → length c ≡ 16 * length rs
    → lines_text (map record_cells rs) ≡ form_of ls
unfolding lines_text form_of records_made
records_form b i before p none [] c e d t l = refl
records_form b i before p none (r ∷ rs) c e d t l = absurd (omega (arith, ap length (given_same e)))
records_form b i before p bad rs c e d t l = given_refused (sym e)
records_form b i before p (row fs ls) [] c e d t l =
    let w = rows p fs ls c e in
    absurd (omega (arith, ap length w.bytes_are, length-append w.first w.rest, (record_bytes_lem p fs w.first w.line_is).1))
records_form b i before p (row fs ls) (r ∷ rs) c e d (next f o t) l =
    let w = rows p fs ls c e in
    let size = (record_bytes_lem p fs w.first w.line_is).1 in
    let cut : drop (16 * i) b ≡ w.first ++ w.rest = d ∙ sym w.bytes_are in
    let own : record_part b i ≡ w.first = part_taken b i ∙ ap (take 16) cut ∙ take_at w.first w.rest 16 size in
    let m : 16 * i + 16 ≡ 16 * (i + 1) = omega arith in
    let past : drop (16 * (i + 1)) b ≡ w.rest = sym (drop-drop 16 (16 * i) b ∙ ap (λ (k : ℕ). drop k b) m) ∙ ap (drop 16) cut ∙ drop_at w.first w.rest 16 size in
    ap₂ {C = List ℕ} (λ x y. x ++ y)
    (record_form_lem i p fs w.first r (ap (read_record i) (sym own) ∙ f) w.line_is)
    (records_form b (i + 1) r.id (next_line p) ls rs w.rest w.rest_is past t (omega (arith, ap length w.bytes_are, length-append w.first w.rest)))

-- ---- all lines

-- the header's line and those behind it
pub record Lined (fs : List (List ℕ)) (ls : Lines) (s : List ℕ) : Type 0 where
  pub first : List ℕ
  pub rest : List ℕ
  pub line_is : header_line 1 (length fs) (map value_in fs) ≡ given first
  pub rest_is : records_made 2 ls ≡ given rest
  pub bytes_are : first ++ rest ≡ s

pub lined : (fs : List (List ℕ)) (ls : Lines) (s : List ℕ) → sheet_made (row fs ls) ≡ given s → Lined fs ls s
unfolding sheet_made
lined fs ls s e =
    let x = then_given (header_line 1 (length fs) (map value_in fs)) _ s e in
    let y = then_given (records_made 2 ls) _ s x.2 in
    record { first = x.0; rest = y.0; line_is = x.1; rest_is = y.1; bytes_are = given_same y.2 }

pub sheet_made_bytes : (ls : Lines) (s : List ℕ) → sheet_made ls ≡ given s → Bytes s
unfolding sheet_made
sheet_made_bytes none s e = given_refused (sym e)
sheet_made_bytes bad s e = given_refused (sym e)
sheet_made_bytes (row fs ls) s e =
    let w = lined fs ls s e in
    subst Bytes w.bytes_are (bytes_append w.first w.rest (header_bytes_lem 1 fs w.first w.line_is) (records_bytes 2 ls w.rest w.rest_is))

-- the text of the sheet that lines make, where it is not turned away, is their written form
sheet_form : (ls : Lines) (s : List ℕ) (t : Sheet) → sheet_made ls ≡ given s → sound_sheet s ≡ given t → text_of t ≡ form_of ls
unfolding sheet_made text_of lines_text form_of sound_sheet
sheet_form none s t e f = given_refused (sym e)
sheet_form bad s t e f = given_refused (sym e)
sheet_form (row fs ls) s t e f =
    let w = lined fs ls s e in
    let q = sheet_whole s room t f in
    let h = t.header in
    let read : read_header (w.first ++ w.rest) ≡ given h = ap read_header w.bytes_are ∙ q.header.read in
    let size : length w.first ≡ header_size h = header_size_lem 1 fs w.first w.rest h read w.line_is in
    let past : records_part h s ≡ w.rest = ap (drop (header_size h)) (sym w.bytes_are) ∙ drop_at w.first w.rest (header_size h) size in
    let long : length w.rest ≡ 16 * length t.records = omega (arith, ap length w.bytes_are, length-append w.first w.rest, q.header.whole, q.number) in
    ap₂ {C = List ℕ} (λ x y. x ++ y)
    (header_form 1 fs w.first w.rest h read w.line_is)
    (records_form (records_part h s) 0 0 2 ls t.records w.rest w.rest_is past q.records long)

-- ---- there and back

-- a text that is read: what its lines make, which is not turned away and has room
pub record Taken_as (x : List ℕ) (space : ℕ) (s : List ℕ) : Type 0 where
  pub sheet : Sheet
  pub made : sheet_made (lines_in x) ≡ given s
  pub sound : sound_sheet s ≡ given sheet
  pub fits : length s ≤ space

pub taken_as : (x : List ℕ) (space : ℕ) (s : List ℕ) → sheet_from x space ≡ given s → Taken_as x space s
unfolding sheet_from
taken_as x space s e =
    let a = then_given (sheet_made (lines_in x)) _ s e in
    let b = then_given (sound_sheet a.0) _ s a.2 in
    let c = then_given (demand (leb (length a.0) space) 5) _ s b.2 in
    let same : a.0 ≡ s = given_same c.2 in
    record {
      sheet = b.0;
      made = a.1 ∙ ap given same;
      sound = ap sound_sheet (sym same) ∙ b.1;
      fits = omega (arith, leb-true (length a.0) space (demand_given (leb (length a.0) space) 5 c.0 c.1), ap length same);
    }

module _ (x : List ℕ) (space : ℕ) (s : List ℕ) (e : sheet_from x space ≡ given s) where
  -- its written form is the text of the sheet
  pub form_text : text_of (taken_as x space s e).sheet ≡ written_form x
  form_text = let w = taken_as x space s e in sheet_form (lines_in x) s w.sheet w.made w.sound

  -- which is written of the sheet, in any output that has room for it
  pub text_again : (wide : ℕ) → length (written_form x) ≤ wide → text_from s wide ≡ given (written_form x)
  unfolding text_from ◌then◌ demand
  text_again wide l =
      let w = taken_as x space s e in
      rw (w.sound, form_text, le-leb (length (written_form x)) wide l)

  -- and read as the same sheet: quotes, and line ends of one byte, change nothing
  pub form_read : sheet_from (written_form x) space ≡ given s
  form_read =
      let w = taken_as x space s e in
      sheet_taken (written_form x) s w.sheet space
      (ap (λ (y : List ℕ). sheet_made (lines_in y)) (sym form_text) ∙ text_made s w.sheet (sheet_made_bytes (lines_in x) s w.made) w.sound) w.sound w.fits
