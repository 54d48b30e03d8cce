-- The bytes that the lines of a text make, by the first of them.
-- Assumes nothing.
use Rattle.std.specs.Prelude.{ℕ, ◌+◌, ◌-◌, ◌≤◌, ◌<◌, ◌≡◌, refl, Bool, true, false, not, ◌&&◌, length, take, eqb, Option, Some, None, Result, Ok, Err}
use Rattle.std.proofs.Common.{sym, ap₂, subst, ◌∙◌, arith, length-append, take_at}
use Rattle.std.proofs.Math.Path.{ap}
use mathlib.Core.List.{List, [], ◌++◌, map, append-nil, append_assoc}
use Rattle.std.proofs.lemmas.List.{length-map}
use Rattle.quantity.specs.Range.{within}
use Rattle.layout.specs.Layout.{pack, unpack, bytes}
use Rattle.layout.specs.laws.Laws.{length_unpack, length_bytes}
use Rattle.sheet.specs.declared.Refusal.{Refusal}
use Rattle.sheet.specs.Versions.{first_bytes, version_numbers, numbered}
use Rattle.sheet.specs.Lines.{first_widths, own_widths}
use Rattle.sheet.specs.Header.{own_bytes}
use Rattle.sheet.specs.Refusals.{Answer, given, refused, told}
use Rattle.sheet.specs.laws.RefusalLaws.{given_refused, given_same, refused_number, refused_place}
use Rattle.fields.specs.Lines.{Lines, none, bad, row}
use Rattle.text.specs.declared.LineEnd.{LineEnd}
use Rattle.text.specs.Line.{Numbers}
use Rattle.text.specs.laws.LinesLaws.{value_in}
use Rattle.filling.specs.Filling.{line_left, lines_left}
use Rattle.filling.specs.laws.RowLaws.{RowLeft, more, last, broken, row_left}
use Rattle.rows.specs.declared.Row.{Row}
use Rattle.rows.specs.Rows.{zeros, kinds, first_of, taken, line_by, firsts_of, owns_of, header_made, records_of, record_made, header_line, record_line, Made, ended_by, row_by, header_row, record_row, Shown, end_by, told_row, shown}
use Rattle.rows.specs.Pack.{below, powers}
use Rattle.rows.specs.Forms.{first_count, own_count, record_widths, record_count}
use Rattle.rows.specs.laws.RowLaws.{own_small}
use Rattle.checker.specs.Check.{◌then◌}
use Rattle.sheet_csv.specs.Read.{next_line, records_made, sheet_made}

-- ---- one answer after another

-- more bytes in front
pub in_front : (x : Answer (List ℕ)) (a b : List ℕ) → ((x then λ bs. given (b ++ bs)) then λ cs. given (a ++ cs)) ≡ (x then λ bs. given ((a ++ b) ++ bs))
unfolding ◌then◌
in_front (given bs) a b = ap given (sym (append_assoc a b bs))
in_front (refused k p) a b = refl

pub nothing_in_front : (x : Answer (List ℕ)) → x ≡ (x then λ bs. given ([] ++ bs))
unfolding ◌then◌
nothing_in_front (given bs) = refl
nothing_in_front (refused k p) = refl

pub given_in_front : (x : Answer (List ℕ)) (a b : List ℕ) → x ≡ given b → (x then λ bs. given (a ++ bs)) ≡ given (a ++ b)
unfolding ◌then◌
given_in_front x a b e = rw e

pub refused_in_front : (x : Answer (List ℕ)) (a : List ℕ) (k p : ℕ) → x ≡ refused k p → (x then λ bs. given (a ++ bs)) ≡ refused k p
unfolding ◌then◌
refused_in_front x a k p e = rw e

-- ---- by the first line

-- what the answer to the first line says of all of them: `whole` is what they make, and R what those behind the first do
abbrev SaysEnd : (R : Lines → Answer (List ℕ)) (whole : Answer (List ℕ)) (filled : Bool) (s : List ℕ) (at : ℕ) (b : List ℕ) → LineEnd → Type 0
SaysEnd R whole filled s at b (LineEnd.More n) = (at < n) × (n ≤ length s) × (whole ≡ (R (lines_left filled s n) then λ bs. given (b ++ bs)))
SaysEnd R whole filled s at b LineEnd.Last = whole ≡ given b
SaysEnd R whole filled s at b LineEnd.Fault = ⊥

abbrev pub Says : (R : Lines → Answer (List ℕ)) (whole : Answer (List ℕ)) (filled : Bool) (s : List ℕ) (at : ℕ) → Answer Made → Type 0
Says R whole filled s at (refused k q) = whole ≡ refused k q
Says R whole filled s at (given m) = SaysEnd R whole filled s at m.bytes m.end

module _ (p : ℕ) (f : ℕ → List ℕ → Answer (List ℕ)) (G R : Lines → Answer (List ℕ)) (g_bad : G bad ≡ refused 14 p)
    (g_row : (fs : List (List ℕ)) (ls : Lines) → G (row fs ls) ≡ (f (length fs) (map value_in fs) then λ b. R ls then λ bs. given (b ++ bs))) (r_none : R none ≡ given []) where
  abbrev rowed : Numbers → Answer Made
  rowed l = row_by p l.end (f (length l.values) l.values)

  by_row : (filled : Bool) (s : List ℕ) (at : ℕ) → Says R (G (lines_left filled s at)) filled s at (rowed (line_left filled s at))
  unfolding ◌then◌
  by_row filled s at = go (row_left filled s at)
    where
      counted : (fs : List (List ℕ)) → f (length (map value_in fs)) (map value_in fs) ≡ f (length fs) (map value_in fs)
      counted fs = ap (λ (n : ℕ). f n (map value_in fs)) (length-map fs value_in)

      -- with another line behind it
      by_more : (x : Answer (List ℕ)) (n : ℕ) → at < n → n ≤ length s → (whole : Answer (List ℕ)) → whole ≡ (x then λ b. R (lines_left filled s n) then λ bs. given (b ++ bs))
          → Says R whole filled s at (ended_by (LineEnd.More n) x)
      by_more (given b) n o l whole e = (o, l, e)
      by_more (refused k q) n o l whole e = e

      -- with none
      by_last : (x : Answer (List ℕ)) (whole : Answer (List ℕ)) → whole ≡ (x then λ b. R none then λ bs. given (b ++ bs)) → Says R whole filled s at (ended_by LineEnd.Last x)
      by_last (given b) whole e = e ∙ ap (λ (y : Answer (List ℕ)). y then λ bs. given (b ++ bs)) r_none ∙ ap given (append-nil b)
      by_last (refused k q) whole e = e

      go : RowLeft filled s at → Says R (G (lines_left filled s at)) filled s at (rowed (line_left filled s at))
      go (more fs n o l e g) =
          subst (λ (t : Numbers). Says R (G (lines_left filled s at)) filled s at (rowed t)) (sym g)
          (by_more (f (length (map value_in fs)) (map value_in fs)) n o l (G (lines_left filled s at)) (ap G e ∙ g_row fs (lines_left filled s n) ∙ ap (λ (x : Answer (List ℕ)). x then λ b. R (lines_left filled s n) then λ bs. given (b ++ bs)) (sym (counted fs))))
      go (last fs e g) =
          subst (λ (t : Numbers). Says R (G (lines_left filled s at)) filled s at (rowed t)) (sym g)
          (by_last (f (length (map value_in fs)) (map value_in fs)) (G (lines_left filled s at)) (ap G e ∙ g_row fs none ∙ ap (λ (x : Answer (List ℕ)). x then λ b. R none then λ bs. given (b ++ bs)) (sym (counted fs))))
      go (broken vs e g) = subst (λ (t : Numbers). Says R (G (lines_left filled s at)) filled s at (rowed t)) (sym g) (ap G e ∙ g_bad)

-- a record's line, and the header's
pub records_by_row : (p : ℕ) (filled : Bool) (s : List ℕ) (at : ℕ) → Says (records_made (next_line p)) (records_made p (lines_left filled s at)) filled s at (record_row p (line_left filled s at))
unfolding record_row records_made
records_by_row p filled s at = by_row p (record_line p) (records_made p) (records_made (next_line p)) refl (λ fs ls. refl) refl filled s at

pub sheet_by_row : (filled : Bool) (s : List ℕ) → Says (records_made 2) (sheet_made (lines_left filled s 0)) filled s 0 (header_row 1 (line_left filled s 0))
unfolding header_row sheet_made records_made
sheet_by_row filled s = by_row 1 (header_line 1) sheet_made (records_made 2) refl (λ fs ls. refl) refl filled s 0

-- ---- what the code's row says

-- a row that is shown so: the answer, and the bytes in front
pub record Bytes (r : Row) (b : List ℕ) : Type 0 where
  pub front : take r.size r.bytes ≡ b
  pub inside : r.size ≤ length r.bytes
  pub size : r.size ≡ length b

abbrev pub RowSays : Result Row Refusal → Answer Made → Type 0
RowSays (Ok r) (given m) = (end_by r.next ≡ m.end) × Bytes r m.bytes
RowSays (Ok r) (refused k q) = ⊥
RowSays (Err x) (given m) = ⊥
RowSays (Err x) (refused k q) = told {A = LineEnd} x ≡ refused k q

pub row_says : (r : Result Row Refusal) (a : Answer Made) → told_row r ≡ shown a → RowSays r a
row_says (Ok r) (given m) e =
    let size : r.size ≡ length m.bytes = ap (λ (w : Shown). w.size) e in
    let bytes : r.bytes ≡ m.bytes ++ zeros (20 - length m.bytes) = ap (λ (w : Shown). w.bytes) e in (
      given_same (ap (λ (w : Shown). w.answer) e),
      record {
        front = ap (take r.size) bytes ∙ take_at m.bytes (zeros (20 - length m.bytes)) r.size (sym size);
        inside = omega (arith, ap length bytes, length-append m.bytes (zeros (20 - length m.bytes)));
        size = size;
      },
    )
row_says (Ok r) (refused k q) e = given_refused (ap (λ (w : Shown). w.answer) e)
row_says (Err x) (given m) e = given_refused (sym (ap (λ (w : Shown). w.answer) e))
row_says (Err x) (refused k q) e = ap (λ (w : Shown). w.answer) e

-- so what all lines make, by whether another line comes behind the code's row
module _ (R : Lines → Answer (List ℕ)) (whole : Answer (List ℕ)) (filled : Bool) (s : List ℕ) (at : ℕ) (r : Row) (a : Answer Made) (shows : told_row (Ok r) ≡ shown a) (says : Says R whole filled s at a) where
  -- the bytes of the line, and where the next one starts
  pub record Goes (n : ℕ) : Type 0 where
    pub made : List ℕ
    pub bytes : Bytes r made
    pub line : a ≡ given (record { bytes = made; end = LineEnd.More n })
    pub on : at < n
    pub within : n ≤ length s
    pub rest : whole ≡ (R (lines_left filled s n) then λ bs. given (made ++ bs))

  pub row_more : (n : ℕ) → r.next ≡ Some n → Goes n
  row_more n e = go a refl says shows
    where
      go : (x : Answer Made) → a ≡ x → Says R whole filled s at x → told_row (Ok r) ≡ shown x → Goes n
      go (given m) f g t =
          let h = row_says (Ok r) (given m) t in
          let end : m.end ≡ LineEnd.More n = sym h.0 ∙ ap end_by e in
          let t = subst (λ (z : LineEnd). SaysEnd R whole filled s at m.bytes z) end g in
          record { made = m.bytes; bytes = h.1; line = f ∙ ap (λ (z : LineEnd). given (record { bytes = m.bytes; end = z })) end; on = t.0; within = t.1; rest = t.2 }
      go (refused k q) f g t = absurd (row_says (Ok r) (refused k q) t)

  -- the last line
  pub record Stops : Type 0 where
    pub made : List ℕ
    pub bytes : Bytes r made
    pub line : a ≡ given (record { bytes = made; end = LineEnd.Last })
    pub rest : whole ≡ given made

  pub row_last : r.next ≡ None → Stops
  row_last e = go a refl says shows
    where
      go : (x : Answer Made) → a ≡ x → Says R whole filled s at x → told_row (Ok r) ≡ shown x → Stops
      go (given m) f g t =
          let h = row_says (Ok r) (given m) t in
          let end : m.end ≡ LineEnd.Last = sym h.0 ∙ ap end_by e in
          record { made = m.bytes; bytes = h.1; line = f ∙ ap (λ (z : LineEnd). given (record { bytes = m.bytes; end = z })) end; rest = subst (λ (z : LineEnd). SaysEnd R whole filled s at m.bytes z) end g }
      go (refused k q) f g t = absurd (row_says (Ok r) (refused k q) t)

-- a line that is turned away
pub row_refused : (R : Lines → Answer (List ℕ)) (whole : Answer (List ℕ)) (filled : Bool) (s : List ℕ) (at : ℕ) (a : Answer Made) (x : Refusal) → told_row (Err x) ≡ shown a → Says R whole filled s at a → whole ≡ told x
row_refused R whole filled s at (given m) x t g = absurd (row_says (Err x) (given m) t)
row_refused R whole filled s at (refused k q) x t g = let h = row_says (Err x) (refused k q) t in g ∙ sym (ap₂ refused (refused_number h) (refused_place h))

-- ---- how many bytes a line has

-- those that the line's numbers make
ended_bytes : (p : ℕ) (x : LineEnd) (t u : Bool) (b : List ℕ) (m : Made) → ended_by x (line_by p t u b) ≡ given m → m.bytes ≡ b
ended_bytes p x true u b m f = given_refused (sym f)
ended_bytes p x false true b m f = ap (λ (y : Made). y.bytes) (sym (given_same f))
ended_bytes p x false false b m f = given_refused (sym f)

row_bytes : (p : ℕ) (x : LineEnd) (t u : Bool) (b : List ℕ) (m : Made) → row_by p x (line_by p t u b) ≡ given m → m.bytes ≡ b
row_bytes p LineEnd.Fault t u b m e = given_refused (sym e)
row_bytes p LineEnd.Last t u b m e = ended_bytes p LineEnd.Last t u b m e
row_bytes p (LineEnd.More n) t u b m e = ended_bytes p (LineEnd.More n) t u b m e

-- sixteen of a record
pub record_sixteen : (p : ℕ) (l : Numbers) (m : Made) → record_row p l ≡ given m → length m.bytes ≡ 16
unfolding record_row record_line
record_sixteen p l m e =
    let kind = first_of l.values in
    let ns = taken (within kinds kind) l.values in
    ap length (row_bytes p l.end (within kinds kind && not (eqb (length l.values) (record_count kind))) (below (powers (record_widths kind)) (records_of kind ns)) (record_made kind ns) m e)
    ∙ length_unpack (bytes 16) (pack (record_widths kind) (records_of kind ns))
    ∙ length_bytes 16

-- twenty at most of a header
pub header_twenty : (p : ℕ) (l : Numbers) (m : Made) → header_row p l ≡ given m → length m.bytes ≤ 20
unfolding header_row header_line
header_twenty p l m e =
    let k = first_of l.values in
    let v = numbered k in
    let ns = taken (within version_numbers k) l.values in
    let x = unpack (bytes first_bytes) (pack first_widths (firsts_of ns)) in
    let y = unpack (bytes (own_bytes v)) (pack (own_widths v) (owns_of v ns)) in
    let b = row_bytes p l.end (within version_numbers k && not (eqb (length l.values) (first_count + own_count v))) (below (powers first_widths) (firsts_of ns) && below (powers (own_widths v)) (owns_of v ns)) (header_made v ns) m e in
    omega (arith, ap length b, length-append x y, length_unpack (bytes first_bytes) (pack first_widths (firsts_of ns)), length_bytes first_bytes, length_unpack (bytes (own_bytes v)) (pack (own_widths v) (owns_of v ns)), length_bytes (own_bytes v), (own_small k).1)
