-- Every answer of a text made into a sheet, or of a sheet into a text, is within the ranges in which no two have the same number.
-- Assumes nothing.
use Rattle.std.specs.Prelude.{ℕ, ◌+◌, ◌≤◌, ◌≡◌, refl, Bool, true, false, cond, not, ◌&&◌, List, map, length, ltb, leb, eqb}
use Rattle.std.proofs.Common.{sym, ap, ◌∙◌, arith, length-append, ltb-true}
use Rattle.quantity.specs.Range.{within}
use Rattle.sheet.specs.Versions.{longest_sheet, version_numbers, numbered}
use Rattle.sheet.specs.Lines.{first_widths, own_widths}
use Rattle.sheet.specs.laws.VersionLaws.{regular}
use Rattle.sheet.specs.Refusals.{Answer, given, refused}
use Rattle.sheet.specs.laws.RefusalLaws.{given_same}
use Rattle.sheet.specs.laws.HeaderLaws.{header_ranges}
use Rattle.checker.specs.Check.{demand, Sheet, sheet_in, records_part}
use Rattle.checker.specs.laws.ThenLaws.{then_given}
use Rattle.checker.specs.Rows.{Row, RefusedBy, Refusable}
use Rattle.checker.specs.laws.Bounds.{then_told, demand_told, told_also, sheet_told}
use Rattle.checker.specs.Unjudged.{room, sound_sheet}
use Rattle.fields.specs.Lines.{Lines, none, bad, row, lines_in}
use Rattle.text.specs.laws.LinesLaws.{value_in}
use Rattle.rows.specs.Pack.{below, powers}
use Rattle.rows.specs.Forms.{first_count, own_count, record_widths, record_count}
use Rattle.rows.specs.Rows.{kinds, first_of, taken, line_by, firsts_of, owns_of, header_made, header_line, records_of, record_made, record_line}
use Rattle.sheet_csv.specs.Read.{next_line, records_made, sheet_made, sheet_from, length_of}
use Rattle.sheet_csv.specs.Write.{header_cells, line, text_of, text_from}
use Rattle.sheet_csv.specs.Steps.{records_text}
use Rattle.sheet_csv.specs.laws.WriteLaws.{header_most, texts_most, sound_written}
use Rattle.yard.specs.laws.PackedLaws.{TextRow, longest_text, Converted}

-- ---- refusals

-- every refusal is a row
abbrev Rowed : {A : Type 0} → Answer A → Type 0
Rowed x = RefusedBy TextRow x

-- the table's own are
of_table : {A : Type 0} (x : Answer A) → Refusable x → Rowed x
of_table x t = told_also Row TextRow x (λ k p r. record { some = r.some; last = omega (arith, r.last); inside = omega (arith, r.inside) }) t

five_rowed : (t : Bool) → Rowed (demand t 5)
five_rowed t = demand_told TextRow t 5 (record { some = omega arith; last = omega arith; inside = omega arith })

sound_rowed : (s : List ℕ) → Rowed (sound_sheet s)
unfolding sound_sheet
sound_rowed s = of_table (sheet_in s room) (sheet_told s room)

-- 15 and 14 on a line
line_rowed : (p : ℕ) (miscounted fits : Bool) (b : List ℕ) → p ≤ 4294967295 → Rowed (line_by p miscounted fits b)
line_rowed p true fits b l = record { some = omega arith; last = omega arith; inside = l }
line_rowed p false true b l = tt
line_rowed p false false b l = record { some = omega arith; last = omega arith; inside = l }

header_rowed : (p count : ℕ) (vs : List ℕ) → p ≤ 4294967295 → Rowed (header_line p count vs)
unfolding header_line
header_rowed p count vs l =
    let v = numbered (first_of vs) in
    let known = within version_numbers (first_of vs) in
    let ns = taken known vs in
    line_rowed p (known && not (eqb count (first_count + own_count v))) (below (powers first_widths) (firsts_of ns) && below (powers (own_widths v)) (owns_of v ns)) (header_made v ns) l

record_rowed : (p count : ℕ) (vs : List ℕ) → p ≤ 4294967295 → Rowed (record_line p count vs)
unfolding record_line
record_rowed p count vs l =
    let kind = first_of vs in
    let known = within kinds kind in
    let ns = taken known vs in
    line_rowed p (known && not (eqb count (record_count kind))) (below (powers (record_widths kind)) (records_of kind ns)) (record_made kind ns) l

quotes_rowed : (p : ℕ) → p ≤ 4294967295 → TextRow 14 p
quotes_rowed p l = record { some = omega arith; last = omega arith; inside = l }

next_inside : (p : ℕ) → p ≤ 4294967295 → next_line p ≤ 4294967295
next_inside p l = go (ltb p 4294967295) refl
  where
    go : (t : Bool) → ltb p 4294967295 ≡ t → cond t (p + 1) p ≤ 4294967295
    go true e = omega (arith, ltb-true p 4294967295 e)
    go false e = l

records_rowed : (p : ℕ) (ls : Lines) → p ≤ 4294967295 → Rowed (records_made p ls)
unfolding records_made
records_rowed p none l = tt
records_rowed p bad l = quotes_rowed p l
records_rowed p (row fs ls) l =
    then_told TextRow (record_line p (length fs) (map value_in fs)) _ (record_rowed p (length fs) (map value_in fs) l)
    (λ b e. then_told TextRow (records_made (next_line p) ls) _ (records_rowed (next_line p) ls (next_inside p l)) (λ bs e. tt))

made_rowed : (ls : Lines) → Rowed (sheet_made ls)
unfolding sheet_made
made_rowed none = quotes_rowed 1 (omega arith)
made_rowed bad = quotes_rowed 1 (omega arith)
made_rowed (row fs ls) =
    then_told TextRow (header_line 1 (length fs) (map value_in fs)) _ (header_rowed 1 (length fs) (map value_in fs) (omega arith))
    (λ b e. then_told TextRow (records_made 2 ls) _ (records_rowed 2 ls (omega arith)) (λ bs e. tt))

read_rowed : (s : List ℕ) (room : ℕ) → Rowed (sheet_from s room)
unfolding sheet_from
read_rowed s room =
    then_told TextRow (sheet_made (lines_in s)) _ (made_rowed (lines_in s))
    (λ b e. then_told TextRow (sound_sheet b) _ (sound_rowed b) (λ t e. then_told TextRow (demand (leb (length b) room) 5) _ (five_rowed (leb (length b) room)) (λ u e. tt)))

write_rowed : (s : List ℕ) (room : ℕ) → Rowed (text_from s room)
unfolding text_from
write_rowed s room = then_told TextRow (sound_sheet s) _ (sound_rowed s) (λ t e. then_told TextRow (demand (leb (length (text_of t)) room) 5) _ (five_rowed (leb (length (text_of t)) room)) (λ u e. tt))

-- ---- lengths

-- the length of a sheet, and of its text
sheet_most : (s : List ℕ) (t : Sheet) → sound_sheet s ≡ given t → length s ≤ longest_sheet
sheet_most s t e = let w = sound_written s t e in omega (arith, w.whole, (header_ranges t.header w.fine).count_high, (regular t.header.own).short)

text_most : (s : List ℕ) (t : Sheet) → sound_sheet s ≡ given t → length (text_of t) ≤ longest_text
text_most s t e =
    let w = sound_written s t e in
    let same : text_of t ≡ text_of w.sheet = ap text_of (given_same (sym e ∙ w.sound)) in
    let records = records_text (records_part t.header s) 0 t.header.count in
    omega (arith, ap length (same ∙ w.text), length-append (line (header_cells t.header)) records, header_most t.header w.fine, texts_most (records_part t.header s) 0 t.header.count, w.few)

read_most : (s : List ℕ) (room : ℕ) (b : List ℕ) → sheet_from s room ≡ given b → length b ≤ longest_sheet
unfolding sheet_from
read_most s room b e =
    let m = then_given (sheet_made (lines_in s)) _ b e in
    let t = then_given (sound_sheet m.0) _ b m.2 in
    let u = then_given (demand (leb (length m.0) room) 5) _ b t.2 in
    omega (arith, sheet_most m.0 t.0 t.1, ap length (given_same u.2))

write_most : (s : List ℕ) (room : ℕ) (b : List ℕ) → text_from s room ≡ given b → length b ≤ longest_text
unfolding text_from
write_most s room b e =
    let t = then_given (sound_sheet s) _ b e in
    let u = then_given (demand (leb (length (text_of t.0)) room) 5) _ b t.2 in
    omega (arith, text_most s t.0 t.1, ap length (given_same u.2))

-- ---- both

ranged : (x : Answer (List ℕ)) → Rowed x → ((b : List ℕ) → x ≡ given b → length b ≤ longest_text) → Converted (length_of x)
ranged (given b) r h = h b refl
ranged (refused k p) r h = r

pub read_text_converted : (s : List ℕ) (room : ℕ) → Converted (length_of (sheet_from s room))
read_text_converted s room = ranged (sheet_from s room) (read_rowed s room) (λ b e. omega (arith, read_most s room b e))

pub write_text_converted : (s : List ℕ) (room : ℕ) → Converted (length_of (text_from s room))
write_text_converted s room = ranged (text_from s room) (write_rowed s room) (write_most s room)
