-- Every text that has the numbers of a sheet in its fields is read as the sheet, whatever stands in quotes and however the lines end; and the text that the
-- sheet is written as is one of them.
-- Assumes nothing.
use Rattle.std.specs.Prelude.{ℕ, ◌+◌, ◌≤◌, ◌≡◌, refl, Bool, true, false, cond, List, [], ◌∷◌, ◌++◌, map, length}
use Rattle.std.proofs.Common.{sym, ap, ap₂, subst, ◌∙◌, append_assoc, append-nil, arith, length-append, le-leb}
use Rattle.std.proofs.lemmas.List.{length-map}
use Rattle.decimal.specs.Decimal.{decimal_of}
use Rattle.decimal.specs.laws.DecimalLaws.{Digits, decimal_digits, decimal_some}
use Rattle.decimal.specs.Line.{line_of, more_of}
use Rattle.sheet.specs.declared.Header.{Header}
use Rattle.sheet.specs.declared.Record.{Record}
use Rattle.sheet.specs.Refusals.{given}
use Rattle.sheet.specs.Header.{header_fault, header_bytes}
use Rattle.sheet.specs.Record.{record_fault, record_bytes}
use Rattle.fields.specs.Lines.{lines_in}
use Rattle.text.specs.laws.LinesLaws.{value_in}
use Rattle.rows.specs.Rows.{header_line, record_line}
use Rattle.checker.specs.Check.{◌then◌, demand, Sheet}
use Rattle.checker.specs.Unjudged.{sound_sheet}
use Rattle.sheet_csv.specs.Read.{next_line, records_made, sheet_made, sheet_from}
use Rattle.sheet_csv.specs.Write.{header_cells, record_cells, line, lines_text, cells_of, text_of}
use Rattle.sheet_csv.specs.laws.WriteLaws.{header_small, record_small, header_few, count_few}
use Rattle.csv_laws.specs.Variants.{Cell, Line, in_quotes, cell_text, cells_text, spelling, Bare, Fair, FairLines, fields_in, Variant, plain_cell, plain_line}
use Rattle.csv_laws.specs.laws.LinesBack.{lines_for, lines_back}
use Rattle.csv_laws.specs.laws.RowsBack.{values_back, header_line_lem, record_line_lem}
use Rattle.csv_laws.specs.laws.SheetBytes.{Bytes, joined_bytes, Sound, nothing, further, sheet_bytes}

-- ---- the lines of a sheet

-- the bytes of fields, and the digits of numbers
abbrev bytes_of : List Cell → List (List ℕ)
bytes_of cs = map (λ (c : Cell). c.bytes) cs

abbrev decimals : List ℕ → List (List ℕ)
decimals ns = map decimal_of ns

-- a record's line
record_read : (p : ℕ) (r : Record) → record_fault r 0 ≡ 0 → record_line p (length (decimals (record_cells r))) (map value_in (decimals (record_cells r))) ≡ given (record_bytes r)
record_read p r e = ap₂ (record_line p) (length-map (record_cells r) decimal_of) (values_back (record_cells r) (record_small r e).0) ∙ record_line_lem p r e

records_read : (p : ℕ) (rs : List Record) → Sound rs → records_made p (lines_for (map decimals (map record_cells rs))) ≡ given (joined_bytes rs)
unfolding records_made lines_for joined_bytes ◌then◌
records_read p [] nothing = refl
records_read p (r ∷ rs) (further e s) = rw (record_read p r e, records_read (next_line p) rs s)

-- all lines
sheet_read : (h : Header) (rs : List Record) → header_fault h ≡ 0 → Sound rs → sheet_made (lines_for (map decimals (header_cells h ∷ map record_cells rs))) ≡ given (header_bytes h ++ joined_bytes rs)
unfolding sheet_made lines_for ◌then◌
sheet_read h rs e s =
    let head : header_line 1 (length (decimals (header_cells h))) (map value_in (decimals (header_cells h))) ≡ given (header_bytes h)
    = ap₂ (header_line 1) (length-map (header_cells h) decimal_of) (values_back (header_cells h) (header_small h e).0) ∙ header_line_lem 1 h e in
    rw (head, records_read 2 rs s)

-- every line has a number
data Full : List (List ℕ) → Type 0 where
  no_lines : Full []
  full : {ns : List ℕ} {rest : List (List ℕ)} → 1 ≤ length ns → Full rest → Full (ns ∷ rest)

records_full : (rs : List Record) → Sound rs → Full (map record_cells rs)
records_full [] nothing = no_lines
records_full (r ∷ rs) (further e s) = full {ns = record_cells r} (omega (arith, (record_small r e).1, (count_few r.kind).0)) (records_full rs s)

-- ---- fields that are numbers in decimal

-- they may stand without quotes
digits_bare : {ds : List ℕ} → Digits ds → Bare ds
digits_bare Digits.none = Bare.none
digits_bare (Digits.next {b = b} l h d) = Bare.next (λ (e : b ≡ 44). omega arith) (λ (e : b ≡ 34). omega arith) (λ (e : b ≡ 10). omega arith) (λ (e : b ≡ 13). omega arith) (digits_bare d)

-- lists that are equal, element by element
first_same : {A : Type 0} {a b : A} {x y : List A} → a ∷ x ≡ b ∷ y → a ≡ b
first_same e = cc

rest_same : {A : Type 0} {a b : A} {x y : List A} → a ∷ x ≡ b ∷ y → x ≡ y
rest_same e = cc

number_fair : (cs : List Cell) (ns : List ℕ) → bytes_of cs ≡ decimals ns → Fair cs
number_fair [] ns e = Fair.none
number_fair (c ∷ cs) [] e = absurd (omega (arith, ap length e))
number_fair (c ∷ cs) (n ∷ ns) e = Fair.next (λ q. subst Bare (sym (first_same e)) (digits_bare (decimal_digits n))) (number_fair cs ns (rest_same e))

-- and have a byte
number_some : (c : Cell) (n : ℕ) → c.bytes ≡ decimal_of n → 1 ≤ length (cell_text c)
number_some c n e = go c.quoted
  where
    go : (q : Bool) → 1 ≤ length (cond q (in_quotes c.bytes) c.bytes)
    go true = omega arith
    go false = omega (arith, ap length e, decimal_some n)

line_some : (cs : List Cell) (ns : List ℕ) → bytes_of cs ≡ decimals ns → 1 ≤ length ns → 1 ≤ length (cells_text cs)
unfolding cells_text
line_some [] [] e l = absurd (omega arith)
line_some [] (n ∷ ns) e l = absurd (omega (arith, ap length e))
line_some (c ∷ cs) [] e l = absurd (omega arith)
line_some (c ∷ []) (n ∷ ns) e l = number_some c n (first_same e)
line_some (c ∷ d ∷ cs) (n ∷ ns) e l = omega (arith, length-append (cell_text c) (44 ∷ cells_text (d ∷ cs)), number_some c n (first_same e))

lines_fair : (ls : List Line) (rows : List (List ℕ)) → Full rows → map fields_in ls ≡ map decimals rows → FairLines ls
lines_fair [] rows f e = FairLines.none
lines_fair (l ∷ ls) [] f e = absurd (omega (arith, ap length e))
lines_fair (l ∷ ls) (ns ∷ rows) (full o f) e =
    FairLines.next (number_fair l.cells ns (first_same e)) (line_some l.cells ns (first_same e) o) (lines_fair ls rows f (rest_same e))

-- ---- reading

-- their lines make the sheet
pub variants_made : (s : List ℕ) (t : Sheet) → Bytes s → sound_sheet s ≡ given t → (ended : Bool) (ls : List Line) → Variant t ls → sheet_made (lines_in (spelling ended ls)) ≡ given s
variants_made s t f e ended ls v = go ls v
  where
    h : Header
    h = t.header

    go : (ms : List Line) → Variant t ms → sheet_made (lines_in (spelling ended ms)) ≡ given s
    go [] u = absurd (omega (arith, ap length u))
    go (m ∷ ms) u =
        let w = sheet_bytes s t f e in
        let some : 1 ≤ length (header_cells h) = omega (arith, (header_small h w.header).1, (header_few h.own).0) in
        ap sheet_made (lines_back ended m ms (lines_fair (m ∷ ms) (cells_of t) (full some (records_full t.records w.records)) u) ∙ ap lines_for u)
        ∙ sheet_read h t.records w.header w.records
        ∙ ap given (sym w.bytes_are)

-- lines that make a sheet which is not turned away are read as it, where there is room
pub sheet_taken : (y s : List ℕ) (t : Sheet) (space : ℕ) → sheet_made (lines_in y) ≡ given s → sound_sheet s ≡ given t → length s ≤ space → sheet_from y space ≡ given s
unfolding sheet_from ◌then◌ demand
sheet_taken y s t space g h l = rw (g, h, le-leb (length s) space l)

-- every text with the numbers of a sheet that is not turned away is read as it, byte for byte, in any output that has room for it
pub variants_read : (s : List ℕ) (t : Sheet) → Bytes s → sound_sheet s ≡ given t → (ended : Bool) (ls : List Line) → Variant t ls → (space : ℕ) → length s ≤ space → sheet_from (spelling ended ls) space ≡ given s
variants_read s t f e ended ls v space l = sheet_taken (spelling ended ls) s t space (variants_made s t f e ended ls v) e l

-- ---- the written text

-- a line of numbers, and lines of them
line_plain : (ns : List ℕ) → line ns ≡ cells_text (map plain_cell ns) ++ 13 ∷ 10 ∷ []
unfolding line_of more_of cells_text
line_plain [] = refl
line_plain (n ∷ []) = refl
line_plain (n ∷ m ∷ ns) =
    ap (λ (x : List ℕ). decimal_of n ++ 44 ∷ x) (line_plain (m ∷ ns)) ∙ sym (append_assoc (decimal_of n) (44 ∷ cells_text (map plain_cell (m ∷ ns))) (13 ∷ 10 ∷ []))

lines_plain : (rows : List (List ℕ)) → lines_text rows ≡ spelling true (map plain_line rows)
unfolding lines_text spelling
lines_plain [] = refl
lines_plain (ns ∷ []) = append-nil (line ns) ∙ line_plain ns
lines_plain (ns ∷ ms ∷ rows) =
    ap₂ {C = List ℕ} (λ x y. x ++ y) (line_plain ns) (lines_plain (ms ∷ rows)) ∙ append_assoc (cells_text (map plain_cell ns)) (13 ∷ 10 ∷ []) (spelling true (map plain_line (ms ∷ rows)))

plain_fields : (ns : List ℕ) → bytes_of (map plain_cell ns) ≡ decimals ns
plain_fields [] = refl
plain_fields (n ∷ ns) = ap (λ (x : List (List ℕ)). decimal_of n ∷ x) (plain_fields ns)

plain_lines : (rows : List (List ℕ)) → map fields_in (map plain_line rows) ≡ map decimals rows
plain_lines [] = refl
plain_lines (ns ∷ rows) = ap₂ {C = List (List (List ℕ))} (λ x y. x ∷ y) (plain_fields ns) (plain_lines rows)

-- what a sheet is written as is the one with no quotes and CR LF after every line
pub written_variant : (t : Sheet) → Variant t (map plain_line (cells_of t)) × (text_of t ≡ spelling true (map plain_line (cells_of t)))
unfolding text_of
written_variant t = (plain_lines (cells_of t), lines_plain (cells_of t))
