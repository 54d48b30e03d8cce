-- The line of a sound header, and of a sound record, is taken as its bytes.
-- Assumes nothing.
use Rattle.std.specs.Prelude.{ℕ, ◌+◌, ◌^◌, ◌≤◌, ◌≡◌, refl, true, cond, List, [], ◌∷◌, ◌++◌, map, length, take, leb, ltb}
use Rattle.std.proofs.Common.{sym, ap, ap₂, subst, ◌∙◌, arith, le-leb, lt-ltb, le-ltb}
use Rattle.layout.specs.Layout.{pack, unpack, bytes, Fit}
use Rattle.decimal.specs.Decimal.{decimal_of}
use Rattle.sheet.specs.declared.Header.{Header}
use Rattle.sheet.specs.declared.Own.{Own}
use Rattle.sheet.specs.declared.Own.TheVariants.{One, Two}
use Rattle.sheet.specs.declared.Section.{Section}
use Rattle.sheet.specs.declared.Plate.{Plate}
use Rattle.sheet.specs.declared.Member.{Member}
use Rattle.sheet.specs.declared.Body.{Body}
use Rattle.sheet.specs.declared.Body.TheVariants.{Plate as isPlate, Member as isMember}
use Rattle.sheet.specs.declared.Record.{Record}
use Rattle.sheet.specs.Versions.{version_of, first_bytes, one, two}
use Rattle.sheet.specs.Lines.{first_widths, own_widths, plate_widths, member_widths}
use Rattle.sheet.specs.Refusals.{Answer, given}
use Rattle.sheet.specs.Header.{first_values, own_values, header_fault, header_bytes, own_bytes}
use Rattle.sheet.specs.laws.HeaderLaws.{header_fit, header_version}
use Rattle.sheet.specs.Record.{plate_values, member_values, body_fault, record_fault, widths_in, values_in, record_bytes}
use Rattle.sheet.specs.laws.RecordLaws.{record_fit, plate_ranges, member_ranges}
use Rattle.numbers.specs.Fields.{own_numbers, body_numbers}
use Rattle.fields.specs.Number.{value_of}
use Rattle.text.specs.laws.LinesLaws.{value_in}
use Rattle.rows.specs.Pack.{below, powers}
use Rattle.rows.specs.Forms.{first_count, own_count, record_count}
use Rattle.rows.specs.Rows.{header_line, record_line}
use Rattle.sheet_csv.specs.Write.{header_cells, record_cells}
use Rattle.sheet_csv.specs.laws.WriteLaws.{Small, nothing, further, header_small, record_small}
use Rattle.csv_laws.specs.laws.Spelled.{number_back}

-- what fits a layout is below its limits, and the other way round
pub fit_below : (ws vs : List ℕ) → Fit ws vs → below (powers ws) vs ≡ true
unfolding below
fit_below [] (v ∷ vs) f = elim f [ ]
fit_below (w ∷ ws) [] f = elim f [ ]
fit_below [] [] f = refl
fit_below (w ∷ ws) (v ∷ vs) f = rw (lt-ltb v (2 ^ w) f.0) (fit_below ws vs f.1)

-- the numbers of written fields
pub values_back : (ns : List ℕ) → Small ns → map value_in (map decimal_of ns) ≡ ns
values_back [] s = refl
values_back (n ∷ ns) (further l s) = ap₂ {C = List ℕ} (λ x xs. x ∷ xs) (ap value_of (number_back n l)) (values_back ns s)

-- ---- a header

-- the values behind its version: those that every version has, and then their zero bits
abbrev tail : Header → List ℕ
tail h = h.length.0 ∷ h.draught.0 ∷ h.wave.0 ∷ cond h.two_runs 1 0 ∷ h.moment ∷ h.bottom_modulus ∷ h.count ∷ []

-- its line, by what its version has of its own; k is the version's number
one_line : (p : ℕ) (h : Header) → Fit first_widths (1 ∷ (tail h ++ 0 ∷ [])) → header_line p 8 (1 ∷ tail h) ≡ given (unpack (bytes first_bytes) (pack first_widths (1 ∷ (tail h ++ 0 ∷ []))) ++ [])
unfolding header_line below
one_line p h f = rw (fit_below first_widths (1 ∷ (tail h ++ 0 ∷ [])) f)

two_line : (p : ℕ) (h : Header) (s : Section) → Fit first_widths (2 ∷ (tail h ++ 0 ∷ [])) → Fit (own_widths two) (own_values (Two s) 0)
    → header_line p 10 (2 ∷ (tail h ++ own_numbers (Two s))) ≡ given (unpack (bytes first_bytes) (pack first_widths (2 ∷ (tail h ++ 0 ∷ []))) ++ unpack (bytes 8) (pack (own_widths two) (own_values (Two s) 0)))
unfolding header_line
two_line p h s f g = rw (fit_below first_widths (2 ∷ (tail h ++ 0 ∷ [])) f, fit_below (own_widths two) (own_values (Two s) 0) g)

header_by_own : (p : ℕ) (h : Header) (o : Own) (k : ℕ) → k ≡ (version_of o).number → Fit first_widths (k ∷ (tail h ++ 0 ∷ [])) → Fit (own_widths (version_of o)) (own_values o 0)
    → header_line p (first_count + own_count (version_of o)) (take (first_count + own_count (version_of o)) (k ∷ (tail h ++ own_numbers o)))
    ≡ given (unpack (bytes first_bytes) (pack first_widths (k ∷ (tail h ++ 0 ∷ []))) ++ unpack (bytes (own_bytes (version_of o))) (pack (own_widths (version_of o)) (own_values o 0)))
header_by_own p h One k e f g =
    subst (λ (j : ℕ). Fit first_widths (j ∷ (tail h ++ 0 ∷ [])) → header_line p 8 (j ∷ tail h) ≡ given (unpack (bytes first_bytes) (pack first_widths (j ∷ (tail h ++ 0 ∷ []))) ++ [])) (sym e) (one_line p h) f
header_by_own p h (Two s) k e f g =
    subst (λ (j : ℕ). Fit first_widths (j ∷ (tail h ++ 0 ∷ [])) → header_line p 10 (j ∷ (tail h ++ own_numbers (Two s)))
    ≡ given (unpack (bytes first_bytes) (pack first_widths (j ∷ (tail h ++ 0 ∷ []))) ++ unpack (bytes 8) (pack (own_widths two) (own_values (Two s) 0)))) (sym e) (λ d. two_line p h s d g) f

pub header_line_lem : (p : ℕ) (h : Header) → header_fault h ≡ 0 → header_line p (length (header_cells h)) (header_cells h) ≡ given (header_bytes h)
header_line_lem p h e =
    ap (λ (n : ℕ). header_line p n (header_cells h)) (header_small h e).1
    ∙ header_by_own p h h.own h.version (header_version h e) (header_fit h e).0 (header_fit h e).1

-- ---- a record

plate_line : (p kind id : ℕ) (q : Plate) → 1 ≤ kind → kind ≤ 4 → Fit plate_widths (plate_values kind id q 0)
    → record_line p 11 (take 11 (plate_values kind id q 0)) ≡ given (unpack (bytes 16) (pack plate_widths (plate_values kind id q 0)))
unfolding record_line
plate_line p kind id q l h fit =
    let vs = plate_values kind id q 0 in
    rw (lt-ltb kind 5 (omega arith), le-leb 1 kind l, le-leb kind 8 (omega arith), fit_below plate_widths vs fit)

member_line_lem : (p kind id : ℕ) (m : Member) → 5 ≤ kind → kind ≤ 8 → Fit member_widths (member_values kind id m)
    → record_line p 13 (member_values kind id m) ≡ given (unpack (bytes 16) (pack member_widths (member_values kind id m)))
unfolding record_line
member_line_lem p kind id m l h fit =
    let vs = member_values kind id m in
    rw (le-ltb kind 5 l, le-leb 1 kind (omega arith), le-leb kind 8 h, fit_below member_widths vs fit)

pub record_line_lem : (p : ℕ) (r : Record) → record_fault r 0 ≡ 0 → record_line p (length (record_cells r)) (record_cells r) ≡ given (record_bytes r)
record_line_lem p r e = ap (λ (n : ℕ). record_line p n (record_cells r)) (record_small r e).1 ∙ go r.body e (record_fit r e)
  where
    kind : ℕ
    kind = r.kind

    go : (b : Body) → body_fault kind r.id b 0 ≡ 0 → Fit (widths_in b) (values_in kind r.id b)
        → record_line p (record_count kind) (take (record_count kind) (body_numbers kind r.id b)) ≡ given (unpack (bytes 16) (pack (widths_in b) (values_in kind r.id b)))
    go (isPlate q) f fit =
        let k = plate_ranges kind r.id q 0 f in
        let h = k.kind_high in
        rw (lt-ltb kind 5 (omega arith)) (plate_line p kind r.id q k.kind_low k.kind_high fit)
    go (isMember m) f fit =
        let k = member_ranges kind r.id m f in
        rw (le-ltb kind 5 k.kind_low) (member_line_lem p kind r.id m k.kind_low k.kind_high fit)
