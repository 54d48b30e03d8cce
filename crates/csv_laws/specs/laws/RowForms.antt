-- A line that is taken as a header, or as a record, is the one that this is written as.
-- Assumes nothing.
use Rattle.std.specs.Prelude.{ℕ, zero, suc, ◌+◌, ◌*◌, ◌^◌, ◌≤◌, ◌<◌, ◌≡◌, Bool, cond, ◌&&◌, List, [], ◌∷◌, ◌++◌, map, take, drop, leb, eqb}
use Rattle.std.proofs.Math.Path.{refl, ap}
use Rattle.std.proofs.Common.{sym, ap₂, subst, ◌∙◌, append_assoc, arith, take_all, take_at, drop_at, ltb-true, eqb-true, le-leb, lt-ltb, le-ltb}
use Rattle.std.proofs.Math.Bool.{true, false, not}
use Rattle.std.proofs.Math.ListN.{length, get_or, length-append, length-map}
use Rattle.std.proofs.Math.Dec.{ltb}
use Rattle.quantity.specs.Range.{within, from}
use Rattle.layout.specs.Layout.{total, pack, unpack, bytes, Fit}
use Rattle.layout.specs.laws.Laws.{unpack_fit, unpack_pack, length_unpack, length_bytes, fields_again, pack_lt, pack_unpack_lt}
use Rattle.layout.specs.Bytes.{read_of}
use Rattle.layout.specs.laws.BytesLaws.{read_all}
use Rattle.truth.specs.laws.Tests.{both, clash}
use Rattle.decimal.specs.Decimal.{decimal_of}
use Rattle.decimal.specs.Line.{line_of, more_of}
use Rattle.fields.specs.Number.{number_of, value_of}
use Rattle.fields.specs.declared.Num.{Num}
use Rattle.fields.specs.declared.Num.TheVariants.{Empty, Value, Bad}
use Rattle.text.specs.laws.LinesLaws.{value_in}
use Rattle.sheet.specs.declared.Record.{Record}
use Rattle.sheet.specs.declared.Raw.{Raw}
use Rattle.sheet.specs.declared.Header.{Header}
use Rattle.sheet.specs.declared.Own.{Own}
use Rattle.sheet.specs.declared.Own.TheVariants.{One, Two}
use Rattle.sheet.specs.Versions.{Version, first_bytes, version_numbers, numbered, version_of}
use Rattle.sheet.specs.laws.VersionLaws.{regular_at}
use Rattle.sheet.specs.Lines.{first_widths, own_widths, plate_widths, member_widths}
use Rattle.sheet.specs.Header.{first_values, own_values, own_bytes, first_fields, own_fields, version_field, version_in, header_size, read_header}
use Rattle.sheet.specs.laws.HeaderBack.{Holds, read_holds}
use Rattle.numbers.specs.Fields.{own_numbers}
use Rattle.sheet.specs.Refusals.{given, refused}
use Rattle.sheet.specs.laws.RefusalLaws.{given_same, given_refused}
use Rattle.sheet.specs.laws.HeaderLaws.{flag_written, header_version}
use Rattle.sheet.specs.Record.{plate_at, member_at, plate_record, member_record, plate_fault, member_fault, record_fault, read_record, record_at}
use Rattle.sheet.specs.laws.RecordLaws.{plate_ranges, member_ranges}
use Rattle.sheet.specs.laws.RecordBack.{record_read_fine, record_read_raw}
use Rattle.rows.specs.Forms.{first_count, own_count, record_widths, record_count}
use Rattle.rows.specs.Rows.{kinds, first_of, taken, line_by, firsts_of, owns_of, header_made, header_line, records_of, record_made, record_line}
use Rattle.rows.specs.Pack.{fields_from, fields_of, below, powers}
use Rattle.sheet_csv.specs.Write.{line, header_cells, record_cells}
use Rattle.sheet_csv.specs.laws.WriteLaws.{Small, further, header_small, header_few, record_small, count_few}
use Rattle.csv_laws.specs.laws.Spelled.{number_spelled}
use Rattle.csv_laws.specs.Form.{fields_text}

-- ---- a line of fields that spell numbers

spelled : (f : List ℕ) → value_in f < 1000000000 → decimal_of (value_in f) ≡ f
spelled f l = go (number_of f) refl l
  where
    go : (x : Num) → number_of f ≡ x → value_of x < 1000000000 → decimal_of (value_of x) ≡ f
    go Empty e h = absurd (omega arith)
    go (Value v) e h = sym (number_spelled f v e)
    go Bad e h = absurd (omega arith)

-- its numbers written again
pub line_form : (fs : List (List ℕ)) → 1 ≤ length fs → Small (map value_in fs) → line (map value_in fs) ≡ fields_text fs
unfolding line_of more_of fields_text
line_form [] l s = absurd (omega arith)
line_form (f ∷ []) l (further h s) = ap (λ (x : List ℕ). x ++ 13 ∷ 10 ∷ []) (spelled f h)
line_form (f ∷ g ∷ fs) l (further h s) = ap₂ {C = List ℕ} (λ x y. x ++ 44 ∷ y) (spelled f h) (line_form (g ∷ fs) (omega arith) s)

-- ---- fields and limits

pub below_fit : (ws vs : List ℕ) → below (powers ws) vs ≡ true → Fit ws vs
unfolding below
below_fit [] [] e = tt
below_fit [] (v ∷ vs) e = clash e refl
below_fit (w ∷ ws) [] e = clash e refl
below_fit (w ∷ ws) (v ∷ vs) e = let h = both (ltb v (2 ^ w)) (below (powers ws) vs) e in (ltb-true v (2 ^ w) h.0, below_fit ws vs h.1)

-- all numbers of a list
fields_on : (i n : ℕ) (x : ℕ) (vs : List ℕ) → fields_from (suc i) n (x ∷ vs) ≡ fields_from i n vs
fields_on i zero x vs = refl
fields_on i (suc n) x vs =
    let m : suc i + 1 ≡ suc (i + 1) = omega arith in
    ap (λ (l : List ℕ). get_or vs i 0 ∷ l) (ap (λ (j : ℕ). fields_from j n (x ∷ vs)) m ∙ fields_on (i + 1) n x vs)

pub fields_all : (vs : List ℕ) (n : ℕ) → length vs ≡ n → fields_of n vs ≡ vs
fields_all [] zero e = refl
fields_all [] (suc n) e = absurd (omega arith)
fields_all (v ∷ vs) zero e = absurd (omega arith)
fields_all (v ∷ vs) (suc n) e = ap (λ (l : List ℕ). v ∷ l) (fields_on 0 n v vs ∙ fields_all vs n (omega arith))

-- a line that is taken
pub line_given : (p : ℕ) (t u : Bool) (b c : List ℕ) → line_by p t u b ≡ given c → (t ≡ false) × (u ≡ true) × (b ≡ c)
line_given p true u b c e = given_refused (sym e)
line_given p false true b c e = (refl, refl, given_same e)
line_given p false false b c e = given_refused (sym e)

-- the count of a known line is its own
pub counted : (known : Bool) (n m : ℕ) → known ≡ true → (known && not (eqb n m)) ≡ false → n ≡ m
counted known n m k e = go (eqb n m) refl (sym (ap (λ (t : Bool). t && not (eqb n m)) k) ∙ e)
  where
    go : (t : Bool) → eqb n m ≡ t → not t ≡ false → n ≡ m
    go true f g = eqb-true n m f
    go false f g = clash refl g

taken_first : (known : Bool) (vs : List ℕ) → first_of (taken known vs) ≡ first_of vs
taken_first true vs = refl
taken_first false vs = refl

taken_known : (known : Bool) (vs : List ℕ) → known ≡ true → taken known vs ≡ vs
taken_known known vs e = ap (λ (t : Bool). taken t vs) e

-- ---- a record

module _ (fs : List ℕ) (i : ℕ) (b : List ℕ) (r : Record) (read : read_record i b ≡ given r) where
  -- the number in the bytes
  number : (ws : List ℕ) → total ws ≡ 128 → Fit ws fs → unpack (bytes 16) (pack ws fs) ≡ b → record_at (pack ws fs) ≡ r
  number ws whole fit e =
      let n = pack ws fs in
      let size : length b ≡ 16 = ap length (sym e) ∙ length_unpack (bytes 16) n ∙ length_bytes 16 in
      let small : n < 2 ^ total (bytes 16) = subst (λ (t : ℕ). n < 2 ^ t) whole (pack_lt ws fs fit) in
      let same : read_of 16 b ≡ n = read_all 16 b (omega arith) ∙ ap (pack (bytes 16)) (take_all 16 b (omega arith)) ∙ ap (pack (bytes 16)) (sym e) ∙ pack_unpack_lt (bytes 16) n small in
      ap record_at (sym same) ∙ ap (λ (w : Raw). w.values) ((record_read_raw i b r).0 read).0

  plate_read : Fit plate_widths fs → unpack (bytes 16) (pack plate_widths fs) ≡ b → ltb (get_or fs 0 0) 5 ≡ true → plate_record fs ≡ r
  plate_read fit e k =
      let n = pack plate_widths fs in
      let u = unpack_pack plate_widths fs fit in
      sym (ap (λ (l : List ℕ). cond (ltb (get_or l 0 0) 5) (plate_record l) (member_record (unpack member_widths n))) u ∙ ap (λ (t : Bool). cond t (plate_record fs) (member_record (unpack member_widths n))) k)
      ∙ number plate_widths refl fit e

  member_read : Fit member_widths fs → unpack (bytes 16) (pack member_widths fs) ≡ b → ltb (get_or fs 0 0) 5 ≡ false → member_record fs ≡ r
  member_read fit e k =
      let n = pack member_widths fs in
      let u = unpack_pack member_widths fs fit in
      sym (ap (λ (l : List ℕ). cond (ltb (get_or l 0 0) 5) (plate_record (unpack plate_widths n)) (member_record l)) u ∙ ap (λ (t : Bool). cond t (plate_record (unpack plate_widths n)) (member_record fs)) k)
      ∙ number member_widths refl fit e

-- the numbers of a plate, and of a member, as they are read of their fields
plate_cells : (fs : List ℕ) → ltb (get_or fs 0 0) 5 ≡ true → get_or fs 8 0 < 2 → record_cells (plate_record fs) ≡ fields_of 11 fs
plate_cells fs k l = rw (k, flag_written (get_or fs 8 0) l)

member_cells : (fs : List ℕ) → ltb (get_or fs 0 0) 5 ≡ false → record_cells (member_record fs) ≡ fields_of 13 fs
member_cells fs k = rw k

module _ (i p : ℕ) (fs : List (List ℕ)) (b : List ℕ) (r : Record) (read : read_record i b ≡ given r) where
  abbrev vs : List ℕ
  vs = map value_in fs

  abbrev kind : ℕ
  kind = first_of vs

  abbrev known : Bool
  known = within kinds kind

  fine : record_fault r 0 ≡ 0
  fine = record_read_fine i b r read

  -- of so many numbers all are taken where the kind is one
  all_taken : (n : ℕ) → 1 ≤ kind → kind ≤ 8 → (known && not (eqb (length fs) n)) ≡ false → fields_of n (taken known vs) ≡ vs
  all_taken n l h e =
      let k : known ≡ true = rw (le-leb 1 kind l, le-leb kind 8 h) in
      ap (fields_of n) (taken_known known vs k) ∙ fields_all vs n (length-map fs value_in ∙ counted known (length fs) n k e)

  by_shape : (t : Bool) → ltb kind 5 ≡ t → (known && not (eqb (length fs) (cond t 11 13))) ≡ false
      → below (powers (cond t plate_widths member_widths)) (fields_of (length (cond t plate_widths member_widths)) (taken known vs)) ≡ true
      → unpack (bytes 16) (pack (cond t plate_widths member_widths) (fields_of (length (cond t plate_widths member_widths)) (taken known vs))) ≡ b
      → record_cells r ≡ vs
  unfolding plate_fault member_fault
  by_shape true k c u m =
      let ns = fields_of 12 (taken known vs) in
      let fit = below_fit plate_widths ns u in
      let first = taken_first known vs in
      let is_plate : ltb (get_or ns 0 0) 5 ≡ true = ap (λ (x : ℕ). ltb x 5) first ∙ k in
      let own : plate_record ns ≡ r = plate_read ns i b r read fit m is_plate in
      let ranges = plate_ranges (get_or ns 0 0) (get_or ns 1 0) (plate_at ns) 0 (ap (λ (q : Record). record_fault q 0) own ∙ fine) in
      let flag : get_or ns 8 0 < 2 = fit.1.1.1.1.1.1.1.1.0 in
      ap record_cells (sym own) ∙ plate_cells ns is_plate flag ∙ all_taken 11 (omega (arith, ranges.kind_low, first)) (omega (arith, ranges.kind_high, first)) c
  by_shape false k c u m =
      let ns = fields_of 13 (taken known vs) in
      let fit = below_fit member_widths ns u in
      let first = taken_first known vs in
      let is_member : ltb (get_or ns 0 0) 5 ≡ false = ap (λ (x : ℕ). ltb x 5) first ∙ k in
      let own : member_record ns ≡ r = member_read ns i b r read fit m is_member in
      let ranges = member_ranges (get_or ns 0 0) (get_or ns 1 0) (member_at ns) (ap (λ (q : Record). record_fault q 0) own ∙ fine) in
      ap record_cells (sym own) ∙ member_cells ns is_member ∙ all_taken 13 (omega (arith, ranges.kind_low, first)) (omega (arith, ranges.kind_high, first)) c

  -- a record's line is the one that it is written as
  pub record_form_lem : record_line p (length fs) vs ≡ given b → line (record_cells r) ≡ fields_text fs
  unfolding record_line
  record_form_lem e =
      let g = line_given p (known && not (eqb (length fs) (record_count kind))) (below (powers (record_widths kind)) (records_of kind (taken known vs))) (record_made kind (taken known vs)) b e in
      let cells : record_cells r ≡ vs = by_shape (ltb kind 5) refl g.0 g.1 g.2 in
      let small = record_small r fine in
      let some : 1 ≤ length fs = omega (arith, ap length cells, length-map fs value_in, small.1, (count_few r.kind).0) in
      ap line cells ∙ line_form fs some (subst Small cells small.0)

-- ---- a header

version_known : (o : Own) (k : ℕ) → k ≡ (version_of o).number → within version_numbers k ≡ true
version_known One k e = ap (within version_numbers) e
version_known (Two s) k e = ap (within version_numbers) e

-- its numbers, from the values of its fields
cells_of : (h : Header) (o : Own) (ns : List ℕ) → fields_of first_count ns ++ 0 ∷ [] ≡ first_values h 0 → fields_from first_count (length (own_widths (version_of o))) ns ≡ own_values o 0
    → take (first_count + own_count (version_of o)) (take 8 (first_values h 0) ++ own_numbers o) ≡ fields_of (first_count + own_count (version_of o)) ns
cells_of h One ns e d = ap (take 8) (sym e)
cells_of h (Two s) ns e d = ap₂ {C = List ℕ} (λ x y. take 8 x ++ take 2 y) (sym e) (sym d)

module _ (p : ℕ) (fs : List (List ℕ)) (b z : List ℕ) (h : Header) (read : read_header (b ++ z) ≡ given h) where
  abbrev hs : List ℕ
  hs = map value_in fs

  abbrev k : ℕ
  k = first_of hs

  abbrev v : Version
  v = numbered k

  abbrev named : Bool
  named = within version_numbers k

  abbrev ns : List ℕ
  ns = taken named hs

  holds : Holds (b ++ z) h
  holds = read_holds (b ++ z) h read

  module _ (fit : Fit first_widths (firsts_of ns)) (own_fit : Fit (own_widths v) (owns_of v ns)) (made : header_made v ns ≡ b) where
    abbrev front : List ℕ
    front = unpack (bytes first_bytes) (pack first_widths (firsts_of ns))

    abbrev back : List ℕ
    back = unpack (bytes (own_bytes v)) (pack (own_widths v) (owns_of v ns))

    whole : b ++ z ≡ front ++ (back ++ z)
    whole = ap (λ (x : List ℕ). x ++ z) (sym made) ∙ append_assoc front back z

    front_size : length front ≡ first_bytes
    front_size = length_unpack (bytes first_bytes) (pack first_widths (firsts_of ns)) ∙ length_bytes first_bytes

    first_read : first_fields (b ++ z) ≡ firsts_of ns
    first_read =
        ap (λ (x : List ℕ). unpack first_widths (pack (bytes first_bytes) x)) (ap (take first_bytes) whole ∙ take_at front (back ++ z) first_bytes front_size)
        ∙ fields_again first_widths first_bytes refl (firsts_of ns) fit

    version_read : version_field (b ++ z) ≡ k
    version_read = ap (λ (x : List ℕ). get_or x 0 0) first_read ∙ taken_first named hs

    own_read : own_fields (version_in (b ++ z)) (b ++ z) ≡ owns_of v ns
    own_read =
        ap (λ (j : ℕ). own_fields (numbered j) (b ++ z)) version_read
        ∙ ap (λ (x : List ℕ). unpack (own_widths v) (pack (bytes (own_bytes v)) x))
        (ap (λ (x : List ℕ). take (own_bytes v) (drop first_bytes x)) whole ∙ ap (take (own_bytes v)) (drop_at front (back ++ z) first_bytes front_size)
        ∙ take_at back z (own_bytes v) (length_unpack (bytes (own_bytes v)) (pack (own_widths v) (owns_of v ns)) ∙ length_bytes (own_bytes v)))
        ∙ fields_again (own_widths v) (own_bytes v) (regular_at k).filled (owns_of v ns) own_fit

    all : firsts_of ns ++ owns_of v ns ≡ first_values h 0 ++ own_values h.own 0
    all = sym (ap₂ {C = List ℕ} (λ x y. x ++ y) first_read own_read) ∙ holds.fields

    firsts : firsts_of ns ≡ first_values h 0
    firsts = ap (take 9) all

    owns : owns_of v ns ≡ own_values h.own 0
    owns = ap (drop 9) all

    version_is : v ≡ version_of h.own
    version_is = sym (ap numbered version_read) ∙ holds.version

    is_known : named ≡ true
    is_known = version_known h.own k (sym (taken_first named hs) ∙ ap (λ (x : List ℕ). get_or x 0 0) firsts ∙ header_version h holds.fine)

    cells : (known : (named && not (eqb (length fs) (first_count + own_count v))) ≡ false) → header_cells h ≡ hs
    cells c =
        let n : length fs ≡ first_count + own_count (version_of h.own) = counted named (length fs) (first_count + own_count v) is_known c ∙ ap (λ (w : Version). first_count + own_count w) version_is in
        cells_of h h.own ns firsts (ap (λ (w : Version). fields_from first_count (length (own_widths w)) ns) (sym version_is) ∙ owns)
        ∙ ap (fields_of (first_count + own_count (version_of h.own))) (taken_known named hs is_known)
        ∙ fields_all hs (first_count + own_count (version_of h.own)) (length-map fs value_in ∙ n)

  -- a header's line is the one that it is written as
  pub header_form : header_line p (length fs) hs ≡ given b → line (header_cells h) ≡ fields_text fs
  unfolding header_line
  header_form e =
      let g = line_given p (named && not (eqb (length fs) (first_count + own_count v))) (below (powers first_widths) (firsts_of ns) && below (powers (own_widths v)) (owns_of v ns)) (header_made v ns) b e in
      let u = both (below (powers first_widths) (firsts_of ns)) (below (powers (own_widths v)) (owns_of v ns)) g.1 in
      let same : header_cells h ≡ hs = cells (below_fit first_widths (firsts_of ns) u.0) (below_fit (own_widths v) (owns_of v ns) u.1) g.2 g.0 in
      let small = header_small h holds.fine in
      let some : 1 ≤ length fs = omega (arith, ap length same, length-map fs value_in, small.1, (header_few h.own).0) in
      ap line same ∙ line_form fs some (subst Small same small.0)

  -- and makes as many bytes as the header has
  pub header_size_lem : header_line p (length fs) hs ≡ given b → length b ≡ header_size h
  unfolding header_line
  header_size_lem e =
      let g = line_given p (named && not (eqb (length fs) (first_count + own_count v))) (below (powers first_widths) (firsts_of ns) && below (powers (own_widths v)) (owns_of v ns)) (header_made v ns) b e in
      let u = both (below (powers first_widths) (firsts_of ns)) (below (powers (own_widths v)) (owns_of v ns)) g.1 in
      let f = below_fit first_widths (firsts_of ns) u.0 in
      let d = below_fit (own_widths v) (owns_of v ns) u.1 in
      let two = length-append (front f d g.2) (back f d g.2) in
      omega (arith, ap length g.2, two, front_size f d g.2, length_unpack (bytes (own_bytes v)) (pack (own_widths v) (owns_of v ns)), length_bytes (own_bytes v), (regular_at k).least, ap (λ (w : Version). w.size) (version_is f d g.2))
