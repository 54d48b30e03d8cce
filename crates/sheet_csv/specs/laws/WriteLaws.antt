-- How long the lines of a sheet are, and that they are its text.
-- Assumes nothing.
use Rattle.std.specs.Prelude.{ℕ, zero, suc, ◌+◌, ◌*◌, ◌^◌, ◌≤◌, ◌<◌, ◌≡◌, refl, Bool, true, false, cond, ◌&&◌, List, [], ◌∷◌, ◌++◌, map, length, take, leb, ltb}
use Rattle.std.proofs.Common.{sym, ap, ap₂, subst, ◌∙◌, arith, length-append, leb-true, lt-ltb, le-ltb}
use Rattle.std.proofs.Math.Nat.{pow-le-pow_right}
use Rattle.layout.specs.Layout.{Fit}
use Rattle.truth.specs.laws.Tests.{both}
use Rattle.decimal.specs.Decimal.{decimal_of}
use Rattle.decimal.specs.laws.DecimalLaws.{decimal_most}
use Rattle.decimal.specs.laws.LineLaws.{line_one, line_more}
use Rattle.sheet.specs.declared.Header.{Header}
use Rattle.sheet.specs.declared.Own.{Own}
use Rattle.sheet.specs.declared.Own.TheVariants.{One, Two}
use Rattle.sheet.specs.declared.Body.{Body}
use Rattle.sheet.specs.declared.Body.TheVariants.{Plate as isPlate, Member as isMember}
use Rattle.sheet.specs.declared.Record.{Record}
use Rattle.sheet.specs.Versions.{version_of, most_records}
use Rattle.sheet.specs.Lines.{first_widths, own_widths, plate_widths, member_widths}
use Rattle.sheet.specs.Refusals.{Answer, given, refused}
use Rattle.sheet.specs.Header.{first_values, own_values, header_fault}
use Rattle.sheet.specs.laws.HeaderLaws.{header_fit, header_ranges}
use Rattle.sheet.specs.laws.HeaderBack.{header_read_fine}
use Rattle.sheet.specs.laws.RefusalLaws.{given_same}
use Rattle.sheet.specs.Record.{plate_values, member_values, body_fault, record_fault, read_record, widths_in, values_in}
use Rattle.sheet.specs.laws.RecordLaws.{record_fit, plate_ranges, member_ranges}
use Rattle.sheet.specs.laws.RecordBack.{record_read_fine, record_read_any}
use Rattle.numbers.specs.Fields.{own_numbers, header_numbers, record_numbers, body_numbers}
use Rattle.rows.specs.Pack.{fields_of}
use Rattle.rows.specs.Forms.{first_count, own_count, record_count}
use Rattle.checker.specs.Check.{record_part, records_part, sheet_size, Sheet}
use Rattle.checker.specs.Whole.{Taken, next}
use Rattle.checker.specs.laws.CheckLaws.{sheet_whole}
use Rattle.checker.specs.laws.ThenLaws.{then_given}
use Rattle.checker.specs.Unjudged.{room, sound_sheet, sound_header}
use Rattle.sheet_csv.specs.Write.{header_cells, record_cells, line, lines_text, text_of}
use Rattle.sheet_csv.specs.Steps.{read_text, record_text, records_text, longest_line, thirteen}

-- ---- numbers of nine digits at most

pub data Small : List ℕ → Type 0 where
  nothing : Small []
  further : {n : ℕ} {ns : List ℕ} → n < 1000000000 → Small ns → Small (n ∷ ns)

-- no field of a sheet is wider than 29 bits
abbrev narrow : List ℕ → Bool
narrow [] = true
narrow (w ∷ ws) = leb w 29 && narrow ws

fit_small : (ws vs : List ℕ) → narrow ws ≡ true → Fit ws vs → Small vs
fit_small [] (v ∷ vs) e f = elim f [ ]
fit_small (w ∷ ws) [] e f = elim f [ ]
fit_small [] [] e f = nothing
fit_small (w ∷ ws) (v ∷ vs) e f =
    let h = both _ _ e in
    let p : 2 ^ w ≤ 2 ^ 29 = pow-le-pow_right (omega arith) (leb-true w 29 h.0) in
    let q : v < 2 ^ w = f.0 in
    further {n = v} (omega arith) (fit_small ws vs h.1 f.1)

small_take : (k : ℕ) (ns : List ℕ) → Small ns → Small (take k ns)
small_take zero ns s = nothing
small_take (suc k) [] s = nothing
small_take (suc k) (n ∷ ns) (further l s) = further l (small_take k ns s)

small_append : (a b : List ℕ) → Small a → Small b → Small (a ++ b)
small_append [] b s t = t
small_append (n ∷ a) b (further l s) t = further l (small_append a b s t)

-- a line of them: at most nine digits each and a byte behind it, and one more at the end
pub line_most : (ns : List ℕ) → 1 ≤ length ns → Small ns → length (line ns) ≤ 10 * length ns + 1
line_most [] l s = absurd (omega arith)
line_most (n ∷ []) l (further h s) =
    let d = decimal_most 8 n (omega arith) in
    omega (arith, ap length (line_one 44 (13 ∷ 10 ∷ []) n), length-append (decimal_of n) (13 ∷ 10 ∷ []))
line_most (n ∷ m ∷ ns) l (further h s) =
    let d = decimal_most 8 n (omega arith) in
    omega (arith, ap length (line_more 44 (13 ∷ 10 ∷ []) n m ns), length-append (decimal_of n ++ (44 ∷ [])) (line (m ∷ ns)), length-append (decimal_of n) (44 ∷ []), line_most (m ∷ ns) (omega arith) s)

-- ---- a header

-- its numbers as the code has them
pub header_fields_lem : (h : Header) → fields_of (first_count + own_count (version_of h.own)) (thirteen (header_numbers h)) ≡ header_cells h
header_fields_lem h = go h.own
  where
    go : (o : Own) → fields_of (first_count + own_count (version_of o)) (thirteen (header_numbers (record { version = h.version; length = h.length; draught = h.draught; wave = h.wave; two_runs = h.two_runs; moment = h.moment; bottom_modulus = h.bottom_modulus; count = h.count; own = o })))
        ≡ header_cells (record { version = h.version; length = h.length; draught = h.draught; wave = h.wave; two_runs = h.two_runs; moment = h.moment; bottom_modulus = h.bottom_modulus; count = h.count; own = o })
    go One = refl
    go (Two s) = refl

pub header_few : (o : Own) → (1 ≤ first_count + own_count (version_of o)) × (first_count + own_count (version_of o) ≤ 13)
header_few One = (omega arith, omega arith)
header_few (Two s) = (omega arith, omega arith)

-- they are small, and there are as many as the version has
pub header_small : (h : Header) → header_fault h ≡ 0 → Small (header_cells h) × (length (header_cells h) ≡ first_count + own_count (version_of h.own))
header_small h e = go h.own (header_fit h e).1
  where
    ones : List ℕ
    ones = take 8 (first_values h 0)

    first : Small ones
    first = small_take 8 (first_values h 0) (fit_small first_widths (first_values h 0) refl (header_fit h e).0)

    go : (o : Own) → Fit (own_widths (version_of o)) (own_values o 0)
        → Small (take (first_count + own_count (version_of o)) (ones ++ own_numbers o)) × (length (take (first_count + own_count (version_of o)) (ones ++ own_numbers o)) ≡ first_count + own_count (version_of o))
    go One f = (first, refl)
    go (Two s) f =
        let own = small_take 2 (own_values (Two s) 0) (fit_small (own_widths (version_of (Two s))) (own_values (Two s) 0) refl f) in
        (small_append ones (take 2 (own_values (Two s) 0)) first own, refl)

-- so how long its line is
pub header_most : (h : Header) → header_fault h ≡ 0 → length (line (header_cells h)) ≤ longest_line
header_most h e = let m = header_small h e in let f = header_few h.own in omega (arith, line_most (header_cells h) (omega arith) m.0)

-- ---- a record

pub record_fields_lem : (r : Record) → fields_of (record_count r.kind) (record_numbers r) ≡ record_cells r
record_fields_lem r = go (ltb r.kind 5) r.body
  where
    go : (t : Bool) (b : Body) → fields_of (cond t 11 13) (body_numbers r.kind r.id b) ≡ take (cond t 11 13) (body_numbers r.kind r.id b)
    go true (isPlate p) = refl
    go true (isMember m) = refl
    go false (isPlate p) = refl
    go false (isMember m) = refl

pub count_few : (kind : ℕ) → (1 ≤ record_count kind) × (record_count kind ≤ 13)
count_few kind = go (ltb kind 5)
  where
    go : (t : Bool) → (1 ≤ cond t 11 13) × (cond t 11 13 ≤ 13)
    go true = (omega arith, omega arith)
    go false = (omega arith, omega arith)

pub record_small : (r : Record) → record_fault r 0 ≡ 0 → Small (record_cells r) × (length (record_cells r) ≡ record_count r.kind)
record_small r e = go r.body e (record_fit r e)
  where
    go : (b : Body) → body_fault r.kind r.id b 0 ≡ 0 → Fit (widths_in b) (values_in r.kind r.id b)
        → Small (take (record_count r.kind) (body_numbers r.kind r.id b)) × (length (take (record_count r.kind) (body_numbers r.kind r.id b)) ≡ record_count r.kind)
    go (isPlate p) f fit =
        let vs = plate_values r.kind r.id p 0 in
        let t : ltb r.kind 5 ≡ true = lt-ltb r.kind 5 (omega (arith, (plate_ranges r.kind r.id p 0 f).kind_high)) in
        rw t (small_take 11 vs (fit_small plate_widths vs refl fit), refl)
    go (isMember m) f fit =
        let vs = member_values r.kind r.id m in
        let t : ltb r.kind 5 ≡ false = le-ltb r.kind 5 (member_ranges r.kind r.id m f).kind_low in
        rw t (fit_small member_widths vs refl fit, refl)

pub record_most : (r : Record) → record_fault r 0 ≡ 0 → length (line (record_cells r)) ≤ longest_line
record_most r e = let m = record_small r e in let f = count_few r.kind in omega (arith, line_most (record_cells r) (omega arith) m.0)

-- ---- the records of a sheet

-- the line of a record that is read, and of none
pub text_given : (b : List ℕ) (r : Record) → given r ≡ read_record 0 b → line (record_cells r) ≡ record_text b
unfolding record_text
text_given b r e = ap read_text e

pub text_none : (b : List ℕ) (k p : ℕ) → refused k p ≡ read_record 0 b → [] ≡ record_text b
unfolding record_text
text_none b k p e = ap read_text e

pub text_most : (b : List ℕ) → length (record_text b) ≤ longest_line
unfolding record_text
text_most b = go (read_record 0 b) refl
  where
    go : (x : Answer Record) → read_record 0 b ≡ x → length (read_text x) ≤ longest_line
    go (given r) e = record_most r (record_read_fine 0 b r e)
    go (refused k p) e = omega arith

pub texts_most : (b : List ℕ) (i count : ℕ) → length (records_text b i count) ≤ longest_line * count
unfolding records_text
texts_most b i zero = omega arith
texts_most b i (suc count) =
    omega (arith, length-append (record_text (record_part b i)) (records_text b (i + 1) count), text_most (record_part b i), texts_most b (i + 1) count)

-- they are the lines of the records that were taken
pub texts_taken : (b : List ℕ) (i before : ℕ) (rs : List Record) → Taken b i before rs → records_text b i (length rs) ≡ lines_text (map record_cells rs)
unfolding records_text lines_text
texts_taken b i before [] t = refl
texts_taken b i before (r ∷ rs) (next e o t) =
    ap₂ {C = List ℕ} (λ x y. x ++ y) (sym (text_given (record_part b i) r (sym (record_read_any i (record_part b i) r e 0)))) (texts_taken b (i + 1) r.id rs t)

-- ---- a sheet that is not turned away

-- what is known of it, and its text in two pieces
pub record Written (s : List ℕ) (h : Header) : Type 0 where
  pub sheet : Sheet
  pub sound : sound_sheet s ≡ given sheet
  pub fine : header_fault h ≡ 0
  pub whole : length s ≡ sheet_size h
  pub few : h.count ≤ most_records
  pub text : text_of sheet ≡ line (header_cells h) ++ records_text (records_part h s) 0 h.count

pub sound_written : (s : List ℕ) (t : Sheet) → sound_sheet s ≡ given t → Written s t.header
unfolding sound_sheet text_of lines_text
sound_written s t e =
    let w = sheet_whole s room t e in
    let fine = header_read_fine s t.header w.header.read in
    record {
      sheet = t;
      sound = e;
      fine = fine;
      whole = w.header.whole;
      few = (header_ranges t.header fine).count_few;
      text = ap (λ (x : List ℕ). line (header_cells t.header) ++ x)
          (sym (texts_taken (records_part t.header s) 0 0 t.records w.records) ∙ ap (records_text (records_part t.header s) 0) w.number);
    }

pub header_written : (s : List ℕ) (h : Header) → given h ≡ sound_header s → Written s h
unfolding sound_header
header_written s h e =
    let a = then_given (sound_sheet s) _ h (sym e) in
    subst (λ (g : Header). Written s g) (given_same a.2) (sound_written s a.0 a.1)
