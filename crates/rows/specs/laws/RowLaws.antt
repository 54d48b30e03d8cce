-- A line by what the code's tests say of it.
-- Assumes nothing.
use Prim.Native.Nat.{ℕ, zero, suc, ◌+◌, ◌-◌, ◌≤◌, ◌<◌}
use Rattle.std.specs.Prelude.{◌≡◌, Bool, true, false, not, ◌&&◌, get_or, ltb, eqb}
use Rattle.std.proofs.Math.Path.{refl, sym, ap, ap₂}
use Rattle.std.proofs.Common.{subst, ◌∙◌}
use Rattle.std.proofs.Math.Bool.{cond}
use mathlib.Core.List.{List, [], ◌∷◌, ◌++◌, append_assoc}
use native.Mathlib.Omega.{arith}
use Rattle.std.proofs.Math.ListN.{length, take, drop, length-append}
use Rattle.std.proofs.Math.Seq.{take_at, drop_at}
use Rattle.quantity.specs.Range.{within}
use Rattle.layout.specs.Layout.{total, pack, unpack, bytes}
use Rattle.layout.specs.laws.Laws.{length_unpack, length_bytes}
use Rattle.truth.specs.laws.Tests.{clash}
use Rattle.sheet.specs.Versions.{Version, first_bytes, version_numbers, numbered, two, one}
use Rattle.sheet.specs.Lines.{first_widths, own_widths, plate_widths, member_widths}
use Rattle.sheet.specs.Header.{own_bytes}
use Rattle.sheet.specs.Refusals.{Answer, given, refused}
use Rattle.text.specs.declared.LineEnd.{LineEnd}
use Rattle.text.specs.Line.{over}
use Rattle.rows.specs.declared.form.Form.{Form}
use Rattle.rows.specs.Pack.{fields_from, fields_of, below, packed_on, powers}
use Rattle.rows.specs.laws.PackLaws.{packed_whole}
use Rattle.rows.specs.Forms.{first_count, own_count, record_widths, record_count, first_form, own_form, record_form}
use Rattle.rows.specs.Rows.{zeros, kinds, first_of, taken, line_by, firsts_of, owns_of, header_made, header_line, records_of, record_made, record_line, ended_by, row_by, end_by, Shown, shown}
use Rattle.rows.specs.Steps.{is_fault, next_of, first_part, own_part, placed_of}

-- ---- which answer it is

-- quotes at fault
pub row_fault : (line : ℕ) (e : LineEnd) (a : Answer (List ℕ)) → true ≡ is_fault e → refused 14 line ≡ row_by line e a
row_fault line LineEnd.Fault a f = refl
row_fault line LineEnd.Last a f = clash (sym f) refl
row_fault line (LineEnd.More next) a f = clash (sym f) refl

-- none at fault
row_open : (line : ℕ) (e : LineEnd) (a : Answer (List ℕ)) → false ≡ is_fault e → row_by line e a ≡ ended_by e a
row_open line LineEnd.Fault a f = clash refl (sym f)
row_open line LineEnd.Last a f = refl
row_open line (LineEnd.More next) a f = refl

end_told : (e : LineEnd) → false ≡ is_fault e → end_by (next_of e) ≡ e
end_told LineEnd.Fault f = clash refl (sym f)
end_told LineEnd.Last f = refl
end_told (LineEnd.More next) f = refl

module _ (line : ℕ) (e : LineEnd) (o : false ≡ is_fault e) (m f : Bool) (b : List ℕ) where
  by_count : true ≡ m → refused 15 line ≡ row_by line e (line_by line m f b)
  by_count t = sym (row_open line e (line_by line m f b) o ∙ ap (λ (x : Bool). ended_by e (line_by line x f b)) (sym t))

  by_width : false ≡ m → false ≡ f → refused 14 line ≡ row_by line e (line_by line m f b)
  by_width t u = sym (row_open line e (line_by line m f b) o ∙ ap₂ (λ (x y : Bool). ended_by e (line_by line x y b)) (sym t) (sym u))

  -- with the bytes in front of zeros
  by_none : false ≡ m → true ≡ f → (n : ℕ) → n ≡ length b → (z : List ℕ) → z ≡ b ++ zeros (20 - length b)
      → record { answer = given (end_by (next_of e)); size = n; bytes = z } ≡ shown (row_by line e (line_by line m f b))
  by_none t u n size z is =
      ap₂ {C = Shown} (λ x w. record { answer = given x; size = n; bytes = w }) (end_told e o) is
      ∙ ap (λ (k : ℕ). record { answer = given e; size = k; bytes = b ++ zeros (20 - length b) }) size
      ∙ sym (ap shown (row_open line e (line_by line m f b) o ∙ ap₂ (λ (x y : Bool). ended_by e (line_by line x y b)) (sym t) (sym u)))

-- ---- fields in their bytes

-- a form's fields are its layout's
pub record FormIs (f : Form) (ws : List ℕ) (size : ℕ) : Type 0 where
  pub count : f.count ≡ length ws
  pub few : f.count ≤ 13
  pub limits : fields_of f.count f.limits ≡ powers ws
  pub size_is : f.size ≡ size
  pub whole : total ws ≡ total (bytes size)

pub fields_length : (i n : ℕ) (ns : List ℕ) → length (fields_from i n ns) ≡ n
fields_length i zero ns = refl
fields_length i (suc n) ns = ap suc (fields_length (i + 1) n ns)

pub made_length : (n x : ℕ) → length (unpack (bytes n) x) ≡ n
made_length n x = length_unpack (bytes n) x ∙ length_bytes n

module _ (f : Form) (ws : List ℕ) (size : ℕ) (is : FormIs f ws size) (ns : List ℕ) where
  abbrev pub packed : List ℕ
  packed = unpack (bytes size) (pack ws (fields_of (length ws) ns))

  pub fits_is : below (fields_of f.count f.limits) (fields_of f.count ns) ≡ below (powers ws) (fields_of (length ws) ns)
  fits_is = ap₂ below is.limits (ap (λ (k : ℕ). fields_of k ns) is.count)

  -- behind the bytes x the fields take the place of as many
  pub placed_is : (x z : List ℕ) (at : ℕ) → length x ≡ at → (y : List ℕ) → length y ≡ size → placed_of ns f at (x ++ (y ++ z)) ≡ x ++ (packed ++ z)
  unfolding placed_of
  placed_is x z at l y m =
      let head : take at (x ++ (y ++ z)) ≡ x = take_at x (y ++ z) at l in
      let tail : drop at (x ++ (y ++ z)) ≡ y ++ z = drop_at x (y ++ z) at l in
      let s = is.size_is in
      let part : take f.size (drop at (x ++ (y ++ z))) ≡ y = ap₂ (λ (k : ℕ) (t : List ℕ). take k t) s tail ∙ take_at y z size m in
      let past : drop f.size (drop at (x ++ (y ++ z))) ≡ z = ap₂ (λ (k : ℕ) (t : List ℕ). drop k t) s tail ∙ drop_at y z size m in
      let fs = fields_of f.count ns in
      let same : packed_on (fields_of f.count f.limits) fs (take f.size (drop at (x ++ (y ++ z)))) ≡ packed =
      ap₂ (λ (ls vs : List ℕ). packed_on ls vs (take f.size (drop at (x ++ (y ++ z))))) is.limits (ap (λ (k : ℕ). fields_of k ns) is.count)
      ∙ ap (packed_on (powers ws) (fields_of (length ws) ns)) part
      ∙ packed_whole ws (fields_of (length ws) ns) y (fields_length 0 (length ws) ns) (is.whole ∙ ap (λ (k : ℕ). total (bytes k)) (sym m))
      ∙ ap (λ (k : ℕ). unpack (bytes k) (pack ws (fields_of (length ws) ns))) m in
      ap₂ {C = List ℕ} (λ a b. a ++ b) head (ap₂ {C = List ℕ} (λ a b. a ++ b) same past)

-- ---- a record

pub record_form_lem : (kind : ℕ) → FormIs (record_form kind) (record_widths kind) 16 × ((record_form kind).numbers ≡ record_count kind)
record_form_lem kind = go (ltb kind 5)
  where
    go : (t : Bool) → FormIs (cond t (record_form 1) (record_form 5)) (cond t plate_widths member_widths) 16 × ((cond t (record_form 1) (record_form 5)).numbers ≡ cond t (record_count 1) (record_count 5))
    go true = (record { count = refl; few = omega arith; limits = refl; size_is = refl; whole = refl }, refl)
    go false = (record { count = refl; few = omega arith; limits = refl; size_is = refl; whole = refl }, refl)

module _ (nums : List ℕ) (count line : ℕ) (end : LineEnd) (o : false ≡ is_fault end) (known : Bool) (k : known ≡ within kinds (first_of nums)) (f : Form) (e : f ≡ record_form (first_of nums)) where
  abbrev kind : ℕ
  kind = first_of nums

  -- what the line's definition asks
  abbrev wrong : Bool
  wrong = within kinds kind && not (eqb count (record_count kind))

  abbrev own : List ℕ
  own = taken (within kinds kind) nums

  abbrev narrow : Bool
  narrow = below (powers (record_widths kind)) (records_of kind own)

  counts : (known && not (eqb count f.numbers)) ≡ wrong
  counts = ap₂ (λ (x : Bool) (y : ℕ). x && not (eqb count y)) k (ap (λ (g : Form). g.numbers) e ∙ (record_form_lem kind).1)

  pub record_miscounted : true ≡ (known && not (eqb count f.numbers)) → refused 15 line ≡ row_by line end (record_line line count nums)
  unfolding record_line
  record_miscounted m = by_count line end o wrong narrow (record_made kind own) (m ∙ counts)

  module _ (right : false ≡ (known && not (eqb count f.numbers))) (ns : List ℕ) (n : ns ≡ taken known nums) where
    same : ns ≡ own
    same = n ∙ ap (λ (x : Bool). taken x nums) k

    is : FormIs f (record_widths kind) 16
    is = subst (λ (g : Form). FormIs g (record_widths kind) 16) (sym e) (record_form_lem kind).0

    fits : below (fields_of f.count f.limits) (fields_of f.count ns) ≡ narrow
    fits = fits_is f (record_widths kind) 16 is ns ∙ ap (λ (l : List ℕ). below (powers (record_widths kind)) (records_of kind l)) same

    pub record_wide : false ≡ below (fields_of f.count f.limits) (fields_of f.count ns) → refused 14 line ≡ row_by line end (record_line line count nums)
    unfolding record_line
    record_wide w = by_width line end o wrong narrow (record_made kind own) (right ∙ counts) (w ∙ fits)

    pub record_fine : true ≡ below (fields_of f.count f.limits) (fields_of f.count ns) → (b : List ℕ) → b ≡ placed_of ns f 0 (zeros 20)
        → record { answer = given (end_by (next_of end)); size = f.size; bytes = b } ≡ shown (row_by line end (record_line line count nums))
    unfolding record_line
    record_fine w b p =
        let made = record_made kind own in
        let l : length made ≡ 16 = made_length 16 (pack (record_widths kind) (records_of kind own)) in
        let four : zeros (20 - length made) ≡ zeros 4 = ap (λ (x : ℕ). zeros (20 - x)) l in
        by_none line end o wrong narrow made (right ∙ counts) (w ∙ fits) f.size (is.size_is ∙ sym l) b
        (p
        ∙ placed_is f (record_widths kind) 16 is ns [] (zeros 4) 0 refl (zeros 16) refl
        ∙ ap (λ (x : List ℕ). record_made kind x ++ zeros 4) same
        ∙ ap (λ (x : List ℕ). made ++ x) (sym four))

-- ---- a header

pub own_form_lem : (k : ℕ) → FormIs (own_form k) (own_widths (numbered k)) (own_bytes (numbered k)) × ((own_form k).numbers ≡ own_count (numbered k))
own_form_lem k = go (eqb k two.number)
  where
    go : (t : Bool) → FormIs (cond t (own_form 2) (own_form 1)) (own_widths (cond t two one)) (own_bytes (cond t two one)) × ((cond t (own_form 2) (own_form 1)).numbers ≡ own_count (cond t two one))
    go true = (record { count = refl; few = omega arith; limits = refl; size_is = refl; whole = refl }, refl)
    go false = (record { count = refl; few = omega arith; limits = refl; size_is = refl; whole = refl }, refl)

-- a header has few numbers and few bytes
pub own_small : (k : ℕ) → ((own_form k).numbers ≤ 2) × (first_bytes + own_bytes (numbered k) ≤ 20)
own_small k = go (eqb k two.number)
  where
    go : (t : Bool) → ((cond t (own_form 2) (own_form 1)).numbers ≤ 2) × (first_bytes + own_bytes (cond t two one) ≤ 20)
    go true = (omega arith, omega arith)
    go false = (omega arith, omega arith)

pub first_form_lem : FormIs first_form first_widths first_bytes
first_form_lem = record { count = refl; few = omega arith; limits = refl; size_is = refl; whole = refl }

own_fields_lem : (k : ℕ) (ns : List ℕ) → fields_of (length (own_widths (numbered k))) (own_part ns) ≡ owns_of (numbered k) ns
own_fields_lem k ns = go (eqb k two.number)
  where
    go : (t : Bool) → fields_of (length (own_widths (cond t two one))) (own_part ns) ≡ owns_of (cond t two one) ns
    go true = refl
    go false = refl

-- a version's own bytes fit behind the first
own_room : (k : ℕ) → zeros (own_bytes (numbered k)) ++ zeros (8 - own_bytes (numbered k)) ≡ zeros 8
own_room k = go (eqb k two.number)
  where
    go : (t : Bool) → zeros (own_bytes (cond t two one)) ++ zeros (8 - own_bytes (cond t two one)) ≡ zeros 8
    go true = refl
    go false = refl

zeros_length : (n : ℕ) → length (zeros n) ≡ n
zeros_length zero = refl
zeros_length (suc n) = ap suc (zeros_length n)

module _ (nums : List ℕ) (count line : ℕ) (end : LineEnd) (o : false ≡ is_fault end) (known : Bool) (k : known ≡ within version_numbers (first_of nums))
    (f g : Form) (e : f ≡ first_form) (d : g ≡ own_form (first_of nums)) where
  abbrev version : Version
  version = numbered (first_of nums)

  -- what the line's definition asks
  abbrev amiss : Bool
  amiss = within version_numbers (first_of nums) && not (eqb count (first_count + own_count version))

  abbrev judged : List ℕ
  judged = taken (within version_numbers (first_of nums)) nums

  abbrev slim : Bool
  slim = below (powers first_widths) (firsts_of judged) && below (powers (own_widths version)) (owns_of version judged)

  counted : (known && not (eqb count (f.numbers + g.numbers))) ≡ amiss
  counted =
      ap₂ (λ (x : Bool) (y : ℕ). x && not (eqb count y)) k (ap₂ (λ (x y : ℕ). x + y) (ap (λ (h : Form). h.numbers) e) (ap (λ (h : Form). h.numbers) d ∙ (own_form_lem (first_of nums)).1))

  pub header_miscounted : true ≡ (known && not (eqb count (f.numbers + g.numbers))) → refused 15 line ≡ row_by line end (header_line line count nums)
  unfolding header_line
  header_miscounted m = by_count line end o amiss slim (header_made version judged) (m ∙ counted)

  module _ (right : false ≡ (known && not (eqb count (f.numbers + g.numbers)))) (ns : List ℕ) (n : ns ≡ taken known nums) (a b : List ℕ) (first : a ≡ first_part ns) (own : b ≡ own_part ns) where
    all_same : ns ≡ judged
    all_same = n ∙ ap (λ (x : Bool). taken x nums) k

    pub f_is : FormIs f first_widths first_bytes
    f_is = subst (λ (h : Form). FormIs h first_widths first_bytes) (sym e) first_form_lem

    pub g_is : FormIs g (own_widths version) (own_bytes version)
    g_is = subst (λ (h : Form). FormIs h (own_widths version) (own_bytes version)) (sym d) (own_form_lem (first_of nums)).0

    firsts_are : fields_of (length first_widths) a ≡ firsts_of judged
    firsts_are = ap (fields_of (length first_widths)) first ∙ ap firsts_of all_same

    owns_are : fields_of (length (own_widths version)) b ≡ owns_of version judged
    owns_are = ap (fields_of (length (own_widths version))) own ∙ own_fields_lem (first_of nums) ns ∙ ap (owns_of version) all_same

    both_are : (below (fields_of f.count f.limits) (fields_of f.count a) && below (fields_of g.count g.limits) (fields_of g.count b)) ≡ slim
    both_are =
        ap₂ (λ (x y : Bool). x && y)
        (fits_is f first_widths first_bytes f_is a ∙ ap (below (powers first_widths)) firsts_are)
        (fits_is g (own_widths version) (own_bytes version) g_is b ∙ ap (below (powers (own_widths version))) owns_are)

    pub header_wide : false ≡ (below (fields_of f.count f.limits) (fields_of f.count a) && below (fields_of g.count g.limits) (fields_of g.count b))
        → refused 14 line ≡ row_by line end (header_line line count nums)
    unfolding header_line
    header_wide w = by_width line end o amiss slim (header_made version judged) (right ∙ counted) (w ∙ both_are)

    pub header_fine : true ≡ (below (fields_of f.count f.limits) (fields_of f.count a) && below (fields_of g.count g.limits) (fields_of g.count b))
        → (x y : List ℕ) → x ≡ placed_of a f 0 (zeros 20) → y ≡ placed_of b g f.size x
        → record { answer = given (end_by (next_of end)); size = f.size + g.size; bytes = y } ≡ shown (row_by line end (header_line line count nums))
    unfolding header_line
    header_fine w x y p q =
        let size = own_bytes version in
        let front = unpack (bytes first_bytes) (pack first_widths (firsts_of judged)) in
        let back = unpack (bytes size) (pack (own_widths version) (owns_of version judged)) in
        let first_is : x ≡ front ++ zeros 8 = p ∙ placed_is f first_widths first_bytes f_is a [] (zeros 8) 0 refl (zeros 12) refl ∙ ap (λ (t : List ℕ). unpack (bytes first_bytes) (pack first_widths t) ++ zeros 8) firsts_are in
        let own_is : y ≡ front ++ (back ++ zeros (8 - size)) =
        q
        ∙ ap₂ (λ (j : ℕ) (t : List ℕ). placed_of b g j t) f_is.size_is (first_is ∙ ap (λ (t : List ℕ). front ++ t) (sym (own_room (first_of nums))))
        ∙ placed_is g (own_widths version) size g_is b front (zeros (8 - size)) first_bytes (made_length first_bytes (pack first_widths (firsts_of judged))) (zeros size) (zeros_length size)
        ∙ ap (λ (t : List ℕ). front ++ (unpack (bytes size) (pack (own_widths version) t) ++ zeros (8 - size))) owns_are in
        let l : length (front ++ back) ≡ first_bytes + size = length-append front back ∙ ap₂ (λ (i j : ℕ). i + j) (made_length first_bytes (pack first_widths (firsts_of judged))) (made_length size (pack (own_widths version) (owns_of version judged))) in
        let rest : 8 - size ≡ 20 - length (front ++ back) = omega arith in
        by_none line end o amiss slim (header_made version judged) (right ∙ counted) (w ∙ both_are) (f.size + g.size)
        (ap₂ (λ (i j : ℕ). i + j) f_is.size_is g_is.size_is ∙ sym l) y
        (own_is ∙ sym (append_assoc front back (zeros (8 - size))) ∙ ap (λ (j : ℕ). (front ++ back) ++ zeros j) rest)

-- ---- numbers that were read into thirteen zeros

over_get : (vs : List ℕ) (m i : ℕ) → i < m → get_or (over vs (zeros m)) i 0 ≡ get_or vs i 0
over_get [] zero i l = absurd (omega arith)
over_get [] (suc m) zero l = refl
over_get [] (suc m) (suc i) l = over_get [] m i (omega arith)
over_get (v ∷ vs) zero i l = absurd (omega arith)
over_get (v ∷ vs) (suc m) zero l = refl
over_get (v ∷ vs) (suc m) (suc i) l = over_get vs m i (omega arith)

over_fields : (vs : List ℕ) (i n : ℕ) → i + n ≤ 13 → fields_from i n (over vs (zeros 13)) ≡ fields_from i n vs
over_fields vs i zero l = refl
over_fields vs i (suc n) l = ap₂ {C = List ℕ} (λ x xs. x ∷ xs) (over_get vs 13 i (omega arith)) (over_fields vs (i + 1) n (omega arith))

-- with the first number and the numbers taken apart, a line is
module _ (line count : ℕ) where
  abbrev record_by : (kind : ℕ) → List ℕ → Answer (List ℕ)
  record_by kind fs =
      line_by line (within kinds kind && not (eqb count (record_count kind))) (below (powers (record_widths kind)) fs) (unpack (bytes 16) (pack (record_widths kind) fs))

  abbrev header_by : (k : ℕ) (fs us : List ℕ) → Answer (List ℕ)
  header_by k fs us =
      let v = numbered k in
      line_by line (within version_numbers k && not (eqb count (first_count + own_count v))) (below (powers first_widths) fs && below (powers (own_widths v)) us)
      (unpack (bytes first_bytes) (pack first_widths fs) ++ unpack (bytes (own_bytes v)) (pack (own_widths v) us))

  module _ (vs : List ℕ) where
    abbrev held : List ℕ
    held = over vs (zeros 13)

    first_same : first_of held ≡ first_of vs
    first_same = over_get vs 13 0 (omega arith)

    -- the fields of what is taken
    taken_same : (t : Bool) (k i n : ℕ) → i + n ≤ 13 → fields_from i n (cond t held (k ∷ zeros 12)) ≡ fields_from i n (cond t vs (k ∷ zeros 12))
    taken_same true k i n l = over_fields vs i n l
    taken_same false k i n l = refl

    widths_few : (kind : ℕ) → 0 + length (record_widths kind) ≤ 13
    widths_few kind = go (ltb kind 5)
      where
        go : (t : Bool) → 0 + length (cond t plate_widths member_widths) ≤ 13
        go true = omega arith
        go false = omega arith

    own_few : (k : ℕ) → 8 + length (own_widths (numbered k)) ≤ 13
    own_few k = go (eqb k two.number)
      where
        go : (t : Bool) → 8 + length (own_widths (cond t two one)) ≤ 13
        go true = omega arith
        go false = omega arith

    pub record_held_lem : record_line line count held ≡ record_line line count vs
    unfolding record_line
    record_held_lem =
        let at : ℕ → List ℕ → Answer (List ℕ) = λ k ns. record_by k (fields_of (length (record_widths k)) (cond (within kinds k) ns (k ∷ zeros 12))) in
        let k = first_of vs in
        ap (λ (x : ℕ). at x held) first_same ∙ ap (record_by k) (taken_same (within kinds k) k 0 (length (record_widths k)) (widths_few k))

    pub header_held_lem : header_line line count held ≡ header_line line count vs
    unfolding header_line
    header_held_lem =
        let tk : ℕ → List ℕ → List ℕ = λ k ns. cond (within version_numbers k) ns (k ∷ zeros 12) in
        let at : ℕ → List ℕ → Answer (List ℕ) = λ k ns. header_by k (fields_of first_count (tk k ns) ++ 0 ∷ []) (fields_from first_count (length (own_widths (numbered k))) (tk k ns)) in
        let k = first_of vs in
        ap (λ (x : ℕ). at x held) first_same
        ∙ ap₂ (λ (fs us : List ℕ). header_by k (fs ++ 0 ∷ []) us) (taken_same (within version_numbers k) k 0 first_count (omega arith)) (taken_same (within version_numbers k) k first_count (length (own_widths (numbered k))) (own_few k))
