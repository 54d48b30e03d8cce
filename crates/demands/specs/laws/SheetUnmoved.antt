-- Each line, refusal and record of document 01's sheet is today's, piece by piece, on a sheet that does not name version 2.
-- Assumes nothing.
use Rattle.std.specs.Prelude.{ℕ, zero, suc, ◌+◌, ◌*◌, ◌≤◌, ◌≡◌, Bool, List, ◌∷◌, ◌++◌, length, get_or, take, drop, leb, ltb, eqb}
use Rattle.std.proofs.Math.Path.{refl, sym, ap}
use Rattle.std.proofs.Common.{ap₂, ◌∙◌, arith, length-take-le, take-take}
use Rattle.std.proofs.Math.Bool.{true, false, cond}
use Rattle.std.proofs.Math.ListN.{length-drop}
use borrow.Author.Tests.{ne_eqb, le-ltb, eqb-true}
use Rattle.quantity.specs.Range.{from}
use Rattle.layout.specs.Layout.{pack, bytes}
use Rattle.layout.specs.Line.{Line, line, widths, fault_from}
use Rattle.sheet.specs.declared.Header.{Header}
use Rattle.sheet.specs.declared.Own.{Own}
use Rattle.sheet.specs.declared.Own.TheVariants.{One}
use Rattle.sheet.specs.declared.Record.{Record}
use Rattle.sheet.specs.Versions.{one, two, version_of, bytes_needed}
use Rattle.sheet.specs.Kinds.{is_floor}
use Rattle.sheet.specs.Lines.{header_lines, plate_lines, member_lines, first_widths, plate_widths, member_widths}
use Rattle.sheet.specs.Refusals.{Answer, given, refused, record_refused}
use Rattle.sheet.specs.laws.RefusalLaws.{by_none, given_refused}
use Rattle.sheet.specs.Slender.{beyond_own, too_slender}
use Rattle.sheet.specs.Header.{header_size, version_field, read_header}
use Rattle.sheet.specs.Record.{plate_record, member_record, plate_lines_of, member_lines_of, record_in, read_record}
use Rattle.checker.specs.Check.{◌then◌, demand, sheet_header, header_for, record_part, parts_from, sound_after, records_in, Sheet, sheet_in}
use Rattle.checker.specs.laws.ThenLaws.{stays}
use Rattle.checker.specs.laws.FrontLaws.{header_slim, slim_header}
use Rattle.checker.specs.laws.CheckLaws.{part_taken}
use Rattle.demands.specs.Document01Sheet as doc

-- ---- the lines

header_lines_same : header_lines one ≡ doc.header_lines
header_lines_same = refl

plate_lines_same : (kind : ℕ) (ballast : Bool) (z : ℕ) → plate_lines kind ballast z ≡ doc.plate_lines kind ballast z
plate_lines_same kind ballast z = refl

member_lines_same : (kind : ℕ) → member_lines kind ≡ doc.member_lines kind
member_lines_same kind =
    ap (λ (most : ℕ). take 8 (doc.member_lines kind) ++ (line 7 (from (cond (is_floor kind) 100 1) most) ∷ drop 9 (doc.member_lines kind))) (hundred (is_floor kind))
  where
    hundred : (t : Bool) → ◌≡◌ {A = ℕ} (cond t 100 100) 100
    hundred true = refl
    hundred false = refl

widths_same : (first_widths ≡ widths doc.header_lines) × (plate_widths ≡ widths (doc.plate_lines 1 false 0)) × (member_widths ≡ widths (doc.member_lines 5))
widths_same = (refl, refl, refl)

-- ---- the records: 6, 7 and 8

plate_in_same : (i : ℕ) (vs : List ℕ) → record_refused i (fault_from 1 (plate_lines_of vs) vs) (given (plate_record vs)) ≡ doc.plate_in i vs
plate_in_same i vs =
    ap (λ (ls : List Line). doc.by6and7 i (fault_from 1 ls vs) (plate_record vs)) (plate_lines_same (get_or vs 0 0) (eqb (get_or vs 8 0) 1) (get_or vs 3 0))

member_in_same : (i : ℕ) (vs : List ℕ) → record_refused i (fault_from 1 (member_lines_of vs) vs) (given (member_record vs)) ≡ doc.member_in i vs
member_in_same i vs = ap (λ (ls : List Line). doc.by6and7 i (fault_from 1 ls vs) (member_record vs)) (member_lines_same (get_or vs 0 0))

record_in_same : (i n : ℕ) → record_in i n ≡ doc.record_in i n
unfolding record_in doc.record_in
record_in_same i n = ap₂ (cond (ltb (get_or (doc.plate_fields n) 0 0) 5)) (plate_in_same i (doc.plate_fields n)) (member_in_same i (doc.member_fields n))

-- record i of a sheet whose length is right has sixteen bytes
record_read_same : (b : List ℕ) (i : ℕ) → 16 * i + 16 ≤ length b → read_record i (record_part b i) ≡ doc.record_in i (pack (bytes 16) (take 16 (drop (16 * i) b)))
unfolding read_record
record_read_same b i l =
    let x = drop (16 * i) b in
    let long : length (take 16 x) ≡ 16 = length-take-le 16 x (omega (arith, length-drop (16 * i) b)) in
    ap (read_record i) (part_taken b i)
    ∙ (rw (le-ltb (length (take 16 x)) 16 (omega (arith, long)), take-take 16 16 x (omega arith)) (record_in_same i (pack (bytes 16) (take 16 x))))

records_same : (b : List ℕ) (i before count : ℕ) → 16 * (i + count) ≤ length b → records_in i before (parts_from b i count) ≡ doc.records_in i before count b
unfolding records_in parts_from sound_after doc.records_in ◌then◌
records_same b i before zero l = refl
records_same b i before (suc count) l =
    ap (λ (x : Answer Record). (x then λ r. cond (ltb before r.id) (given r) (refused 8 i)) then rest) (record_read_same b i (omega arith))
    ∙ go (λ id. records_same b (i + 1) id count (omega arith)) (doc.record_in i _)
  where
    rest : Record → Answer (List Record)
    rest r = records_in (i + 1) r.id (parts_from b (i + 1) count) then λ rs. given (r ∷ rs)

    Later : Type 0
    Later = (id : ℕ) → records_in (i + 1) id (parts_from b (i + 1) count) ≡ doc.records_in (i + 1) id count b

    turn : Later → (r : Record) (t : Bool)
        → (cond t (given r) (refused 8 i) then rest) ≡ cond t (doc.records_in (i + 1) r.id count b then λ rs. given (r ∷ rs)) (refused 8 i)
    turn later r true = ap (λ (x : Answer (List Record)). x then λ rs. given (r ∷ rs)) (later r.id)
    turn later r false = refl

    go : Later → (x : Answer Record) → ((x then λ r. cond (ltb before r.id) (given r) (refused 8 i)) then rest)
        ≡ (x then λ r. cond (ltb before r.id) (doc.records_in (i + 1) r.id count b then λ rs. given (r ∷ rs)) (refused 8 i))
    go later (given r) = turn later r (ltb before r.id)
    go later (refused k p) = refl

-- ---- the header: 1, 2 and 3

needs_twelve : (k : ℕ) → bytes_needed k one ≡ 12
needs_twelve k = go (eqb k 1)
  where
    go : (t : Bool) → ◌≡◌ {A = ℕ} (cond t 12 12) 12
    go true = refl
    go false = refl

module _ (s : List ℕ) (other : doc.version_named s ≡ 2 → ⊥) where
  -- its header is read as it was
  read_unmoved : read_header s ≡ doc.header_in s
  unfolding read_header doc.header_in
  read_unmoved = rw (ne_eqb (version_field s) two.number other, needs_twelve (version_field s))

  -- and has nothing of its own
  pub own_none : (h : Header) → read_header s ≡ given h → h.own ≡ One
  unfolding doc.header_in
  own_none h e = sym (ap (λ (g : Header). g.own) (go (ltb (length s) 12) (sym read_unmoved ∙ e)))
    where
      go : (t : Bool) → cond t (refused 1 0) (doc.by2and3 (fault_from 1 doc.header_lines (doc.header_fields s)) (doc.header_at (doc.header_fields s))) ≡ given h
          → doc.header_at (doc.header_fields s) ≡ h
      go true f = given_refused (sym f)
      go false f = (by_none 2 0 3 (λ k. k) (fault_from 1 doc.header_lines (doc.header_fields s)) (doc.header_at (doc.header_fields s)) h f).1

  -- so that its hull is never too slender, and the sheet's header is as it was
  slim : (h : Header) → read_header s ≡ given h → too_slender h ≡ false
  slim h e = ap (λ (o : Own). beyond_own h.length.0 h.wave.0 o) (own_none h e)

  header_unmoved : sheet_header s ≡ doc.header_in s
  unfolding sheet_header
  header_unmoved = go (read_header s) refl ∙ read_unmoved
    where
      go : (x : Answer Header) → read_header s ≡ x → sheet_header s ≡ read_header s
      go (refused k p) e = stays (read_header s) _ k p e ∙ sym e
      go (given h) e = slim_header s h e (slim h e) ∙ sym e

  size_twelve : (h : Header) → read_header s ≡ given h → header_size h ≡ 12
  size_twelve h e = ap (λ (o : Own). (version_of o).size) (own_none h e)

  -- ---- the lengths, 4 and 5, and the records

  module _ (room : ℕ) where
    -- the sheet by its header and the two tests of lengths, today and once
    abbrev now : Header → Bool → Bool → Answer Sheet
    now h t u =
        (demand t 4 then λ x. demand u 5 then λ y. given h)
        then λ g. records_in 0 0 (parts_from (drop (header_size g) s) 0 g.count)
        then λ rs. given (record { header = g; records = rs })

    abbrev once : Header → Bool → Bool → Answer Sheet
    once h t u =
        cond t (cond u (doc.records_in 0 0 h.count (drop 12 s) then λ rs. given (record { header = h; records = rs })) (refused 5 0)) (refused 4 0)

    -- whether the sheet has 12 + 16n bytes, and the output 4n
    abbrev whole : Header → Bool
    whole h = eqb (length s) (12 + 16 * h.count)

    abbrev fits : Header → Bool
    fits h = leb (4 * h.count) room

    lengths_same : (h : Header) → header_size h ≡ 12 → now h (whole h) (fits h) ≡ once h (whole h) (fits h)
    unfolding demand ◌then◌
    lengths_same h e = go (whole h) refl (fits h)
      where
        go : (t : Bool) → whole h ≡ t → (u : Bool) → now h t u ≡ once h t u
        go true f true =
            ap (λ (x : Answer (List Record)). ◌then◌ {B = Sheet} x (λ rs. given (record { header = h; records = rs })))
            (ap (λ (k : ℕ). records_in 0 0 (parts_from (drop k s) 0 h.count)) e
            ∙ records_same (drop 12 s) 0 0 h.count (omega (arith, eqb-true (length s) (12 + 16 * h.count) f, length-drop 12 s)))
        go true f false = refl
        go false f u = refl

    -- the sheet is taken or turned away as it was
    pub sheet_unmoved : sheet_in s room ≡ doc.sheet_in s room
    unfolding sheet_in header_for doc.sheet_in ◌then◌
    sheet_unmoved = go (sheet_header s) refl
      where
        go : (x : Answer Header) → sheet_header s ≡ x → sheet_in s room ≡ doc.sheet_in s room
        go (refused k p) e = rw (e, sym header_unmoved ∙ e)
        go (given h) e =
            let size = size_twelve h (header_slim s h e).0 in
            let today : sheet_in s room ≡ now h (eqb (length s) (header_size h + 16 * h.count)) (fits h) = rw e in
            let before : doc.sheet_in s room ≡ once h (whole h) (fits h) = rw (sym header_unmoved ∙ e) in
            today ∙ ap (λ (k : ℕ). now h (eqb (length s) (k + 16 * h.count)) (fits h)) size ∙ lengths_same h size ∙ sym before
