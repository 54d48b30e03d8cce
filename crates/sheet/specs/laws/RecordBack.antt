-- A record, there and back: nothing is lost, whatever its number in the sheet.
-- Assumes nothing.
use Rattle.std.specs.Prelude.{ℕ, ◌+◌, ◌*◌, ◌^◌, ◌≤◌, ◌<◌, ◌≡◌, refl, Bool, true, false, cond, List, get_or, take, ltb}
use Rattle.std.proofs.Common.{sym, ap₂, ◌∙◌, lt-ltb, le-ltb}
use Rattle.std.proofs.Math.Path.{ap}
use native.Mathlib.Omega.{arith}
use Rattle.std.proofs.Math.Decide.{dec_lt}
use Rattle.std.proofs.Math.ListN.{length}
use Rattle.quantity.specs.Range.{from}
use Rattle.layout.specs.Layout.{total, pack, unpack, bytes, Fit}
use Rattle.layout.specs.laws.BytesLaws.{read_few, read_all}
use Rattle.layout.specs.laws.Laws.{pack_lt, pack_unpack_lt, unpack_pack}
use Rattle.layout.specs.Line.{Allowed}
use Rattle.quantity.specs.laws.RangeLaws.{low_high}
use Rattle.layout.specs.laws.LineLaws.{none_all}
use Rattle.sheet.specs.declared.Plate.{Plate}
use Rattle.sheet.specs.declared.Body.{Body}
use Rattle.sheet.specs.declared.Body.TheVariants.{Plate as isPlate, Member as isMember}
use Rattle.sheet.specs.declared.Record.{Record}
use Rattle.sheet.specs.declared.Raw.{Raw}
use Rattle.sheet.specs.Lines.{plate_lines, plate_widths, member_widths}
use Rattle.sheet.specs.Refusals.{given, refused, record_refused}
use Rattle.sheet.specs.laws.RefusalLaws.{at_none, by_none, given_refused}
use Rattle.sheet.specs.Record.{Bare, plate_values, member_values, plate_at, plate_record, member_record, plate_fault, member_fault, body_fault, record_fault, plate_in, record_in, read_record, widths_in, values_in, record_number, write_record, record_at, spare_at, raw_at}
use Rattle.sheet.specs.laws.HeaderLaws.{flag_read}
use Rattle.sheet.specs.laws.RecordLaws.{plate_values_at, record_in_lem, record_fit, plate_ranges, member_ranges}
use Rattle.sheet.specs.laws.ExactlyLaws.{slice_long}
use Rattle.sheet.specs.Exactly.{Exactly, record_cases}
use Rattle.sheet.specs.laws.Back.{read_again, written_again, written_onto}

-- ---- the number of a record with no fault is read as that record

-- the record and the spare bits that are in its number
back : (kind id : ℕ) (b : Body) → body_fault kind id b 0 ≡ 0 → Fit (widths_in b) (values_in kind id b)
    → let n = pack (widths_in b) (values_in kind id b) in (n < 2 ^ total (bytes 16)) × (record_at n ≡ record { kind = kind; id = id; body = b }) × (spare_at n ≡ 0)
back kind id (isPlate p) e fit =
    let vs = plate_values kind id p 0 in
    let n = pack plate_widths vs in
    let u = unpack_pack plate_widths vs fit in
    let k : ltb kind 5 ≡ true = lt-ltb kind 5 (omega (arith, (plate_ranges kind id p 0 e).kind_high)) in (
      pack_lt plate_widths vs fit,
      ap (λ (l : List ℕ). cond (ltb (get_or l 0 0) 5) (plate_record l) (member_record (unpack member_widths n))) u ∙ rw (k, flag_read p.ballast),
      ap (λ (l : List ℕ). cond (ltb (get_or l 0 0) 5) (get_or l 11 0) 0) u ∙ rw k,
    )
back kind id (isMember m) e fit =
    let vs = member_values kind id m in
    let n = pack member_widths vs in
    let u = unpack_pack member_widths vs fit in
    let k : ltb kind 5 ≡ false = le-ltb kind 5 (member_ranges kind id m e).kind_low in (
      pack_lt member_widths vs fit,
      ap (λ (l : List ℕ). cond (ltb (get_or l 0 0) 5) (plate_record (unpack plate_widths n)) (member_record l)) u ∙ rw k,
      ap (λ (l : List ℕ). cond (ltb (get_or l 0 0) 5) (get_or (unpack plate_widths n) 11 0) 0) u ∙ rw k,
    )

-- ---- a number that is read as a record is that record's

-- in a plate with no fault nothing stands in the bits that carry nothing
no_spare : (kind id : ℕ) (p : Plate) (spare : ℕ) → plate_fault kind id p spare ≡ 0 → spare ≡ 0
unfolding plate_fault
no_spare kind id p spare e =
    let ls = plate_lines kind p.ballast p.z.0 in
    let a : Allowed ls (plate_values kind id p spare) = none_all 0 ls (plate_values kind id p spare) e in
    omega (arith, low_high (from 0 0) spare a.1.1.1.1.1.1.1.1.1.1.1.0)

spare_none : (n : ℕ) → record_fault (record_at n) (spare_at n) ≡ 0 → spare_at n ≡ 0
spare_none n = go (plate_in n)
  where
    vs : List ℕ
    vs = unpack plate_widths n

    ws : List ℕ
    ws = unpack member_widths n

    go : (t : Bool) → record_fault (cond t (plate_record vs) (member_record ws)) (cond t (get_or vs 11 0) 0) ≡ 0 → cond t (get_or vs 11 0) 0 ≡ 0
    go true e = no_spare (get_or vs 0 0) (get_or vs 1 0) (plate_at vs) (get_or vs 11 0) e
    go false e = refl

same_number : (n : ℕ) → n < 2 ^ total (bytes 16) → spare_at n ≡ 0 → record_number (record_at n) ≡ n
same_number n l = go (plate_in n)
  where
    vs : List ℕ
    vs = unpack plate_widths n

    ws : List ℕ
    ws = unpack member_widths n

    go : (t : Bool) → cond t (get_or vs 11 0) 0 ≡ 0 → record_number (cond t (plate_record vs) (member_record ws)) ≡ n
    go true z =
        ap (λ (t : ℕ). pack plate_widths (plate_values (get_or vs 0 0) (get_or vs 1 0) (plate_at vs) t)) (sym z)
        ∙ ap (pack plate_widths) (plate_values_at n)
        ∙ pack_unpack_lt plate_widths n l
    go false z = pack_unpack_lt member_widths n l

module _ (i : ℕ) where
  number_read : (r : Record) → record_fault r 0 ≡ 0 → (record_number r < 2 ^ total (bytes 16)) × (record_in i (record_number r) ≡ given r)
  number_read r e =
      let b = back r.kind r.id r.body e (record_fit r e) in (
        b.0,
        record_in_lem i (record_number r)
            ∙ ap₂ (λ (a : Record) (t : ℕ). record_refused i (record_fault a t) (given a)) b.1 b.2
            ∙ at_none (refused 6 i) (λ k. refused 7 (32 * i + k)) (record_fault r 0) (given r) e,
      )

  module _ (n : ℕ) (r : Record) (e : record_in i n ≡ given r) where
    read_as : (record_fault (record_at n) (spare_at n) ≡ 0) × (record_at n ≡ r)
    read_as = by_none 6 i 7 (λ k. 32 * i + k) (record_fault (record_at n) (spare_at n)) (record_at n) r (sym (record_in_lem i n) ∙ e)

    read_fine : record_fault r 0 ≡ 0
    read_fine = ap₂ record_fault (sym read_as.1) (sym (spare_none n read_as.0)) ∙ read_as.0

    read_number : n < 2 ^ total (bytes 16) → record_number r ≡ n
    read_number l = ap record_number (sym read_as.1) ∙ same_number n l (spare_none n read_as.0)

    -- and record j as well
    read_any : (j : ℕ) → record_in j n ≡ given r
    read_any j =
        record_in_lem j n
        ∙ at_none (refused 6 j) (λ k. refused 7 (32 * j + k)) (record_fault (record_at n) (spare_at n)) (given (record_at n)) read_as.0
        ∙ ap given read_as.1

  read_back : (n : ℕ) (r : Record) → n < 2 ^ total (bytes 16) → record_in i n ≡ given r → (record_fault r 0 ≡ 0) × (record_number r ≡ n)
  read_back n r l e = (read_fine n r e, read_number n r e l)

  -- what is written is read again
  pub record_read_again : (r : Record) (o : List ℕ) → (write_record r o).answer ≡ given tt → read_record i (write_record r o).bytes ≡ given r
  unfolding read_record write_record
  record_read_again r o e = read_again (record_cases 0) (record_in i) record_number (λ a. record_fault a 0) number_read read_back r o e

  module _ (s : List ℕ) (r : Record) (e : read_record i s ≡ given r) where
    inside : (16 ≤ length s) × (record_in i (pack (bytes 16) (take 16 s)) ≡ given r)
    unfolding read_record
    inside = let n = pack (bytes 16) (take 16 s) in (slice_long 1 (record_cases i) s (record_in i n) (given r) (λ q. given_refused (sym q))).0 e

    -- what is read has no fault
    pub record_read_fine : record_fault r 0 ≡ 0
    record_read_fine = read_fine (pack (bytes 16) (take 16 s)) r inside.1

    -- and is read as any record of a sheet
    pub record_read_any : (j : ℕ) → read_record j s ≡ given r
    unfolding read_record
    record_read_any j = rw (le-ltb (length s) 16 inside.0) (read_any (pack (bytes 16) (take 16 s)) r inside.1 j)

    -- it is written again: the same sixteen bytes, and onto those read, nothing changes
    module _ (fit : Fit (bytes 16) (take 16 s)) where
      pub record_written_again : (o : List ℕ) → 16 ≤ length o → ((write_record r o).answer ≡ given tt) × (take 16 (write_record r o).bytes ≡ take 16 s)
      unfolding read_record write_record
      record_written_again o l = written_again (record_cases 0) (record_in i) record_number (λ a. record_fault a 0) number_read read_back s r fit e o l

      pub record_written_onto : (write_record r s).bytes ≡ s
      unfolding read_record write_record
      record_written_onto = written_onto (record_cases 0) (record_in i) record_number (λ a. record_fault a 0) number_read read_back s r fit e

  module _ (s : List ℕ) (r : Record) where
    read_bare : read_record i s ≡ given r → Bare s r
    read_bare e =
        let n = pack (bytes 16) (take 16 s) in
        let m = inside s r e in
        let a = read_as n r m.1 in (
          ap raw_at (read_all 16 s m.0) ∙ ap₂ (λ (q : Record) (t : ℕ). record { values = q; spare = t }) a.1 (spare_none n a.0),
          record_read_fine s r e,
        )

    bare_read : Bare s r → read_record i s ≡ given r
    unfolding read_record plate_fault member_fault
    bare_read b = go (dec_lt (length s) 16)
      where
        go : Dec (length s < 16) → read_record i s ≡ given r
        go (yes l) =
            let none : record_fault (record_at 0) 0 ≡ 0 = ap (λ (w : Raw). record_fault w.values 0) (ap raw_at (sym (read_few 16 s l)) ∙ b.0) ∙ b.1 in
            absurd (omega arith)
        go (no l) =
            let n = pack (bytes 16) (take 16 s) in
            let long : 16 ≤ length s = omega arith in
            rw (le-ltb (length s) 16 long)
            (record_in_lem i n
            ∙ ap (λ (w : Raw). record_refused i (record_fault w.values w.spare) (given w.values)) (ap raw_at (sym (read_all 16 s long)) ∙ b.0)
            ∙ at_none (refused 6 i) (λ k. refused 7 (32 * i + k)) (record_fault r 0) (given r) b.1)

    -- a record is read exactly where it stands bare
    pub record_read_raw : Exactly (read_record i s ≡ given r) (Bare s r)
    record_read_raw = (read_bare, bare_read)
