-- The table's rows and the promise of `check`: refusal k with place p is given exactly when row k holds with place p and no earlier row does, an answer
-- exactly where no row holds; and two rows that hold for one sheet are the same row with the same place.
-- Assumes nothing.
use Prim.Native.Nat.{ℕ, zero, suc, ◌+◌, ◌-◌, ◌*◌, ◌≤◌, ◌<◌}
use Rattle.std.specs.Prelude.{◌≡◌, Bool, true, false, cond, length, ltb}
use Rattle.std.proofs.Math.Path.{refl, ap, subst}
use Rattle.std.proofs.Common.{sym, ◌∙◌, zero-add, add-one, lt-ltb, le-ltb, ltb-false}
use mathlib.Core.List.{List, [], ◌∷◌}
use native.Mathlib.Omega.{arith}
use Rattle.std.proofs.Math.Decide.{ℕ_discrete}
use Rattle.quantity.specs.Range.{within, from}
use Rattle.sheet.specs.declared.Header.{Header}
use Rattle.sheet.specs.declared.Record.{Record}
use Rattle.sheet.specs.Refusals.{Answer, given, refused}
use Rattle.sheet.specs.laws.RefusalLaws.{given_refused, refused_number, refused_place}
use Rattle.sheet.specs.Exactly.{Exactly, LaterFault}
use Rattle.sheet.specs.Versions.{under_first, under_own}
use Rattle.sheet.specs.laws.VersionLaws.{number_own}
use Rattle.sheet.specs.Header.{version_field, header_of, read_header}
use Rattle.sheet.specs.laws.HeaderExactly.{header_read_1, header_read_2, header_read_3}
use Rattle.sheet.specs.Record.{read_record, record_at, kind_at, lines_at, fields_at}
use Rattle.sheet.specs.laws.RecordExactly.{record_read_1, record_read_6, record_read_7, record_read_others}
use Rattle.checker.specs.Check.{◌then◌, header_for, records_part, record_part, record_of, parts_from, sound_after, records_in, Sheet, sheet_in, verdicts, failures, Totals, answer_of}
use Rattle.checker.specs.laws.ThenLaws.{By, first, later, by, stays, goes_on}
use Rattle.checker.specs.laws.FrontLaws.{header_fits, header_refused_lem}
use Rattle.checker.specs.Whole.{Taken, none, next}
use Rattle.checker.specs.laws.CheckLaws.{sound_read, sheet_whole}
use Rattle.demands.specs.Table.{head_size, count_of, number_of, fields_of, lines_of, id_of, HeaderSound, RecordSound, InOrder, Fits, Reached, Row, sheet_short, version, header_short, header_field, slender, sheet_length, output_short, kind, field, order, Accepted}
use Rattle.demands.specs.laws.FrontRows.{row_as, front_row, fits_read, slender_refused, length_refused, room_refused, front_given}
use Rattle.demands.specs.laws.FieldsRead.{records_of, records_read, header_given, number_read, part_length, record_sound, record_is, record_id_field, sound_id}

module _ (s : List ℕ) where
  -- the bytes of its records
  abbrev kept : List ℕ
  kept = records_of s

  -- ---- the ids in their order

  -- the id before that of record i, 0 where there is none
  abbrev id_before : ℕ → ℕ
  id_before zero = 0
  id_before (suc i) = id_of s i

  before_next : (i : ℕ) → id_before (i + 1) ≡ id_of s i
  before_next i = ap id_before (add-one i)

  above : (i j : ℕ) → InOrder s i → j < i → id_before j < id_of s j
  above i zero o l = sound_id s zero (o.sound zero l)
  above i (suc j) o l = o.rising j l

  one_more : (i : ℕ) → InOrder s i → RecordSound s i → id_before i < id_of s i → InOrder s (i + 1)
  one_more i o a l = record { sound = sound; rising = rising }
    where
      sound : (j : ℕ) → j < i + 1 → RecordSound s j
      sound j m = go (ℕ_discrete j i)
        where
          go : Dec (j ≡ i) → RecordSound s j
          go (yes e) = subst (λ (n : ℕ). RecordSound s n) (sym e) a
          go (no n) = o.sound j (omega (arith, n))

      rising : (j : ℕ) → suc j < i + 1 → id_of s j < id_of s (suc j)
      rising j m = go (ℕ_discrete (suc j) i)
        where
          go : Dec (suc j ≡ i) → id_of s j < id_of s (suc j)
          go (yes e) = subst (λ (n : ℕ). id_before n < id_of s n) (sym e) l
          go (no n) = o.rising j (omega (arith, n))

  fewer : (i j : ℕ) → j ≤ i → InOrder s i → InOrder s j
  fewer i j l o = record { sound = λ k m. o.sound k (omega arith); rising = λ k m. o.rising k (omega arith) }

  -- ---- from a refusal to its row

  module _ (room : ℕ) where
    within_sheet : (i : ℕ) → Fits s room → i < count_of s → head_size s + 16 * i + 16 ≤ length s
    within_sheet i f l = omega (arith, f.whole)

    -- rows 6 and 7
    record_row_lem : (k p i : ℕ) → Reached s room i → record_of kept i ≡ refused k p → Row s room k p
    record_row_lem k p i t e = go (ℕ_discrete k 1) (ℕ_discrete k 6) (ℕ_discrete k 7)
      where
        at : (l : ℕ) → k ≡ l → record_of kept i ≡ refused l p
        at l f = e ∙ ap (λ (n : ℕ). refused n p) f

        later_row : LaterFault (λ f. 32 * i + f) (lines_of s i) (fields_of s i) p → k ≡ 7 → Row s room k p
        later_row r f = row_as s room k p 7 (32 * i + (r.index + 2)) f (r.at ∙ omega arith) (field i r.index t r.fault)

        go : Dec (k ≡ 1) → Dec (k ≡ 6) → Dec (k ≡ 7) → Row s room k p
        go (yes f) x y = absurd (omega (arith, ((record_read_1 i (record_part kept i) p).0 (at 1 f)).0, part_length s kept refl i (within_sheet i t.fits t.inside)))
        go (no a) (yes f) y =
            let r = (record_read_6 i (record_part kept i) p).0 (at 6 f) in
            row_as s room k p 6 i f r.2 (kind i t (subst (λ (n : ℕ). within (from 1 8) (kind_at n) ≡ false) (number_read s kept refl i) r.1))
        go (no a) (no c) (yes f) =
            later_row (subst (λ (n : ℕ). LaterFault (λ f. 32 * i + f) (lines_at n) (fields_at n) p) (number_read s kept refl i) ((record_read_7 i (record_part kept i) p).0 (at 7 f)).1) f
        go (no a) (no c) (no d) = absurd (record_read_others i (record_part kept i) k p a c d e)

    -- row 8
    order_row : (k p i : ℕ) (r : Record) → Reached s room i → record_of kept i ≡ given r → cond (ltb (id_before i) r.id) (given r) (refused 8 i) ≡ refused k p → Row s room k p
    order_row k p i r t read e = go (ltb (id_before i) r.id) refl e
      where
        id : id_of s i ≡ r.id
        id = sym (record_id_field s i) ∙ ap (λ (q : Record). q.id) (record_sound s kept refl i r read).1

        at : (j : ℕ) → i ≡ j → r.id ≤ id_before j → Row s room 8 j
        at zero f l = absurd (omega (arith, sound_id s i (record_sound s kept refl i r read).0, id))
        at (suc j) f l =
            order j (subst (λ (n : ℕ). Reached s room n) f t) (subst (λ (n : ℕ). RecordSound s n) f (record_sound s kept refl i r read).0)
            (omega (arith, ap (λ (n : ℕ). id_of s n) f, id))

        go : (b : Bool) → ltb (id_before i) r.id ≡ b → cond b (given r) (refused 8 i) ≡ refused k p → Row s room k p
        go true f g = given_refused g
        go false f g = row_as s room k p 8 i (sym (refused_number g)) (sym (refused_place g)) (at i refl (ltb-false (id_before i) r.id f))

    -- the records in turn
    records_row : (k p count i : ℕ) → Fits s room → i + count ≡ count_of s → InOrder s i → records_in i (id_before i) (parts_from kept i count) ≡ refused k p → Row s room k p
    unfolding records_in parts_from sound_after
    records_row k p zero i f n o e = given_refused e
    records_row k p (suc count) i f n o e =
        go (by (sound_after i (id_before i) (record_part kept i)) _ k p e) (λ a l u. records_row k p count (i + 1) f (omega arith) (one_more i o a l) u)
      where
        reached : Reached s room i
        reached = record { fits = f; inside = omega arith; before = o }

        rest : Record → Answer (List Record)
        rest r = records_in (i + 1) r.id (parts_from kept (i + 1) count)

        go : By (sound_after i (id_before i) (record_part kept i)) (λ r. rest r then λ rs. given (r ∷ rs)) k p
            → (RecordSound s i → id_before i < id_of s i → records_in (i + 1) (id_before (i + 1)) (parts_from kept (i + 1) count) ≡ refused k p → Row s room k p) → Row s room k p
        go (first g) on = here (by (read_record i (record_part kept i)) _ k p g)
          where
            here : By (read_record i (record_part kept i)) (λ r. cond (ltb (id_before i) r.id) (given r) (refused 8 i)) k p → Row s room k p
            here (first u) = record_row_lem k p i reached u
            here (later r read u) = order_row k p i r reached read u
        go (later r g u) on = there (by (rest r) _ k p u)
          where
            a : (record_of kept i ≡ given r) × (id_before i < r.id)
            a = sound_read i (id_before i) (record_part kept i) r g

            id : r.id ≡ id_of s i
            id = ap (λ (q : Record). q.id) (sym (record_sound s kept refl i r a.0).1) ∙ record_id_field s i

            there : By (rest r) (λ rs. given (r ∷ rs)) k p → Row s room k p
            there (first w) =
                on (record_sound s kept refl i r a.0).0 (omega (arith, a.1, id))
                (ap (λ (n : ℕ). records_in (i + 1) n (parts_from kept (i + 1) count)) (before_next i ∙ sym id) ∙ w)
            there (later rs w x) = given_refused x

    refused_row : (k p : ℕ) → answer_of s room ≡ refused k p → Row s room k p
    unfolding answer_of sheet_in
    refused_row k p e = go (by (sheet_in s room) _ k p e)
      where
        records : Header → Answer (List Record)
        records h = records_in 0 0 (parts_from (records_part h s) 0 h.count)

        go : By {B = Totals} (sheet_in s room) (λ t. given (record { n = t.header.count; failed = failures (verdicts t) })) k p → Row s room k p
        go (later t g u) = given_refused u
        go (first g) = whole (by (header_for s room) _ k p g)
          where
            whole : By {B = Sheet} (header_for s room) (λ h. records h then λ rs. given (record { header = h; records = rs })) k p → Row s room k p
            whole (first w) = front_row s room k p w
            whole (later h w x) = inside (by (records h) _ k p x)
              where
                fit : Fits s room × (header_of s ≡ h)
                fit = fits_read s room h (header_fits s room h w)

                inside : By {B = Sheet} (records h) (λ rs. given (record { header = h; records = rs })) k p → Row s room k p
                inside (first y) =
                    records_row k p h.count 0 fit.0 (zero-add h.count ∙ ap (λ (g : Header). g.count) (sym fit.1))
                    (record { sound = λ j l. absurd (omega arith); rising = λ j l. absurd (omega arith) })
                    (ap (λ (b : List ℕ). records_in 0 0 (parts_from b 0 h.count)) (records_read s h (header_fits s room h w).read) ∙ y)
                inside (later rs y z) = given_refused z

    -- ---- from a row to its refusal

    front_refused : (k p : ℕ) → header_for s room ≡ refused k p → answer_of s room ≡ refused k p
    unfolding answer_of sheet_in
    front_refused k p e = stays (sheet_in s room) _ k p (stays (header_for s room) _ k p e)

    read_refused : (k p : ℕ) → read_header s ≡ refused k p → answer_of s room ≡ refused k p
    read_refused k p e = front_refused k p (header_refused_lem s room k p e)

    -- the records of the sheet, as the table takes them
    own_records : HeaderSound s → records_part (header_of s) s ≡ kept
    own_records f = sym (records_read s (header_of s) (header_given s f))

    -- the records before record i are taken
    taken_to : (P : Answer (List Record) → Type 0) → ((r : Record) (x : Answer (List Record)) → P x → P (x then λ rs. given (r ∷ rs)))
        → (i : ℕ) → Fits s room → i ≤ count_of s → InOrder s i → (count : ℕ) → P (records_in i (id_before i) (parts_from kept i count)) → P (records_in 0 0 (parts_from kept 0 (i + count)))
    unfolding records_in parts_from sound_after
    taken_to P on zero f l o count e = subst (λ (n : ℕ). P (records_in 0 0 (parts_from kept 0 n))) (sym (zero-add count)) e
    taken_to P on (suc i) f l o count e =
        let r = record_at (number_of s i) in
        let m : i + suc count ≡ suc i + count = omega arith in
        let read : record_of kept i ≡ given r = record_is s kept refl i (within_sheet i f (omega arith)) (o.sound i (omega arith)) in
        let up : id_before i < r.id = omega (arith, above (suc i) i o (omega arith), record_id_field s i) in
        let next : sound_after i (id_before i) (record_part kept i) ≡ given r = goes_on (read_record i (record_part kept i)) _ r read ∙ rw (lt-ltb (id_before i) r.id up) in
        let here : P (records_in (i + 1) r.id (parts_from kept (i + 1) count)) = subst (λ (n : ℕ). P (records_in n r.id (parts_from kept n count))) (sym (add-one i)) (subst (λ (n : ℕ). P (records_in (suc i) n (parts_from kept (suc i) count))) (sym (record_id_field s i)) e) in
        subst (λ (n : ℕ). P (records_in 0 0 (parts_from kept 0 n))) m
        (taken_to P on i f (omega arith) (fewer (suc i) i (omega arith) o) (suc count) (subst P (sym (goes_on (sound_after i (id_before i) (record_part kept i)) _ r next)) (on r _ here)))

    record_refused_lem : (k p i : ℕ) → Reached s room i → sound_after i (id_before i) (record_part kept i) ≡ refused k p → answer_of s room ≡ refused k p
    unfolding answer_of sheet_in records_in parts_from
    record_refused_lem k p i t e =
        let h = header_of s in
        let rest = count_of s - i - 1 in
        let n : i + suc rest ≡ count_of s = omega (arith, t.inside) in
        let here : records_in i (id_before i) (parts_from kept i (suc rest)) ≡ refused k p = stays (sound_after i (id_before i) (record_part kept i)) _ k p e in
        let all : records_in 0 0 (parts_from kept 0 (count_of s)) ≡ refused k p =
        subst (λ (m : ℕ). records_in 0 0 (parts_from kept 0 m) ≡ refused k p) n
        (taken_to (λ x. x ≡ refused k p) (λ r x u. stays x _ k p u) i t.fits (omega (arith, t.inside)) t.before (suc rest) here) in
        let own : records_in 0 0 (parts_from (records_part h s) 0 (count_of s)) ≡ refused k p = ap (λ (b : List ℕ). records_in 0 0 (parts_from b 0 (count_of s))) (own_records t.fits.header) ∙ all in
        stays (sheet_in s room) _ k p (goes_on (header_for s room) _ h (front_given s room t.fits) ∙ stays (records_in 0 0 (parts_from (records_part h s) 0 (count_of s))) _ k p own)

    row_refused : (k p : ℕ) → Row s room k p → answer_of s room ≡ refused k p
    unfolding sound_after
    row_refused k p (sheet_short l) = read_refused 1 0 ((header_read_1 s 0).1 (under_first l, refl))
    row_refused k p (header_short l v m) = read_refused 1 0 ((header_read_1 s 0).1 (under_own (number_own (version_field s) v) m, refl))
    row_refused k p (version l n) = read_refused 2 0 ((header_read_2 s 0).1 (l, n, refl))
    row_refused k p (header_field f l c) = read_refused 3 (f + 2) ((header_read_3 s (f + 2)).1 (l, record { index = f; fault = c; at = omega arith }))
    row_refused k p (slender f z) = front_refused 9 0 (slender_refused s room f z)
    row_refused k p (sheet_length f slim n) = front_refused 4 0 (length_refused s room f slim n)
    row_refused k p (output_short f slim whole n) = front_refused 5 0 (room_refused s room f slim whole n)
    row_refused k p (kind i t c) =
        record_refused_lem 6 i i t
        (stays (read_record i (record_part kept i)) _ 6 i
        ((record_read_6 i (record_part kept i) i).1
        (part_length s kept refl i (within_sheet i t.fits t.inside), subst (λ (n : ℕ). within (from 1 8) (kind_at n) ≡ false) (sym (number_read s kept refl i)) c, refl)))
    row_refused k p (field i f t c) =
        let q = 32 * i + (f + 2) in
        let l : LaterFault (λ g. 32 * i + g) (lines_of s i) (fields_of s i) q = record { index = f; fault = c; at = omega arith } in
        record_refused_lem 7 q i t
        (stays (read_record i (record_part kept i)) _ 7 q
        ((record_read_7 i (record_part kept i) q).1
        (part_length s kept refl i (within_sheet i t.fits t.inside), subst (λ (n : ℕ). LaterFault (λ g. 32 * i + g) (lines_at n) (fields_at n) q) (sym (number_read s kept refl i)) l)))
    row_refused k p (order i t a l) =
        let r = record_at (number_of s (suc i)) in
        record_refused_lem 8 (suc i) (suc i) t
        (goes_on (read_record (suc i) (record_part kept (suc i))) _ r (record_is s kept refl (suc i) (within_sheet (suc i) t.fits t.inside) a)
        ∙ rw (le-ltb (id_of s i) r.id (omega (arith, record_id_field s (suc i)))))

    -- refusal k with place p is given exactly when row k holds with place p and no earlier row does
    pub refused_exactly : (k p : ℕ) → Exactly (answer_of s room ≡ refused k p) (Row s room k p)
    refused_exactly k p = (refused_row k p, row_refused k p)

    -- two rows that hold for one sheet are the same row with the same place
    pub one_row : (k p l q : ℕ) → Row s room k p → Row s room l q → (k ≡ l) × (p ≡ q)
    one_row k p l q a b = let e = sym (row_refused k p a) ∙ row_refused l q b in (refused_number e, refused_place e)

    -- ---- where no row holds

    -- the records of a sheet that is accepted are taken
    records_taken : Accepted s room → (rs : List Record) × (records_in 0 0 (parts_from kept 0 (count_of s)) ≡ given rs)
    unfolding records_in parts_from
    records_taken a =
        let n : count_of s + 0 ≡ count_of s = omega arith in
        subst (λ (m : ℕ). (rs : List Record) × (records_in 0 0 (parts_from kept 0 m) ≡ given rs)) n
        (taken_to (λ x. (rs : List Record) × (x ≡ given rs)) (λ r x u. (r ∷ u.0, goes_on x _ u.0 u.1)) (count_of s) a.fits (omega arith) a.records 0 ([], refl))

    pub accepted_given : Accepted s room → (t : Sheet) × (sheet_in s room ≡ given t) × (t.header ≡ header_of s)
    unfolding sheet_in
    accepted_given a =
        let h = header_of s in
        let got = records_taken a in
        let own : records_in 0 0 (parts_from (records_part h s) 0 (count_of s)) ≡ given got.0 = ap (λ (b : List ℕ). records_in 0 0 (parts_from b 0 (count_of s))) (own_records a.fits.header) ∙ got.1 in
        (record { header = h; records = got.0 }, goes_on (header_for s room) _ h (front_given s room a.fits) ∙ goes_on (records_in 0 0 (parts_from (records_part h s) 0 (count_of s))) _ got.0 own, refl)

  -- the records of a sheet that is not turned away are within their values, and their ids rise
  taken_order : (i : ℕ) (rs : List Record) → InOrder s i → Taken kept i (id_before i) rs → InOrder s (i + length rs)
  taken_order i [] o none = subst (λ (n : ℕ). InOrder s n) (omega arith) o
  taken_order i (r ∷ rs) o (next e l t) =
      let a = record_sound s kept refl i r e in
      let id : r.id ≡ id_of s i = ap (λ (q : Record). q.id) (sym a.1) ∙ record_id_field s i in
      let m : i + 1 + length rs ≡ i + length (r ∷ rs) = omega arith in
      subst (λ (n : ℕ). InOrder s n) m
      (taken_order (i + 1) rs (one_more i o a.0 (omega (arith, id))) (subst (λ (n : ℕ). Taken kept (i + 1) n rs) (id ∙ sym (before_next i)) t))

  pub given_accepted : (room : ℕ) (t : Sheet) → sheet_in s room ≡ given t → Accepted s room × (header_of s ≡ t.header)
  given_accepted room t e =
      let w = sheet_whole s room t e in
      let f = fits_read s room t.header w.header in
      let n : 0 + length t.records ≡ count_of s = zero-add (length t.records) ∙ w.number ∙ ap (λ (h : Header). h.count) (sym f.1) in
      let records = subst (λ (b : List ℕ). Taken b 0 0 t.records) (sym (records_read s t.header w.header.read)) w.records in
      let o = taken_order 0 t.records (record { sound = λ j l. absurd (omega arith); rising = λ j l. absurd (omega arith) }) records in
      (record { fits = f.0; records = subst (λ (m : ℕ). InOrder s m) n o }, f.1)
