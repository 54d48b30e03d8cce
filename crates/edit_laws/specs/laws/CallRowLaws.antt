-- A call is refused with a number and a place exactly when that row of the table holds.
-- Assumes nothing.
use Rattle.std.specs.Prelude.{ℕ, ◌+◌, ◌*◌, ◌≤◌, ◌<◌, ◌≡◌, refl, Bool, true, false, cond, List, length, get_or, take, drop, leb}
use Rattle.std.proofs.Common.{sym, ap, ap₂, subst, ◌∙◌, arith, zero-add, le-leb, ltb-true, ltb-false}
use Rattle.std.proofs.Math.Decide.{ℕ_discrete}
use Rattle.truth.specs.laws.Tests.{clash}
use Rattle.quantity.specs.Range.{within, from}
use Rattle.layout.specs.Line.{line, FirstFault}
use Rattle.sheet.specs.declared.Header.{Header}
use Rattle.sheet.specs.declared.Record.{Record}
use Rattle.sheet.specs.Versions.{Version}
use Rattle.sheet.specs.Refusals.{Answer, given, refused, record_refused}
use Rattle.sheet.specs.laws.RefusalLaws.{given_refused, refused_number, refused_place}
use Rattle.sheet.specs.Header.{header_of, version_in}
use Rattle.sheet.specs.laws.HeaderBack.{read_holds}
use Rattle.sheet.specs.Record.{plate_record, member_record, plate_lines_of, member_lines_of, read_record}
use Rattle.sheet.specs.laws.RecordBack.{record_read_any}
use Rattle.sheet.specs.laws.RecordExactly.{record_fault_6, record_fault_7, record_fault_given}
use Rattle.sheet.specs.laws.ExactlyLaws.{exactly_then, exactly_of, first_alone}
use Rattle.sheet.specs.Exactly.{Exactly, LaterFault}
use Rattle.numbers.specs.From.{numbers_from, plate_numbered, record_of_numbers, plate_fields, record_from}
use Rattle.numbers.specs.laws.Exactly.{record_fields, record_lines, record_from_6, record_from_7, record_from_given, record_from_others}
use Rattle.numbers.specs.laws.Back.{record_numbers_same}
use Rattle.checker.specs.Check.{◌then◌, demand, records_part, record_part, record_of, Sheet, sheet_in, verdicts, failures, answer_of}
use Rattle.checker.specs.laws.ThenLaws.{By, first, later, by, stays, then_given}
use Rattle.checker.specs.laws.SheetRefusals.{never_5}
use Rattle.checker.specs.Unjudged.{room, sound_sheet}
use Rattle.keyed.specs.laws.Places.{Present}
use Rattle.edit.specs.Edit.{sheet_at, highest, id_of, After, put_numbers_in, remove_in, size_by}
use Rattle.edit.specs.laws.Taken.{taken_at}
use Rattle.demands.specs.Table as table
use Rattle.demands.specs.laws.Rows.{refused_exactly, accepted_given, given_accepted}
use Rattle.demands.specs.laws.FieldsRead.{records_read, record_sound, record_id_field}
use Rattle.yard.specs.Packed.{number_unit}
use Rattle.yard.specs.laws.PackedLaws.{Resized}
use Rattle.edit_laws.specs.Rows.{SheetRow, over, own, Full, buffer, count, PutRow, sheet, kind, field, no_room, RemoveRow, absent}
use Rattle.edit_laws.specs.laws.RowLaws.{sheet_row, put_refused_exactly, remove_refused_exactly}
use Rattle.edit_laws.specs.laws.Numbers.{NumbersRow, sheet as by-sheet, numbers as by-numbers, putting as by-putting, numbers_refused_exactly}
use Rattle.edit_laws.specs.laws.Verdicts.{read_of, at_read, by_bytes}
use Rattle.edit_laws.specs.Calls.{Call, put_fields, remove_id, Editor, MeetsEditor, is_done, answered, called_all}
use Rattle.edit_laws.specs.CallRows.{Accepts, Has, NoRoom, short, most, SheetRefused, exceeds, row, PutRefused, sheet_first, no_kind, no_field, full, RemoveRefused, sheet_before, not_there, CallRefused}
use Rattle.edit_laws.specs.laws.CallLaws.{comes_to, in_range, Outcome, done, turned_away, outcome, any_calls}

-- ---- numbers

low_kinds : (k : ℕ) → k < 5 → within (from 1 4) k ≡ within (from 1 8) k
low_kinds k l = rw (le-leb k 4 (omega arith), le-leb k 8 (omega arith))

high_kinds : (k : ℕ) → 5 ≤ k → within (from 5 8) k ≡ within (from 1 8) k
high_kinds k l = rw (le-leb 5 k l, le-leb 1 k (omega arith))

-- the kind is at fault exactly when it is not from 1 to 8
kind_fault : (ns : List ℕ) → Exactly (FirstFault 0 (record_lines ns) (record_fields ns)) (within (from 1 8) (get_or ns 0 0) ≡ false)
kind_fault ns = go (plate_numbered ns) refl
  where
    go : (t : Bool) → plate_numbered ns ≡ t
        → Exactly (FirstFault 0 (cond t (plate_lines_of ns) (member_lines_of ns)) (cond t (plate_fields ns) (numbers_from 0 13 ns))) (within (from 1 8) (get_or ns 0 0) ≡ false)
    go true e =
        exactly_then (first_alone (line 4 (from 1 4)) (drop 1 (plate_lines_of ns)) (get_or ns 0 0) (drop 1 (plate_fields ns)))
        (exactly_of (low_kinds (get_or ns 0 0) (ltb-true (get_or ns 0 0) 5 e)) (λ a. a, λ a. a))
    go false e =
        exactly_then (first_alone (line 4 (from 5 8)) (drop 1 (member_lines_of ns)) (get_or ns 0 0) (drop 1 (numbers_from 0 13 ns)))
        (exactly_of (high_kinds (get_or ns 0 0) (ltb-false (get_or ns 0 0) 5 e)) (λ a. a, λ a. a))

-- the id is the second number
pub id_number : (ns : List ℕ) → (record_of_numbers ns).id ≡ get_or ns 1 0
id_number ns = go (plate_numbered ns)
  where
    go : (t : Bool) → (cond t (plate_record ns) (member_record ns)).id ≡ get_or ns 1 0
    go true = refl
    go false = refl

-- ---- the sheet

-- what is given whatever the first is can only be refused by it
first_only_lem : {A B : Type 0} (next : A → B) (x : Answer A) (k p : ℕ) → By x (λ a. given (next a)) k p → x ≡ refused k p
first_only_lem next x k p (first g) = g
first_only_lem next x k p (later a g u) = given_refused u

module _ (b : List ℕ) (len : ℕ) where
  abbrev s : List ℕ
  s = take len b

  sheet_refused_as : (k p l q : ℕ) → k ≡ l → p ≡ q → SheetRefused b len l q → SheetRefused b len k p
  sheet_refused_as k p l q e f r = subst (λ (n : ℕ). SheetRefused b len n p) (sym e) (subst (λ (n : ℕ). SheetRefused b len l n) (sym f) r)

  -- it is turned away exactly when its row holds
  pub sheet_refused_exactly : (k p : ℕ) → Exactly (sheet_at b len ≡ refused k p) (SheetRefused b len k p)
  unfolding answer_of sound_sheet
  sheet_refused_exactly k p = (λ e. forth ((sheet_row b len k p).0 e), λ r. (sheet_row b len k p).1 (back k p r))
    where
      forth : SheetRow b len k p → SheetRefused b len k p
      forth (over l e f) = sheet_refused_as k p 1 0 e f (exceeds l)
      forth (own l e) = row l ((refused_exactly s room k p).0 (stays (sheet_in s room) _ k p e))

      back : (l q : ℕ) → SheetRefused b len l q → SheetRow b len l q
      back l q (exceeds m) = over m refl refl
      back l q (row m r) = own m (first_only_lem (λ t. record { n = t.header.count; failed = failures (verdicts t) }) (sheet_in s room) l q (by (sheet_in s room) _ l q ((refused_exactly s room l q).1 r)))

  -- 5 is none of them
  pub no_five : (p : ℕ) → SheetRefused b len 5 p → ⊥
  no_five p r = go ((sheet_row b len 5 p).0 ((sheet_refused_exactly 5 p).1 r))
    where
      go : SheetRow b len 5 p → ⊥
      go (over l e f) = omega arith
      go (own l e) = never_5 s p e

  -- it is not turned away exactly when none does
  accepts : (t : Sheet) → sheet_at b len ≡ given t → Accepts b len × (header_of s ≡ t.header)
  unfolding sheet_at sound_sheet
  accepts t f =
      let e = (then_given (demand (leb len (length b)) 1) _ t f).2 in
      let r = given_accepted s room t e in
      (record { inside = (taken_at b len t f).fits; rows = r.0 }, r.1)

  accepted : Accepts b len → (t : Sheet) × (sheet_at b len ≡ given t)
  unfolding sheet_at sound_sheet ◌then◌ demand
  accepted a = let r = accepted_given s room a.rows in (r.0, rw (le-leb len (length b) a.inside) r.1)

  module _ (t : Sheet) (found : sheet_at b len ≡ given t) where
    counted : t.header.count ≡ table.count_of s
    counted = ap (λ (h : Header). h.count) (sym (accepts t found).1)

    -- who is there
    abbrev kept : List ℕ
    kept = records_part t.header s

    id_read : (i : ℕ) (q : Record) → read_record 0 (record_part kept (0 + i)) ≡ given q → table.id_of s i ≡ q.id
    id_read i q e =
        let z : 0 + i ≡ i = zero-add i in
        let read : record_of kept i ≡ given q = record_read_any 0 (record_part kept i) q (ap (λ (j : ℕ). read_record 0 (record_part kept j)) (sym z) ∙ e) i in
        sym (record_id_field s i) ∙ ap (λ (r : Record). r.id) (record_sound s kept (records_read s t.header (taken_at b len t found).read) i q read).1

    pub there : (id : ℕ) → Exactly (Present id_of id t.records) (Has b len id)
    there id = (forth, back)
      where
        forth : Present id_of id t.records → Has b len id
        forth x =
            let r = at_read kept 0 t.header.count t.records (by_bytes (record { size = len; bytes = b }) t found) x.0 x.1 x.2 in
            record { index = x.0; inside = omega (arith, r.0, counted); same = id_read x.0 x.1 r.1 ∙ x.3 }

        back : Has b len id → Present id_of id t.records
        back x =
            let r = read_of kept 0 t.header.count t.records (by_bytes (record { size = len; bytes = b }) t found) x.index (omega (arith, x.inside, counted)) in
            (x.index, r.0, r.1, sym (id_read x.index r.0 r.2) ∙ x.same)

    -- and whether there is room
    highest_is : highest t.header ≡ (version_in s).most
    highest_is = ap (λ (v : Version). v.most) (sym (read_holds s t.header (taken_at b len t found).read).version)

    roomless : Exactly (Full t.header len (length b)) (NoRoom b len)
    roomless = (forth, back)
      where
        forth : Full t.header len (length b) → NoRoom b len
        forth (buffer l) = short l
        forth (count l) = most (omega (arith, l, highest_is, counted))

        back : NoRoom b len → Full t.header len (length b)
        back (short l) = buffer l
        back (most l) = count (omega (arith, l, highest_is, counted))

  -- ---- a removal

  pub remove_exactly : (id k p : ℕ) → Exactly (remove_in b len id ≡ refused k p) (RemoveRefused b len id k p)
  remove_exactly id k p = (λ e. forth ((remove_refused_exactly b len id k p).0 e), λ r. (remove_refused_exactly b len id k p).1 (back k p r))
    where
      out_as : (l q : ℕ) → k ≡ l → p ≡ q → RemoveRefused b len id l q → RemoveRefused b len id k p
      out_as l q e f r = subst (λ (n : ℕ). RemoveRefused b len id n p) (sym e) (subst (λ (n : ℕ). RemoveRefused b len id l n) (sym f) r)

      forth : RemoveRow b len id k p → RemoveRefused b len id k p
      forth (sheet r) = sheet_before ((sheet_refused_exactly k p).0 ((sheet_row b len k p).1 r))
      forth (absent t f n e g) = out_as 10 0 e g (not_there (accepts t f).0 (λ h. n ((there t f id).1 h)))

      back : (l q : ℕ) → RemoveRefused b len id l q → RemoveRow b len id l q
      back l q (sheet_before r) = sheet ((sheet_row b len l q).0 ((sheet_refused_exactly l q).1 r))
      back l q (not_there a n) = let t = accepted a in absent t.0 t.1 (λ h. n ((there t.0 t.1 id).0 h)) refl refl

  -- ---- a put

  module _ (ns : List ℕ) (k p : ℕ) where
    put_as : (l q : ℕ) → k ≡ l → p ≡ q → PutRefused b len ns l q → PutRefused b len ns k p
    put_as l q e f r = subst (λ (n : ℕ). PutRefused b len ns n p) (sym e) (subst (λ (n : ℕ). PutRefused b len ns l n) (sym f) r)

    -- 6 and 7
    by_fields_lem : (t : Sheet) → sheet_at b len ≡ given t → record_from t.header.count ns ≡ refused k p → PutRefused b len ns k p
    by_fields_lem t f e = go (ℕ_discrete k 6) (ℕ_discrete k 7)
      where
        at : (l : ℕ) → k ≡ l → record_from t.header.count ns ≡ refused l p
        at l g = e ∙ ap (λ (j : ℕ). refused j p) g

        seven : k ≡ 7 → LaterFault (λ j. 32 * t.header.count + j) (record_lines ns) (record_fields ns) p → PutRefused b len ns k p
        seven g x = put_as 7 (32 * table.count_of s + (x.index + 2)) g (x.at ∙ omega (arith, counted t f)) (no_field x.index (accepts t f).0 x.fault)

        go : Dec (k ≡ 6) → Dec (k ≡ 7) → PutRefused b len ns k p
        go (yes g) y = let x = (record_from_6 ns t.header.count p).0 (at 6 g) in put_as 6 (table.count_of s) g (x.1 ∙ counted t f) (no_kind (accepts t f).0 ((kind_fault ns).0 x.0))
        go (no u) (yes g) = seven g ((record_from_7 ns t.header.count p).0 (at 7 g))
        go (no u) (no v) = absurd (record_from_others ns t.header.count k p u v e)

    -- 11, of a record that the numbers are
    by_record : (t : Sheet) → sheet_at b len ≡ given t → (r : Record) → record_from t.header.count ns ≡ given r → PutRow b len r k p → PutRefused b len ns k p
    by_record t f r g (sheet x) = given_refused (sym f ∙ (sheet_row b len k p).1 x)
    by_record t f r g (kind u h e c d) =
        let z = (record_numbers_same t.header.count ns r g).0 in
        given_refused (ap (λ (x : ℕ). record_refused {A = Unit {0}} u.header.count x (given tt)) (sym z) ∙ (record_fault_6 r u.header.count p).1 (e, d))
    by_record t f r g (field u h e c) =
        let z = (record_numbers_same t.header.count ns r g).0 in
        given_refused (ap (λ (x : ℕ). record_refused {A = Unit {0}} u.header.count x (given tt)) (sym z) ∙ (record_fault_7 r u.header.count p).1 e)
    by_record t f r g (no_room u h al n l c d) =
        let given_r = (record_from_given ns t.header.count r).0 g in
        let id : r.id ≡ get_or ns 1 0 = ap (λ (q : Record). q.id) (sym given_r.1) ∙ id_number ns in
        put_as 11 0 c d
        (full (accepts u h).0 given_r.0 (λ x. n ((there u h r.id).1 (subst (λ (j : ℕ). Has b len j) (sym id) x))) ((roomless u h).0 l))

    forth : put_numbers_in b len ns ≡ refused k p → PutRefused b len ns k p
    forth e = go ((numbers_refused_exactly b len ns k p).0 e)
      where
        go : NumbersRow b len ns k p → PutRefused b len ns k p
        go (by-sheet r) = sheet_first ((sheet_refused_exactly k p).0 ((sheet_row b len k p).1 r))
        go (by-numbers t f g) = by_fields_lem t f g
        go (by-putting t f r g h) = by_record t f r g ((put_refused_exactly b len r k p).0 h)

    back : (j q : ℕ) → PutRefused b len ns j q → NumbersRow b len ns j q
    back j q (sheet_first r) = by-sheet ((sheet_row b len j q).0 ((sheet_refused_exactly j q).1 r))
    back j q (no_kind a e) = let t = accepted a in by-numbers t.0 t.1 ((record_from_6 ns t.0.header.count q).1 ((kind_fault ns).1 e, sym (counted t.0 t.1)))
    back j q (no_field f a e) =
        let t = accepted a in
        by-numbers t.0 t.1 ((record_from_7 ns t.0.header.count q).1 (record { index = f; fault = e; at = omega (arith, counted t.0 t.1) }))
    back j q (full a al n none) =
        let t = accepted a in
        let m = t.0.header.count in
        let r = record_of_numbers ns in
        let g = (record_from_given ns m r).1 (al, refl) in
        let z = (record_numbers_same m ns r g).0 in
        by-putting t.0 t.1 r g
        ((put_refused_exactly b len r j q).1
        (no_room t.0 t.1 ((record_fault_given r m).0 (ap (λ (x : ℕ). record_refused {A = Unit {0}} m x (given tt)) z))
        (λ x. n (subst (λ (j : ℕ). Has b len j) (id_number ns) ((there t.0 t.1 r.id).0 x)))
        ((roomless t.0 t.1).1 none) refl refl))

    pub put_exactly : Exactly (put_numbers_in b len ns ≡ refused k p) (PutRefused b len ns k p)
    put_exactly = (forth, λ r. (numbers_refused_exactly b len ns k p).1 (back k p r))

-- ---- any call

comes_exactly : (c : Call) (a : After) (k p : ℕ) → Exactly (comes_to c a ≡ refused k p) (CallRefused c a.bytes a.size k p)
comes_exactly (put_fields ns) a k p = put_exactly a.bytes a.size ns k p
comes_exactly (remove_id id) a k p = remove_exactly a.bytes a.size id k p

-- The answer is the number of refusal k with place p exactly when that row holds. In such a number k is at least 1, and p is below 2⁴⁰.
pub call_refused_exactly : (E : Editor) → MeetsEditor E → (c : Call) (a : After) (k p : ℕ) → 0 < k → p < number_unit
    → Exactly (answered E c a ≡ k * number_unit + p) (CallRefused c a.bytes a.size k p)
unfolding size_by
call_refused_exactly E meets c a k p l m = (λ e. forth e (outcome E meets c a), back)
  where
    forth : answered E c a ≡ k * number_unit + p → Outcome E meets c a → CallRefused c a.bytes a.size k p
    forth e (done x f g q d) = absurd (omega (arith, e, ltb-true (answered E c a) number_unit d))
    forth e (turned_away j i f n q d) =
        let r = subst (λ (y : Answer After). Resized (size_by y)) f (in_range c a) in
        let same : j ≡ k = omega (arith, n, e, r.inside) in
        let place : i ≡ p = omega (arith, n, e, r.inside) in
        (comes_exactly c a k p).0 (f ∙ ap₂ refused same place)

    back : CallRefused c a.bytes a.size k p → answered E c a ≡ k * number_unit + p
    back r = go (outcome E meets c a) ((comes_exactly c a k p).1 r)
      where
        go : Outcome E meets c a → comes_to c a ≡ refused k p → answered E c a ≡ k * number_unit + p
        go (done x f g q d) h = given_refused (sym f ∙ h)
        go (turned_away j i f n q d) h = let e = sym f ∙ h in n ∙ ap₂ (λ (x y : ℕ). x * number_unit + y) (refused_number e) (refused_place e)

-- and a call is done exactly when no row holds
pub call_done_exactly : (E : Editor) → MeetsEditor E → (c : Call) (a : After) → Exactly (is_done (answered E c a) ≡ true) ((k p : ℕ) → CallRefused c a.bytes a.size k p → ⊥)
call_done_exactly E meets c a = (λ e k p r. forth e k p r (outcome E meets c a), λ n. back n (outcome E meets c a))
  where
    forth : is_done (answered E c a) ≡ true → (k p : ℕ) → CallRefused c a.bytes a.size k p → Outcome E meets c a → ⊥
    forth e k p r (done x f g q d) = given_refused (sym f ∙ (comes_exactly c a k p).1 r)
    forth e k p r (turned_away j i f n q d) = clash e d

    back : ((k p : ℕ) → CallRefused c a.bytes a.size k p → ⊥) → Outcome E meets c a → is_done (answered E c a) ≡ true
    back n (done x f g q d) = d
    back n (turned_away j i f m q d) = absurd (n j i ((comes_exactly c a j i).0 f))

-- a sheet for which no row holds is one for which none does after any calls
pub still_accepted : (E : Editor) → MeetsEditor E → (cs : List Call) (a : After) → Accepts a.bytes a.size → Accepts (called_all E cs a).bytes (called_all E cs a).size
still_accepted E meets cs a x =
    let t = accepted a.bytes a.size x in
    let w = any_calls E meets cs a t.0 t.1 in
    (accepts (called_all E cs a).bytes (called_all E cs a).size w.sheet w.sound).0
