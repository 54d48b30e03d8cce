-- When an edit is turned away: each refusal is given exactly when its case holds and none before it does.
-- Assumes nothing.
use Rattle.std.specs.Prelude.{ℕ, ◌+◌, ◌≤◌, ◌<◌, ◌≡◌, Bool, ◌&&◌, List, length, take, leb, ltb}
use Rattle.std.proofs.Math.Path.{refl, ap}
use Rattle.std.proofs.Common.{sym, ap₂, subst, ◌∙◌, arith, length-take-le, le-leb, le-ltb, ltb-false}
use Rattle.std.proofs.Math.Bool.{true, false, cond}
use Rattle.std.proofs.Math.Decide.{dec_lt, ℕ_discrete}
use Rattle.std.proofs.lemmas.Bool.{lt-leb}
use Rattle.layout.specs.Line.{Allowed}
use Rattle.truth.specs.laws.Tests.{clash, false_of}
use Rattle.sheet.specs.declared.Header.{Header}
use Rattle.sheet.specs.declared.Record.{Record}
use Rattle.sheet.specs.Versions.{Under}
use Rattle.sheet.specs.Refusals.{Answer, given, refused, record_refused}
use Rattle.sheet.specs.laws.RefusalLaws.{given_refused, refused_number, refused_place}
use Rattle.sheet.specs.Header.{version_field, version_in, read_header}
use Rattle.sheet.specs.laws.HeaderExactly.{header_read_1}
use Rattle.sheet.specs.laws.ExactlyLaws.{exactly_then}
use Rattle.sheet.specs.Record.{record_fault, lines_of, values_of}
use Rattle.sheet.specs.Exactly.{Exactly}
use Rattle.sheet.specs.laws.RecordExactly.{record_fault_6, record_fault_7, record_fault_given, record_fault_others}
use Rattle.checker.specs.Check.{◌then◌, demand, Sheet}
use Rattle.checker.specs.laws.ThenLaws.{refused_as}
use Rattle.checker.specs.Unjudged.{sound_sheet}
use Rattle.keyed.specs.Keyed.{has_of}
use Rattle.keyed.specs.laws.Places.{has_present, present_has}
use Rattle.edit.specs.Edit.{sheet_at, highest, id_of, After, has_room, placing, put_in, remove_in}
use Rattle.edit.specs.laws.Taken.{taken_at}
use Rattle.checker.specs.laws.SheetRefusals.{under, headed_not}
use Rattle.edit_laws.specs.Rows.{SheetRow, over, own, Full, buffer, count, PutRow, sheet, kind, field, no_room, RemoveRow, absent, Short, over_buffer, under_header}

-- ---- the sheet's own

pub sheet_row : (b : List ℕ) (len k p : ℕ) → Exactly (sheet_at b len ≡ refused k p) (SheetRow b len k p)
unfolding sheet_at ◌then◌ demand
sheet_row b len k p = (forth (dec_lt (length b) len), back)
  where
    forth : Dec (length b < len) → sheet_at b len ≡ refused k p → SheetRow b len k p
    forth (yes l) e =
        let f : refused 1 0 ≡ refused k p = rw (lt-leb len (length b) l) at e in
        over l (sym (refused_number f)) (sym (refused_place f))
    forth (no l) e =
        let m : len ≤ length b = omega arith in
        own m (rw (le-leb len (length b) m) at e)

    back : SheetRow b len k p → sheet_at b len ≡ refused k p
    back (over l f g) = rw (lt-leb len (length b) l) (ap₂ refused (sym f) (sym g))
    back (own l e) = rw (le-leb len (length b) l) e

-- ---- a put

room_full : (h : Header) (len size : ℕ) → Exactly (has_room h len size ≡ false) (Full h len size)
room_full h len size = (forth (dec_lt size (len + 16)), back)
  where
    forth : Dec (size < len + 16) → has_room h len size ≡ false → Full h len size
    forth (yes l) e = buffer l
    forth (no l) e =
        let m : len + 16 ≤ size = omega arith in
        let f : ltb h.count (highest h) ≡ false = rw (le-leb (len + 16) size m) at e in
        count (ltb-false h.count (highest h) f)

    back : Full h len size → has_room h len size ≡ false
    back (buffer l) = rw (lt-leb (len + 16) size l)
    back (count m) = go (leb (len + 16) size)
      where
        go : (x : Bool) → (x && ltb h.count (highest h)) ≡ false
        go true = le-ltb h.count (highest h) m
        go false = refl

module _ (b : List ℕ) (len : ℕ) (r : Record) (k p : ℕ) where
  -- by the answer to the new record alone
  abbrev tested : ℕ → Answer (Unit {0})
  tested n = record_refused n (record_fault r 0) (given (tt {0}))

  pub put_refused : (l q : ℕ) → sheet_at b len ≡ refused l q → put_in b len r ≡ refused l q
  unfolding put_in ◌then◌
  put_refused l q e = rw e

  put_given : (t : Sheet) → sheet_at b len ≡ given t → put_in b len r ≡ (tested t.header.count then λ u. placing t b len r)
  unfolding put_in ◌then◌
  put_given t e = rw e

  module _ (t : Sheet) (found : sheet_at b len ≡ given t) where
    abbrev h : Header
    h = t.header

    abbrev n : ℕ
    n = h.count

    at_record : tested n ≡ refused k p → PutRow b len r k p
    at_record e = go (ℕ_discrete k 6) (ℕ_discrete k 7)
      where
        go : Dec (k ≡ 6) → Dec (k ≡ 7) → PutRow b len r k p
        go (yes f) y = let d = (record_fault_6 r n p).0 (e ∙ ap (λ (j : ℕ). refused j p) f) in kind t found d.0 f d.1
        go (no x) (yes f) = field t found ((record_fault_7 r n p).0 (e ∙ ap (λ (j : ℕ). refused j p) f)) f
        go (no x) (no y) = absurd (record_fault_others r n k p x y e)

    at_place : Allowed (lines_of r) (values_of r) → placing t b len r ≡ refused k p → PutRow b len r k p
    unfolding placing ◌then◌ demand
    at_place a e = go (has_of id_of r.id t.records) refl (has_room h len (length b)) refl _ _ e
      where
        go : (has : Bool) → has_of id_of r.id t.records ≡ has → (fits : Bool) → has_room h len (length b) ≡ fits
            → (x y : After) → cond has (given x) (cond fits (given (tt {0})) (refused 11 0) then λ u. given y) ≡ refused k p → PutRow b len r k p
        go true f fits g x y h = given_refused h
        go false f true g x y h = given_refused h
        go false f false g x y h =
            no_room t found a (λ q. clash (present_has id_of r.id 0 t.records (taken_at b len t found).order q) f)
            ((room_full t.header len (length b)).0 g)
            (sym (refused_number h))
            (sym (refused_place h))

  forth : put_in b len r ≡ refused k p → PutRow b len r k p
  unfolding ◌then◌
  forth e = go (sheet_at b len) refl
    where
      record_first : (t : Sheet) → sheet_at b len ≡ given t → (x : Answer (Unit {0})) → tested t.header.count ≡ x → (x then λ u. placing t b len r) ≡ refused k p → PutRow b len r k p
      record_first t f (refused l q) g h = at_record t f (g ∙ refused_as h)
      record_first t f (given u) g h = at_place t f ((record_fault_given r t.header.count).0 g) h

      go : (x : Answer Sheet) → sheet_at b len ≡ x → PutRow b len r k p
      go (refused l q) f = sheet ((sheet_row b len k p).0 (f ∙ refused_as (sym (put_refused l q f) ∙ e)))
      go (given t) f = record_first t f (tested t.header.count) refl (sym (put_given t f) ∙ e)

  back : PutRow b len r k p → put_in b len r ≡ refused k p
  unfolding placing ◌then◌ demand
  back (sheet s) = put_refused k p ((sheet_row b len k p).1 s)
  back (kind t f e c d) = put_given t f ∙ ap (λ (x : Answer (Unit {0})). x then λ u. placing t b len r) ((record_fault_6 r t.header.count p).1 (e, d)) ∙ ap (λ (j : ℕ). refused j p) (sym c)
  back (field t f e c) = put_given t f ∙ ap (λ (x : Answer (Unit {0})). x then λ u. placing t b len r) ((record_fault_7 r t.header.count p).1 e) ∙ ap (λ (j : ℕ). refused j p) (sym c)
  back (no_room t f a n l c d) =
      let sound = (record_fault_given r t.header.count).1 a in
      let new : has_of id_of r.id t.records ≡ false = false_of (has_of id_of r.id t.records) (λ e. n (has_present id_of r.id t.records e)) in
      put_given t f
      ∙ ap (λ (x : Answer (Unit {0})). x then λ u. placing t b len r) sound
      ∙ rw (new, (room_full t.header len (length b)).1 l) (ap₂ refused (sym c) (sym d))

  -- refusal k with place p, exactly when that row holds
  pub put_refused_exactly : Exactly (put_in b len r ≡ refused k p) (PutRow b len r k p)
  put_refused_exactly = (forth, back)

-- ---- 1

one_row : (b : List ℕ) (len p : ℕ) → Exactly (SheetRow b len 1 p) (Short b len × (p ≡ 0))
one_row b len p = (from_row, λ h. to_row h.0 h.1)
  where
    s : List ℕ
    s = take len b

    -- the stated length is that of what is read
    short : len ≤ length b → Under (length s) (version_field s) (version_in s) → Under len (version_field s) (version_in s)
    short l = subst (λ (n : ℕ). Under n (version_field s) (version_in s)) (length-take-le len b l)

    again : len ≤ length b → Under len (version_field s) (version_in s) → Under (length s) (version_field s) (version_in s)
    again l = subst (λ (n : ℕ). Under n (version_field s) (version_in s)) (sym (length-take-le len b l))

    by_header : len ≤ length b → sound_sheet s ≡ refused 1 p → (x : Answer Header) → read_header s ≡ x → Short b len × (p ≡ 0)
    by_header l e (given g) f = absurd (headed_not s g f p e)
    by_header l e (refused k q) f =
        let same = sym (under s k q f) ∙ e in
        let h = (header_read_1 s p).0 (f ∙ ap₂ refused (refused_number same) (refused_place same)) in
        (under_header (short l h.0), h.1)

    from_row : SheetRow b len 1 p → Short b len × (p ≡ 0)
    from_row (over l c d) = (over_buffer l, d)
    from_row (own l e) = by_header l e (read_header s) refl

    to_row : Short b len → p ≡ 0 → SheetRow b len 1 p
    to_row (over_buffer l) d = over l refl d
    to_row (under_header m) d = go (dec_lt (length b) len)
      where
        go : Dec (length b < len) → SheetRow b len 1 p
        go (yes l) = over l refl d
        go (no l) = let n : len ≤ length b = omega arith in own n (under s 1 p ((header_read_1 s p).1 (again n m, d)))

-- a number that only a sheet is refused with
pub put_by_sheet : (b : List ℕ) (len : ℕ) (r : Record) (m p : ℕ) → (m ≡ 6 → ⊥) → (m ≡ 7 → ⊥) → (m ≡ 11 → ⊥) → Exactly (put_in b len r ≡ refused m p) (SheetRow b len m p)
put_by_sheet b len r m p x y z = (λ e. by_row ((put_refused_exactly b len r m p).0 e), λ h. (put_refused_exactly b len r m p).1 (sheet h))
  where
    by_row : PutRow b len r m p → SheetRow b len m p
    by_row (sheet s) = s
    by_row (kind t f e c d) = absurd (x c)
    by_row (field t f e c) = absurd (y c)
    by_row (no_room t f a n l c d) = absurd (z c)

-- 1 exactly when the stated length is over the buffer or under the header, for a put and for a removal
pub put_1 : (b : List ℕ) (len : ℕ) (r : Record) (p : ℕ) → Exactly (put_in b len r ≡ refused 1 p) (Short b len × (p ≡ 0))
put_1 b len r p = exactly_then (put_by_sheet b len r 1 p (λ z. omega arith) (λ z. omega arith) (λ z. omega arith)) (one_row b len p)

-- ---- a removal

module _ (b : List ℕ) (len id k p : ℕ) where
  remove_refused : (l q : ℕ) → sheet_at b len ≡ refused l q → remove_in b len id ≡ refused l q
  unfolding remove_in ◌then◌
  remove_refused l q e = rw e

  there_forth : remove_in b len id ≡ refused k p → RemoveRow b len id k p
  unfolding remove_in ◌then◌ demand
  there_forth e = go (sheet_at b len) refl e
    where
      by_id : (t : Sheet) → sheet_at b len ≡ given t → (has : Bool) → has_of id_of id t.records ≡ has → (x : After) → (cond has (given (tt {0})) (refused 10 0) then λ u. given x) ≡ refused k p
          → RemoveRow b len id k p
      by_id t f true g x h = given_refused h
      by_id t f false g x h =
          absent t f (λ q. clash (present_has id_of id 0 t.records (taken_at b len t f).order q) g) (sym (refused_number h)) (sym (refused_place h))

      go : (x : Answer Sheet) → sheet_at b len ≡ x → remove_in b len id ≡ refused k p → RemoveRow b len id k p
      go (refused l q) f g = sheet ((sheet_row b len k p).0 (f ∙ refused_as (sym (remove_refused l q f) ∙ g)))
      go (given t) f g = by_id t f (has_of id_of id t.records) refl _ (rw f at g)

  there_back : RemoveRow b len id k p → remove_in b len id ≡ refused k p
  unfolding remove_in ◌then◌ demand
  there_back (sheet s) = remove_refused k p ((sheet_row b len k p).1 s)
  there_back (absent t f n c d) = rw (f, false_of (has_of id_of id t.records) (λ e. n (has_present id_of id t.records e))) (ap₂ refused (sym c) (sym d))

  pub remove_refused_exactly : Exactly (remove_in b len id ≡ refused k p) (RemoveRow b len id k p)
  remove_refused_exactly = (there_forth, there_back)

pub remove_by_sheet : (b : List ℕ) (len id m p : ℕ) → (m ≡ 10 → ⊥) → Exactly (remove_in b len id ≡ refused m p) (SheetRow b len m p)
remove_by_sheet b len id m p x = (λ e. by_row ((remove_refused_exactly b len id m p).0 e), λ h. (remove_refused_exactly b len id m p).1 (sheet h))
  where
    by_row : RemoveRow b len id m p → SheetRow b len m p
    by_row (sheet s) = s
    by_row (absent t f n c d) = absurd (x c)

pub remove_1 : (b : List ℕ) (len id p : ℕ) → Exactly (remove_in b len id ≡ refused 1 p) (Short b len × (p ≡ 0))
remove_1 b len id p = exactly_then (remove_by_sheet b len id 1 p (λ z. omega arith)) (one_row b len p)
