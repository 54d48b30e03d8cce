-- Which answer an edit gives in each case, and what it leaves.
-- Assumes nothing.
use Rattle.std.specs.Prelude.{Result, Ok, Err}
use Prim.Native.Nat.{ℕ, ◌+◌, ◌-◌, ◌≤◌, ◌<◌}
use mathlib.Core.Path.{◌≡◌, sym, ap, ap₂, subst, ◌∙◌}
use mathlib.Core.Bool.{true, false}
use mathlib.Core.List.{List}
use native.Mathlib.Omega.{arith}
use lib.ListN.{length, take}
use native.Mathlib.Decide.{dec_lt}
use borrow.Author.Tests.{le-leb, lt-leb, le-ltb, lt-ltb, eq-eqb}
use Rattle.sheet.specs.declared.Header.{Header}
use Rattle.sheet.specs.declared.Record.{Record}
use Rattle.sheet.specs.declared.Refusal.{Refusal}
use Rattle.sheet.specs.declared.Refusal.TheVariants.{NoSuchId, NoRoom}
use Rattle.sheet.specs.Refusals.{Answer, given, refused, number_of, place_of, told, header_refused}
use Rattle.sheet.specs.laws.RefusalLaws.{at_none, by_none, given_refused, given_same, refused_number, refused_place}
use Rattle.sheet.specs.Header.{header_fault}
use Rattle.sheet.specs.Record.{record_fault}
use Rattle.numbers.specs.From.{record_from}
use Rattle.checker.specs.Check.{◌then◌, demand, sheet_size, records_part, Sheet}
use Rattle.checker.specs.laws.ThenLaws.{then_given}
use Rattle.checker.specs.Unjudged.{sound_header}
use Rattle.keyed.specs.Keyed.{position_of, has_of}
use Rattle.keyed.specs.laws.Places.{place_le, has_lt}
use Rattle.edit.specs.Edit.{sheet_at, header_of, highest, id_of, counting, replacing, inserting, removing, After, has_room, placing, put_in, put_numbers_in, remove_in, size_by, bytes_by, Edits}
use Rattle.edit.specs.Steps.{place_in, has_in, Known}
use Rattle.edit.specs.laws.HeaderCount.{counting_sound, counting_few}
use Rattle.edit.specs.laws.Taken.{Taken, taken_at, place_same, has_same}

-- ---- the sheet in the buffer

pub over_buffer : (b : List ℕ) (len : ℕ) → length b < len → refused 1 0 ≡ header_of b len
unfolding header_of sheet_at ◌then◌ demand
over_buffer b len l = rw (lt-leb len (length b) l)

pub within_buffer : (b : List ℕ) (len : ℕ) → len ≤ length b → sound_header (take len b) ≡ header_of b len
unfolding header_of sheet_at sound_header ◌then◌ demand
within_buffer b len l = rw (le-leb len (length b) l)

-- a refusal of the sheet
pub sheet_refused : (b : List ℕ) (len k p : ℕ) → refused k p ≡ header_of b len → sheet_at b len ≡ refused k p
unfolding header_of ◌then◌
sheet_refused b len k p e = go (sheet_at b len) e
  where
    go : (x : Answer Sheet) → refused k p ≡ (x then λ t. given t.header) → x ≡ refused k p
    go (given t) f = given_refused (sym f)
    go (refused l q) f = sym (ap₂ refused (refused_number f) (refused_place f))

-- a header that was given is that of the sheet
pub known : (b : List ℕ) (len : ℕ) (h : Header) → given h ≡ header_of b len → Known b len h
unfolding header_of
known b len h e =
    let a = then_given (sheet_at b len) _ h (sym e) in
    record { sheet = a.0; found = a.1; header = sym (given_same a.2) }

-- an answer that is passed on says what it said
pub passes_on : {a : Answer After} {before : List ℕ} (after : List ℕ) {r s : Result ℕ Refusal} → r ≡ s → Edits a before s after → Edits a before r after
passes_on {a} {before} after e says = subst (λ (x : Result ℕ Refusal). Edits a before x after) (sym e) says

-- ---- room

pub no_room : (h : Header) (len size : ℕ) → size < len + 16 → has_room h len size ≡ false
no_room h len size l = rw (lt-leb (len + 16) size l)

pub room_for_one : (h : Header) (len size : ℕ) → len + 16 ≤ size → h.count < highest h → has_room h len size ≡ true
room_for_one h len size l m = rw (le-leb (len + 16) size l, lt-ltb h.count (highest h) m)

-- the header's own test of the count that is one more
module _ (h : Header) (z : header_fault h ≡ 0) where
  abbrev more : ℕ
  more = header_fault (counting (h.count + 1) h)

  pub at_highest : (len size k p : ℕ) → len + 16 ≤ size → refused k p ≡ header_refused more (given (tt {0})) → has_room h len size ≡ false
  at_highest len size k p l e = go (dec_lt h.count (highest h))
    where
      go : Dec (h.count < highest h) → has_room h len size ≡ false
      go (yes m) = given_refused (sym (e ∙ at_none (refused 2 0) (λ f. refused 3 f) more (given (tt {0})) (counting_sound h (h.count + 1) z (omega arith))))
      go (no m) = rw (le-leb (len + 16) size l, le-ltb h.count (highest h) (omega arith))

  pub below_highest : given (tt {0}) ≡ header_refused more (given tt) → (more ≡ 0) × (h.count < highest h)
  below_highest e =
      let f = (by_none 2 0 3 (λ k. k) more (tt {0}) (tt {0}) (sym e)).0 in
      (f, omega (arith, counting_few h (h.count + 1) f))

-- ---- refusals

refused_edits : (a : Answer After) (b : List ℕ) (x : Refusal) → a ≡ told x → Edits a b (Err x) b
unfolding size_by bytes_by
refused_edits a b x e = record { answer = rw e; bytes = rw e }

given_edits : (a : Answer After) (b after : List ℕ) (size : ℕ) → a ≡ given (record { size = size; bytes = after }) → Edits a b (Ok size) after
unfolding size_by bytes_by
given_edits a b after size e = record { answer = rw e; bytes = rw e }

module _ (b : List ℕ) (len : ℕ) where
  pub numbers_turned : (ns : List ℕ) (x : Refusal) → told x ≡ header_of b len → Edits (put_numbers_in b len ns) b (Err x) b
  unfolding put_numbers_in ◌then◌
  numbers_turned ns x e = refused_edits (put_numbers_in b len ns) b x (rw (sym e))

  pub remove_refused : (id : ℕ) (x : Refusal) → told x ≡ header_of b len → Edits (remove_in b len id) b (Err x) b
  unfolding remove_in ◌then◌
  remove_refused id x e = refused_edits (remove_in b len id) b x (rw (sheet_refused b len (number_of x) (place_of x) e))

  module _ (h : Header) (k : Known b len h) where
    abbrev t : Sheet
    t = k.sheet

    abbrev n : ℕ
    n = h.count

    pub sheet_taken : Taken b len t
    sheet_taken = taken_at b len t k.found

    same_count : t.header.count ≡ n
    same_count = ap (λ (g : Header). g.count) (sym k.header)

    -- the bytes of its records
    abbrev rs : List ℕ
    rs = records_part h b

    -- what the code may count on
    pub size : (len ≡ sheet_size h) × (len ≤ length b) × (n ≤ highest h)
    size = (
      sheet_taken.whole ∙ ap (λ (g : Header). sheet_size g) (sym k.header),
      sheet_taken.fits,
      subst (λ (g : Header). g.count ≤ highest g) (sym k.header) sheet_taken.few,
    )

    pub its_header : header_fault h ≡ 0
    its_header = ap (λ (g : Header). header_fault g) k.header ∙ sheet_taken.sound

    module _ (id : ℕ) where
      abbrev i : ℕ
      i = position_of id_of id t.records

      pub place_is : place_in rs n id ≡ i
      place_is = ap (λ (g : Header). place_in (records_part g b) g.count id) k.header ∙ place_same b len t sheet_taken id

      has_is : has_in rs n id ≡ has_of id_of id t.records
      has_is = ap (λ (g : Header). has_in (records_part g b) g.count id) k.header ∙ has_same b len t sheet_taken id

      -- the place of an id is at most the end, and that of one that is there is before it
      pub place_most : place_in rs n id ≤ n
      place_most = omega (arith, place_is, place_le id_of id t.records, sheet_taken.number, same_count)

      pub place_within : has_in rs n id ≡ true → place_in rs n id < n
      place_within e = omega (arith, place_is, has_lt id_of id t.records (sym has_is ∙ e), sheet_taken.number, same_count)

      -- ---- a removal

      pub remove_none : has_in rs n id ≡ false → Edits (remove_in b len id) b (Err NoSuchId) b
      unfolding remove_in ◌then◌ demand
      remove_none e = refused_edits (remove_in b len id) b NoSuchId (rw (k.found, sym has_is ∙ e))

      pub remove_done : has_in rs n id ≡ true → (g : Header) → g ≡ counting (n - 1) h → (after : List ℕ) → after ≡ removing g (place_in rs n id) len b → Edits (remove_in b len id) b (Ok (len - 16)) after
      unfolding remove_in ◌then◌ demand
      remove_done e g f after w =
          let counted : g ≡ counting (t.header.count - 1) t.header = f ∙ ap (λ (x : Header). counting (x.count - 1) x) k.header in
          let bytes : removing (counting (t.header.count - 1) t.header) i len b ≡ after = sym (w ∙ ap₂ (λ (x : Header) (y : ℕ). removing x y len b) counted place_is) in
          given_edits (remove_in b len id) b after (len - 16) (rw (k.found, sym has_is ∙ e) (ap (λ (x : List ℕ). given (record { size = len - 16; bytes = x })) bytes))

    -- ---- numbers

    module _ (ns : List ℕ) where
      numbers_are : (x : Answer Record) → record_from n ns ≡ x → put_numbers_in b len ns ≡ (x then λ r. put_in b len r)
      unfolding put_numbers_in header_of ◌then◌
      numbers_are x e = rw k.found (ap (λ (m : ℕ). record_from m ns then λ r. put_in b len r) same_count ∙ ap (λ (y : Answer Record). y then λ r. put_in b len r) e)

      pub numbers_refused : (x : Refusal) → told x ≡ record_from n ns → Edits (put_numbers_in b len ns) b (Err x) b
      unfolding ◌then◌
      numbers_refused x e = refused_edits (put_numbers_in b len ns) b x (numbers_are (told x) (sym e))

      pub numbers_taken : (r : Record) → given r ≡ record_from n ns → put_numbers_in b len ns ≡ put_in b len r
      unfolding ◌then◌
      numbers_taken r e = numbers_are (given r) (sym e)

    -- ---- a new record

    module _ (r : Record) where
      module _ (z : record_fault r 0 ≡ 0) where
        put_is : put_in b len r ≡ placing t b len r
        unfolding put_in ◌then◌
        put_is = rw (k.found, eq-eqb (record_fault r 0) 0 z)

        pub put_replaced : has_in rs n r.id ≡ true → (after : List ℕ) → after ≡ replacing h (place_in rs n r.id) r b → Edits (put_in b len r) b (Ok len) after
        unfolding placing
        put_replaced e after w =
            given_edits (put_in b len r) b after len
            (put_is ∙ rw (sym (has_is r.id) ∙ e) (ap (λ (x : List ℕ). given (record { size = len; bytes = x })) (sym (w ∙ ap₂ (λ (g : Header) (y : ℕ). replacing g y r b) k.header (place_is r.id)))))

        module _ (new : has_in rs n r.id ≡ false) where
          room_is : has_room t.header len (length b) ≡ has_room h len (length b)
          room_is = ap (λ (g : Header). has_room g len (length b)) (sym k.header)

          pub put_full : has_room h len (length b) ≡ false → Edits (put_in b len r) b (Err NoRoom) b
          unfolding placing ◌then◌ demand
          put_full e = refused_edits (put_in b len r) b NoRoom (put_is ∙ rw (sym (has_is r.id) ∙ new, room_is ∙ e))

          pub put_inserted : has_room h len (length b) ≡ true → (g : Header) → g ≡ counting (n + 1) h → (after : List ℕ) → after ≡ inserting g (place_in rs n r.id) len r b
              → Edits (put_in b len r) b (Ok (len + 16)) after
          unfolding placing ◌then◌ demand
          put_inserted e g f after w =
              let counted : g ≡ counting (t.header.count + 1) t.header = f ∙ ap (λ (x : Header). counting (x.count + 1) x) k.header in
              let bytes : inserting (counting (t.header.count + 1) t.header) (i r.id) len r b ≡ after = sym (w ∙ ap₂ (λ (x : Header) (y : ℕ). inserting x y len r b) counted (place_is r.id)) in
              given_edits (put_in b len r) b after (len + 16)
              (put_is ∙ rw (sym (has_is r.id) ∙ new, room_is ∙ e) (ap (λ (x : List ℕ). given (record { size = len + 16; bytes = x })) bytes))
