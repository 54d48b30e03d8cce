-- The sixteen bytes that a removal frees are there for the next insertion: a sound record that is put in right after a removal that is done is never refused.
-- Assumes nothing.
use Rattle.std.specs.Prelude.{ℕ, ◌+◌, ◌-◌, ◌≤◌, ◌<◌, ◌≡◌, refl, Bool, true, false, cond, List, get_or}
use Rattle.std.proofs.Common.{sym, subst, ◌∙◌, arith, le-leb, lt-ltb}
use Rattle.std.proofs.Math.Path.{ap}
use Rattle.std.proofs.Math.ListN.{length}
use Rattle.truth.specs.laws.Tests.{clash}
use Rattle.layout.specs.Line.{Allowed}
use Rattle.sheet.specs.declared.Record.{Record}
use Rattle.sheet.specs.Refusals.{given, refused}
use Rattle.sheet.specs.laws.RefusalLaws.{given_refused}
use Rattle.sheet.specs.Record.{record_fault}
use Rattle.numbers.specs.From.{record_of_numbers, record_from}
use Rattle.numbers.specs.laws.Exactly.{record_fields, record_lines, record_from_given}
use Rattle.numbers.specs.laws.Back.{record_numbers_same}
use Rattle.checker.specs.Check.{◌then◌, demand, Sheet}
use Rattle.checker.specs.laws.ThenLaws.{then_given, goes_on}
use Rattle.keyed.specs.Keyed.{position_of, has_of, out_of}
use Rattle.keyed.specs.laws.Places.{has_present, has_lt}
use Rattle.edit.specs.Edit.{sheet_at, highest, id_of, counting, After, has_room, placing, put_in, remove_in}
use Rattle.edit.specs.laws.Taken.{taken_at}
use Rattle.edit.specs.laws.Done.{Put, replaces, inserts, put_done, remove_done}
use Rattle.edit_laws.specs.Edits.{holding}
use Rattle.edit_laws.specs.laws.Numbers.{numbers_put}
use Rattle.edit_laws.specs.laws.Outcomes.{remove_sheet}
use Rattle.edit_laws.specs.laws.Touched.{removed_length}
use Rattle.edit_laws.specs.Calls.{put_fields, remove_id, Editor, MeetsEditor, is_done, answered, called}
use Rattle.edit_laws.specs.laws.CallLaws.{Outcome, done, turned_away, outcome}
use Rattle.edit_laws.specs.CallRows.{Has}
use Rattle.edit_laws.specs.laws.CallRowLaws.{id_number, there}

-- a sound record is put in where there is room for one more
roomy : (b : List ℕ) (len : ℕ) (t : Sheet) → sheet_at b len ≡ given t → (r : Record) → record_fault r 0 ≡ 0 → has_room t.header len (length b) ≡ true → (k p : ℕ) → put_in b len r ≡ refused k p → ⊥
unfolding put_in placing ◌then◌ demand
roomy b len t f r z m k p e = go (has_of id_of r.id t.records) _ _ (rw (f, z, m) at e)
  where
    go : (has : Bool) (x y : After) → cond has (given x) (given y) ≡ refused k p → ⊥
    go true x y g = given_refused g
    go false x y g = given_refused g

module _ (E : Editor) (meets : MeetsEditor E) (a : After) (id : ℕ) (removed : is_done (answered E (remove_id id) a) ≡ true) (ns : List ℕ) (sound : Allowed (record_lines ns) (record_fields ns)) where
  -- buffer and length after the removal
  abbrev x : After
  x = called E (remove_id id) a

  -- the sheet before and after it, and the room that there is
  pub record Freed : Type 0 where
    pub sheet : Sheet
    pub found : sheet_at x.bytes x.size ≡ given sheet
    pub room : x.size + 16 ≤ length x.bytes
    pub few : sheet.header.count < highest sheet.header
    pub shorter : x.size + 16 ≡ a.size

  freed : Freed
  unfolding remove_in
  freed = go (outcome E meets (remove_id id) a)
    where
      at : (y : After) → called E (remove_id id) a ≡ y → (t : Sheet) → sheet_at a.bytes a.size ≡ given t → remove_in a.bytes a.size id ≡ given y → Freed
      at y h t s f =
          let b = a.bytes in
          let len = a.size in
          let k = taken_at b len t s in
          let r = remove_done b len t s id y f in
          let i = position_of id_of id t.records in
          let inside : i < t.header.count = omega (arith, has_lt id_of id t.records r.there, k.number) in
          let u = remove_sheet b len t s id y f in
          let w = taken_at y.bytes y.size _ u in
          let size : y.size ≡ len - 16 = ap (λ (z : After). z.size) r.after in
          let same : length y.bytes ≡ length b =
          ap (λ (z : After). length z.bytes) r.after ∙ removed_length b (counting (t.header.count - 1) t.header) i len (omega (arith, k.whole, inside)) k.fits in
          let q : (called E (remove_id id) a).size ≡ y.size = ap (λ (z : After). z.size) h in
          let o : length (called E (remove_id id) a).bytes ≡ length y.bytes = ap (λ (z : After). length z.bytes) h in
          record {
            sheet = holding t.header (out_of id_of id t.records);
            found = ap (λ (z : After). sheet_at z.bytes z.size) h ∙ u;
            room = omega (arith, q, o, size, same, k.fits, k.whole, inside);
            few = omega (arith, w.whole, size, k.whole, k.few, inside);
            shorter = omega (arith, q, size, k.whole, inside);
          }

      go : Outcome E meets (remove_id id) a → Freed
      go (done y f g h d) = let s = then_given (sheet_at a.bytes a.size) _ y f in at y h s.0 s.1 f
      go (turned_away k p f n h d) = absurd (clash removed d)

  -- the record that the numbers are
  abbrev r : Record
  r = record_of_numbers ns

  is_record : (i : ℕ) → record_from i ns ≡ given r
  is_record i = (record_from_given ns i r).1 (sound, refl)

  -- it is put in: the call is done
  pub next_put : is_done (answered E (put_fields ns) x) ≡ true
  next_put = go (outcome E meets (put_fields ns) x)
    where
      fits : has_room freed.sheet.header x.size (length x.bytes) ≡ true
      fits = rw (le-leb (x.size + 16) (length x.bytes) freed.room, lt-ltb freed.sheet.header.count (highest freed.sheet.header) freed.few)

      go : Outcome E meets (put_fields ns) x → is_done (answered E (put_fields ns) x) ≡ true
      go (done y f g h d) = d
      go (turned_away k p f n h d) =
          let n = freed.sheet.header.count in
          absurd (roomy x.bytes x.size freed.sheet freed.found r (record_numbers_same n ns r (is_record n)).0 fits k p
          (sym (goes_on (record_from n ns) (λ q. put_in x.bytes x.size q) r (is_record n)) ∙ sym (numbers_put x.bytes x.size ns freed.sheet freed.found) ∙ f))

  -- and under an id that is not in the sheet, the sheet has the length again that it had before the removal: the record takes the sixteen bytes that came free
  pub next_length : (Has x.bytes x.size (get_or ns 1 0) → ⊥) → (called E (put_fields ns) x).size ≡ a.size
  next_length new = go (outcome E meets (put_fields ns) x)
    where
      by : (y : After) → called E (put_fields ns) x ≡ y → Put x.bytes x.size freed.sheet r y → (called E (put_fields ns) x).size ≡ a.size
      by y h (replaces has e) =
          absurd (new (subst (λ (id : ℕ). Has x.bytes x.size id) (id_number ns) ((there x.bytes x.size freed.sheet freed.found r.id).0 (has_present id_of r.id freed.sheet.records has))))
      by y h (inserts absent fits few e) = ap (λ (z : After). z.size) (h ∙ e) ∙ freed.shorter

      go : Outcome E meets (put_fields ns) x → (called E (put_fields ns) x).size ≡ a.size
      go (done y f g h d) = by y h (put_done x.bytes x.size freed.sheet freed.found r y g).1
      go (turned_away k p f n h d) = absurd (clash next_put d)
