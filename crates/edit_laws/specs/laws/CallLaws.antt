-- Any functions that meet the promises of `yard_put` and `yard_remove`, called any number of times: after any calls the sheet holds what a plain map from ids to
-- records would hold.
-- Assumes nothing.
use Rattle.std.specs.Prelude.{ℕ, ◌+◌, ◌*◌, ◌≡◌, Bool}
use Rattle.std.proofs.Math.Path.{refl, ap, subst}
use Rattle.std.proofs.Common.{sym, ap₂, ◌∙◌, arith}
use Rattle.std.proofs.Math.Bool.{true, false, cond}
use mathlib.Core.List.{List, [], ◌∷◌}
use borrow.Author.Tests.{lt-ltb, le-ltb}
use Rattle.sheet.specs.Refusals.{Answer, given, refused}
use Rattle.numbers.specs.From.{record_from}
use Rattle.numbers.specs.laws.Exactly.{record_from_given}
use Rattle.checker.specs.Check.{Sheet}
use Rattle.checker.specs.laws.ThenLaws.{then_given}
use Rattle.keyed.specs.Keyed.{lookup, Edit, map_all, list_all}
use Rattle.edit.specs.Edit.{sheet_at, header_of, id_of, After, put_in, put_numbers_in, remove_in, size_by, bytes_by}
use Rattle.yard.specs.Packed.{number_unit}
use Rattle.yard.specs.Editing.{resized, EditsPacked}
use Rattle.yard.specs.laws.PackedLaws.{Resized}
use Rattle.yard.specs.laws.EditAnswers.{put_resized, remove_resized}
use Rattle.edit_laws.specs.Edits.{holding, edit_in, after_by, after_all, done_by, done_all, AnyEdits}
use Rattle.edit_laws.specs.laws.Sequences.{held_after, any_edits}
use Rattle.edit_laws.specs.Calls.{Call, put_fields, remove_id, Editor, MeetsEditor, Office, MeetsOffice, packing, is_done, answered, called, called_all, edit_of, done_calls, AnyCalls}

-- what a call comes to
abbrev pub comes_to : Call → After → Answer After
comes_to (put_fields ns) a = put_numbers_in a.bytes a.size ns
comes_to (remove_id id) a = remove_in a.bytes a.size id

-- numbers that are put in are the record that they are
as_edit : (c : Call) (a x : After) → comes_to c a ≡ given x → edit_in (edit_of c) a ≡ given x
unfolding put_numbers_in
as_edit (put_fields ns) a x e =
    let h = then_given (header_of a.bytes a.size) _ x e in
    let r = then_given (record_from h.0.count ns) _ x h.2 in
    ap (put_in a.bytes a.size) ((record_from_given ns h.0.count r.0).0 r.1).1 ∙ r.2
as_edit (remove_id id) a x e = e

pub in_range : (c : Call) (a : After) → Resized (size_by (comes_to c a))
in_range (put_fields ns) a = put_resized a.bytes a.size ns
in_range (remove_id id) a = remove_resized a.bytes a.size id

-- ---- one call

module _ (E : Editor) (meets : MeetsEditor E) where
  promised : (c : Call) (a : After) → EditsPacked (comes_to c a) a.bytes (answered E c a) (E.after c a.bytes a.size)
  promised (put_fields ns) a = meets.puts a.bytes a.size ns
  promised (remove_id id) a = meets.removes a.bytes a.size id

  -- a call is done, and leaves what its edit does, or it is refused with a row of the table, and leaves buffer and length
  pub data Outcome (c : Call) (a : After) : Type 0 where
    done : (x : After) → comes_to c a ≡ given x → edit_in (edit_of c) a ≡ given x → called E c a ≡ x → is_done (answered E c a) ≡ true → Outcome c a
    turned_away : (k p : ℕ) → comes_to c a ≡ refused k p → answered E c a ≡ k * number_unit + p → called E c a ≡ a → is_done (answered E c a) ≡ false → Outcome c a

  pub outcome : (c : Call) (a : After) → Outcome c a
  unfolding size_by bytes_by
  outcome c a = go (comes_to c a) refl (in_range c a)
    where
      go : (x : Answer After) → comes_to c a ≡ x → Resized (size_by (comes_to c a)) → Outcome c a
      go (given x) f r =
          let n : answered E c a ≡ x.size = (promised c a).answer ∙ ap (λ (y : Answer After). resized (size_by y)) f in
          let b : E.after c a.bytes a.size ≡ x.bytes = (promised c a).bytes ∙ ap (λ (y : Answer After). bytes_by y a.bytes) f in
          let few = subst (λ (y : Answer After). Resized (size_by y)) f r in
          let yes_done : is_done (answered E c a) ≡ true = lt-ltb (answered E c a) number_unit (omega (arith, n, few)) in
          done x f (as_edit c a x f)
          (ap₂ (λ (m : ℕ) (s : List ℕ). record { size = m; bytes = s }) (ap (λ (t : Bool). cond t (answered E c a) a.size) yes_done ∙ n) b) yes_done
      go (refused k p) f r =
          let n : answered E c a ≡ k * number_unit + p = (promised c a).answer ∙ ap (λ (y : Answer After). resized (size_by y)) f in
          let b : E.after c a.bytes a.size ≡ a.bytes = (promised c a).bytes ∙ ap (λ (y : Answer After). bytes_by y a.bytes) f in
          let row = subst (λ (y : Answer After). Resized (size_by y)) f r in
          let not_done : is_done (answered E c a) ≡ false = le-ltb (answered E c a) number_unit (omega (arith, n, row.some)) in
          turned_away k p f n
          (ap₂ (λ (m : ℕ) (s : List ℕ). record { size = m; bytes = s }) (ap (λ (t : Bool). cond t (answered E c a) a.size) not_done) b) not_done

  -- a refused call leaves every byte of the buffer, and the length
  pub refused_leaves : (c : Call) (a : After) → is_done (answered E c a) ≡ false → called E c a ≡ a
  refused_leaves c a e = go (outcome c a)
    where
      go : Outcome c a → called E c a ≡ a
      go (done x f g h d) = absurd (let z : ◌≡◌ {A = ℕ} 0 1 = ap (λ (t : Bool). cond t 0 1) (sym d ∙ e) in omega arith)
      go (turned_away k p f n h d) = h

  -- ---- calls in turn

  -- they leave what the edits leave that are done, and each of those is done
  pub as_edits : (cs : List Call) (a : After) → (called_all E cs a ≡ after_all (done_calls E cs a) a) × (done_all (done_calls E cs a) a ≡ done_calls E cs a)
  unfolding called_all done_calls after_all done_all
  as_edits [] a = (refl, refl)
  as_edits (c ∷ cs) a = go (outcome c a) (as_edits cs (called E c a))
    where
      y : After
      y = called E c a

      es : List (Edit id_of)
      es = done_calls E cs (called E c a)

      go : Outcome c a → (called_all E cs (called E c a) ≡ after_all (done_calls E cs (called E c a)) (called E c a)) × (done_all (done_calls E cs (called E c a)) (called E c a) ≡ done_calls E cs (called E c a))
          → (called_all E (c ∷ cs) a ≡ after_all (done_calls E (c ∷ cs) a) a) × (done_all (done_calls E (c ∷ cs) a) a ≡ done_calls E (c ∷ cs) a)
      go (done x f g h d) rest =
          let picked : cond (is_done (answered E c a)) (edit_of c ∷ es) es ≡ edit_of c ∷ es = ap (λ (t : Bool). cond t (edit_of c ∷ es) es) d in
          subst (λ (l : List (Edit id_of)). (called_all E cs y ≡ after_all l a) × (done_all l a ≡ l)) (sym picked)
          (subst (λ (z : Answer After). (called_all E cs y ≡ after_all es (after_by z a)) × (done_by z (edit_of c) (done_all es (after_by z a)) ≡ edit_of c ∷ es)) (sym (g ∙ ap given (sym h)))
          (rest.0, ap (λ (l : List (Edit id_of)). edit_of c ∷ l) rest.1))
      go (turned_away k p f n h d) rest =
          let picked : cond (is_done (answered E c a)) (edit_of c ∷ es) es ≡ es = ap (λ (t : Bool). cond t (edit_of c ∷ es) es) d in
          subst (λ (l : List (Edit id_of)). (called_all E cs y ≡ after_all l a) × (done_all l a ≡ l)) (sym picked)
          (subst (λ (z : After). (called_all E cs y ≡ after_all es z) × (done_all es z ≡ es)) h rest)

  -- the records in the sheet afterwards, in a list
  pub held_calls : (cs : List Call) (a : After) (t : Sheet) → sheet_at a.bytes a.size ≡ given t
      → sheet_at (called_all E cs a).bytes (called_all E cs a).size ≡ given (holding t.header (list_all id_of (done_calls E cs a) t.records))
  held_calls cs a t f =
      let s = as_edits cs a in
      ap (λ (x : After). sheet_at x.bytes x.size) s.0
      ∙ held_after (done_calls E cs a) a t f
      ∙ ap (λ (l : List (Edit id_of)). given (holding t.header (list_all id_of l t.records))) s.1

  pub any_calls : (cs : List Call) (a : After) (t : Sheet) → sheet_at a.bytes a.size ≡ given t → AnyCalls E cs a t
  any_calls cs a t f =
      let es = done_calls E cs a in
      let s = as_edits cs a in
      let w : AnyEdits es a t = any_edits es a t f in
      record {
        sheet = w.sheet;
        sound = ap (λ (x : After). sheet_at x.bytes x.size) s.0 ∙ w.sound;
        header = w.header;
        order = w.order;
        map = λ id. w.map id ∙ ap (λ (l : List (Edit id_of)). map_all id_of l (λ j. lookup id_of j t.records) id) s.1;
      }

-- ---- the functions of the crate `edit`

-- packed, they meet the library's promises, so that all this holds of them
pub office_meets : (O : Office) → MeetsOffice O → MeetsEditor (packing O)
office_meets O m = record {
  puts = λ b len ns. record { answer = ap resized (m.puts b len ns).answer; bytes = (m.puts b len ns).bytes };
  removes = λ b len id. record { answer = ap resized (m.removes b len id).answer; bytes = (m.removes b len id).bytes };
}
