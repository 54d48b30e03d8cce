-- Edits in turn: after any of them the sheet holds what a plain map from ids to records would hold.
-- Assumes nothing.
use Rattle.std.specs.Prelude.{ℕ, ◌≡◌, refl, true, List, [], ◌∷◌, length}
use Rattle.std.proofs.Common.{ap, ◌∙◌}
use Rattle.sheet.specs.Refusals.{Answer, given, refused}
use Rattle.sheet.specs.laws.RecordExactly.{record_id}
use Rattle.checker.specs.Check.{Sheet}
use Rattle.keyed.specs.Keyed.{rises, lookup, Edit, put, out, map_all, list_after, list_all, Keys}
use Rattle.keyed.specs.laws.MapLaws.{edits}
use Rattle.edit.specs.Edit.{sheet_at, id_of, counting, After, put_in, remove_in}
use Rattle.edit.specs.laws.Taken.{taken_at}
use Rattle.edit.specs.laws.Done.{put_done}
use Rattle.edit_laws.specs.Edits.{holding, edit_in, after_by, after_all, done_by, done_all, AnyEdits}
use Rattle.edit_laws.specs.laws.Outcomes.{holds_its_own, put_sheet, remove_sheet}

-- ---- the law

-- one edit that is done
pub one_edit : (a : After) (t : Sheet) → sheet_at a.bytes a.size ≡ given t → (e : Edit id_of) (x : After) → edit_in e a ≡ given x
    → sheet_at x.bytes x.size ≡ given (holding t.header (list_after id_of e t.records))
unfolding list_after
one_edit a t f (put r) x g = put_sheet a.bytes a.size t f r x g
one_edit a t f (out id) x g = remove_sheet a.bytes a.size t f id x g

-- the sheet after edits holds the records of the list after those that are done
pub held_after : (es : List (Edit id_of)) (a : After) (t : Sheet) → sheet_at a.bytes a.size ≡ given t
    → sheet_at (after_all es a).bytes (after_all es a).size ≡ given (holding t.header (list_all id_of (done_all es a) t.records))
unfolding after_all done_all list_all
held_after [] a t f = f ∙ ap given (holds_its_own a.bytes a.size t f)
held_after (e ∷ es) a t f = go (held_after es) (edit_in e a) refl
  where
    go : ((c : After) (u : Sheet) → sheet_at c.bytes c.size ≡ given u → sheet_at (after_all es c).bytes (after_all es c).size ≡ given (holding u.header (list_all id_of (done_all es c) u.records)))
        → (x : Answer After) → edit_in e a ≡ x
        → sheet_at (after_all es (after_by x a)).bytes (after_all es (after_by x a)).size ≡ given (holding t.header (list_all id_of (done_by x e (done_all es (after_by x a))) t.records))
    go rest (given x) g = rest x (holding t.header (list_after id_of e t.records)) (one_edit a t f e x g)
    go rest (refused k p) g = rest a t f

-- every record that is put in has an id above 0
keys_done : (es : List (Edit id_of)) (a : After) (t : Sheet) → sheet_at a.bytes a.size ≡ given t → Keys id_of (done_all es a)
unfolding done_all
keys_done [] a t f = tt
keys_done (e ∷ es) a t f = go (keys_done es) e (edit_in e a) refl
  where
    go : ((c : After) (u : Sheet) → sheet_at c.bytes c.size ≡ given u → Keys id_of (done_all es c)) → (e : Edit id_of) (x : Answer After) → edit_in e a ≡ x
        → Keys id_of (done_by x e (done_all es (after_by x a)))
    go rest (put r) (given x) g = ((record_id r (put_done a.bytes a.size t f r x g).0).0, rest x (holding t.header (list_after id_of (put r) t.records)) (one_edit a t f (put r) x g))
    go rest (out id) (given x) g = rest x (holding t.header (list_after id_of (out id) t.records)) (one_edit a t f (out id) x g)
    go rest e (refused k p) g = rest a t f

pub any_edits : (es : List (Edit id_of)) (a : After) (t : Sheet) → sheet_at a.bytes a.size ≡ given t → AnyEdits es a t
any_edits es a t f =
    let s = held_after es a t f in
    record {
      sheet = holding t.header (list_all id_of (done_all es a) t.records);
      sound = s;
      header = refl;
      order = (taken_at _ _ _ s).order;
      map = edits id_of (done_all es a) t.records (keys_done es a t f) (taken_at _ _ t f).order;
    }
