-- No other member's verdict changes, over any calls: a record whose id no call that is done is about keeps its four bytes.
-- Assumes nothing.
use Rattle.std.specs.Prelude.{ℕ, ◌*◌, ◌≤◌, ◌<◌, ◌≡◌, List, [], ◌∷◌, length}
use Rattle.std.proofs.Common.{sym, ap, subst, ◌∙◌}
use Rattle.sheet.specs.declared.Record.{Record}
use Rattle.sheet.specs.Refusals.{given}
use Rattle.sheet.specs.laws.RefusalLaws.{given_same}
use Rattle.checker.specs.Check.{four_at, records_part, record_of, Sheet}
use Rattle.keyed.specs.Keyed.{Edit, list_after, list_all}
use Rattle.keyed.specs.laws.Places.{At}
use Rattle.edit.specs.Edit.{sheet_at, id_of, After}
use Rattle.yard.specs.Packed.{Checks}
use Rattle.edit_laws.specs.Edits.{sheet_of, holding}
use Rattle.edit_laws.specs.laws.Verdicts.{keeps, verdict_kept}
use Rattle.edit_laws.specs.Calls.{Call, Editor, MeetsEditor, called_all, done_calls, Untouched}
use Rattle.edit_laws.specs.laws.CallLaws.{held_calls}

-- edits in turn leave what none of them is about
all_keep : (es : List (Edit id_of)) (rs : List Record) (i : ℕ) (q : Record) → Untouched q.id es → At id_of rs i q → (j : ℕ) × At id_of (list_all id_of es rs) j q
unfolding list_all
all_keep [] rs i q n a = (i, a)
all_keep (e ∷ es) rs i q n a = let b = keeps e rs i q n.0 a in all_keep es (list_after id_of e rs) b.0 q n.1 b.1

-- A sheet, edited by any calls, and checked before and after: whatever two outputs have room for the verdicts, and whatever functions meet the promise of
-- `yard_check`. Record i, whose id no call that is done is about, is record j afterwards, and the four bytes of its verdict are those that they were.
module _ (E : Editor) (meets : MeetsEditor E) (cs : List Call) (a : After) (t u : Sheet) (before : sheet_at a.bytes a.size ≡ given t)
    (after : sheet_at (called_all E cs a).bytes (called_all E cs a).size ≡ given u) (o o' : List ℕ) (fits : 4 * t.header.count ≤ length o) (fits' : 4 * u.header.count ≤ length o')
    (n m : ℕ) (v v' : List ℕ) (check : Checks (sheet_of a) o n v) (check' : Checks (sheet_of (called_all E cs a)) o' m v') where
  abbrev us : List Record
  us = list_all id_of (done_calls E cs a) t.records

  is : u ≡ holding t.header us
  is = given_same (sym after ∙ held_calls E meets cs a t before)

  pub untouched_verdicts : (i : ℕ) → i < t.header.count → (q : Record) → record_of (records_part t.header (sheet_of a)) i ≡ given q → Untouched q.id (done_calls E cs a)
      → (j : ℕ) × (j < u.header.count) × (record_of (records_part u.header (sheet_of (called_all E cs a))) j ≡ given q) × (four_at j v' ≡ four_at i v)
  untouched_verdicts i l q f far =
      let room = subst (λ (w : Sheet). 4 * w.header.count ≤ length o') is fits' in
      let k = verdict_kept a t before (called_all E cs a) us (held_calls E meets cs a t before) o o' fits room i l q f (all_keep (done_calls E cs a) t.records i q far) in (
        k.0,
        subst (λ (w : Sheet). k.0 < w.header.count) (sym is) k.1,
        subst (λ (w : Sheet). record_of (records_part w.header (sheet_of (called_all E cs a))) k.0 ≡ given q) (sym is) k.2,
        ap (four_at k.0) check'.bytes ∙ k.3 ∙ sym (ap (four_at i) check.bytes),
      )
