-- The cases in which an edit of a sheet that is not turned away is done, and that the sheet is in the buffer then.
-- Assumes nothing.
use Prim.Native.Nat.{ℕ, ◌+◌, ◌-◌, ◌*◌, ◌≤◌, ◌<◌}
use Rattle.std.specs.Prelude.{◌≡◌, Bool, true, false, cond, List, length, leb, ltb}
use Rattle.std.proofs.Math.Path.{refl, sym, ap}
use Rattle.std.proofs.Common.{◌∙◌, leb-true, ltb-true}
use Rattle.truth.specs.laws.Tests.{both}
use Rattle.keyed.specs.Keyed.{position_of, has_of}
use Rattle.sheet.specs.declared.Header.{Header}
use Rattle.sheet.specs.declared.Record.{Record}
use Rattle.sheet.specs.Refusals.{given, record_refused}
use Rattle.sheet.specs.laws.RefusalLaws.{given_same, by_none}
use Rattle.sheet.specs.Record.{record_fault}
use Rattle.checker.specs.Check.{◌then◌, demand, Sheet}
use Rattle.checker.specs.laws.ThenLaws.{then_given, demand_given}
use Rattle.edit.specs.Edit.{sheet_at, highest, id_of, counting, replacing, inserting, removing, After, has_room, placing, put_in, remove_in}

module _ (b : List ℕ) (len : ℕ) (t : Sheet) where
  abbrev h : Header
  h = t.header

  abbrev n : ℕ
  n = h.count

  -- a record put in: it has no fault, and replaces the one with its id, or goes in at its place
  pub data Put (r : Record) (a : After) : Type 0 where
    replaces : has_of id_of r.id t.records ≡ true → a ≡ record { size = len; bytes = replacing t.header (position_of id_of r.id t.records) r b } → Put r a
    inserts : has_of id_of r.id t.records ≡ false → len + 16 ≤ length b → t.header.count < highest t.header
        → a ≡ record { size = len + 16; bytes = inserting (counting (t.header.count + 1) t.header) (position_of id_of r.id t.records) len r b } → Put r a

  -- a record taken out: one has the id
  pub record Removed (id : ℕ) (a : After) : Type 0 where
    pub there : has_of id_of id t.records ≡ true
    pub after : a ≡ record { size = len - 16; bytes = removing (counting (t.header.count - 1) t.header) (position_of id_of id t.records) len b }

  placed : (r : Record) (a : After) → placing t b len r ≡ given a → Put r a
  unfolding placing
  placed r a e = go (has_of id_of r.id t.records) refl e
    where
      i : ℕ
      i = position_of id_of r.id t.records

      go : (has : Bool) → has_of id_of r.id t.records ≡ has
          → cond has (given (record { size = len; bytes = replacing h i r b }))
          (demand (has_room h len (length b)) 11 then λ u. given (record { size = len + 16; bytes = inserting (counting (t.header.count + 1) t.header) i len r b }))
          ≡ given a → Put r a
      go true f g = replaces f (sym (given_same g))
      go false f g =
          let d = then_given (demand (has_room h len (length b)) 11) _ a g in
          let m = both (leb (len + 16) (length b)) (ltb n (highest h)) (demand_given (has_room h len (length b)) 11 d.0 d.1) in
          inserts f (leb-true (len + 16) (length b) m.0) (ltb-true n (highest h) m.1) (sym (given_same d.2))

  module _ (found : sheet_at b len ≡ given t) where
    pub put_done : (r : Record) (a : After) → put_in b len r ≡ given a → (record_fault r 0 ≡ 0) × Put r a
    unfolding put_in
    put_done r a e =
        let s = then_given (sheet_at b len) _ a e in
        let same : s.0 ≡ t = given_same (sym s.1 ∙ found) in
        let f = then_given (record_refused s.0.header.count (record_fault r 0) (given (tt {0}))) _ a s.2 in
        let m = s.0.header.count in
        ((by_none 6 m 7 (λ k. 32 * m + k) (record_fault r 0) (tt {0}) f.0 f.1).0, placed r a (ap (λ (u : Sheet). placing u b len r) (sym same) ∙ f.2))

    pub remove_done : (id : ℕ) (a : After) → remove_in b len id ≡ given a → Removed id a
    unfolding remove_in
    remove_done id a e =
        let s = then_given (sheet_at b len) _ a e in
        let same : s.0 ≡ t = given_same (sym s.1 ∙ found) in
        let d = then_given (demand (has_of id_of id s.0.records) 10) _ a s.2 in
        record {
          there = ap (λ (u : Sheet). has_of id_of id u.records) (sym same) ∙ demand_given (has_of id_of id s.0.records) 10 d.0 d.1;
          after = sym (given_same d.2)
              ∙ ap (λ (u : Sheet). record { size = len - 16; bytes = removing (counting (u.header.count - 1) u.header) (position_of id_of id u.records) len b }) same;
        }
