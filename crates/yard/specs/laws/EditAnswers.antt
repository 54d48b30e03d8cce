-- Every answer of an edit is within the ranges in which no two have the same number.
-- Assumes nothing.
use Rattle.std.specs.Prelude.{ℕ, ◌+◌, ◌*◌, ◌≤◌, ◌≡◌, refl, Bool, true, false, cond, List, length, take, leb, eqb}
use Rattle.std.proofs.Math.Path.{ap}
use Rattle.std.proofs.Common.{arith}
use Rattle.sheet.specs.declared.Header.{Header}
use Rattle.sheet.specs.declared.Record.{Record}
use Rattle.sheet.specs.Versions.{most_records, longest_sheet}
use Rattle.sheet.specs.laws.VersionLaws.{regular}
use Rattle.sheet.specs.Refusals.{Answer, given, refused, record_refused}
use Rattle.sheet.specs.laws.RefusalLaws.{given_same}
use Rattle.sheet.specs.Record.{record_fault}
use Rattle.numbers.specs.From.{record_of_numbers, record_numbers_fault, record_from}
use Rattle.numbers.specs.laws.Back.{record_numbers_same}
use Rattle.checker.specs.Check.{◌then◌, demand, Sheet, sheet_in}
use Rattle.checker.specs.laws.ThenLaws.{then_given}
use Rattle.checker.specs.Rows.{Row, RefusedBy, Refusable}
use Rattle.checker.specs.laws.Bounds.{then_told, demand_told, told_also, sheet_told}
use Rattle.checker.specs.Unjudged.{room, sound_sheet}
use Rattle.keyed.specs.Keyed.{position_of, has_of}
use Rattle.edit.specs.Edit.{sheet_at, header_of, id_of, counting, replacing, inserting, After, has_room, placing, put_in, put_numbers_in, remove_in, size_by}
use Rattle.edit.specs.laws.Taken.{taken_at}
use Rattle.edit.specs.laws.Done.{Put, replaces, inserts, put_done, remove_done}
use Rattle.yard.specs.laws.PackedLaws.{EditRow, Resized}
use Rattle.yard.specs.laws.Answers.{record_numbers_most}

-- ---- refusals

-- every refusal is a row
abbrev Rowed : {A : Type 0} → Answer A → Type 0
Rowed x = RefusedBy EditRow x

-- the table's own are
of_table : {A : Type 0} (x : Answer A) → Refusable x → Rowed x
of_table x t = told_also Row EditRow x (λ k p r. record { some = r.some; last = omega (arith, r.last); inside = omega (arith, r.inside) }) t

demand_rowed : (t : Bool) (k : ℕ) → 1 ≤ k → k ≤ 11 → Rowed (demand t k)
demand_rowed t k l m = demand_told EditRow t k (record { some = l; last = m; inside = omega arith })

-- 6 and 7 on a record that is not in the sheet yet, and so may be one more than the most
record_rowed : {A : Type 0} (i f : ℕ) (x : Answer A) → i ≤ most_records → f ≤ 13 → Rowed x → Rowed (record_refused i f x)
record_rowed i f x l m r = go (eqb f 0) (eqb f 1)
  where
    go : (s t : Bool) → Rowed (cond s x (cond t (refused 6 i) (refused 7 (32 * i + f))))
    go true t = r
    go false true = record { some = omega arith; last = omega arith; inside = omega arith }
    go false false = record { some = omega arith; last = omega arith; inside = omega arith }

module _ (b : List ℕ) (len : ℕ) where
  sheet_rowed : Rowed (sheet_at b len)
  unfolding sheet_at sound_sheet
  sheet_rowed =
      then_told EditRow (demand (leb len (length b)) 1) (λ u. sheet_in (take len b) room) (demand_rowed (leb len (length b)) 1 (omega arith) (omega arith))
      (λ u e. of_table (sheet_in (take len b) room) (sheet_told (take len b) room))

  few : (t : Sheet) → sheet_at b len ≡ given t → t.header.count ≤ most_records
  few t e = omega (arith, (taken_at b len t e).few, (regular t.header.own).few)

  -- the header is that of a sheet that is taken
  header_few : (h : Header) → header_of b len ≡ given h → h.count ≤ most_records
  unfolding header_of
  header_few h e =
      let s = then_given (sheet_at b len) _ h e in
      omega (arith, few s.0 s.1, ap (λ (g : Header). g.count) (given_same s.2))

  header_rowed : Rowed (header_of b len)
  unfolding header_of
  header_rowed = then_told EditRow (sheet_at b len) (λ t. given t.header) sheet_rowed (λ t e. tt)

  placing_rowed : (t : Sheet) (r : Record) → Rowed (placing t b len r)
  unfolding placing
  placing_rowed t r = go (has_of id_of r.id t.records)
    where
      h : Header
      h = t.header

      i : ℕ
      i = position_of id_of r.id t.records

      go : (has : Bool) → Rowed {A = After} (cond has (given (record { size = len; bytes = replacing h i r b }))
          (demand (has_room h len (length b)) 11 then λ u. given (record { size = len + 16; bytes = inserting (counting (h.count + 1) h) i len r b })))
      go true = tt
      go false = then_told EditRow (demand (has_room h len (length b)) 11) _ (demand_rowed (has_room h len (length b)) 11 (omega arith) (omega arith)) (λ u e. tt)

  -- a sound record
  put_rowed : (r : Record) → record_fault r 0 ≡ 0 → Rowed (put_in b len r)
  unfolding put_in
  put_rowed r z =
      then_told EditRow (sheet_at b len) (λ t. record_refused t.header.count (record_fault r 0) (given (tt {0})) then λ u. placing t b len r) sheet_rowed
      (λ t e. then_told EditRow (record_refused t.header.count (record_fault r 0) (given (tt {0}))) (λ u. placing t b len r)
      (record_rowed t.header.count (record_fault r 0) (given (tt {0})) (few t e) (omega arith) tt) (λ u f. placing_rowed t r))

  numbers_rowed : (ns : List ℕ) → Rowed (put_numbers_in b len ns)
  unfolding put_numbers_in record_from
  numbers_rowed ns =
      then_told EditRow (header_of b len) (λ h. record_from h.count ns then λ r. put_in b len r) header_rowed
      (λ h e. then_told EditRow (record_from h.count ns) (λ r. put_in b len r)
      (record_rowed h.count (record_numbers_fault ns) (given (record_of_numbers ns)) (header_few h e) (record_numbers_most ns) tt)
      (λ r f. put_rowed r (record_numbers_same h.count ns r f).0))

  remove_rowed : (id : ℕ) → Rowed (remove_in b len id)
  unfolding remove_in
  remove_rowed id =
      then_told EditRow (sheet_at b len) _ sheet_rowed
      (λ t e. then_told EditRow (demand (has_of id_of id t.records) 10) _ (demand_rowed (has_of id_of id t.records) 10 (omega arith) (omega arith)) (λ u f. tt))

-- ---- lengths

-- no sheet is longer than the longest, and an edit that is done leaves one
sheet_most : (b : List ℕ) (len : ℕ) (t : Sheet) → sheet_at b len ≡ given t → len ≤ longest_sheet
sheet_most b len t e = let k = taken_at b len t e in omega (arith, k.whole, k.few, (regular t.header.own).short)

put_most : (b : List ℕ) (len : ℕ) (r : Record) (a : After) → put_in b len r ≡ given a → a.size ≤ longest_sheet
unfolding put_in
put_most b len r a e =
    let s = then_given (sheet_at b len) _ a e in
    go s.0 s.1 (put_done b len s.0 s.1 r a e).1
  where
    go : (t : Sheet) → sheet_at b len ≡ given t → Put b len t r a → a.size ≤ longest_sheet
    go t f (replaces has g) = omega (arith, sheet_most b len t f, ap (λ (x : After). x.size) g)
    go t f (inserts new fits few g) = omega (arith, (taken_at b len t f).whole, few, (regular t.header.own).short, ap (λ (x : After). x.size) g)

numbers_most : (b : List ℕ) (len : ℕ) (ns : List ℕ) (a : After) → put_numbers_in b len ns ≡ given a → a.size ≤ longest_sheet
unfolding put_numbers_in
numbers_most b len ns a e =
    let h = then_given (header_of b len) _ a e in
    let r = then_given (record_from h.0.count ns) _ a h.2 in
    put_most b len r.0 a r.2

remove_most : (b : List ℕ) (len id : ℕ) (a : After) → remove_in b len id ≡ given a → a.size ≤ longest_sheet
unfolding remove_in
remove_most b len id a e =
    let s = then_given (sheet_at b len) _ a e in
    omega (arith, sheet_most b len s.0 s.1, ap (λ (x : After). x.size) (remove_done b len s.0 s.1 id a e).after)

-- ---- both

ranged : (x : Answer After) → Rowed x → ((a : After) → x ≡ given a → a.size ≤ longest_sheet) → Resized (size_by x)
unfolding size_by
ranged (given a) r h = h a refl
ranged (refused k p) r h = r

pub put_resized : (b : List ℕ) (len : ℕ) (ns : List ℕ) → Resized (size_by (put_numbers_in b len ns))
put_resized b len ns = ranged (put_numbers_in b len ns) (numbers_rowed b len ns) (numbers_most b len ns)

pub remove_resized : (b : List ℕ) (len id : ℕ) → Resized (size_by (remove_in b len id))
remove_resized b len id = ranged (remove_in b len id) (remove_rowed b len id) (remove_most b len id)
