-- The lines of records put one after another: those left, behind the bytes that are there, make what all of them make.
-- Assumes nothing.
use Rattle.std.specs.Prelude.{Option, Some, None, Result, Ok, Err}
use Prim.Native.Nat.{ℕ, ◌+◌, ◌-◌, ◌≤◌}
use mathlib.Core.Path.{◌≡◌, refl, sym, ap, subst, ◌∙◌}
use mathlib.Core.Logic.{inl, ⊎_elim}
use mathlib.Core.Bool.{Bool, true, false, cond}
use mathlib.Core.List.{List, [], ◌++◌, append-nil, append_assoc}
use native.Mathlib.Omega.{arith}
use lib.ListN.{length, take, drop, length-drop, length-append}
use lib.Seq.{take_all, take-take, length-take-le}
use lib.Dec.{leb}
use borrow.Author.Tests.{leb-true}
use borrow.Rule.Slice.PartMut.{mid_of, put_mid}
use Rattle.layout.specs.laws.Tail.{mid_tail, put_tail}
use Rattle.decimal.specs.Put.{put_count, put_on, Puts}
use Rattle.sheet.specs.declared.Refusal.{Refusal}
use Rattle.sheet.specs.Refusals.{Answer, given, refused}
use Rattle.filling.specs.Filling.{line_left, lines_left}
use Rattle.rows.specs.declared.Row.{Row}
use Rattle.rows.specs.Rows.{header_row, record_row, told_row, shown}
use Rattle.checker.specs.Check.{◌then◌}
use Rattle.sheet_csv.specs.Read.{next_line, records_made, sheet_made}
use Rattle.sheet_csv.specs.Steps.{draft_size, Held, PutsBehind, Fills}
use Rattle.sheet_csv.specs.laws.ReadLaws.{sheet_by_row, header_twenty, in_front, nothing_in_front, given_in_front, refused_in_front, records_by_row, record_sixteen, Goes, Stops, row_more, row_last, row_refused}
use Rattle.sheet_csv.specs.laws.HeldLaws.{held_first, held_more}

-- ---- a part that goes to the end of the draft

count_most : (b o : List ℕ) → put_count b o ≤ length o
unfolding put_count
count_most b o = go (leb (length b) (length o)) refl
  where
    go : (t : Bool) → leb (length b) (length o) ≡ t → cond t (length b) 0 ≤ length o
    go true e = leb-true (length b) (length o) e
    go false e = omega arith

module _ (b draft : List ℕ) (end n : ℕ) (part : List ℕ) (inside : end ≤ length draft) (p : Puts b (mid_of end (length draft - end) draft) n part) where
  pub put_behind : PutsBehind b draft end (end + n) (put_mid end (length draft - end) draft part)
  put_behind =
      record {
        place = ap (λ (k : ℕ). end + k) (p.count ∙ ap (put_count b) (mid_tail end draft));
        bytes = put_tail end draft part inside ∙ ap (λ (t : List ℕ). take end draft ++ t) (p.bytes ∙ ap (put_on b) (mid_tail end draft));
      }

  pub put_inside : end + n ≤ length draft
  put_inside = omega (arith, put_behind.place, count_most b (drop end draft), length-drop end draft)

-- ---- the records

-- the lines from `here` on are left, of which the first has the place p
pub record Filling (whole : Answer (List ℕ)) (front : List ℕ) (filled : Bool) (s : List ℕ) (p here end : ℕ) (draft : List ℕ) : Type 0 where
  pub made : List ℕ
  pub held : Held (front ++ made) end draft
  pub size : length draft ≡ draft_size
  pub rest : whole ≡ (records_made p (lines_left filled s here) then λ bs. given (made ++ bs))

pub begin : (filled : Bool) (s : List ℕ) (at head : ℕ) (draft : List ℕ) → head ≤ length draft → length draft ≡ draft_size → Filling (records_made 2 (lines_left filled s at)) (take head draft) filled s 2 at head draft
begin filled s at head draft l e =
    record {
      made = [];
      held = record {
        front = sym (take-take head head draft (omega arith)) ∙ ap (take head) (sym (append-nil (take head draft)));
        inside = l;
        within = omega (arith, length-append (take head draft) [], length-take-le head draft l);
        much = inl (sym (length-append (take head draft) [] ∙ ap (λ (k : ℕ). k + 0) (length-take-le head draft l) ∙ omega arith));
      };
      size = e;
      rest = nothing_in_front (records_made 2 (lines_left filled s at));
    }

module _ (whole : Answer (List ℕ)) (front : List ℕ) (filled : Bool) (s : List ℕ) (p here end : ℕ) (draft : List ℕ) (f : Filling whole front filled s p here end draft)
    (r : Row) (shows : told_row (Ok r) ≡ shown (record_row p (line_left filled s here))) where
  -- the line has another behind it
  pub on : (n : ℕ) → r.next ≡ Some n → Goes (records_made (next_line p)) (records_made p (lines_left filled s here)) filled s here r (record_row p (line_left filled s here)) shows (records_by_row p filled s here) n
  on n e = row_more (records_made (next_line p)) (records_made p (lines_left filled s here)) filled s here r (record_row p (line_left filled s here)) shows (records_by_row p filled s here) n e

  pub ends : r.next ≡ None → Stops (records_made (next_line p)) (records_made p (lines_left filled s here)) filled s here r (record_row p (line_left filled s here)) shows (records_by_row p filled s here)
  ends e = row_last (records_made (next_line p)) (records_made p (lines_left filled s here)) filled s here r (record_row p (line_left filled s here)) shows (records_by_row p filled s here) e

  pub go_on : (n : ℕ) → r.next ≡ Some n → (next : ℕ) (after : List ℕ) → PutsBehind (take r.size r.bytes) draft end next after → (q : ℕ) → q ≡ next_line p → Filling whole front filled s q n next after
  go_on n e next after u q z =
      let g = on n e in
      let b = g.made in
      let v : PutsBehind b draft end next after = subst (λ (x : List ℕ). PutsBehind x draft end next after) g.bytes.front u in
      let h = held_more (front ++ f.made) b draft end next after f.held f.size (record_sixteen p (line_left filled s here) _ g.line) v in
      record {
        made = f.made ++ b;
        held = subst (λ (x : List ℕ). Held x next after) (append_assoc front f.made b) h.0;
        size = h.1;
        rest = f.rest ∙ ap (λ (x : Answer (List ℕ)). x then λ cs. given (f.made ++ cs)) g.rest ∙ in_front (records_made (next_line p) (lines_left filled s n)) f.made b
            ∙ ap (λ (k : ℕ). records_made k (lines_left filled s n) then λ bs. given ((f.made ++ b) ++ bs)) (sym z);
      }

  pub finish : r.next ≡ None → (next : ℕ) (after : List ℕ) → PutsBehind (take r.size r.bytes) draft end next after → Fills whole front (Ok next) after
  finish e next after u =
      let g = ends e in
      let b = g.made in
      let v : PutsBehind b draft end next after = subst (λ (x : List ℕ). PutsBehind x draft end next after) g.bytes.front u in
      let h = held_more (front ++ f.made) b draft end next after f.held f.size (record_sixteen p (line_left filled s here) _ g.line) v in
      subst (λ (x : Answer (List ℕ)). Fills x front (Ok next) after) (sym (f.rest ∙ given_in_front (records_made p (lines_left filled s here)) f.made b g.rest))
      (subst (λ (x : List ℕ). Held x next after) (append_assoc front f.made b) h.0)

pub turned_away : (whole : Answer (List ℕ)) (front : List ℕ) (filled : Bool) (s : List ℕ) (p here end : ℕ) (draft : List ℕ) → Filling whole front filled s p here end draft
    → (x : Refusal) → told_row (Err x) ≡ shown (record_row p (line_left filled s here)) → Fills whole front (Err x) draft
turned_away whole front filled s p here end draft f x shows =
    let g = row_refused (records_made (next_line p)) (records_made p (lines_left filled s here)) filled s here (record_row p (line_left filled s here)) x shows (records_by_row p filled s here) in
    subst (λ (y : Answer (List ℕ)). Fills y front (Err x) draft) (sym (f.rest ∙ refused_in_front (records_made p (lines_left filled s here)) f.made _ _ g)) refl

-- ---- the header

-- what is filled behind the header's bytes is filled from the front
behind : (x : Answer (List ℕ)) (front : List ℕ) (m : Result ℕ Refusal) (draft : List ℕ) → Fills x front m draft → Fills (x then λ bs. given (front ++ bs)) [] m draft
unfolding ◌then◌
behind (given b) front (Err x) draft f = elim f [ ]
behind (refused k p) front (Ok end) draft f = elim f [ ]
behind (given b) front (Ok end) draft f = f
behind (refused k p) front (Err x) draft f = f

module _ (filled : Bool) (s draft : List ℕ) (size : length draft ≡ draft_size) (r : Row) (shows : told_row (Ok r) ≡ shown (header_row 1 (line_left filled s 0))) where
  pub head_on : (n : ℕ) → r.next ≡ Some n → Goes (records_made 2) (sheet_made (lines_left filled s 0)) filled s 0 r (header_row 1 (line_left filled s 0)) shows (sheet_by_row filled s) n
  head_on n e = row_more (records_made 2) (sheet_made (lines_left filled s 0)) filled s 0 r (header_row 1 (line_left filled s 0)) shows (sheet_by_row filled s) n e

  pub head_ends : r.next ≡ None → Stops (records_made 2) (sheet_made (lines_left filled s 0)) filled s 0 r (header_row 1 (line_left filled s 0)) shows (sheet_by_row filled s)
  head_ends e = row_last (records_made 2) (sheet_made (lines_left filled s 0)) filled s 0 r (header_row 1 (line_left filled s 0)) shows (sheet_by_row filled s) e

  pub head_alone : r.next ≡ None → (next : ℕ) (after : List ℕ) → PutsBehind (take r.size r.bytes) draft 0 next after → Fills (sheet_made (lines_left filled s 0)) [] (Ok next) after
  head_alone e next after u =
      let g = head_ends e in
      let small = header_twenty 1 (line_left filled s 0) _ g.line in
      let v : PutsBehind g.made draft 0 next after = subst (λ (x : List ℕ). PutsBehind x draft 0 next after) g.bytes.front u in
      subst (λ (x : Answer (List ℕ)). Fills x [] (Ok next) after) (sym g.rest) (held_first g.made draft next after (omega arith) v).0

  module _ (n : ℕ) (e : r.next ≡ Some n) (next : ℕ) (after : List ℕ) (u : PutsBehind (take r.size r.bytes) draft 0 next after) where
    held : Held (head_on n e).made next after × (length after ≡ length draft)
    held =
        let g = head_on n e in
        held_first g.made draft next after (omega (arith, header_twenty 1 (line_left filled s 0) _ g.line)) (subst (λ (x : List ℕ). PutsBehind x draft 0 next after) g.bytes.front u)

    pub head_room : (length after ≡ draft_size) × (next ≤ length after)
    head_room = (held.1 ∙ size, held.0.inside)

    pub head_and_records : (m : Result ℕ Refusal) (done : List ℕ) → Fills (records_made 2 (lines_left filled s n)) (take next after) m done → Fills (sheet_made (lines_left filled s 0)) [] m done
    head_and_records m done f =
        let g = head_on n e in
        let small = header_twenty 1 (line_left filled s 0) _ g.line in
        let front : take next after ≡ g.made = held.0.front ∙ take_all next g.made (⊎_elim (λ h. omega arith) (λ h. absurd (omega (arith, held.0.within))) held.0.much) in
        subst (λ (x : Answer (List ℕ)). Fills x [] m done) (sym g.rest) (behind (records_made 2 (lines_left filled s n)) g.made m done (subst (λ (x : List ℕ). Fills (records_made 2 (lines_left filled s n)) x m done) front f))

pub head_refused : (filled : Bool) (s draft : List ℕ) (x : Refusal) → told_row (Err x) ≡ shown (header_row 1 (line_left filled s 0)) → Fills (sheet_made (lines_left filled s 0)) [] (Err x) draft
head_refused filled s draft x shows =
    subst (λ (y : Answer (List ℕ)). Fills y [] (Err x) draft)
    (sym (row_refused (records_made 2) (sheet_made (lines_left filled s 0)) filled s 0 (header_row 1 (line_left filled s 0)) x shows (sheet_by_row filled s))) refl

-- an answer that is passed on fills what it filled
pub fills_on : (a : Answer (List ℕ)) (front draft : List ℕ) {r q : Result ℕ Refusal} → r ≡ q → Fills a front q draft → Fills a front r draft
fills_on a front draft e f = subst (λ (x : Result ℕ Refusal). Fills a front x draft) (sym e) f
