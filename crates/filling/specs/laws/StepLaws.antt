-- The fields of a row without its filling counted one after another, and its numbers.
-- Assumes nothing.
use Rattle.std.specs.Prelude.{ℕ, zero, suc, ◌+◌, ◌≤◌, ◌<◌, ◌≡◌, Bool, ◌&&◌, List, [], ◌∷◌, ◌++◌, eqb, get_or, drop}
use Rattle.std.proofs.Math.Path.{refl, sym, ap, ap₂, subst}
use Rattle.std.proofs.Common.{◌∙◌, arith, add-one, take-append-drop, drop_of_length-le, drop-cons}
use Rattle.std.proofs.Math.Bool.{true, false, cond}
use Rattle.std.proofs.Math.ListN.{length, take}
use Rattle.fields.specs.Number.{number_of}
use Rattle.fields.specs.Marks.{Marks, feeds, after_feed, seen, seen_at, outside, marks_at}
use Rattle.fields.specs.declared.Seen.{Seen}
use Rattle.fields.specs.declared.Seen.TheVariants.{End, Comma, Line, Skip, Quote, Data}
use Rattle.fields.specs.Field.{field_of, field_at}
use Rattle.fields.specs.laws.First.{prefix, First, comma, line, end, fault, first, field_prefix}
use Rattle.fields.specs.declared.Num.{Num}
use Rattle.fields.specs.declared.Num.TheVariants.{Empty}
use Rattle.fields.specs.declared.Field.{Field}
use Rattle.fields.specs.declared.Place.TheVariants.{Start}
use Rattle.text.specs.declared.LineEnd.{LineEnd}
use Rattle.text.specs.declared.LineEnd.TheVariants.{More, Last, Fault}
use Rattle.text.specs.Line.{Numbers, behind, line_of, line_at, over}
use Rattle.text.specs.laws.LineLaws.{line_prefix}
use Rattle.text.specs.laws.LinesLaws.{value_in}
use Rattle.filling.specs.Filling.{blank_by, blank, line_left}
use Rattle.filling.specs.laws.RowLaws.{alone, which, closes, closes_prefix, comma_blank, last_blank, fault_blank, left_comma, left_line, left_end, left_fault}

-- ---- how many fields

-- the fields of a row without its filling: so many were passed, and without the blank ones before `here` so many
abbrev pub counted : List ℕ → (here passed kept : ℕ) → ℕ
counted s here passed kept = cond (blank false (drop here s)) kept (passed + length (line_left true s here).values)

-- whether the field that starts at a place is empty without quotes
abbrev pub empty_at : List ℕ → ℕ → Bool
empty_at s here = blank_by true (seen_at (drop here s)) true

no : ◌≡◌ {A = ℕ} 0 1 → ⊥
no z = omega arith

module _ (s : List ℕ) (here : ℕ) where
  field_is : (bs : List ℕ) (m : Marks) → marks_at s here ≡ prefix bs m → field_at s here ≡ field_of m (number_of bs)
  unfolding field_at
  field_is bs m e = ap (λ (k : Marks). field_of k Empty) e ∙ field_prefix bs m Empty

  ends_so : (bs : List ℕ) (m : Marks) → marks_at s here ≡ prefix bs m → closes (outside (drop here s) here Start) ≡ closes m
  unfolding marks_at
  ends_so bs m e = ap closes e ∙ closes_prefix bs m

  -- past a comma
  pub record Passes (next : ℕ) : Type 0 where
    pub on : here < next
    pub within : next ≤ length s
    pub end : (line_left true s here).end ≡ (line_left true s next).end
    pub count : (passed kept : ℕ) → counted s here passed kept ≡ counted s next (passed + 1) (cond (empty_at s here) kept (passed + 1))

  passes : (bs : List ℕ) (next : ℕ) → here < next → next ≤ length s → marks_at s here ≡ prefix bs (Marks.comma next (marks_at s next)) → Passes next
  unfolding marks_at
  passes bs next o l e =
      let left = left_comma s here bs next e in
      let blanks : blank false (drop here s) ≡ (empty_at s here && blank false (drop next s)) = comma_blank false s (drop here s) here bs next _ refl e in
      record {
        on = o;
        within = l;
        end = ap (λ (x : Numbers). x.end) left ∙ ends (blank false (drop next s));
        count = λ passed kept. ap₂ (λ (t : Bool) (x : Numbers). cond t kept (passed + length x.values)) blanks left ∙ counts (empty_at s here) (blank false (drop next s)) passed kept;
      }
    where
      ends : (t : Bool) → (cond t (alone (number_of bs) (line_left true s next).end) (behind (value_in bs) (line_left true s next))).end ≡ (line_left true s next).end
      ends true = refl
      ends false = refl

      counts : (o t : Bool) (passed kept : ℕ)
          → cond (o && t) kept (passed + length (cond t (alone (number_of bs) (line_left true s next).end) (behind (value_in bs) (line_left true s next))).values)
          ≡ cond t (cond o kept (passed + 1)) (passed + 1 + length (line_left true s next).values)
      counts true true passed kept = refl
      counts false true passed kept = refl
      counts true false passed kept = omega arith
      counts false false passed kept = omega arith

  pub at_comma : (v : Num) (next : ℕ) → field_at s here ≡ Field.Comma v next → Passes next
  unfolding field_of
  at_comma v next e = go (first s here)
    where
      go : First s here → Passes next
      go (comma bs k o l f) =
          let c : Field.Comma (number_of bs) k ≡ Field.Comma v next = sym (field_is bs _ f) ∙ e in
          let i : k ≡ next = cc in
          subst Passes i (passes bs k o l f)
      go (line bs k o l f) = absurd (no (let a = field_is bs _ f in cc))
      go (end bs f) = absurd (no (let a = field_is bs _ f in cc))
      go (fault bs f) = absurd (no (let a = field_is bs _ f in cc))

  -- at the row's end
  pub record Ends (e : LineEnd) : Type 0 where
    pub end : (line_left true s here).end ≡ e
    pub count : (passed kept : ℕ) → counted s here passed kept ≡ cond (empty_at s here) kept (passed + 1)

  row_ends : (n : Num) (e : LineEnd) → line_left true s here ≡ alone n e → 2 ≤ closes (outside (drop here s) here Start) → Ends e
  row_ends n e f c =
      record {
        end = ap (λ (x : Numbers). x.end) f;
        count = λ passed kept. ap₂ (λ (t : Bool) (x : Numbers). cond t kept (passed + length x.values)) (last_blank (drop here s) here c) f;
      }

  pub at_line : (v : Num) (next : ℕ) → field_at s here ≡ Field.Line v next → Ends (cond (blank true (drop next s)) Last (More next))
  unfolding field_of
  at_line v next e = go (first s here)
    where
      go : First s here → Ends (cond (blank true (drop next s)) Last (More next))
      go (comma bs k o l f) = absurd (no (let a = field_is bs _ f in cc))
      go (line bs k o l f) =
          let c : Field.Line (number_of bs) k ≡ Field.Line v next = sym (field_is bs _ f) ∙ e in
          let i : k ≡ next = cc in
          subst (λ (x : ℕ). Ends (cond (blank true (drop x s)) Last (More x))) i (row_ends (number_of bs) _ (left_line s here bs k f) (omega (arith, ends_so bs _ f)))
      go (end bs f) = absurd (no (let a = field_is bs _ f in cc))
      go (fault bs f) = absurd (no (let a = field_is bs _ f in cc))

  pub at_end : (v : Num) → field_at s here ≡ Field.End v → Ends Last
  unfolding field_of
  at_end v e = go (first s here)
    where
      go : First s here → Ends Last
      go (comma bs k o l f) = absurd (no (let a = field_is bs _ f in cc))
      go (line bs k o l f) = absurd (no (let a = field_is bs _ f in cc))
      go (end bs f) = row_ends (number_of bs) _ (left_end s here bs f) (omega (arith, ends_so bs _ f))
      go (fault bs f) = absurd (no (let a = field_is bs _ f in cc))

  -- in a fault
  pub record Breaks : Type 0 where
    pub end : (line_left true s here).end ≡ Fault
    pub count : (passed kept : ℕ) → counted s here passed kept ≡ passed

  pub at_fault : field_at s here ≡ Field.Fault → Breaks
  unfolding field_of
  at_fault e = go (first s here)
    where
      go : First s here → Breaks
      go (comma bs k o l f) = absurd (no (let a = field_is bs _ f in cc))
      go (line bs k o l f) = absurd (no (let a = field_is bs _ f in cc))
      go (end bs f) = absurd (no (let a = field_is bs _ f in cc))
      go (fault bs f) =
          let g = left_fault s here bs f in
          record {
            end = ap (λ (x : Numbers). x.end) g;
            count = λ passed kept. ap₂ (λ (t : Bool) (x : Numbers). cond t kept (passed + length x.values)) (fault_blank false (drop here s) here (ends_so bs _ f)) g ∙ omega arith;
          }

-- ---- nothing but filling

-- at the text's end nothing is left
end_rest : (b : ℕ) (t : List ℕ) → seen b t ≡ End → blank true t ≡ true
unfolding blank
end_rest b t e = go (eqb b 44) (eqb b 34) (eqb b 10) (eqb b 13 && feeds t) (ap which e)
  where
    after : (v : List ℕ) → which (after_feed v) ≡ 0 → blank true v ≡ true
    after [] z = refl
    after (d ∷ v) z = absurd (omega arith)

    go : (x y z w : Bool) → which (cond x Comma (cond y Quote (cond z (after_feed t) (cond w Skip (Data b))))) ≡ 0 → blank true t ≡ true
    go true y z w u = absurd (omega arith)
    go false true z w u = absurd (omega arith)
    go false false true w u = after t u
    go false false false true u = absurd (omega arith)
    go false false false false u = absurd (omega arith)

-- one byte on
pub rest_step : (s : List ℕ) (here : ℕ) → here < length s → blank true (drop here s) ≡ (empty_at s here && blank true (drop (here + 1) s))
unfolding blank seen_at
rest_step s here l = rw place (go (get_or s here 0) (drop (here + 1) s) (seen (get_or s here 0) (drop (here + 1) s)) refl)
  where
    place : drop here s ≡ get_or s here 0 ∷ drop (here + 1) s
    place = rw (add-one, drop-cons s here 0)

    go : (b : ℕ) (t : List ℕ) (k : Seen) → seen b t ≡ k → blank_by true k (blank true t) ≡ (blank_by true k true && blank true t)
    go b t End e = sym (end_rest b t e)
    go b t Comma e = refl
    go b t Line e = refl
    go b t Skip e = refl
    go b t Quote e = refl
    go b t (Data c) e = refl

pub rest_end : (s : List ℕ) (here : ℕ) → length s ≤ here → blank true (drop here s) ≡ true
unfolding blank
rest_end s here l = ap (blank true) (drop_of_length-le s {i = here} l)

-- ---- its numbers

-- they are the first of the row's own
module _ (s : List ℕ) (at : ℕ) where
  abbrev Front : Type 0
  Front = (line_left true s at).values ≡ take (length (line_left true s at).values) (line_at s at).values

  line_is : (bs : List ℕ) (m : Marks) → marks_at s at ≡ prefix bs m → line_at s at ≡ line_of m (number_of bs)
  unfolding line_at
  line_is bs m e = ap (λ (x : Marks). line_of x Empty) e ∙ line_prefix bs m Empty

  front_by : ((next : ℕ) → at < next → next ≤ length s → (line_left true s next).values ≡ take (length (line_left true s next).values) (line_at s next).values) → Front
  unfolding line_at line_of
  front_by rest = go (first s at)
    where
      same : (x y : Numbers) → line_left true s at ≡ x → line_at s at ≡ y → x.values ≡ take (length x.values) y.values → Front
      same x y e f g = rw (e, f) g

      behind_comma : (bs : List ℕ) (next : ℕ) → at < next → next ≤ length s
          → (t : Bool) → (cond t (alone (number_of bs) (line_left true s next).end) (behind (value_in bs) (line_left true s next))).values
          ≡ take (length (cond t (alone (number_of bs) (line_left true s next).end) (behind (value_in bs) (line_left true s next))).values) (value_in bs ∷ (line_at s next).values)
      behind_comma bs next o l true = refl
      behind_comma bs next o l false = ap (λ (vs : List ℕ). value_in bs ∷ vs) (rest next o l)

      go : First s at → Front
      go (comma bs next o l e) = same _ _ (left_comma s at bs next e) (line_is bs _ e) (behind_comma bs next o l (blank false (drop next s)))
      go (line bs next o l e) = same _ _ (left_line s at bs next e) (line_is bs _ e) refl
      go (end bs e) = same _ _ (left_end s at bs e) (line_is bs _ e) refl
      go (fault bs e) = same _ _ (left_fault s at bs e) (line_is bs _ e) refl

front_steps : (k : ℕ) (s : List ℕ) (at : ℕ) → length s ≤ at + k → (line_left true s at).values ≡ take (length (line_left true s at).values) (line_at s at).values
front_steps zero s at h = front_by s at (λ next o l. absurd (omega arith))
front_steps (suc k) s at h = front_by s at (λ next o l. front_steps k s next (omega arith))

pub front : (s : List ℕ) (at : ℕ) → (line_left true s at).values ≡ take (length (line_left true s at).values) (line_at s at).values
front s at = front_steps (length s) s at (omega arith)

-- numbers over the first of others, as far as a part of these goes
pub over_part : (vs ns : List ℕ) (k : ℕ) → over vs (take k ns) ++ drop k ns ≡ over (take k vs) ns
over_part [] ns zero = refl
over_part (v ∷ vs) ns zero = refl
over_part [] [] (suc k) = refl
over_part [] (n ∷ ns) (suc k) = ap (λ (l : List ℕ). n ∷ l) (take-append-drop k ns)
over_part (v ∷ vs) [] (suc k) = refl
over_part (v ∷ vs) (n ∷ ns) (suc k) = ap (λ (l : List ℕ). v ∷ l) (over_part vs ns k)

pub over_enough : (vs ns : List ℕ) (k : ℕ) → length ns ≤ k → over (take k vs) ns ≡ over vs ns
over_enough [] ns zero l = refl
over_enough (v ∷ vs) [] zero l = refl
over_enough (v ∷ vs) (n ∷ ns) zero l = absurd (omega arith)
over_enough [] ns (suc k) l = refl
over_enough (v ∷ vs) [] (suc k) l = refl
over_enough (v ∷ vs) (n ∷ ns) (suc k) l = ap (λ (t : List ℕ). v ∷ t) (over_enough vs ns k (omega arith))

-- what is read over the numbers that are lent, all of them or as many as the row has fields
module _ (s : List ℕ) (at : ℕ) (nums : List ℕ) (count : ℕ) (after : List ℕ) (k : count ≡ length (line_left true s at).values) where
  kept : take count (line_at s at).values ≡ (line_left true s at).values
  kept = ap (λ (n : ℕ). take n (line_at s at).values) k ∙ sym (front s at)

  pub part_read : after ≡ over (line_at s at).values (take count nums) → after ++ drop count nums ≡ over (line_left true s at).values nums
  part_read e = ap (λ (l : List ℕ). l ++ drop count nums) e ∙ over_part (line_at s at).values nums count ∙ ap (λ (vs : List ℕ). over vs nums) kept

  pub all_read : length nums ≤ count → after ≡ over (line_at s at).values nums → after ≡ over (line_left true s at).values nums
  all_read l e = e ∙ sym (over_enough (line_at s at).values nums count l) ∙ ap (λ (vs : List ℕ). over vs nums) kept
