-- A line, by its first field; and what the lines of a text are, by the first of them.
-- Assumes nothing.
use Prim.Native.Nat.{ℕ, zero, suc, ◌+◌, ◌-◌, ◌≤◌, ◌<◌}
use Rattle.std.specs.Prelude.{◌≡◌, refl, List, [], ◌∷◌, ◌++◌, length, set}
use Rattle.std.proofs.Math.Path.{sym, ap, ap₂}
use Rattle.std.proofs.Common.{◌∙◌}
use native.Mathlib.Omega.{arith}
use Rattle.fields.specs.Number.{digit_of, digits_of, number_of, value_of}
use Rattle.fields.specs.Marks.{Marks, marks_at}
use Rattle.fields.specs.Field.{field_of, field_at}
use Rattle.fields.specs.laws.First.{prefix, First, comma, line, end, fault, first, field_prefix}
use Rattle.fields.specs.declared.Num.{Num}
use Rattle.fields.specs.declared.Num.TheVariants.{Empty}
use Rattle.fields.specs.declared.Field as field
use Rattle.text.specs.declared.LineEnd.TheVariants.{More, Last, Fault}
use Rattle.text.specs.Line.{Numbers, behind, line_of, line_at, over, next_of, start_from}

-- ---- a line by its first field

pub line_prefix : (bs : List ℕ) (m : Marks) (n : Num) → line_of (prefix bs m) n ≡ line_of m (digits_of n bs)
unfolding line_of digits_of
line_prefix [] m n = refl
line_prefix (b ∷ bs) m n = line_prefix bs m (digit_of n b)

-- what is known where the first field ends with a comma
pub record Goes (s : List ℕ) (at : ℕ) (v : Num) (next : ℕ) : Type 0 where
  pub on : at < next
  pub within : next ≤ length s
  pub line : line_at s at ≡ behind (value_of v) (line_at s next)

module _ (s : List ℕ) (at : ℕ) where
  at_marks : (bs : List ℕ) (m : Marks) → marks_at s at ≡ prefix bs m → (field_at s at ≡ field_of m (number_of bs)) × (line_at s at ≡ line_of m (number_of bs))
  unfolding field_at line_at
  at_marks bs m e = (ap (λ (k : Marks). field_of k Empty) e ∙ field_prefix bs m Empty, ap (λ (k : Marks). line_of k Empty) e ∙ line_prefix bs m Empty)

  no : ◌≡◌ {A = ℕ} 0 1 → ⊥
  no z = omega arith

  pub goes : (v : Num) (next : ℕ) → field_at s at ≡ field.TheVariants.Comma v next → Goes s at v next
  unfolding field_of line_of line_at
  goes v next e = go (first s at)
    where
      go : First s at → Goes s at v next
      go (comma bs k o l f) =
          let a = at_marks bs _ f in
          let c : field.TheVariants.Comma (number_of bs) k ≡ field.TheVariants.Comma v next = sym a.0 ∙ e in
          let i : k ≡ next = cc in
          let j : number_of bs ≡ v = cc in
          record { on = omega arith; within = omega arith; line = a.1 ∙ ap₂ {C = Numbers} (λ x y. behind (value_of x) (line_at s y)) j i }
      go (line bs k o l f) = absurd (no (let a = (at_marks bs _ f).0 in cc))
      go (end bs f) = absurd (no (let a = (at_marks bs _ f).0 in cc))
      go (fault bs f) = absurd (no (let a = (at_marks bs _ f).0 in cc))

  -- with a line end
  pub at_line : (v : Num) (next : ℕ) → field_at s at ≡ field.TheVariants.Line v next → line_at s at ≡ record { values = value_of v ∷ []; end = More next }
  unfolding field_of line_of line_at
  at_line v next e = go (first s at)
    where
      go : First s at → line_at s at ≡ record { values = value_of v ∷ []; end = More next }
      go (comma bs k o l f) = absurd (no (let a = (at_marks bs _ f).0 in cc))
      go (line bs k o l f) =
          let a = at_marks bs _ f in
          let c : field.TheVariants.Line (number_of bs) k ≡ field.TheVariants.Line v next = sym a.0 ∙ e in
          let i : k ≡ next = cc in
          let j : number_of bs ≡ v = cc in
          a.1 ∙ ap₂ {C = Numbers} (λ x y. record { values = value_of x ∷ []; end = More y }) j i
      go (end bs f) = absurd (no (let a = (at_marks bs _ f).0 in cc))
      go (fault bs f) = absurd (no (let a = (at_marks bs _ f).0 in cc))

  -- with the text
  pub at_end : (v : Num) → field_at s at ≡ field.TheVariants.End v → line_at s at ≡ record { values = value_of v ∷ []; end = Last }
  unfolding field_of line_of line_at
  at_end v e = go (first s at)
    where
      go : First s at → line_at s at ≡ record { values = value_of v ∷ []; end = Last }
      go (comma bs k o l f) = absurd (no (let a = (at_marks bs _ f).0 in cc))
      go (line bs k o l f) = absurd (no (let a = (at_marks bs _ f).0 in cc))
      go (end bs f) =
          let a = at_marks bs _ f in
          let c : field.TheVariants.End (number_of bs) ≡ field.TheVariants.End v = sym a.0 ∙ e in
          let j : number_of bs ≡ v = cc in
          a.1 ∙ ap (λ (x : Num). record { values = value_of x ∷ []; end = Last }) j
      go (fault bs f) = absurd (no (let a = (at_marks bs _ f).0 in cc))

  -- in a fault
  pub at_fault : field_at s at ≡ field.TheVariants.Fault → line_at s at ≡ record { values = []; end = Fault }
  unfolding field_of line_of line_at
  at_fault e = go (first s at)
    where
      go : First s at → line_at s at ≡ record { values = []; end = Fault }
      go (comma bs k o l f) = absurd (no (let a = (at_marks bs _ f).0 in cc))
      go (line bs k o l f) = absurd (no (let a = (at_marks bs _ f).0 in cc))
      go (end bs f) = absurd (no (let a = (at_marks bs _ f).0 in cc))
      go (fault bs f) = (at_marks bs _ f).1

-- ---- numbers over others

-- one more behind those that are there
pub over_more : (vs ns : List ℕ) (v : ℕ) → over (vs ++ v ∷ []) ns ≡ set (over vs ns) (length vs) v
over_more [] [] v = refl
over_more [] (n ∷ ns) v = refl
over_more (u ∷ vs) [] v = refl
over_more (u ∷ vs) (n ∷ ns) v = ap (λ (l : List ℕ). u ∷ l) (over_more vs ns v)

pub over_length : (vs ns : List ℕ) → length (over vs ns) ≡ length ns
over_length [] ns = refl
over_length (v ∷ vs) [] = refl
over_length (v ∷ vs) (n ∷ ns) = ap suc (over_length vs ns)

-- ---- where a line starts

-- where no line follows, none of the next ones does
pub start_stays : (count : ℕ) (s : List ℕ) (at : ℕ) → next_of s at ≡ at → start_from count s at ≡ at
unfolding start_from
start_stays zero s at e = refl
start_stays (suc count) s at e = ap (start_from count s) e ∙ start_stays count s at e

module _ (s : List ℕ) (line i at : ℕ) where
  pub start_next : i < line → start_from (line - i) s at ≡ start_from (line - (i + 1)) s (next_of s at)
  unfolding start_from
  start_next l = let e : line - i ≡ suc (line - (i + 1)) = omega arith in ap (λ (k : ℕ). start_from k s at) e

  pub start_none : line ≤ i → start_from (line - i) s at ≡ at
  unfolding start_from
  start_none l = let e : line - i ≡ 0 = omega arith in ap (λ (k : ℕ). start_from k s at) e
