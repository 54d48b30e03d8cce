-- The lines of a text from a line's start on, by the first of them.
-- Assumes nothing.
use Rattle.std.specs.Prelude.{ℕ, zero, suc, ◌+◌, ◌≤◌, ◌<◌, ◌≡◌, refl, length}
use Rattle.std.proofs.Common.{◌∙◌, arith}
use Rattle.std.proofs.Math.Path.{ap}
use mathlib.Core.List.{List, [], ◌∷◌, map}
use Rattle.fields.specs.Number.{number_of, value_of}
use Rattle.fields.specs.Marks.{Marks, marks_at}
use Rattle.fields.specs.laws.First.{prefix, First, comma, line, end, fault, first}
use Rattle.fields.specs.Lines.{Lines, none, bad, row, onto_line, field_more, lines_of, lines_at}
use Rattle.fields.specs.declared.Num.TheVariants.{Empty}
use Rattle.text.specs.declared.LineEnd.TheVariants.{More, Last, Fault}
use Rattle.text.specs.Line.{behind, line_of, line_at}
use Rattle.text.specs.laws.LineLaws.{line_prefix}

-- the number of a field, by its bytes
abbrev pub value_in : List ℕ → ℕ
value_in f = value_of (number_of f)

-- a line that can be read, or whose quotes are at fault: what the text's lines are, and its numbers
pub data RowAt (s : List ℕ) (at : ℕ) : Type 0 where
  more : (fs : List (List ℕ)) (next : ℕ) → at < next → next ≤ length s → lines_at s at ≡ row fs (lines_at s next)
      → line_at s at ≡ record { values = map value_in fs; end = More next } → RowAt s at
  last : (fs : List (List ℕ)) → lines_at s at ≡ row fs none → line_at s at ≡ record { values = map value_in fs; end = Last } → RowAt s at
  broken : (vs : List ℕ) → lines_at s at ≡ bad → line_at s at ≡ record { values = vs; end = Fault } → RowAt s at

-- the bytes of a field in front of an empty one
pub lines_prefix : (bs : List ℕ) (m : Marks) (fs : List (List ℕ)) (ls : Lines) → lines_of m ≡ row ([] ∷ fs) ls → lines_of (prefix bs m) ≡ row (bs ∷ fs) ls
unfolding lines_of
lines_prefix [] m fs ls e = e
lines_prefix (b ∷ bs) m fs ls e = ap (onto_line b) (lines_prefix bs m fs ls e)

pub bad_prefix : (bs : List ℕ) (m : Marks) → lines_of m ≡ bad → lines_of (prefix bs m) ≡ bad
unfolding lines_of
bad_prefix [] m e = e
bad_prefix (b ∷ bs) m e = ap (onto_line b) (bad_prefix bs m e)

-- from the line of the next field on
module _ (s : List ℕ) (at : ℕ) where
  line_is : (bs : List ℕ) (m : Marks) → marks_at s at ≡ prefix bs m → line_at s at ≡ line_of m (number_of bs)
  unfolding line_at
  line_is bs m e = ap (λ (x : Marks). line_of x Empty) e ∙ line_prefix bs m Empty

  lines_are : (bs : List ℕ) (m : Marks) → marks_at s at ≡ prefix bs m → (fs : List (List ℕ)) (ls : Lines) → lines_of m ≡ row ([] ∷ fs) ls → lines_at s at ≡ row (bs ∷ fs) ls
  unfolding lines_at
  lines_are bs m e fs ls f = ap lines_of e ∙ lines_prefix bs m fs ls f

  bad_is : (bs : List ℕ) (m : Marks) → marks_at s at ≡ prefix bs m → lines_of m ≡ bad → lines_at s at ≡ bad
  unfolding lines_at
  bad_is bs m e f = ap lines_of e ∙ bad_prefix bs m f

  on : (bs : List ℕ) (next : ℕ) → at < next → next ≤ length s → marks_at s at ≡ prefix bs (Marks.comma next (marks_at s next)) → RowAt s next → RowAt s at
  unfolding lines_at line_at lines_of line_of
  on bs next o l e (more fs past p q f g) =
      more (bs ∷ fs) past (omega arith) q (lines_are bs _ e fs (lines_at s past) (ap field_more f)) (line_is bs _ e ∙ ap (behind (value_in bs)) g)
  on bs next o l e (last fs f g) = last (bs ∷ fs) (lines_are bs _ e fs none (ap field_more f)) (line_is bs _ e ∙ ap (behind (value_in bs)) g)
  on bs next o l e (broken vs f g) = broken (value_in bs ∷ vs) (bad_is bs _ e (ap field_more f)) (line_is bs _ e ∙ ap (behind (value_in bs)) g)

  by_first : ((next : ℕ) → at < next → next ≤ length s → RowAt s next) → RowAt s at
  unfolding lines_at lines_of line_of
  by_first rest = go (first s at)
    where
      go : First s at → RowAt s at
      go (comma bs next o l e) = on bs next o l e (rest next o l)
      go (line bs next o l e) = more (bs ∷ []) next o l (lines_are bs _ e [] (lines_at s next) refl) (line_is bs _ e)
      go (end bs e) = last (bs ∷ []) (lines_are bs _ e [] none refl) (line_is bs _ e)
      go (fault bs e) = broken [] (bad_is bs Marks.fault e refl) (line_is bs _ e)

-- in so many steps at most: every field but the last takes a byte
by_steps : (k : ℕ) (s : List ℕ) (at : ℕ) → length s ≤ at + k → RowAt s at
by_steps zero s at h = by_first s at (λ next o l. absurd (omega arith))
by_steps (suc k) s at h = by_first s at (λ next o l. by_steps k s next (omega arith))

pub row_at : (s : List ℕ) (at : ℕ) → RowAt s at
row_at s at = by_steps (length s) s at (omega arith)
