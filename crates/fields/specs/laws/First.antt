-- The marks of a text from a field's start on: the field's bytes, and then a comma or a line end with the marks from right behind it, the text's end, or a
-- fault.
-- Assumes nothing.
use Rattle.std.specs.Prelude.{ℕ, suc, ◌+◌, ◌≤◌, ◌<◌, ◌≡◌, refl, Bool, true, false, cond, List, [], ◌∷◌, eqb, length, drop}
use Rattle.std.proofs.Common.{ap, ◌∙◌, arith, length-drop, drop-drop}
use Rattle.fields.specs.Number.{digit_of, digits_of}
use Rattle.fields.specs.Marks.{Marks, seen, by, outside, inside, marks_at}
use Rattle.fields.specs.Field.{field_of}
use Rattle.fields.specs.declared.Num.{Num}
use Rattle.fields.specs.declared.Seen.{Seen}
use Rattle.fields.specs.declared.Seen.TheVariants.{End, Comma, Line, Skip, Quote, Data}
use Rattle.fields.specs.declared.Place.{Place}
use Rattle.fields.specs.declared.Place.TheVariants.{Start, Inside, Closed}

-- the bytes bs of a field, then m
abbrev pub prefix : List ℕ → Marks → Marks
prefix [] m = m
prefix (b ∷ bs) m = Marks.byte b (prefix bs m)

-- how the marks m of the bytes l, which stand at `at`, end their first field; j bytes of l go with it
data Ends (l : List ℕ) (at : ℕ) (m : Marks) : Type 0 where
  comma : (bs : List ℕ) (j : ℕ) → 1 ≤ j → j ≤ length l → m ≡ prefix bs (Marks.comma (at + j) (outside (drop j l) (at + j) Start)) → Ends l at m
  line : (bs : List ℕ) (j : ℕ) → 1 ≤ j → j ≤ length l → m ≡ prefix bs (Marks.line (at + j) (outside (drop j l) (at + j) Start)) → Ends l at m
  end : (bs : List ℕ) → m ≡ prefix bs Marks.end → Ends l at m
  fault : (bs : List ℕ) → m ≡ prefix bs Marks.fault → Ends l at m

-- one byte of the text more in front
further : (b : ℕ) (s : List ℕ) (at : ℕ) (m : Marks) → Ends s (at + 1) m → Ends (b ∷ s) at m
further b s at m (comma bs j o l e) =
    let p : at + 1 + j ≡ at + suc j = omega arith in
    comma bs (suc j) (omega arith) (omega arith) (e ∙ ap (λ (k : ℕ). prefix bs (Marks.comma k (outside (drop j s) k Start))) p)
further b s at m (line bs j o l e) =
    let p : at + 1 + j ≡ at + suc j = omega arith in
    line bs (suc j) (omega arith) (omega arith) (e ∙ ap (λ (k : ℕ). prefix bs (Marks.line k (outside (drop j s) k Start))) p)
further b s at m (end bs e) = end bs e
further b s at m (fault bs e) = fault bs e

-- one byte of the field more in front
marked : (b : ℕ) (l : List ℕ) (at : ℕ) (m : Marks) → Ends l at m → Ends l at (Marks.byte b m)
marked b l at m (comma bs j o h e) = comma (b ∷ bs) j o h (ap (Marks.byte b) e)
marked b l at m (line bs j o h e) = line (b ∷ bs) j o h (ap (Marks.byte b) e)
marked b l at m (end bs e) = end (b ∷ bs) (ap (Marks.byte b) e)
marked b l at m (fault bs e) = fault (b ∷ bs) (ap (Marks.byte b) e)

-- by what stands first
module _ (b : ℕ) (s : List ℕ) (at : ℕ) (outs : (p : Place) → Ends s (at + 1) (outside s (at + 1) p)) (inss : Ends s (at + 1) (inside s (at + 1))) where
  by_ends : (k : Seen) (p : Place) → Ends (b ∷ s) at (by k p (at + 1) (outside s (at + 1)) (inside s (at + 1)))
  by_ends End p = end [] refl
  by_ends Comma p = comma [] 1 (omega arith) (omega arith) refl
  by_ends Line p = line [] 1 (omega arith) (omega arith) refl
  by_ends Skip p = further b s at (outside s (at + 1) p) (outs p)
  by_ends Quote Start = further b s at (inside s (at + 1)) inss
  by_ends Quote Inside = fault [] refl
  by_ends Quote Closed = marked 34 (b ∷ s) at (inside s (at + 1)) (further b s at (inside s (at + 1)) inss)
  by_ends (Data c) Start = marked c (b ∷ s) at (outside s (at + 1) Inside) (further b s at (outside s (at + 1) Inside) (outs Inside))
  by_ends (Data c) Inside = marked c (b ∷ s) at (outside s (at + 1) Inside) (further b s at (outside s (at + 1) Inside) (outs Inside))
  by_ends (Data c) Closed = fault [] refl

  in_ends : (t : Bool) → Ends (b ∷ s) at (cond t (outside s (at + 1) Closed) (Marks.byte b (inside s (at + 1))))
  in_ends true = further b s at (outside s (at + 1) Closed) (outs Closed)
  in_ends false = marked b (b ∷ s) at (inside s (at + 1)) (further b s at (inside s (at + 1)) inss)

mutual
  unfolding outside

  out_ends : (l : List ℕ) (at : ℕ) (p : Place) → Ends l at (outside l at p)
  out_ends [] at p = end [] refl
  out_ends (b ∷ s) at p = by_ends b s at (λ q. out_ends s (at + 1) q) (ins_ends s (at + 1)) (seen b s) p

  ins_ends : (l : List ℕ) (at : ℕ) → Ends l at (inside l at)
  ins_ends [] at = fault [] refl
  ins_ends (b ∷ s) at = in_ends b s at (λ q. out_ends s (at + 1) q) (ins_ends s (at + 1)) (eqb b 34)

-- the first field from a place on: its bytes, and what is behind it
pub data First (s : List ℕ) (at : ℕ) : Type 0 where
  comma : (bs : List ℕ) (next : ℕ) → at < next → next ≤ length s → marks_at s at ≡ prefix bs (Marks.comma next (marks_at s next)) → First s at
  line : (bs : List ℕ) (next : ℕ) → at < next → next ≤ length s → marks_at s at ≡ prefix bs (Marks.line next (marks_at s next)) → First s at
  end : (bs : List ℕ) → marks_at s at ≡ prefix bs Marks.end → First s at
  fault : (bs : List ℕ) → marks_at s at ≡ prefix bs Marks.fault → First s at

pub first : (s : List ℕ) (at : ℕ) → First s at
unfolding marks_at
first s at = go (out_ends (drop at s) at Start)
  where
    behind : (j : ℕ) → drop j (drop at s) ≡ drop (at + j) s
    behind j = drop-drop j at s

    go : Ends (drop at s) at (outside (drop at s) at Start) → First s at
    go (comma bs j o l e) =
        comma bs (at + j) (omega arith) (omega (arith, length-drop at s)) (e ∙ ap (λ (t : List ℕ). prefix bs (Marks.comma (at + j) (outside t (at + j) Start))) (behind j))
    go (line bs j o l e) =
        line bs (at + j) (omega arith) (omega (arith, length-drop at s)) (e ∙ ap (λ (t : List ℕ). prefix bs (Marks.line (at + j) (outside t (at + j) Start))) (behind j))
    go (end bs e) = end bs e
    go (fault bs e) = fault bs e

-- the field's number is what its bytes spell
pub field_prefix : (bs : List ℕ) (m : Marks) (n : Num) → field_of (prefix bs m) n ≡ field_of m (digits_of n bs)
unfolding field_of digits_of
field_prefix [] m n = refl
field_prefix (b ∷ bs) m n = field_prefix bs m (digit_of n b)
