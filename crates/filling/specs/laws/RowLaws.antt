-- A row without its filling, by its first field.
-- Assumes nothing.
use Rattle.std.specs.Prelude.{ℕ, zero, suc, ◌+◌, ◌≤◌, ◌<◌, ◌≡◌, Bool, ◌&&◌, eqb, drop}
use Rattle.std.proofs.Math.Path.{refl, ap}
use Rattle.std.proofs.Common.{sym, ◌∙◌, true≢false, eqb-true, drop-drop}
use Rattle.std.proofs.Math.Bool.{true, false, cond}
use mathlib.Core.List.{List, [], ◌∷◌, map}
use native.Mathlib.Omega.{arith}
use Rattle.std.proofs.Math.ListN.{length}
use Rattle.fields.specs.Number.{number_of, value_of}
use Rattle.fields.specs.Marks.{Marks, feeds, after_feed, seen, seen_at, by, outside, inside, marks_at}
use Rattle.fields.specs.Lines.{Lines, none, bad, row, lines_of, lines_at, field_more}
use Rattle.fields.specs.laws.First.{prefix, First, comma, line, end, fault, first}
use Rattle.fields.specs.declared.Num.{Num}
use Rattle.fields.specs.declared.Num.TheVariants.{Empty}
use Rattle.fields.specs.declared.Seen.{Seen}
use Rattle.fields.specs.declared.Seen.TheVariants.{End, Comma, Line, Skip, Quote, Data}
use Rattle.fields.specs.declared.Place.TheVariants.{Start}
use Rattle.text.specs.declared.LineEnd.{LineEnd}
use Rattle.text.specs.declared.LineEnd.TheVariants.{More, Last, Fault}
use Rattle.text.specs.Line.{Numbers, behind, line_of, line_at}
use Rattle.text.specs.laws.LineLaws.{line_prefix}
use Rattle.text.specs.laws.LinesLaws.{value_in, lines_prefix, bad_prefix, RowAt, row_at}
use Rattle.text.specs.laws.LinesLaws as text
use Rattle.filling.specs.Filling.{blank_by, blank, unfilled, line_left, lines_left}

-- ---- a blank row

-- one field with what was read of it, and how the row ends
abbrev pub alone : Num → LineEnd → Numbers
alone n e = record { values = value_of n ∷ []; end = e }

tail_drop : (s : List ℕ) (at b : ℕ) (l : List ℕ) → drop at s ≡ b ∷ l → drop (at + 1) s ≡ l
tail_drop s at b l e = sym (drop-drop 1 at s) ∙ ap (drop 1) e

-- the marks of nothing but a row's end
pub data Over (m : Marks) : Type 0 where
  ended : m ≡ Marks.end → Over m
  lined : (next : ℕ) (rest : Marks) → m ≡ Marks.line next rest → Over m

pub blank_over : (s l : List ℕ) (at : ℕ) → drop at s ≡ l → blank false l ≡ true → Over (unfilled s (outside l at Start))
unfolding outside blank unfilled
blank_over s [] at e t = ended refl
blank_over s (b ∷ l) at e t = go (tail_drop s at b l e) (λ u. blank_over s l (at + 1) (tail_drop s at b l e) u) (seen b l) t
  where
    feed : (u : Bool) (m : Marks) → Over (cond u Marks.end (Marks.line (at + 1) m))
    feed true m = ended refl
    feed false m = lined (at + 1) m refl

    go : drop (at + 1) s ≡ l → (blank false l ≡ true → Over (unfilled s (outside l (at + 1) Start)))
        → (k : Seen) → blank_by false k (blank false l) ≡ true → Over (unfilled s (by k Start (at + 1) (outside l (at + 1)) (inside l (at + 1))))
    go next rest End u = ended refl
    go next rest Comma u = rw (next, u) (rest u)
    go next rest Line u = feed (blank true (drop (at + 1) s)) (unfilled s (outside l (at + 1) Start))
    go next rest Skip u = rest u
    go next rest Quote u = absurd (true≢false (sym u))
    go next rest (Data c) u = absurd (true≢false (sym u))

-- they end whatever field stands before them
over_line : (m : Marks) (n : Num) → Over m → line_of m n ≡ alone n (line_of m Empty).end
unfolding line_of
over_line m n (ended e) = rw e
over_line m n (lined next rest e) = rw e

blank_line : (s l : List ℕ) (at : ℕ) (n : Num) → drop at s ≡ l → blank false l ≡ true
    → line_of (unfilled s (outside l at Start)) n ≡ alone n (line_of (unfilled s (outside l at Start)) Empty).end
blank_line s l at n e t = over_line (unfilled s (outside l at Start)) n (blank_over s l at e t)

-- ---- whether a row is blank, by its first field

-- what the first field ends with
abbrev pub closes : Marks → ℕ
closes (Marks.byte b m) = closes m
closes (Marks.comma next m) = 1
closes (Marks.line next m) = 2
closes Marks.end = 3
closes Marks.fault = 4

pub closes_prefix : (bs : List ℕ) (m : Marks) → closes (prefix bs m) ≡ closes m
closes_prefix [] m = refl
closes_prefix (b ∷ bs) m = closes_prefix bs m

-- what was seen, as a number
abbrev pub which : Seen → ℕ
which End = 0
which Comma = 1
which Line = 2
which Skip = 3
which Quote = 4
which (Data b) = 5

-- a line feed ends the row
feed_row : (t : List ℕ) (at : ℕ) → feeds t ≡ true → (blank false t ≡ true) × (2 ≤ closes (outside t at Start)) × (closes (outside t at Start) ≤ 3)
unfolding outside blank
feed_row [] at e = absurd (true≢false (sym e))
feed_row (c ∷ u) at e = rw (eqb-true c 10 e) (go u)
  where
    go : (v : List ℕ) → (blank_by false (after_feed v) (blank false v) ≡ true) × (2 ≤ closes (by (after_feed v) Start (at + 1) (outside v (at + 1)) (inside v (at + 1)))) × (closes (by (after_feed v) Start (at + 1) (outside v (at + 1)) (inside v (at + 1))) ≤ 3)
    go [] = (refl, omega arith, omega arith)
    go (d ∷ v) = (refl, omega arith, omega arith)

-- and so does a CR that belongs to one
skip_feeds : (b : ℕ) (t : List ℕ) → seen b t ≡ Skip → feeds t ≡ true
skip_feeds b t e = go (eqb b 44) (eqb b 34) (eqb b 10) (eqb b 13) (feeds t) refl (ap which e)
  where
    after : (v : List ℕ) → which (after_feed v) ≡ 3 → ⊥
    after [] z = omega arith
    after (d ∷ v) z = omega arith

    go : (x y z w f : Bool) → feeds t ≡ f → which (cond x Comma (cond y Quote (cond z (after_feed t) (cond (w && f) Skip (Data b))))) ≡ 3 → feeds t ≡ true
    go true y z w f g u = absurd (omega arith)
    go false true z w f g u = absurd (omega arith)
    go false false true w f g u = absurd (after t u)
    go false false false true true g u = g
    go false false false true false g u = absurd (omega arith)
    go false false false false f g u = absurd (omega arith)

-- where the field ends with a comma: it is empty without quotes, and the rest is blank
pub comma_blank : (all : Bool) (s l : List ℕ) (at : ℕ) (bs : List ℕ) (next : ℕ) (m : Marks) → drop at s ≡ l → outside l at Start ≡ prefix bs (Marks.comma next m)
    → blank all l ≡ (blank_by true (seen_at l) true && blank all (drop next s))
unfolding outside blank seen_at
comma_blank all s [] at bs next m d e = absurd (omega (arith, ap closes e ∙ closes_prefix bs (Marks.comma next m)))
comma_blank all s (b ∷ l) at bs next m d e = go (seen b l) refl e
  where
    place : (cs : List ℕ) (x : Marks) → Marks.comma (at + 1) x ≡ prefix cs (Marks.comma next m) → at + 1 ≡ next
    place [] x f = cc
    place (c ∷ cs) x f = let z : ◌≡◌ {A = ℕ} 0 1 = cc in absurd (omega arith)

    go : (k : Seen) → seen b l ≡ k → by k Start (at + 1) (outside l (at + 1)) (inside l (at + 1)) ≡ prefix bs (Marks.comma next m)
        → blank_by all k (blank all l) ≡ (blank_by true k true && blank all (drop next s))
    go End h f = absurd (omega (arith, ap closes f ∙ closes_prefix bs (Marks.comma next m)))
    go Comma h f = ap (blank all) (sym (tail_drop s at b l d) ∙ ap (λ (k : ℕ). drop k s) (place bs (outside l (at + 1) Start) f))
    go Line h f = absurd (omega (arith, ap closes f ∙ closes_prefix bs (Marks.comma next m)))
    go Skip h f = let z = feed_row l (at + 1) (skip_feeds b l h) in absurd (omega (arith, z.1, ap closes f ∙ closes_prefix bs (Marks.comma next m)))
    go Quote h f = refl
    go (Data c) h f = refl

-- where the row ends with it, or its quotes are at fault
pub last_blank : (l : List ℕ) (at : ℕ) → 2 ≤ closes (outside l at Start) → blank false l ≡ blank_by true (seen_at l) true
unfolding outside blank seen_at
last_blank [] at c = refl
last_blank (b ∷ l) at c = go (seen b l) refl c
  where
    go : (k : Seen) → seen b l ≡ k → 2 ≤ closes (by k Start (at + 1) (outside l (at + 1)) (inside l (at + 1))) → blank_by false k (blank false l) ≡ blank_by true k true
    go End h f = refl
    go Comma h f = absurd (omega arith)
    go Line h f = refl
    go Skip h f = (feed_row l (at + 1) (skip_feeds b l h)).0
    go Quote h f = refl
    go (Data c) h f = refl

pub fault_blank : (all : Bool) (l : List ℕ) (at : ℕ) → closes (outside l at Start) ≡ 4 → blank all l ≡ false
unfolding outside blank
fault_blank all [] at c = absurd (omega arith)
fault_blank all (b ∷ l) at c = go (seen b l) refl c
  where
    go : (k : Seen) → seen b l ≡ k → closes (by k Start (at + 1) (outside l (at + 1)) (inside l (at + 1))) ≡ 4 → blank_by all k (blank all l) ≡ false
    go End h f = absurd (omega arith)
    go Comma h f = absurd (omega arith)
    go Line h f = absurd (omega arith)
    go Skip h f = absurd (omega (arith, (feed_row l (at + 1) (skip_feeds b l h)).2))
    go Quote h f = refl
    go (Data c) h f = refl

-- with the rest of the text behind its end
line_place : (k next : ℕ) (x m : Marks) (bs : List ℕ) → Marks.line k x ≡ prefix bs (Marks.line next m) → k ≡ next
line_place k next x m [] e = cc
line_place k next x m (b ∷ bs) e = let z : ◌≡◌ {A = ℕ} 0 1 = cc in absurd (omega arith)

-- a line feed, with others behind it
feed_line : (all : Bool) (s v : List ℕ) (at : ℕ) (bs : List ℕ) (next : ℕ) (m : Marks) → drop at s ≡ 10 ∷ v
    → by (after_feed v) Start (at + 1) (outside v (at + 1)) (inside v (at + 1)) ≡ prefix bs (Marks.line next m) → blank_by all (after_feed v) (blank all v) ≡ cond all (blank true (drop next s)) true
feed_line all s [] at bs next m d e = absurd (omega (arith, ap closes e ∙ closes_prefix bs (Marks.line next m)))
feed_line true s (c ∷ v) at bs next m d e = ap (blank true) (sym (tail_drop s at 10 (c ∷ v) d) ∙ ap (λ (k : ℕ). drop k s) (line_place (at + 1) next _ m bs e))
feed_line false s (c ∷ v) at bs next m d e = refl

pub line_blank : (all : Bool) (s l : List ℕ) (at : ℕ) (bs : List ℕ) (next : ℕ) (m : Marks) → drop at s ≡ l → outside l at Start ≡ prefix bs (Marks.line next m)
    → blank all l ≡ (blank_by true (seen_at l) true && cond all (blank true (drop next s)) true)
unfolding outside blank seen_at
line_blank all s [] at bs next m d e = absurd (omega (arith, ap closes e ∙ closes_prefix bs (Marks.line next m)))
line_blank all s (b ∷ l) at bs next m d e = go (seen b l) refl e
  where
    behind_skip : (t : List ℕ) → feeds t ≡ true → drop (at + 1) s ≡ t → outside t (at + 1) Start ≡ prefix bs (Marks.line next m) → blank all t ≡ cond all (blank true (drop next s)) true
    behind_skip [] f g k = absurd (true≢false (sym f))
    behind_skip (c ∷ v) f g k = fed c (eqb-true c 10 f) g k
      where
        fed : (c : ℕ) → c ≡ 10 → drop (at + 1) s ≡ c ∷ v → outside (c ∷ v) (at + 1) Start ≡ prefix bs (Marks.line next m) → blank all (c ∷ v) ≡ cond all (blank true (drop next s)) true
        fed c h g k = rw h (feed_line all s v (at + 1) bs next m (g ∙ ap (λ (x : ℕ). x ∷ v) h) (rw h at k))

    by_line_lem : (t : Bool) → by Line Start (at + 1) (outside l (at + 1)) (inside l (at + 1)) ≡ prefix bs (Marks.line next m) → cond t (blank t l) true ≡ cond t (blank true (drop next s)) true
    by_line_lem true f = ap (blank true) (sym (tail_drop s at b l d) ∙ ap (λ (k : ℕ). drop k s) (line_place (at + 1) next _ m bs f))
    by_line_lem false f = refl

    go : (k : Seen) → seen b l ≡ k → by k Start (at + 1) (outside l (at + 1)) (inside l (at + 1)) ≡ prefix bs (Marks.line next m)
        → blank_by all k (blank all l) ≡ (blank_by true k true && cond all (blank true (drop next s)) true)
    go End h f = absurd (omega (arith, ap closes f ∙ closes_prefix bs (Marks.line next m)))
    go Comma h f = absurd (omega (arith, ap closes f ∙ closes_prefix bs (Marks.line next m)))
    go Line h f = by_line_lem all f
    go Skip h f = behind_skip l (skip_feeds b l h) (tail_drop s at b l d) f
    go Quote h f = refl
    go (Data c) h f = refl

-- with the text's end
pub end_blank : (all : Bool) (l : List ℕ) (at : ℕ) → closes (outside l at Start) ≡ 3 → blank all l ≡ blank_by true (seen_at l) true
unfolding outside blank seen_at
end_blank all [] at c = refl
end_blank all (b ∷ l) at c = go (seen b l) refl c
  where
    behind_skip : (t : List ℕ) → feeds t ≡ true → closes (outside t (at + 1) Start) ≡ 3 → blank all t ≡ true
    behind_skip [] f k = absurd (true≢false (sym f))
    behind_skip (x ∷ v) f k = fed x (eqb-true x 10 f) v k
      where
        fed : (x : ℕ) → x ≡ 10 → (v : List ℕ) → closes (outside (x ∷ v) (at + 1) Start) ≡ 3 → blank all (x ∷ v) ≡ true
        fed x h [] k = rw h
        fed x h (y ∷ v) k = absurd (omega (arith, rw h at k))

    go : (k : Seen) → seen b l ≡ k → closes (by k Start (at + 1) (outside l (at + 1)) (inside l (at + 1))) ≡ 3 → blank_by all k (blank all l) ≡ blank_by true k true
    go End h f = refl
    go Comma h f = absurd (omega arith)
    go Line h f = absurd (omega arith)
    go Skip h f = behind_skip l (skip_feeds b l h) f
    go Quote h f = refl
    go (Data c) h f = refl

-- ---- the row without its filling, by its first field

unfilled_prefix : (s bs : List ℕ) (m : Marks) → unfilled s (prefix bs m) ≡ prefix bs (unfilled s m)
unfolding unfilled
unfilled_prefix s [] m = refl
unfilled_prefix s (b ∷ bs) m = ap (Marks.byte b) (unfilled_prefix s bs m)

module _ (s : List ℕ) (at : ℕ) where
  left_marks : (bs : List ℕ) (m : Marks) → marks_at s at ≡ prefix bs m → line_left true s at ≡ line_of (unfilled s m) (number_of bs)
  unfolding line_left
  left_marks bs m e = ap (λ (k : Marks). line_of (unfilled s k) Empty) e ∙ ap (λ (k : Marks). line_of k Empty) (unfilled_prefix s bs m) ∙ line_prefix bs (unfilled s m) Empty

  -- behind a comma the row goes on, or is blank
  pub left_comma : (bs : List ℕ) (next : ℕ) → marks_at s at ≡ prefix bs (Marks.comma next (marks_at s next))
      → line_left true s at ≡ cond (blank false (drop next s)) (alone (number_of bs) (line_left true s next).end) (behind (value_in bs) (line_left true s next))
  unfolding line_left unfilled line_of marks_at
  left_comma bs next e = left_marks bs _ e ∙ go (blank false (drop next s)) refl
    where
      go : (t : Bool) → blank false (drop next s) ≡ t
          → line_of (cond t (unfilled s (marks_at s next)) (Marks.comma next (unfilled s (marks_at s next)))) (number_of bs)
          ≡ cond t (alone (number_of bs) (line_of (unfilled s (marks_at s next)) Empty).end) (behind (value_in bs) (line_of (unfilled s (marks_at s next)) Empty))
      go true h = blank_line s (drop next s) next (number_of bs) refl h
      go false h = refl

  pub left_line : (bs : List ℕ) (next : ℕ) → marks_at s at ≡ prefix bs (Marks.line next (marks_at s next)) → line_left true s at ≡ alone (number_of bs) (cond (blank true (drop next s)) Last (More next))
  unfolding unfilled line_of
  left_line bs next e = left_marks bs _ e ∙ go (blank true (drop next s))
    where
      go : (t : Bool) → line_of (cond t Marks.end (Marks.line next (unfilled s (marks_at s next)))) (number_of bs) ≡ alone (number_of bs) (cond t Last (More next))
      go true = refl
      go false = refl

  pub left_end : (bs : List ℕ) → marks_at s at ≡ prefix bs Marks.end → line_left true s at ≡ alone (number_of bs) Last
  unfolding unfilled line_of
  left_end bs e = left_marks bs _ e

  pub left_fault : (bs : List ℕ) → marks_at s at ≡ prefix bs Marks.fault → line_left true s at ≡ record { values = []; end = Fault }
  unfolding unfilled line_of
  left_fault bs e = left_marks bs _ e

  -- a blank row is one field
  pub one_left : length (line_left true s at).values ≡ cond (blank false (drop at s)) 1 (0 + length (line_left true s at).values)
  unfolding line_left marks_at
  one_left = go (blank false (drop at s)) refl
    where
      go : (t : Bool) → blank false (drop at s) ≡ t → length (line_of (unfilled s (outside (drop at s) at Start)) Empty).values ≡ cond t 1 (0 + length (line_of (unfilled s (outside (drop at s) at Start)) Empty).values)
      go true h = ap (λ (l : Numbers). length l.values) (blank_line s (drop at s) at Empty refl h)
      go false h = omega arith

-- ---- the rows from a place on, by the first of them

-- what `row_at` says of a text with its filling, and the same without
pub data RowLeft (filled : Bool) (s : List ℕ) (at : ℕ) : Type 0 where
  more : (fs : List (List ℕ)) (next : ℕ) → at < next → next ≤ length s → lines_left filled s at ≡ row fs (lines_left filled s next)
      → line_left filled s at ≡ record { values = map value_in fs; end = More next } → RowLeft filled s at
  last : (fs : List (List ℕ)) → lines_left filled s at ≡ row fs none → line_left filled s at ≡ record { values = map value_in fs; end = Last } → RowLeft filled s at
  broken : (vs : List ℕ) → lines_left filled s at ≡ bad → line_left filled s at ≡ record { values = vs; end = Fault } → RowLeft filled s at

no : ◌≡◌ {A = ℕ} 0 1 → ⊥
no z = omega arith

module _ (s : List ℕ) (at : ℕ) where
  pub lines_left_lem : (bs : List ℕ) (m : Marks) → marks_at s at ≡ prefix bs m → (fs : List (List ℕ)) (ls : Lines) → lines_of (unfilled s m) ≡ row ([] ∷ fs) ls → lines_left true s at ≡ row (bs ∷ fs) ls
  unfolding lines_left
  lines_left_lem bs m e fs ls f = ap (λ (k : Marks). lines_of (unfilled s k)) e ∙ ap lines_of (unfilled_prefix s bs m) ∙ lines_prefix bs (unfilled s m) fs ls f

  pub bad_left : (bs : List ℕ) (m : Marks) → marks_at s at ≡ prefix bs m → lines_of (unfilled s m) ≡ bad → lines_left true s at ≡ bad
  unfolding lines_left
  bad_left bs m e f = ap (λ (k : Marks). lines_of (unfilled s k)) e ∙ ap lines_of (unfilled_prefix s bs m) ∙ bad_prefix bs (unfilled s m) f

  -- behind a comma, where the row goes on
  goes_on : (bs : List ℕ) (next : ℕ) → at < next → next ≤ length s → marks_at s at ≡ prefix bs (Marks.comma next (marks_at s next)) → blank false (drop next s) ≡ false → RowLeft true s next → RowLeft true s at
  unfolding lines_left line_left unfilled lines_of
  goes_on bs next o l e h (more fs past p q f g) =
      more (bs ∷ fs) past (omega arith) q (lines_left_lem bs _ e fs (lines_left true s past) (rw h (ap field_more f))) (left_comma s at bs next e ∙ rw h (ap (behind (value_in bs)) g))
  goes_on bs next o l e h (last fs f g) = last (bs ∷ fs) (lines_left_lem bs _ e fs none (rw h (ap field_more f))) (left_comma s at bs next e ∙ rw h (ap (behind (value_in bs)) g))
  goes_on bs next o l e h (broken vs f g) = broken (value_in bs ∷ vs) (bad_left bs _ e (rw h (ap field_more f))) (left_comma s at bs next e ∙ rw h (ap (behind (value_in bs)) g))

  -- where it is blank
  stops : (bs : List ℕ) (next : ℕ) → at < next → marks_at s at ≡ prefix bs (Marks.comma next (marks_at s next)) → blank false (drop next s) ≡ true → RowLeft true s next → RowLeft true s at
  unfolding lines_left line_left unfilled lines_of line_of marks_at
  stops bs next o e h r = go (blank_over s (drop next s) next refl h) r
    where
      lines : (ls : Lines) → lines_of (unfilled s (marks_at s next)) ≡ row ([] ∷ []) ls → lines_left true s at ≡ row (bs ∷ []) ls
      lines ls f = lines_left_lem bs _ e [] ls (rw h f)

      line_is : (x : LineEnd) → (line_left true s next).end ≡ x → line_left true s at ≡ record { values = value_in bs ∷ []; end = x }
      line_is x f = left_comma s at bs next e ∙ rw h (ap (alone (number_of bs)) f)

      go : Over (unfilled s (marks_at s next)) → RowLeft true s next → RowLeft true s at
      go (ended x) (more fs past p q f g) =
          let y : line_left true s next ≡ record { values = value_of Empty ∷ []; end = Last } = ap (λ (z : Marks). line_of z Empty) x in
          absurd (no (let z : Last ≡ More past = sym (ap (λ (w : Numbers). w.end) y) ∙ ap (λ (w : Numbers). w.end) g in cc))
      go (ended x) (last fs f g) = last (bs ∷ []) (lines none (ap lines_of x)) (line_is Last (ap (λ (w : Numbers). w.end) g))
      go (ended x) (broken vs f g) = absurd (no (let z : row ([] ∷ []) none ≡ bad = sym (ap lines_of x) ∙ f in cc))
      go (lined n rest x) (more fs past p q f g) =
          let z : row ([] ∷ []) (lines_of rest) ≡ row fs (lines_left true s past) = sym (ap lines_of x) ∙ f in
          let w : lines_of rest ≡ lines_left true s past = cc in
          more (bs ∷ []) past (omega arith) q (lines (lines_left true s past) (ap lines_of x ∙ ap (row ([] ∷ [])) w)) (line_is (More past) (ap (λ (y : Numbers). y.end) g))
      go (lined n rest x) (last fs f g) =
          let y : line_left true s next ≡ record { values = value_of Empty ∷ []; end = More n } = ap (λ (z : Marks). line_of z Empty) x in
          absurd (no (let z : More n ≡ Last = sym (ap (λ (w : Numbers). w.end) y) ∙ ap (λ (w : Numbers). w.end) g in cc))
      go (lined n rest x) (broken vs f g) = absurd (no (let z : row ([] ∷ []) (lines_of rest) ≡ bad = sym (ap lines_of x) ∙ f in cc))

  by_first : ((next : ℕ) → at < next → next ≤ length s → RowLeft true s next) → RowLeft true s at
  unfolding lines_left unfilled lines_of
  by_first rest = go (first s at)
    where
      behind_comma : (bs : List ℕ) (next : ℕ) → at < next → next ≤ length s → marks_at s at ≡ prefix bs (Marks.comma next (marks_at s next)) → (t : Bool) → blank false (drop next s) ≡ t → RowLeft true s at
      behind_comma bs next o l e true h = stops bs next o e h (rest next o l)
      behind_comma bs next o l e false h = goes_on bs next o l e h (rest next o l)

      behind_line : (bs : List ℕ) (next : ℕ) → at < next → next ≤ length s → marks_at s at ≡ prefix bs (Marks.line next (marks_at s next)) → (t : Bool) → blank true (drop next s) ≡ t → RowLeft true s at
      behind_line bs next o l e true h = last (bs ∷ []) (lines_left_lem bs _ e [] none (rw h)) (left_line s at bs next e ∙ rw h)
      behind_line bs next o l e false h = more (bs ∷ []) next o l (lines_left_lem bs _ e [] (lines_left true s next) (rw h)) (left_line s at bs next e ∙ rw h)

      go : First s at → RowLeft true s at
      go (comma bs next o l e) = behind_comma bs next o l e (blank false (drop next s)) refl
      go (line bs next o l e) = behind_line bs next o l e (blank true (drop next s)) refl
      go (end bs e) = last (bs ∷ []) (lines_left_lem bs _ e [] none refl) (left_end s at bs e)
      go (fault bs e) = broken [] (bad_left bs Marks.fault e refl) (left_fault s at bs e)

by_steps : (k : ℕ) (s : List ℕ) (at : ℕ) → length s ≤ at + k → RowLeft true s at
by_steps zero s at h = by_first s at (λ next o l. absurd (omega arith))
by_steps (suc k) s at h = by_first s at (λ next o l. by_steps k s next (omega arith))

pub row_left : (filled : Bool) (s : List ℕ) (at : ℕ) → RowLeft filled s at
unfolding line_left lines_left line_at lines_at
row_left true s at = by_steps (length s) s at (omega arith)
row_left false s at = go (row_at s at)
  where
    go : RowAt s at → RowLeft false s at
    go (text.more fs next o l e g) = more fs next o l e g
    go (text.last fs e g) = last fs e g
    go (text.broken vs e g) = broken vs e g
