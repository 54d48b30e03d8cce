-- A text written field by field is read as its lines: quotes are taken away and doubled ones halved, LF and CR LF end a line, and the last end may be missing.
-- Assumes nothing.
use Rattle.std.specs.Prelude.{ℕ, ◌+◌, ◌≤◌, ◌≡◌, Bool, cond, length}
use Rattle.std.proofs.Math.Path.{refl, ap}
use Rattle.std.proofs.Common.{sym, ◌∙◌, arith, ne_eqb, eqb-true}
use Rattle.std.proofs.Math.Bool.{true, false}
use mathlib.Core.List.{List, [], ◌∷◌, ◌++◌, map, append_assoc}
use Rattle.std.proofs.Math.Dec.{eqb}
use Rattle.fields.specs.Marks.{seen, outside, inside, marks_at}
use Rattle.fields.specs.Lines.{Lines, row, onto_line, field_more, lines_of, lines_at, lines_in}
use Rattle.fields.specs.Lines as L
use Rattle.fields.specs.declared.Seen.TheVariants.{Data}
use Rattle.fields.specs.declared.Place.{Place}
use Rattle.fields.specs.declared.Place.TheVariants.{Start, Inside, Closed}
use Rattle.csv_laws.specs.Variants.{Cell, Line, doubled, in_quotes, cell_text, cells_text, end_text, spelling, Bare, Fair, FairLines, fields_in}

-- ---- a field

-- a byte that may stand without quotes is one of its field
bare_seen : (b : ℕ) (s : List ℕ) → (b ≡ 44 → ⊥) → (b ≡ 34 → ⊥) → (b ≡ 10 → ⊥) → (b ≡ 13 → ⊥) → seen b s ≡ Data b
bare_seen b s c q l r = rw (ne_eqb b 44 c, ne_eqb b 34 q, ne_eqb b 10 l, ne_eqb b 13 r)

-- what is behind a field: wherever the field was read up to, the text goes on with an empty field's end, and then fs and ls
abbrev After : List ℕ → List (List ℕ) → Lines → Type 0
After t fs ls = (p : Place) (k : ℕ) → lines_of (outside t k p) ≡ row ([] ∷ fs) ls

module _ (t : List ℕ) (fs : List (List ℕ)) (ls : Lines) (after : After t fs ls) where
  -- a field without quotes, from its second byte on and from its first
  run : {bs : List ℕ} → Bare bs → (at : ℕ) → lines_of (outside (bs ++ t) at Inside) ≡ row (bs ∷ fs) ls
  unfolding outside lines_of
  run Bare.none at = after Inside at
  run (Bare.next {b = b} {bs = s} c q l r d) at = rw (bare_seen b (s ++ t) c q l r) (ap (onto_line b) (run d (at + 1)))

  start : {bs : List ℕ} → Bare bs → (at : ℕ) → lines_of (outside (bs ++ t) at Start) ≡ row (bs ∷ fs) ls
  unfolding outside lines_of
  start Bare.none at = after Start at
  start (Bare.next {b = b} {bs = s} c q l r d) at = rw (bare_seen b (s ++ t) c q l r) (ap (onto_line b) (run d (at + 1)))

  -- a field in quotes, behind the first of them
  quoted : (bs : List ℕ) (at : ℕ) → lines_of (inside (doubled bs ++ 34 ∷ t) at) ≡ row (bs ∷ fs) ls
  unfolding outside lines_of doubled
  quoted [] at = after Closed (at + 1)
  quoted (b ∷ bs) at = go (eqb b 34) refl (λ k. quoted bs k)
    where
      go : (q : Bool) → eqb b 34 ≡ q → ((k : ℕ) → lines_of (inside (doubled bs ++ 34 ∷ t) k) ≡ row (bs ∷ fs) ls)
          → lines_of (inside (cond q (34 ∷ 34 ∷ doubled bs) (b ∷ doubled bs) ++ 34 ∷ t) at) ≡ row ((b ∷ bs) ∷ fs) ls
      go true e on = ap (onto_line 34) (on (at + 1 + 1)) ∙ ap (λ (c : ℕ). row ((c ∷ bs) ∷ fs) ls) (sym (eqb-true b 34 e))
      go false e on = rw e (ap (onto_line b) (on (at + 1)))

  -- either
  cell_back : (c : Cell) → (c.quoted ≡ false → Bare c.bytes) → (at : ℕ) → lines_of (outside (cell_text c ++ t) at Start) ≡ row (c.bytes ∷ fs) ls
  unfolding outside lines_of
  cell_back c bare at = go c.quoted refl
    where
      go : (q : Bool) → c.quoted ≡ q → lines_of (outside (cond q (in_quotes c.bytes) c.bytes ++ t) at Start) ≡ row (c.bytes ∷ fs) ls
      go true e = ap (λ (x : List ℕ). lines_of (inside x (at + 1))) (append_assoc (doubled c.bytes) (34 ∷ []) t) ∙ quoted c.bytes (at + 1)
      go false e = start (bare e) at

-- ---- a line

after_comma : (t : List ℕ) (fs : List (List ℕ)) (ls : Lines) → ((k : ℕ) → lines_of (outside t k Start) ≡ row fs ls) → After (44 ∷ t) fs ls
unfolding outside lines_of
after_comma t fs ls e p k = ap field_more (e (k + 1))

-- its fields, by what is behind the last
cells_back : (c : Cell) (cs : List Cell) → Fair (c ∷ cs) → (t : List ℕ) (ls : Lines) → After t [] ls → (at : ℕ)
    → lines_of (outside (cells_text (c ∷ cs) ++ t) at Start) ≡ row (map (λ (d : Cell). d.bytes) (c ∷ cs)) ls
unfolding cells_text
cells_back c [] (Fair.next b s) t ls after at = cell_back t [] ls after c b at
cells_back c (d ∷ cs) (Fair.next b s) t ls after at =
    let fs = map (λ (x : Cell). x.bytes) (d ∷ cs) in
    let u = cells_text (d ∷ cs) ++ t in
    ap (λ (x : List ℕ). lines_of (outside x at Start)) (append_assoc (cell_text c) (44 ∷ cells_text (d ∷ cs)) t)
    ∙ cell_back (44 ∷ u) fs ls (after_comma u fs ls (λ k. cells_back d cs s t ls after k)) c b at

-- the same of a line that has some
line_back : (l : Line) → Fair l.cells → 1 ≤ length (cells_text l.cells) → (t : List ℕ) (ls : Lines) → After t [] ls → (at : ℕ)
    → lines_of (outside (cells_text l.cells ++ t) at Start) ≡ row (fields_in l) ls
unfolding cells_text
line_back l s some t ls after at = go l.cells s some
  where
    go : (cs : List Cell) → Fair cs → 1 ≤ length (cells_text cs) → lines_of (outside (cells_text cs ++ t) at Start) ≡ row (map (λ (d : Cell). d.bytes) cs) ls
    go [] u o = absurd (omega arith)
    go (c ∷ cs) u o = cells_back c cs u t ls after at

-- ---- lines

-- the last line, with its end and without; and an end with more behind it
after_last : (l : Line) (ended : Bool) → After (cond ended (end_text l) []) [] L.none
unfolding outside lines_of
after_last l ended p k = go ended l.both
  where
    go : (e b : Bool) → lines_of (outside (cond e (cond b (13 ∷ 10 ∷ []) (10 ∷ [])) []) k p) ≡ row ([] ∷ []) L.none
    go true true = refl
    go true false = refl
    go false b = refl

after_line : (l : Line) (t : List ℕ) (ls : Lines) → 1 ≤ length t → ((k : ℕ) → lines_of (outside t k Start) ≡ ls) → After (end_text l ++ t) [] ls
unfolding outside lines_of
after_line l t ls some e p k = go l.both t some e
  where
    go : (b : Bool) (u : List ℕ) → 1 ≤ length u → ((j : ℕ) → lines_of (outside u j Start) ≡ ls) → lines_of (outside (cond b (13 ∷ 10 ∷ []) (10 ∷ []) ++ u) k p) ≡ row ([] ∷ []) ls
    go b [] o f = absurd (omega arith)
    go true (x ∷ u) o f = ap (row ([] ∷ [])) (f (k + 1 + 1))
    go false (x ∷ u) o f = ap (row ([] ∷ [])) (f (k + 1))

-- the lines with these fields
unfoldable pub lines_for : List (List (List ℕ)) → Lines
lines_for [] = L.none
lines_for (fs ∷ rest) = row fs (lines_for rest)

-- a text has a byte where its first line has one
longer : (a b : List ℕ) → 1 ≤ length a → 1 ≤ length (a ++ b)
longer [] b l = absurd (omega arith)
longer (x ∷ a) b l = omega arith

spelling_some : (ended : Bool) (l : Line) (ls : List Line) → 1 ≤ length (cells_text l.cells) → 1 ≤ length (spelling ended (l ∷ ls))
unfolding spelling
spelling_some ended l [] o = longer (cells_text l.cells) (cond ended (end_text l) []) o
spelling_some ended l (m ∷ ls) o = longer (cells_text l.cells) (end_text l ++ spelling ended (m ∷ ls)) o

spelling_back : (ended : Bool) (l : Line) (ls : List Line) → FairLines (l ∷ ls) → (at : ℕ) → lines_of (outside (spelling ended (l ∷ ls)) at Start) ≡ lines_for (map fields_in (l ∷ ls))
unfolding spelling lines_for
spelling_back ended l [] (FairLines.next s o n) at = line_back l s o (cond ended (end_text l) []) L.none (after_last l ended) at
spelling_back ended l (m ∷ ls) (FairLines.next s o (FairLines.next u i n)) at =
    let t = spelling ended (m ∷ ls) in
    let rest = lines_for (map fields_in (m ∷ ls)) in
    line_back l s o (end_text l ++ t) rest (after_line l t rest (spelling_some ended m ls i) (λ k. spelling_back ended m ls (FairLines.next u i n) k)) at

-- a text of one line at least is read as its lines
pub lines_back : (ended : Bool) (l : Line) (ls : List Line) → FairLines (l ∷ ls) → lines_in (spelling ended (l ∷ ls)) ≡ lines_for (map fields_in (l ∷ ls))
unfolding lines_at marks_at
lines_back ended l ls s = spelling_back ended l ls s 0
