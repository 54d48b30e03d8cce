-- What is left of a text without its filling, said of its rows and fields: each row without the empty fields at its end that have no quotes, but for its first,
-- and no rows at the end that have nothing else, but for the first.
-- Assumes nothing.
use Rattle.std.specs.Prelude.{ℕ, zero, suc, ◌+◌, ◌≤◌, ◌<◌, ◌≡◌, Bool, cond, ◌&&◌, length, drop}
use Rattle.std.proofs.Math.Path.{refl, sym, ap}
use Rattle.std.proofs.Common.{◌∙◌, true≢false, arith}
use Rattle.std.proofs.Math.Bool.{true, false}
use mathlib.Core.List.{List, [], ◌∷◌}
use Rattle.fields.specs.Marks.{Marks, marks_at}
use Rattle.fields.specs.Lines.{Lines, lines_of, lines_at, field_more, onto_line}
use Rattle.fields.specs.Lines as lines
use Rattle.fields.specs.laws.First.{prefix, First, comma, line, end, fault, first}
use Rattle.filling.specs.Filling.{blank, unfilled, lines_left}
use Rattle.filling.specs.laws.RowLaws.{Over, ended, lined, blank_over, lines_left_lem, bad_left, closes, closes_prefix, comma_blank, line_blank, end_blank, fault_blank}
use Rattle.filling.specs.laws.StepLaws.{empty_at}

-- ---- rows of fields

-- a field: its bytes, the quotes taken away, and whether it is empty and has none
pub record Cell : Type 0 where
  pub bytes : List ℕ
  pub empty : Bool

-- no row more; a row whose quotes are at fault; a row of fields, and those after it
pub data Rows : Type 0 where
  none : Rows
  bad : Rows
  row : List Cell → Rows → Rows

-- the bytes alone are the lines
abbrev pub bytes_of : List Cell → List (List ℕ)
bytes_of [] = []
bytes_of (c ∷ cs) = c.bytes ∷ bytes_of cs

abbrev pub plain : Rows → Lines
plain none = lines.none
plain bad = lines.bad
plain (row cs rs) = lines.row (bytes_of cs) (plain rs)

-- ---- those of a text

abbrev pub onto_first : ℕ → List Cell → List Cell
onto_first b [] = []
onto_first b (c ∷ cs) = record { bytes = b ∷ c.bytes; empty = c.empty } ∷ cs

abbrev pub onto_row : ℕ → Rows → Rows
onto_row b none = none
onto_row b bad = bad
onto_row b (row cs rs) = row (onto_first b cs) rs

abbrev pub cell_more : Cell → Rows → Rows
cell_more c none = none
cell_more c bad = bad
cell_more c (row cs rs) = row (c ∷ cs) rs

-- a field that starts at a place, before its bytes are known
abbrev pub cell : List ℕ → (at : ℕ) → Cell
cell s at = record { bytes = []; empty = empty_at s at }

-- the rows of some marks of the text s, whose first field starts at `at`
unfoldable pub rows_of : List ℕ → Marks → (at : ℕ) → Rows
rows_of s (Marks.byte b m) at = onto_row b (rows_of s m at)
rows_of s (Marks.comma next m) at = cell_more (cell s at) (rows_of s m next)
rows_of s (Marks.line next m) at = row (cell s at ∷ []) (rows_of s m next)
rows_of s Marks.end at = row (cell s at ∷ []) none
rows_of s Marks.fault at = bad

abbrev pub rows_at : List ℕ → (at : ℕ) → Rows
rows_at s at = rows_of s (marks_at s at) at

-- ---- without what is empty at the end

abbrev pub keep : Cell → List Cell → List Cell
keep c [] = cond c.empty [] (c ∷ [])
keep c (d ∷ ds) = c ∷ d ∷ ds

abbrev pub trimmed : List Cell → List Cell
trimmed [] = []
trimmed (c ∷ cs) = keep c (trimmed cs)

-- a row keeps its first field
abbrev pub trimmed_row : List Cell → List Cell
trimmed_row [] = []
trimmed_row (c ∷ cs) = c ∷ trimmed cs

abbrev pub is_nil : List Cell → Bool
is_nil [] = true
is_nil (c ∷ cs) = false

abbrev pub keep_row : List Cell → Rows → Rows
keep_row cs none = cond (is_nil (trimmed cs)) none (row (trimmed_row cs) none)
keep_row cs bad = row (trimmed_row cs) bad
keep_row cs (row ds rs) = row (trimmed_row cs) (row ds rs)

abbrev pub trimmed_rows : Rows → Rows
trimmed_rows none = none
trimmed_rows bad = bad
trimmed_rows (row cs rs) = keep_row cs (trimmed_rows rs)

-- and a text its first row
abbrev pub trimmed_text : Rows → Rows
trimmed_text none = none
trimmed_text bad = bad
trimmed_text (row cs rs) = row (trimmed_row cs) (trimmed_rows rs)

-- ---- by the first field

is_none : Rows → Bool
is_none none = true
is_none bad = false
is_none (row cs rs) = false

keep_nil : (c : Cell) (t : List Cell) → is_nil (keep c t) ≡ (c.empty && is_nil t)
keep_nil c [] = go c.empty
  where
    go : (e : Bool) → is_nil (cond e [] (c ∷ [])) ≡ (e && true)
    go true = refl
    go false = refl
keep_nil c (d ∷ ds) = go c.empty
  where
    go : (e : Bool) → false ≡ (e && false)
    go true = refl
    go false = refl

keep_some : (c : Cell) (t : List Cell) → is_nil (keep c t) ≡ false → keep c t ≡ c ∷ t
keep_some c [] h = go c.empty h
  where
    go : (e : Bool) → is_nil (cond e [] (c ∷ [])) ≡ false → cond e [] (c ∷ []) ≡ c ∷ []
    go true u = absurd (true≢false u)
    go false u = refl
keep_some c (d ∷ ds) h = refl

keep_none : (c : Cell) (t : List Cell) → is_nil (keep c t) ≡ true → t ≡ []
keep_none c [] h = refl
keep_none c (d ∷ ds) h = absurd (true≢false (sym h))

row_none : (cs : List Cell) (r : Rows) → is_none (keep_row cs r) ≡ (is_nil (trimmed cs) && is_none r)
unfolding is_none
row_none cs none = go (is_nil (trimmed cs))
  where
    go : (e : Bool) → is_none (cond e none (row (trimmed_row cs) none)) ≡ (e && true)
    go true = refl
    go false = refl
row_none cs bad = go (is_nil (trimmed cs))
  where
    go : (e : Bool) → false ≡ (e && false)
    go true = refl
    go false = refl
row_none cs (row ds rs) = go (is_nil (trimmed cs))
  where
    go : (e : Bool) → false ≡ (e && false)
    go true = refl
    go false = refl

rows_none : (r : Rows) → is_none r ≡ true → r ≡ none
unfolding is_none
rows_none none h = refl
rows_none bad h = absurd (true≢false (sym h))
rows_none (row cs rs) h = absurd (true≢false (sym h))

row_some : (cs : List Cell) (r : Rows) → is_none (keep_row cs r) ≡ false → keep_row cs r ≡ row (trimmed_row cs) r
unfolding is_none
row_some cs none h = go (is_nil (trimmed cs)) h
  where
    go : (e : Bool) → is_none (cond e none (row (trimmed_row cs) none)) ≡ false → cond e none (row (trimmed_row cs) none) ≡ row (trimmed_row cs) none
    go true u = absurd (true≢false u)
    go false u = refl
row_some cs bad h = refl
row_some cs (row ds rs) h = refl

rows_prefix : (s bs : List ℕ) (m : Marks) (at : ℕ) (e : Bool) (cs : List Cell) (rs : Rows) → rows_of s m at ≡ row (record { bytes = []; empty = e } ∷ cs) rs
    → rows_of s (prefix bs m) at ≡ row (record { bytes = bs; empty = e } ∷ cs) rs
unfolding rows_of
rows_prefix s [] m at e cs rs h = h
rows_prefix s (b ∷ bs) m at e cs rs h = ap (onto_row b) (rows_prefix s bs m at e cs rs h)

rows_bad : (s bs : List ℕ) (m : Marks) (at : ℕ) → rows_of s m at ≡ bad → rows_of s (prefix bs m) at ≡ bad
unfolding rows_of
rows_bad s [] m at h = h
rows_bad s (b ∷ bs) m at h = ap (onto_row b) (rows_bad s bs m at h)

-- a row has a field
abbrev Filled : Rows → Type 0
Filled none = Unit {0}
Filled bad = Unit {0}
Filled (row [] rs) = ⊥
Filled (row (c ∷ cs) rs) = Unit {0}

-- what is known from a field's start on
data Trim (s : List ℕ) (at : ℕ) : Type 0 where
  cut : (c : Cell) (cs : List Cell) (rs : Rows) → rows_at s at ≡ row (c ∷ cs) rs → blank false (drop at s) ≡ is_nil (trimmed (c ∷ cs))
      → blank true (drop at s) ≡ is_none (trimmed_rows (row (c ∷ cs) rs)) → lines_left true s at ≡ plain (trimmed_text (row (c ∷ cs) rs)) → Trim s at
  broken : rows_at s at ≡ bad → blank false (drop at s) ≡ false → blank true (drop at s) ≡ false → lines_left true s at ≡ lines.bad → Trim s at

and_assoc : (a b c : Bool) → (a && (b && c)) ≡ ((a && b) && c)
and_assoc true b c = refl
and_assoc false b c = refl

and_true : (a : Bool) → a ≡ (a && true)
and_true true = refl
and_true false = refl

and_false : (a : Bool) → (a && false) ≡ false
and_false true = refl
and_false false = refl

module _ (all : Bool) (s : List ℕ) (at : ℕ) (bs : List ℕ) where
  at_comma : (next : ℕ) → marks_at s at ≡ prefix bs (Marks.comma next (marks_at s next)) → blank all (drop at s) ≡ (empty_at s at && blank all (drop next s))
  unfolding marks_at
  at_comma next e = comma_blank all s (drop at s) at bs next _ refl e

  at_line : (next : ℕ) → marks_at s at ≡ prefix bs (Marks.line next (marks_at s next)) → blank all (drop at s) ≡ (empty_at s at && cond all (blank true (drop next s)) true)
  unfolding marks_at
  at_line next e = line_blank all s (drop at s) at bs next _ refl e

  at_end : marks_at s at ≡ prefix bs Marks.end → blank all (drop at s) ≡ empty_at s at
  unfolding marks_at
  at_end e = end_blank all (drop at s) at (ap closes e ∙ closes_prefix bs Marks.end)

  at_fault : marks_at s at ≡ prefix bs Marks.fault → blank all (drop at s) ≡ false
  unfolding marks_at
  at_fault e = fault_blank all (drop at s) at (ap closes e ∙ closes_prefix bs Marks.fault)

module _ (s : List ℕ) (at : ℕ) where
  abbrev here : List ℕ → Cell
  here bs = record { bytes = bs; empty = empty_at s at }

  behind_comma : (bs : List ℕ) (next : ℕ) → marks_at s at ≡ prefix bs (Marks.comma next (marks_at s next)) → Trim s next → Trim s at
  unfolding rows_of lines_left unfilled lines_of marks_at is_none
  behind_comma bs next e (cut c cs rs er b1 b2 l) =
      let t = trimmed (c ∷ cs) in
      let r = trimmed_rows rs in
      cut (here bs) (c ∷ cs) rs
      (ap (λ (m : Marks). rows_of s m at) e ∙ rows_prefix s bs _ at (empty_at s at) (c ∷ cs) rs (ap (cell_more (cell s at)) er))
      (at_comma false s at bs next e ∙ ap (λ (x : Bool). empty_at s at && x) b1 ∙ sym (keep_nil (here bs) t))
      (at_comma true s at bs next e ∙ ap (λ (x : Bool). empty_at s at && x) (b2 ∙ row_none (c ∷ cs) r) ∙ and_assoc (empty_at s at) (is_nil t) (is_none r)
      ∙ ap (λ (x : Bool). x && is_none r) (sym (keep_nil (here bs) t)) ∙ sym (row_none (here bs ∷ c ∷ cs) r))
      (go (is_nil t) refl)
    where
      go : (x : Bool) → is_nil (trimmed (c ∷ cs)) ≡ x → lines_left true s at ≡ plain (row (here bs ∷ trimmed (c ∷ cs)) (trimmed_rows rs))
      go false h = lines_left_lem s at bs _ e (c.bytes ∷ bytes_of (trimmed cs)) (plain (trimmed_rows rs)) (rw (b1 ∙ h) (ap field_more l)) ∙ ap (λ (k : List Cell). plain (row (here bs ∷ k) (trimmed_rows rs))) (sym (keep_some c (trimmed cs) h))
      go true h = only (blank_over s (drop next s) next refl (b1 ∙ h))
        where
          none_left : trimmed (c ∷ cs) ≡ []
          none_left = go_nil (trimmed (c ∷ cs)) h
            where
              go_nil : (k : List Cell) → is_nil k ≡ true → k ≡ []
              go_nil [] u = refl
              go_nil (d ∷ ds) u = absurd (true≢false (sym u))

          same : (ls : Lines) → lines_left true s next ≡ lines.row ([] ∷ []) ls → ls ≡ plain (trimmed_rows rs)
          same ls f = let z : lines.row ([] ∷ []) ls ≡ lines.row (c.bytes ∷ bytes_of (trimmed cs)) (plain (trimmed_rows rs)) = sym f ∙ l in cc

          told : (ls : Lines) → lines_left true s next ≡ lines.row ([] ∷ []) ls → lines_left true s at ≡ plain (row (here bs ∷ trimmed (c ∷ cs)) (trimmed_rows rs))
          told ls f = lines_left_lem s at bs _ e [] ls (rw (b1 ∙ h) f) ∙ ap (lines.row (bs ∷ [])) (same ls f) ∙ ap (λ (k : List Cell). plain (row (here bs ∷ k) (trimmed_rows rs))) (sym none_left)

          only : Over (unfilled s (marks_at s next)) → lines_left true s at ≡ plain (row (here bs ∷ trimmed (c ∷ cs)) (trimmed_rows rs))
          only (ended x) = told lines.none (ap lines_of x)
          only (lined n rest x) = told (lines_of rest) (ap lines_of x)
  behind_comma bs next e (broken er b1 b2 l) =
      broken (ap (λ (m : Marks). rows_of s m at) e ∙ rows_bad s bs _ at (ap (cell_more (cell s at)) er))
      (at_comma false s at bs next e ∙ ap (λ (x : Bool). empty_at s at && x) b1 ∙ and_false (empty_at s at))
      (at_comma true s at bs next e ∙ ap (λ (x : Bool). empty_at s at && x) b2 ∙ and_false (empty_at s at))
      (bad_left s at bs _ e (rw b1 (ap field_more l)))

  behind_line : (bs : List ℕ) (next : ℕ) → marks_at s at ≡ prefix bs (Marks.line next (marks_at s next)) → Trim s next → Trim s at
  unfolding rows_of lines_left unfilled lines_of is_none
  behind_line bs next e (cut c cs rs er b1 b2 l) =
      cut (here bs) [] (row (c ∷ cs) rs)
      (ap (λ (m : Marks). rows_of s m at) e ∙ rows_prefix s bs _ at (empty_at s at) [] (row (c ∷ cs) rs) (ap (row (cell s at ∷ [])) er))
      (at_line false s at bs next e ∙ sym (keep_nil (here bs) []))
      (at_line true s at bs next e ∙ ap (λ (x : Bool). empty_at s at && x) b2 ∙ ap (λ (x : Bool). x && is_none (keep_row (c ∷ cs) (trimmed_rows rs))) (and_true (empty_at s at) ∙ sym (keep_nil (here bs) [])) ∙ sym (row_none (here bs ∷ []) (keep_row (c ∷ cs) (trimmed_rows rs))))
      (go (blank true (drop next s)) refl)
    where
      go : (x : Bool) → blank true (drop next s) ≡ x → lines_left true s at ≡ lines.row (bs ∷ []) (plain (keep_row (c ∷ cs) (trimmed_rows rs)))
      go true h = lines_left_lem s at bs _ e [] lines.none (rw h) ∙ ap (λ (k : Rows). lines.row (bs ∷ []) (plain k)) (sym (rows_none (keep_row (c ∷ cs) (trimmed_rows rs)) (sym b2 ∙ h)))
      go false h = lines_left_lem s at bs _ e [] (lines_left true s next) (rw h) ∙ ap (lines.row (bs ∷ [])) l ∙ ap (λ (k : Rows). lines.row (bs ∷ []) (plain k)) (sym (row_some (c ∷ cs) (trimmed_rows rs) (sym b2 ∙ h)))
  behind_line bs next e (broken er b1 b2 l) =
      cut (here bs) [] bad
      (ap (λ (m : Marks). rows_of s m at) e ∙ rows_prefix s bs _ at (empty_at s at) [] bad (ap (row (cell s at ∷ [])) er))
      (at_line false s at bs next e ∙ sym (keep_nil (here bs) []))
      (at_line true s at bs next e ∙ ap (λ (x : Bool). empty_at s at && x) b2 ∙ and_false (empty_at s at))
      (lines_left_lem s at bs _ e [] (lines_left true s next) (rw b2) ∙ ap (lines.row (bs ∷ [])) l)

  by_first : ((next : ℕ) → at < next → next ≤ length s → Trim s next) → Trim s at
  unfolding rows_of lines_left unfilled lines_of is_none
  by_first rest = go (first s at)
    where
      go : First s at → Trim s at
      go (comma bs next o l e) = behind_comma bs next e (rest next o l)
      go (line bs next o l e) = behind_line bs next e (rest next o l)
      go (end bs e) =
          cut (here bs) [] none
          (ap (λ (m : Marks). rows_of s m at) e ∙ rows_prefix s bs _ at (empty_at s at) [] none refl)
          (at_end false s at bs e ∙ and_true (empty_at s at) ∙ sym (keep_nil (here bs) []))
          (at_end true s at bs e ∙ and_true (empty_at s at) ∙ ap (λ (x : Bool). x && true) (and_true (empty_at s at) ∙ sym (keep_nil (here bs) [])) ∙ sym (row_none (here bs ∷ []) none))
          (lines_left_lem s at bs _ e [] lines.none refl)
      go (fault bs e) = broken (ap (λ (m : Marks). rows_of s m at) e ∙ rows_bad s bs _ at refl) (at_fault false s at bs e) (at_fault true s at bs e) (bad_left s at bs Marks.fault e refl)

by_steps : (k : ℕ) (s : List ℕ) (at : ℕ) → length s ≤ at + k → Trim s at
by_steps zero s at h = by_first s at (λ next o l. absurd (omega arith))
by_steps (suc k) s at h = by_first s at (λ next o l. by_steps k s next (omega arith))

-- ---- the theorem

pub left_rows : (s : List ℕ) → lines_left true s 0 ≡ plain (trimmed_text (rows_at s 0))
left_rows s = go (by_steps (length s) s 0 (omega arith))
  where
    go : Trim s 0 → lines_left true s 0 ≡ plain (trimmed_text (rows_at s 0))
    go (cut c cs rs er b1 b2 l) = l ∙ ap (λ (r : Rows). plain (trimmed_text r)) (sym er)
    go (broken er b1 b2 l) = l ∙ ap (λ (r : Rows). plain (trimmed_text r)) (sym er)

-- and the bytes of the rows' fields are those of the text's lines
onto_plain : (b : ℕ) (r : Rows) → Filled r → plain (onto_row b r) ≡ onto_line b (plain r)
onto_plain b none f = refl
onto_plain b bad f = refl
onto_plain b (row [] rs) f = elim f [ ]
onto_plain b (row (c ∷ cs) rs) f = refl

more_plain : (s : List ℕ) (at : ℕ) (r : Rows) → plain (cell_more (cell s at) r) ≡ field_more (plain r)
more_plain s at none = refl
more_plain s at bad = refl
more_plain s at (row cs rs) = refl

filled : (s : List ℕ) (m : Marks) (at : ℕ) → Filled (rows_of s m at)
unfolding rows_of
filled s (Marks.byte b m) at = go (rows_of s m at) (filled s m at)
  where
    go : (r : Rows) → Filled r → Filled (onto_row b r)
    go none f = tt
    go bad f = tt
    go (row [] rs) f = elim f [ ]
    go (row (c ∷ cs) rs) f = tt
filled s (Marks.comma next m) at = go (rows_of s m next)
  where
    go : (r : Rows) → Filled (cell_more (cell s at) r)
    go none = tt
    go bad = tt
    go (row cs rs) = tt
filled s (Marks.line next m) at = tt
filled s Marks.end at = tt
filled s Marks.fault at = tt

rows_plain : (s : List ℕ) (m : Marks) (at : ℕ) → plain (rows_of s m at) ≡ lines_of m
unfolding rows_of lines_of
rows_plain s (Marks.byte b m) at = onto_plain b (rows_of s m at) (filled s m at) ∙ ap (onto_line b) (rows_plain s m at)
rows_plain s (Marks.comma next m) at = more_plain s at (rows_of s m next) ∙ ap field_more (rows_plain s m next)
rows_plain s (Marks.line next m) at = ap (lines.row ([] ∷ [])) (rows_plain s m next)
rows_plain s Marks.end at = refl
rows_plain s Marks.fault at = refl

pub rows_lines : (s : List ℕ) → plain (rows_at s 0) ≡ lines_at s 0
unfolding lines_at
rows_lines s = rows_plain s (marks_at s 0) 0
