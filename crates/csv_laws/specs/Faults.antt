-- When a text is turned away by a line, said over its fields: the first faulty line decides, by its quotes, then by the count of its fields, then by a
-- field that is no number so written or is too wide.
use Rattle.std.specs.Prelude.{ℕ, suc, ◌+◌, ◌^◌, ◌<◌, ◌≡◌, Bool, true, false, cond, List, [], ◌∷◌, ◌++◌, length, get_or, take}
use Rattle.quantity.specs.Range.{within}
use Rattle.decimal.specs.Decimal.{decimal_of}
use Rattle.sheet.specs.Versions.{version_numbers, numbered}
use Rattle.sheet.specs.Lines.{first_widths, own_widths, plate_widths}
use Rattle.fields.specs.Lines.{Lines, none, bad, row}
use Rattle.rows.specs.Forms.{first_count, own_count, record_widths, record_count}
use Rattle.rows.specs.Rows.{kinds}
use Rattle.sheet_csv.specs.Read.{next_line}

-- ---- a line

-- a field that is a number so written, of so many bits at most
abbrev pub Spells : (bits : ℕ) → List ℕ → Type 0
Spells bits f = (v : ℕ) × (f ≡ decimal_of v) × (v < 2 ^ bits)

-- one of the fields is not, the first of them having the first of these widths
pub data Misspelt : (widths : List ℕ) → List (List ℕ) → Type 0 where
  here : {w : ℕ} {ws f : List ℕ} {fs : List (List ℕ)} → (Spells w f → ⊥) → Misspelt (w ∷ ws) (f ∷ fs)
  behind : {w : ℕ} {ws f : List ℕ} {fs : List (List ℕ)} → Misspelt ws fs → Misspelt (w ∷ ws) (f ∷ fs)

-- the first field of the first line is the number of a version, or that of another is a kind
abbrev pub Names : (head : Bool) → List (List ℕ) → (k : ℕ) → Type 0
Names head fs k = (rest : List (List ℕ)) × (fs ≡ decimal_of k ∷ rest) × (within (cond head version_numbers kinds) k ≡ true)

-- how many fields a line then has, and how wide they are, without the zero bits
abbrev pub count_for : (head : Bool) → (k : ℕ) → ℕ
count_for head k = cond head (first_count + own_count (numbered k)) (record_count k)

abbrev pub widths_for : (head : Bool) → (k : ℕ) → List ℕ
widths_for head k = cond head (take first_count first_widths ++ take (own_count (numbered k)) (own_widths (numbered k))) (take (record_count k) (record_widths k))

-- how wide a version is, and a kind
abbrev pub first_width : (head : Bool) → ℕ
first_width head = get_or (cond head first_widths plate_widths) 0 0

-- a line whose quotes are fine is at fault: its fields are not as many, or one of them is no number so written; of a line whose version or kind is not known
-- only the first is looked at
pub data Amiss (head : Bool) (fs : List (List ℕ)) : (number : ℕ) → Type 0 where
  count : (k : ℕ) → Names head fs k → (length fs ≡ count_for head k → ⊥) → Amiss head fs 15
  field : (k : ℕ) → Names head fs k → length fs ≡ count_for head k → Misspelt (widths_for head k) fs → Amiss head fs 14
  first : ((k : ℕ) → Names head fs k → ⊥) → Misspelt (first_width head ∷ []) fs → Amiss head fs 14

-- ---- lines

-- the first faulty line, the first of all having the place p: which refusal it gives, and its place
pub data FirstFaulty : (head : Bool) (p : ℕ) → Lines → (number place : ℕ) → Type 0 where
  quotes : {head : Bool} {p : ℕ} → FirstFaulty head p bad 14 p
  line : {head : Bool} {p : ℕ} {fs : List (List ℕ)} {ls : Lines} {n : ℕ} → Amiss head fs n → FirstFaulty head p (row fs ls) n p
  later : {head : Bool} {p : ℕ} {fs : List (List ℕ)} {ls : Lines} {n q : ℕ} → ((m : ℕ) → Amiss head fs m → ⊥) → FirstFaulty false (next_line p) ls n q → FirstFaulty head p (row fs ls) n q

-- how many lines there are, and how many of them are lines of records
unfoldable pub lines_count : Lines → ℕ
lines_count none = 0
lines_count bad = 0
lines_count (row fs ls) = suc (lines_count ls)

abbrev pub record_lines : Lines → ℕ
record_lines none = 0
record_lines bad = 0
record_lines (row fs ls) = lines_count ls
