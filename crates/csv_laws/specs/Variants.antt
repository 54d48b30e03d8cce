-- A text field by field, as a program may write it: each field in quotes or not, LF or CR LF after each line, after the last one of them or nothing.
use Rattle.std.specs.Prelude.{ℕ, ◌≤◌, ◌≡◌, Bool, true, false, cond, List, [], ◌∷◌, ◌++◌, map, length, eqb}
use Rattle.decimal.specs.Decimal.{decimal_of}
use Rattle.checker.specs.Check.{Sheet}
use Rattle.sheet_csv.specs.Write.{cells_of}

-- a field: its bytes, and whether they stand in quotes
pub record Cell : Type 0 where
  pub bytes : List ℕ
  pub quoted : Bool

-- a line: its fields, and whether CR LF ends it, or LF alone
pub record Line : Type 0 where
  pub cells : List Cell
  pub both : Bool

-- ---- the text

-- bytes with each quote among them doubled
unfoldable pub doubled : List ℕ → List ℕ
doubled [] = []
doubled (b ∷ bs) = cond (eqb b 34) (34 ∷ 34 ∷ doubled bs) (b ∷ doubled bs)

-- the same between quotes
abbrev pub in_quotes : List ℕ → List ℕ
in_quotes bs = 34 ∷ (doubled bs ++ 34 ∷ [])

-- a field as it stands in the text
abbrev pub cell_text : Cell → List ℕ
cell_text c = cond c.quoted (in_quotes c.bytes) c.bytes

-- the fields of a line, a comma between two of them
unfoldable pub cells_text : List Cell → List ℕ
cells_text [] = []
cells_text (c ∷ []) = cell_text c
cells_text (c ∷ d ∷ cs) = cell_text c ++ 44 ∷ cells_text (d ∷ cs)

-- the end of a line
abbrev pub end_text : Line → List ℕ
end_text l = cond l.both (13 ∷ 10 ∷ []) (10 ∷ [])

-- the text of some lines; `ended` says whether the last one's end is there
unfoldable pub spelling : (ended : Bool) → List Line → List ℕ
spelling ended [] = []
spelling ended (l ∷ []) = cells_text l.cells ++ cond ended (end_text l) []
spelling ended (l ∷ m ∷ ls) = cells_text l.cells ++ (end_text l ++ spelling ended (m ∷ ls))

-- ---- which texts

-- bytes that may stand without quotes: no comma, no quote, no LF and no CR among them
pub data Bare : List ℕ → Type 0 where
  none : Bare []
  next : {b : ℕ} {bs : List ℕ} → (b ≡ 44 → ⊥) → (b ≡ 34 → ⊥) → (b ≡ 10 → ⊥) → (b ≡ 13 → ⊥) → Bare bs → Bare (b ∷ bs)

-- every field that is not in quotes may do without them
pub data Fair : List Cell → Type 0 where
  none : Fair []
  next : {c : Cell} {cs : List Cell} → (c.quoted ≡ false → Bare c.bytes) → Fair cs → Fair (c ∷ cs)

-- so in every line, and none is empty
pub data FairLines : List Line → Type 0 where
  none : FairLines []
  next : {l : Line} {ls : List Line} → Fair l.cells → 1 ≤ length (cells_text l.cells) → FairLines ls → FairLines (l ∷ ls)

-- the bytes of the fields, line by line
abbrev pub fields_in : Line → List (List ℕ)
fields_in l = map (λ (c : Cell). c.bytes) l.cells

-- the fields are the numbers of a sheet in decimal, whatever stands in quotes and however its lines end
abbrev pub Variant : Sheet → List Line → Type 0
Variant t ls = map fields_in ls ≡ map (λ (ns : List ℕ). map decimal_of ns) (cells_of t)

-- ---- the written one

-- a number with no quotes, and a line of such numbers that CR LF ends
abbrev pub plain_cell : ℕ → Cell
plain_cell n = record { bytes = decimal_of n; quoted = false }

abbrev pub plain_line : List ℕ → Line
plain_line ns = record { cells = map plain_cell ns; both = true }
