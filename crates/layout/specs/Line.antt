-- A layout's lines: how wide each field is and which values it may hold; and the first field that is at fault.
use Rattle.std.specs.Prelude.{ℕ, zero, suc, ◌^◌, ◌<◌, ◌≡◌, Bool, true, false, cond, ◌&&◌, ◌||◌, List, [], ◌∷◌, length, ltb}
use Rattle.quantity.specs.Range.{Range, within, from}

-- so many bits, and the ranges in which its values lie
pub record Line : Type 0 where
  pub width : ℕ
  pub values : List Range

-- a line whose values are one range
abbrev pub line : ℕ → Range → Line
line w r = record { width = w; values = r ∷ [] }

-- a field that carries nothing: its bits are 0
abbrev pub zeros : ℕ → Line
zeros w = line w (from 0 0)

-- whether a number lies in one of the ranges
abbrev pub among : List Range → ℕ → Bool
among [] v = false
among (r ∷ []) v = within r v
among (r ∷ s ∷ rs) v = within r v || among (s ∷ rs) v

-- whether a line allows a value
abbrev pub allows : Line → ℕ → Bool
allows l v = among l.values v

-- the widths alone
abbrev pub widths : List Line → List ℕ
widths [] = []
widths (l ∷ ls) = l.width ∷ widths ls

-- every value is allowed by its line, and there are as many values as lines
abbrev pub Allowed : List Line → List ℕ → Type 0
Allowed [] [] = Unit {0}
Allowed [] (v ∷ vs) = ⊥
Allowed (l ∷ ls) [] = ⊥
Allowed (l ∷ ls) (v ∷ vs) = (allows l v ≡ true) × Allowed ls vs

-- whether the line at an index, from 0, allows the value there; where either is missing it does not
abbrev pub allows_at : ℕ → List Line → List ℕ → Bool
allows_at i [] vs = false
allows_at i (l ∷ ls) [] = false
allows_at zero (l ∷ ls) (v ∷ vs) = allows l v
allows_at (suc i) (l ∷ ls) (v ∷ vs) = allows_at i ls vs

-- the number of the first field at fault, the first of the fields being k; 0 where there is none
abbrev pub fault_from : ℕ → List Line → List ℕ → ℕ
fault_from k [] [] = 0
fault_from k [] (v ∷ vs) = k
fault_from k (l ∷ ls) [] = k
fault_from k (l ∷ ls) (v ∷ vs) = cond (allows l v) (fault_from (suc k) ls vs) k

-- the field at an index, from 0, is at fault and no earlier one is
pub record FirstFault (i : ℕ) (ls : List Line) (vs : List ℕ) : Type 0 where
  pub inside : i < length ls
  pub faulty : allows_at i ls vs ≡ false
  pub earlier : (j : ℕ) → j < i → allows_at j ls vs ≡ true

-- whether all ranges end below a number
abbrev pub end_below : ℕ → List Range → Bool
end_below m [] = true
end_below m (r ∷ rs) = ltb r.high m && end_below m rs

-- whether every value that the lines allow fits its width
abbrev pub lines_fit : List Line → Bool
lines_fit [] = true
lines_fit (l ∷ ls) = end_below (2 ^ l.width) l.values && lines_fit ls
