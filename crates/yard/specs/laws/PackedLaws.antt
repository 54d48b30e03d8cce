-- No two answers have the same number.
-- Assumes nothing.
use Rattle.std.specs.Prelude.{ℕ, ◌+◌, ◌*◌, ◌≤◌, ◌<◌, ◌≡◌, refl}
use Rattle.std.proofs.Common.{ap, ap₂, arith}
use Rattle.sheet.specs.Versions.{most_records, longest_sheet}
use Rattle.sheet.specs.Refusals.{Answer, given, refused}
use Rattle.checker.specs.Check.{Totals}
use Rattle.checker.specs.Rows.{RefusedBy}
use Rattle.sheet_csv.specs.Steps.{longest_line}
use Rattle.yard.specs.Packed.{number_unit, packed, fine}
use Rattle.yard.specs.Editing.{resized}

-- the ranges that refusals have: the number is at least 1, and the place stays clear of it
abbrev pub Told : {A : Type 0} → Answer A → Type 0
Told x = RefusedBy (λ (k p : ℕ). (0 < k) × (p < number_unit)) x

-- and those of a check's answer: what is given stays clear of the number of a refusal
abbrev pub Answered : Answer Totals → Type 0
Answered (given t) = (t.n < 16777216) × (t.failed < 65536)
Answered (refused k p) = Told {A = Totals} (refused k p)

-- and those of an edit's: the place is at most the last field of one more record than the most, and no sheet is longer than the longest
pub record EditRow (number place : ℕ) : Type 0 where
  pub some : 1 ≤ number
  pub last : number ≤ 11
  pub inside : place ≤ 32 * most_records + 13

abbrev pub Resized : Answer ℕ → Type 0
Resized (given n) = n ≤ longest_sheet
Resized (refused k p) = EditRow k p

-- and those of a text made into a sheet, or a sheet into a text: a line's place is a number of 32 bits, and no text is longer than the longest
pub record TextRow (number place : ℕ) : Type 0 where
  pub some : 1 ≤ number
  pub last : number ≤ 15
  pub inside : place ≤ 4294967295

-- a line for the header and for each of the most records
abbrev pub longest_text : ℕ
longest_text = longest_line * (1 + most_records)

abbrev pub Converted : Answer ℕ → Type 0
Converted (given n) = n ≤ longest_text
Converted (refused k p) = TextRow k p

pub packed_same : (a b : Answer Totals) → Answered a → Answered b → packed a ≡ packed b → a ≡ b
packed_same (given t) (given u) x y e = ap₂ (λ (n f : ℕ). given (record { n = n; failed = f })) (omega (arith, x, y)) (omega (arith, x, y))
packed_same (given t) (refused k p) x y e = absurd (omega (arith, x, y))
packed_same (refused k p) (given t) x y e = absurd (omega (arith, x, y))
packed_same (refused k p) (refused l q) x y e = ap₂ refused (omega (arith, x, y)) (omega (arith, x, y))

-- of a reader or a writer: 0 exactly where there is no refusal
pub fine_given : {A : Type 0} (a : Answer A) → Told a → fine a ≡ 0 → (x : A) × (a ≡ given x)
fine_given (given x) t e = (x, refl)
fine_given (refused k p) t e = absurd (omega (arith, t))

-- and else which refusal it is
pub fine_refused : {A : Type 0} (a : Answer A) (k p : ℕ) → Told a → 0 < k → p < number_unit → fine a ≡ k * number_unit + p → a ≡ refused k p
fine_refused (given x) k p t l m e = absurd (omega arith)
fine_refused (refused j q) k p t l m e = ap₂ refused (omega (arith, t)) (omega (arith, t))

-- of an edit
pub resized_same : (a b : Answer ℕ) → Resized a → Resized b → resized a ≡ resized b → a ≡ b
resized_same (given m) (given n) x y e = ap given e
resized_same (given m) (refused k p) x y e = absurd (omega (arith, x, y.some))
resized_same (refused k p) (given n) x y e = absurd (omega (arith, x.some, y))
resized_same (refused k p) (refused l q) x y e = ap₂ refused (omega (arith, x.inside, y.inside)) (omega (arith, x.inside, y.inside))

-- of a text or a sheet
pub converted_same : (a b : Answer ℕ) → Converted a → Converted b → resized a ≡ resized b → a ≡ b
converted_same (given m) (given n) x y e = ap given e
converted_same (given m) (refused k p) x y e = absurd (omega (arith, x, y.some))
converted_same (refused k p) (given n) x y e = absurd (omega (arith, x.some, y))
converted_same (refused k p) (refused l q) x y e = ap₂ refused (omega (arith, x.inside, y.inside)) (omega (arith, x.inside, y.inside))
