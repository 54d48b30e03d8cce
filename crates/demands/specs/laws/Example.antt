-- Sheets of bytes on vessel V (L 8000, D0 250, H 60, one run, M 20,000, ZB 200,000), computed: the document's example, one for each row of the table but 9, and one
-- for which two raisings are not enough.
-- Assumes nothing.
use Rattle.std.specs.Prelude.{ℕ, ◌≡◌, refl, List, [], ◌∷◌, ◌++◌, take, set}
use Rattle.sheet.specs.Refusals.{Answer, given, refused}
use Rattle.checker.specs.declared.Entry.{Entry}
use Rattle.checker.specs.Entry.{entry_bytes, read_entry}
use Rattle.decimal.specs.Decimal.{digits_in, decimal_of}
use Rattle.decimal.specs.Line.{more_of, line_of}
use Rattle.report.specs.Text.{printed, lines_text, text_by, text_of}
use Rattle.checker.specs.Check.{answer_of, output_of, four_at}
use Rattle.checker.specs.laws.Computing.{reading, checking}
use Rattle.demands.specs.Raise.{replaced, with_scantling, raised_times}
use Rattle.demands.specs.EmptyPrograms.{checker}

-- V's header, without its last byte, which has the count
abbrev pub vessel : List ℕ
vessel = 23 ∷ 208 ∷ 15 ∷ 163 ∷ 192 ∷ 39 ∷ 16 ∷ 0 ∷ 48 ∷ 212 ∷ 0 ∷ []

-- case 4 as id 7 at T 600, and case 10 as id 12 at T 420, W 560, A 168
abbrev pub example : List ℕ
example =
    vessel
    ++ (16
    ∷ 32 ∷ 31 ∷ 232 ∷ 0 ∷ 7 ∷ 208 ∷ 150 ∷ 0 ∷ 0 ∷ 0 ∷ 0 ∷ 0 ∷ 0 ∷ 0 ∷ 0 ∷ 0
    ∷ 80 ∷ 48 ∷ 0 ∷ 31 ∷ 68 ∷ 176 ∷ 105 ∷ 50 ∷ 100 ∷ 180 ∷ 100 ∷ 2 ∷ 48 ∷ 2 ∷ 163 ∷ 232
    ∷ [])

-- the same at T 617 and W 567
abbrev pub mended : List ℕ
mended =
    vessel
    ++ (16
    ∷ 32 ∷ 31 ∷ 232 ∷ 0 ∷ 7 ∷ 208 ∷ 154 ∷ 64 ∷ 0 ∷ 0 ∷ 0 ∷ 0 ∷ 0 ∷ 0 ∷ 0 ∷ 0
    ∷ 80 ∷ 48 ∷ 0 ∷ 31 ∷ 68 ∷ 176 ∷ 105 ∷ 50 ∷ 100 ∷ 180 ∷ 100 ∷ 2 ∷ 55 ∷ 2 ∷ 163 ∷ 232
    ∷ [])

-- case 10 alone, as id 12, with T, W and A at 1
abbrev pub light : List ℕ
light = vessel ++ (8 ∷ 80 ∷ 48 ∷ 0 ∷ 31 ∷ 68 ∷ 176 ∷ 0 ∷ 114 ∷ 100 ∷ 180 ∷ 100 ∷ 0 ∷ 1 ∷ 0 ∷ 7 ∷ 232 ∷ [])

-- case 10 alone, as id 12 at T 420, W 560, A 168, with σ1 214, where no modulus will do
abbrev pub stressed : List ℕ
stressed = vessel ++ (8 ∷ 80 ∷ 48 ∷ 0 ∷ 31 ∷ 68 ∷ 176 ∷ 105 ∷ 50 ∷ 100 ∷ 181 ∷ 172 ∷ 2 ∷ 48 ∷ 2 ∷ 163 ∷ 232 ∷ [])

-- a plate as in case 4, as id 5, under ballast with zL 1200; its T is four times the number
abbrev pub flooded : ℕ → List ℕ
flooded quarter = vessel ++ (8 ∷ 32 ∷ 23 ∷ 232 ∷ 0 ∷ 7 ∷ 208 ∷ quarter ∷ 0 ∷ 0 ∷ 3 ∷ 44 ∷ 0 ∷ 0 ∷ 0 ∷ 0 ∷ 0 ∷ [])

-- no records
abbrev pub bare : List ℕ
bare = vessel ++ (0 ∷ [])

-- an output of nine bytes, one more than two verdicts take
abbrev pub lent : List ℕ
lent = 170 ∷ 170 ∷ 170 ∷ 170 ∷ 170 ∷ 170 ∷ 170 ∷ 170 ∷ 170 ∷ []

-- as the document prints it: 7 3 617, 12 5 567, each with source 0, 2 records and 2 failures; the ninth byte is as it was lent
pub example_answer : answer_of example 9 ≡ given (record { n = 2; failed = 2 })
unfolding checking
example_answer = refl

pub example_output : output_of example lent ≡ (entry_bytes (record { id = 7; rule = 3; required = 617; source = 0 }) ++ (entry_bytes (record { id = 12; rule = 5; required = 567; source = 0 }) ++ (170 ∷ [])))
unfolding checking
example_output = refl

-- and as text, byte for byte what the document shows, with the sources
pub example_text :
    text_of example
    ≡ (55 ∷ 32 ∷ 51 ∷ 32 ∷ 54 ∷ 49 ∷ 55 ∷ 32 ∷ 48 ∷ 10
    ∷ 49 ∷ 50 ∷ 32 ∷ 53 ∷ 32 ∷ 53 ∷ 54 ∷ 55 ∷ 32 ∷ 48 ∷ 10
    ∷ 50 ∷ 32 ∷ 50 ∷ 10
    ∷ [])
unfolding text_of printed text_by lines_text line_of more_of decimal_of digits_in checking
example_text = refl

-- mended, nothing fails
pub mended_answer : answer_of mended 9 ≡ given (record { n = 2; failed = 0 })
unfolding checking
mended_answer = refl

-- the example with one byte too few, one byte changed, one too many, or too short an output, for each row of the table but 9: the version is 15, the wave height 61, the
-- second record's kind 9, its K 1001, its id 7
pub row_by_row : (answer_of (take 11 example) 9 ≡ refused 1 0)
    × (answer_of (set example 0 247) 9 ≡ refused 2 0)
    × (answer_of (set example 4 208) 9 ≡ refused 3 4)
    × (answer_of (example ++ (0 ∷ [])) 9 ≡ refused 4 0)
    × (answer_of example 7 ≡ refused 5 0)
    × (answer_of (set example 28 144) 9 ≡ refused 6 1)
    × (answer_of (set example 43 233) 9 ≡ refused 7 45)
    × (answer_of (set example 29 28) 9 ≡ refused 8 1)
unfolding answer_of reading
row_by_row = (refl, refl, refl, refl, refl, refl, refl, refl)

-- what is read for the light record after so many raisings
abbrev pub light_after : ℕ → Answer Entry
light_after count = read_entry (four_at 0 (checker.after (raised_times checker lent count 0 light) lent))

-- two raisings are not enough: 4 420, then 5 567, then 6 168, and a pass only after the third
pub two_not_enough : (light_after 0 ≡ given (record { id = 12; rule = 4; required = 420; source = 0 }))
    × (light_after 1 ≡ given (record { id = 12; rule = 5; required = 567; source = 0 }))
    × (light_after 2 ≡ given (record { id = 12; rule = 6; required = 168; source = 0 }))
    × (light_after 3 ≡ given (record { id = 12; rule = 0; required = 0; source = 0 }))
unfolding raised_times with_scantling replaced checking
two_not_enough = (refl, refl, refl, refl)
