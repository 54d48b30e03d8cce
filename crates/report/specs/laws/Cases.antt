-- Texts of which every byte is worked out.
-- Assumes nothing.
use Rattle.std.specs.Prelude.{◌≡◌, refl, [], ◌∷◌}
use Rattle.decimal.specs.Decimal.{digits_in, decimal_of}
use Rattle.decimal.specs.Line.{more_of, line_of}
use Rattle.sheet.specs.Refusals.{given}
use Rattle.sheet.specs.Header.{read_header}
use Rattle.checker.specs.Check.{◌then◌, sheet_header, header_for, sheet_in}
use Rattle.report.specs.Text.{printed, lines_text, text_by, text_of}

-- a sheet of no bytes: `refused 1 0`
pub nothing_text : text_of [] ≡ (114 ∷ 101 ∷ 102 ∷ 117 ∷ 115 ∷ 101 ∷ 100 ∷ 32 ∷ 49 ∷ 32 ∷ 48 ∷ 10 ∷ [])
unfolding text_of printed text_by line_of more_of decimal_of digits_in sheet_in header_for sheet_header read_header ◌then◌
nothing_text = refl

-- a verdict and the totals: `1000 6 100000 3`, `400 0`
pub lines_text_lem : text_by (given ((1000 ∷ 6 ∷ 100_000 ∷ 3 ∷ []) ∷ (400 ∷ 0 ∷ []) ∷ []))
    ≡ (49 ∷ 48 ∷ 48 ∷ 48 ∷ 32 ∷ 54 ∷ 32 ∷ 49 ∷ 48 ∷ 48 ∷ 48 ∷ 48 ∷ 48 ∷ 32 ∷ 51 ∷ 10 ∷ 52 ∷ 48 ∷ 48 ∷ 32 ∷ 48 ∷ 10 ∷ [])
unfolding text_by lines_text line_of more_of decimal_of digits_in
lines_text_lem = refl
