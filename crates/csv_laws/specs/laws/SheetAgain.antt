-- Sheet to text to sheet gives the same bytes.
-- Assumes nothing.
use Rattle.std.specs.Prelude.{ℕ, ◌≤◌, ◌≡◌, true, List, map, length, leb}
use Rattle.std.proofs.Common.{sym, ap, ◌∙◌}
use Rattle.sheet.specs.Refusals.{given}
use Rattle.sheet.specs.laws.RefusalLaws.{given_same}
use Rattle.fields.specs.Lines.{lines_in}
use Rattle.checker.specs.Check.{demand, Sheet}
use Rattle.checker.specs.laws.ThenLaws.{then_given}
use Rattle.checker.specs.Unjudged.{sound_sheet}
use Rattle.sheet_csv.specs.Read.{sheet_made, sheet_from}
use Rattle.sheet_csv.specs.Write.{cells_of, text_of, text_from}
use Rattle.csv_laws.specs.Variants.{plain_line}
use Rattle.csv_laws.specs.laws.Accepted.{variants_made, sheet_taken, written_variant}
use Rattle.csv_laws.specs.laws.SheetBytes.{Bytes}

-- the text of a sheet that is not turned away makes the sheet
pub text_made : (s : List ℕ) (t : Sheet) → Bytes s → sound_sheet s ≡ given t → sheet_made (lines_in (text_of t)) ≡ given s
text_made s t f e =
    let w = written_variant t in
    ap (λ (y : List ℕ). sheet_made (lines_in y)) w.1 ∙ variants_made s t f e true (map plain_line (cells_of t)) w.0

-- what was written of a sheet is read as it, byte for byte, in any output that has room for it
pub sheet_again : (s x : List ℕ) (room space : ℕ) → Bytes s → text_from s room ≡ given x → length s ≤ space → sheet_from x space ≡ given s
unfolding text_from
sheet_again s x room space f e l =
    let a = then_given (sound_sheet s) _ x e in
    let b = then_given (demand (leb (length (text_of a.0)) room) 5) _ x a.2 in
    let same : text_of a.0 ≡ x = given_same b.2 in
    sheet_taken x s a.0 space (ap (λ (y : List ℕ). sheet_made (lines_in y)) (sym same) ∙ text_made s a.0 f a.1) a.1 l
