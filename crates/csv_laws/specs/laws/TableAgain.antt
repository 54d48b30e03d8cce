-- A table that is read, at once or without its filling, is a sheet whose own text reads as the same.
-- Assumes nothing.
use Rattle.std.specs.Prelude.{ℕ, ◌≤◌, ◌≡◌, Bool, true, false, cond, not, ◌&&◌, ◌⊎◌, List, length, leb}
use Rattle.std.proofs.Common.{sym, ap, ◌∙◌, inl, inr, ⊎_elim, arith, leb-true}
use Rattle.sheet.specs.Refusals.{Answer, given, refused}
use Rattle.sheet.specs.laws.RefusalLaws.{given_same, given_refused}
use Rattle.fields.specs.Lines.{Lines, lines_in}
use Rattle.filling.specs.Filling.{lines_left}
use Rattle.checker.specs.Check.{demand, Sheet}
use Rattle.checker.specs.laws.ThenLaws.{then_given, demand_given}
use Rattle.checker.specs.Unjudged.{sound_sheet}
use Rattle.sheet_csv.specs.Read.{sheet_made, sheet_of, sheet_from}
use Rattle.sheet_csv.specs.Table.{unfilled_from, by_line, stands, of_both, table_from}
use Rattle.sheet_csv.specs.Write.{text_of}
use Rattle.csv_laws.specs.laws.Accepted.{sheet_taken}
use Rattle.csv_laws.specs.laws.SheetAgain.{text_made}
use Rattle.csv_laws.specs.laws.TextAgain.{sheet_made_bytes}

-- a sheet is not turned away, and its text is read as it
pub record Again (s : List ℕ) (space : ℕ) : Type 0 where
  pub sheet : Sheet
  pub sound : sound_sheet s ≡ given sheet
  pub read : sheet_from (text_of sheet) space ≡ given s

-- of lines that are a sheet
lines_again : (ls : Lines) (space : ℕ) (s : List ℕ) → sheet_of ls space ≡ given s → Again s space
lines_again ls space s e =
    let a = then_given (sheet_made ls) _ s e in
    let b = then_given (sound_sheet a.0) _ s a.2 in
    let c = then_given (demand (leb (length a.0) space) 5) _ s b.2 in
    let same : a.0 ≡ s = given_same c.2 in
    let made : sheet_made ls ≡ given s = a.1 ∙ ap given same in
    let sound : sound_sheet s ≡ given b.0 = ap sound_sheet (sym same) ∙ b.1 in
    let fits : length s ≤ space = omega (arith, leb-true (length a.0) space (demand_given (leb (length a.0) space) 5 c.0 c.1), ap length same) in
    record { sheet = b.0; sound = sound; read = sheet_taken (text_of b.0) s b.0 space (text_made s b.0 (sheet_made_bytes ls s made) sound) sound fits }

-- it was read on the first look, or on the second
either : (a b : Answer (List ℕ)) (s : List ℕ) → of_both a b ≡ given s → (a ≡ given s) ⊎ (b ≡ given s)
either (given c) b s e = inl e
either (refused k p) b s e = go (by_line k && not (stands k p b)) e
  where
    go : (t : Bool) → cond t b (refused k p) ≡ given s → (refused k p ≡ given s) ⊎ (b ≡ given s)
    go true f = inr f
    go false f = given_refused (sym f)

pub table_again : (x : List ℕ) (space : ℕ) (s : List ℕ) → table_from x space ≡ given s → Again s space
unfolding table_from sheet_from
table_again x space s e = ⊎_elim (λ f. lines_again (lines_in x) space s f) (λ f. lines_again (lines_left true x 0) space s f) (either (sheet_from x space) (unfilled_from x space) s e)
