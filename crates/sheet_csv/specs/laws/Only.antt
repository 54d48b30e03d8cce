-- Two answers, and two outputs, that meet a promise of this crate are equal.
-- Assumes nothing.
use Rattle.std.specs.Prelude.{ℕ, ◌≡◌, List, Result, Ok, Err}
use Rattle.std.proofs.Common.{sym, ap, ◌∙◌}
use Rattle.sheet.specs.Refusals.{Answer, told_result}
use Rattle.sheet.specs.laws.RefusalLaws.{result_only}
use Rattle.sheet_csv.specs.Read.{sheet_from, Converts}
use Rattle.sheet_csv.specs.Table.{table_from}
use Rattle.sheet_csv.specs.Write.{text_from}
use Rattle.sheet.specs.declared.Refusal.{Refusal}

converts_only : (a : Answer (List ℕ)) (o : List ℕ) (q r : Result ℕ Refusal) (x y : List ℕ) → Converts a o q x → Converts a o r y → (q ≡ r) × (x ≡ y)
converts_only a o q r x y e f = (result_only _ q r e.answer f.answer, e.bytes ∙ sym f.bytes)

pub read_sheet_only : (s : List ℕ) (room : ℕ) (o : List ℕ) (q r : Result ℕ Refusal) (x y : List ℕ) → Converts (sheet_from s room) o q x → Converts (sheet_from s room) o r y → (q ≡ r) × (x ≡ y)
read_sheet_only s room o q r x y e f = converts_only (sheet_from s room) o q r x y e f

pub read_table_only : (s : List ℕ) (room : ℕ) (o : List ℕ) (q r : Result ℕ Refusal) (x y : List ℕ) → Converts (table_from s room) o q x → Converts (table_from s room) o r y → (q ≡ r) × (x ≡ y)
read_table_only s room o q r x y e f = converts_only (table_from s room) o q r x y e f

pub write_text_only : (s : List ℕ) (room : ℕ) (o : List ℕ) (q r : Result ℕ Refusal) (x y : List ℕ) → Converts (text_from s room) o q x → Converts (text_from s room) o r y → (q ≡ r) × (x ≡ y)
write_text_only s room o q r x y e f = converts_only (text_from s room) o q r x y e f
