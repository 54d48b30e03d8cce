-- Two answers, and two outputs, that meet a promise of this crate are equal.
-- Assumes nothing.
use Rattle.std.specs.Prelude.{ℕ, ◌≡◌, List, Result, Ok, Err}
use Rattle.std.proofs.Common.{sym, ap, ap₂, ◌∙◌}
use Rattle.sheet.specs.Refusals.{Answer, told_result}
use Rattle.sheet.specs.laws.RefusalLaws.{as_only, result_only, outcome_only}
use Rattle.sheet.specs.Writes.{Writes}
use Rattle.checker.specs.declared.Entry.{Entry}
use Rattle.checker.specs.Entry.{read_entry, write_entry}
use Rattle.checker.specs.Check.{Totals, told_checked, Checks, totals_of}
use Rattle.sheet.specs.declared.Refusal.{Refusal}
use Rattle.checker.specs.declared.Checked.{Checked}

-- two answers of the code that say the same are equal
checked_only : (a : Answer Totals) (q r : Result Checked Refusal) → told_checked q ≡ a → told_checked r ≡ a → q ≡ r
checked_only = as_only totals_of (λ c d e. ap₂ {C = Checked} (λ n failed. record { n = n; failed = failed }) (ap (λ (t : Totals). t.n) e) (ap (λ (t : Totals). t.failed) e))

pub read_verdict_only : (s : List ℕ) (q r : Result Entry Refusal) → told_result q ≡ read_entry s → told_result r ≡ read_entry s → q ≡ r
read_verdict_only s q r f g = result_only (read_entry s) q r f g

pub write_verdict_only : (e : Entry) (o : List ℕ) (q r : Result (Unit {0}) Refusal) (a b : List ℕ) → Writes (write_entry e o) (told_result q) a → Writes (write_entry e o) (told_result r) b → (q ≡ r) × (a ≡ b)
write_verdict_only e o q r a b f g = (outcome_only (write_entry e o).answer q r f.answer g.answer, f.bytes ∙ sym g.bytes)

pub check_only : (s out : List ℕ) (q r : Result Checked Refusal) (a b : List ℕ) → Checks s out q a → Checks s out r b → (q ≡ r) × (a ≡ b)
check_only s out q r a b f g = (checked_only _ q r f.answer g.answer, f.bytes ∙ sym g.bytes)
