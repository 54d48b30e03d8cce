-- Two answers that meet a promise of this crate are equal.
-- Assumes nothing.
use Rattle.std.specs.Prelude.{ℕ, ◌≡◌, List, Result}
use Rattle.std.proofs.Common.{sym, ◌∙◌}
use Rattle.sheet.specs.declared.Header.{Header}
use Rattle.sheet.specs.declared.Record.{Record}
use Rattle.sheet.specs.Refusals.{told_result}
use Rattle.sheet.specs.laws.RefusalLaws.{header_only, record_only}
use Rattle.numbers.specs.Fields.{header_numbers, record_numbers}
use Rattle.numbers.specs.From.{named_size, header_from, record_from}
use Rattle.sheet.specs.declared.Refusal.{Refusal}

pub header_from_only : (ns : List ℕ) (r s : Result Header Refusal) → told_result r ≡ header_from ns → told_result s ≡ header_from ns → r ≡ s
header_from_only ns r s e f = header_only (header_from ns) r s e f

pub record_from_only : (i : ℕ) (ns : List ℕ) (r s : Result Record Refusal) → told_result r ≡ record_from i ns → told_result s ≡ record_from i ns → r ≡ s
record_from_only i ns r s e f = record_only (record_from i ns) r s e f

pub header_size_only : (ns : List ℕ) (a b : ℕ) → a ≡ named_size ns → b ≡ named_size ns → a ≡ b
header_size_only ns a b e f = e ∙ sym f

pub header_numbers_only : (h : Header) (ns ms : List ℕ) → ns ≡ header_numbers h → ms ≡ header_numbers h → ns ≡ ms
header_numbers_only h ns ms e f = e ∙ sym f

pub record_numbers_only : (r : Record) (ns ms : List ℕ) → ns ≡ record_numbers r → ms ≡ record_numbers r → ns ≡ ms
record_numbers_only r ns ms e f = e ∙ sym f
