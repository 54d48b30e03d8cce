-- Two answers, and what two leave behind, that meet a promise of this crate are equal.
-- Assumes nothing.
use Rattle.std.specs.Prelude.{ℕ, ◌≡◌, List, length}
use Rattle.std.proofs.Common.{sym, ◌∙◌}
use Rattle.sheet.specs.Refusals.{Answer, Wrote as WroteBy}
use Rattle.sheet.specs.Header.{read_header}
use Rattle.sheet.specs.Record.{read_record}
use Rattle.checker.specs.Entry.{entry_values, read_entry}
use Rattle.numbers.specs.Fields.{header_numbers, record_numbers}
use Rattle.edit.specs.Edit.{After, put_numbers_in, remove_in}
use Rattle.sheet_csv.specs.Read.{sheet_from}
use Rattle.sheet_csv.specs.Write.{text_from}
use Rattle.yard.specs.Packed.{Checks, Reads, Wrote}
use Rattle.yard.specs.Fields.{numbered}
use Rattle.yard.specs.Editing.{EditsPacked}
use Rattle.yard.specs.Converting.{ConvertsPacked}
use Rattle.yard.specs.Writing.{write_header_numbers, write_record_numbers}

pub check_only : (s out : List ℕ) (q r : ℕ) (x y : List ℕ) → Checks s out q x → Checks s out r y → (q ≡ r) × (x ≡ y)
check_only s out q r x y f g = (f.answer ∙ sym g.answer, f.bytes ∙ sym g.bytes)

reads_only : (a : Answer (List ℕ)) (before : List ℕ) (q r : ℕ) (x y : List ℕ) → Reads a before q x → Reads a before r y → (q ≡ r) × (x ≡ y)
reads_only a before q r x y f g = (f.answer ∙ sym g.answer, f.fields ∙ sym g.fields)

pub read_verdict_only : (s before : List ℕ) (q r : ℕ) (x y : List ℕ)
    → Reads (numbered entry_values (read_entry s)) before q x → Reads (numbered entry_values (read_entry s)) before r y → (q ≡ r) × (x ≡ y)
read_verdict_only s = reads_only (numbered entry_values (read_entry s))

pub read_header_only : (s before : List ℕ) (q r : ℕ) (x y : List ℕ)
    → Reads (numbered header_numbers (read_header s)) before q x → Reads (numbered header_numbers (read_header s)) before r y → (q ≡ r) × (x ≡ y)
read_header_only s = reads_only (numbered header_numbers (read_header s))

pub read_record_only : (s before : List ℕ) (q r : ℕ) (x y : List ℕ)
    → Reads (numbered record_numbers (read_record 0 s)) before q x → Reads (numbered record_numbers (read_record 0 s)) before r y → (q ≡ r) × (x ≡ y)
read_record_only s = reads_only (numbered record_numbers (read_record 0 s))

wrote_only : (w : WroteBy) (q r : ℕ) (x y : List ℕ) → Wrote w q x → Wrote w r y → (q ≡ r) × (x ≡ y)
wrote_only w q r x y f g = (f.answer ∙ sym g.answer, f.bytes ∙ sym g.bytes)

pub write_header_only : (ns out : List ℕ) (q r : ℕ) (x y : List ℕ) → Wrote (write_header_numbers ns out) q x → Wrote (write_header_numbers ns out) r y → (q ≡ r) × (x ≡ y)
write_header_only ns out = wrote_only (write_header_numbers ns out)

pub write_record_only : (ns out : List ℕ) (q r : ℕ) (x y : List ℕ) → Wrote (write_record_numbers ns out) q x → Wrote (write_record_numbers ns out) r y → (q ≡ r) × (x ≡ y)
write_record_only ns out = wrote_only (write_record_numbers ns out)

edits_only : (a : Answer After) (b : List ℕ) (q r : ℕ) (x y : List ℕ) → EditsPacked a b q x → EditsPacked a b r y → (q ≡ r) × (x ≡ y)
edits_only a b q r x y f g = (f.answer ∙ sym g.answer, f.bytes ∙ sym g.bytes)

pub put_only : (b : List ℕ) (len : ℕ) (ns : List ℕ) (q r : ℕ) (x y : List ℕ) → EditsPacked (put_numbers_in b len ns) b q x → EditsPacked (put_numbers_in b len ns) b r y → (q ≡ r) × (x ≡ y)
put_only b len ns = edits_only (put_numbers_in b len ns) b

pub remove_only : (b : List ℕ) (len id : ℕ) (q r : ℕ) (x y : List ℕ) → EditsPacked (remove_in b len id) b q x → EditsPacked (remove_in b len id) b r y → (q ≡ r) × (x ≡ y)
remove_only b len id = edits_only (remove_in b len id) b

converts_only : (a : Answer (List ℕ)) (o : List ℕ) (q r : ℕ) (x y : List ℕ) → ConvertsPacked a o q x → ConvertsPacked a o r y → (q ≡ r) × (x ≡ y)
converts_only a o q r x y f g = (f.answer ∙ sym g.answer, f.bytes ∙ sym g.bytes)

pub read_text_only : (s o : List ℕ) (q r : ℕ) (x y : List ℕ) → ConvertsPacked (sheet_from s (length o)) o q x → ConvertsPacked (sheet_from s (length o)) o r y → (q ≡ r) × (x ≡ y)
read_text_only s o = converts_only (sheet_from s (length o)) o

pub write_text_only : (s o : List ℕ) (q r : ℕ) (x y : List ℕ) → ConvertsPacked (text_from s (length o)) o q x → ConvertsPacked (text_from s (length o)) o r y → (q ≡ r) × (x ≡ y)
write_text_only s o = converts_only (text_from s (length o)) o
