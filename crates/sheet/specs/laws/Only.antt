-- Two results that meet a promise of the crates `sheet`, `header` and `record` are equal.
-- Assumes nothing.
use Rattle.std.specs.Prelude.{ℕ, ◌≡◌, Bool, List, Result}
use Rattle.std.proofs.Common.{sym, ap, ap₂, ◌∙◌}
use Rattle.sheet.specs.declared.Header.{Header}
use Rattle.sheet.specs.declared.Version.{Version as Told}
use Rattle.sheet.specs.declared.Record.{Record}
use Rattle.sheet.specs.declared.Raw.{Raw}
use Rattle.sheet.specs.declared.Refusal.{Refusal}
use Rattle.sheet.specs.Refusals.{given, number_of, place_of, header_refused, record_refused, Wrote, told_result}
use Rattle.sheet.specs.laws.RefusalLaws.{outcome_only, header_only, record_only}
use Rattle.sheet.specs.Versions.{Version, IsVersion}
use Rattle.sheet.specs.Header.{header_size, inner_modulus, header_fault, read_header, write_header}
use Rattle.sheet.specs.Slender.{too_slender}
use Rattle.layout.specs.Bytes.{read_of}
use Rattle.sheet.specs.Record.{record_fault, read_record, write_record, raw_at}
use Rattle.sheet.specs.Writes.{Writes}

-- a writer's answer, and the bytes that stand there afterwards
pub writes_only : (w : Wrote) (a b : Result (Unit {0}) Refusal) (x y : List ℕ) → Writes w (told_result a) x → Writes w (told_result b) y → (a ≡ b) × (x ≡ y)
writes_only w a b x y p q = (outcome_only w.answer a b p.answer q.answer, p.bytes ∙ sym q.bytes)

pub read_header_only : (s : List ℕ) (a b : Result Header Refusal) → told_result a ≡ read_header s → told_result b ≡ read_header s → a ≡ b
read_header_only s = header_only (read_header s)

pub write_header_only : (h : Header) (o : List ℕ) (a b : Result (Unit {0}) Refusal) (x y : List ℕ)
    → Writes (write_header h o) (told_result a) x → Writes (write_header h o) (told_result b) y → (a ≡ b) × (x ≡ y)
write_header_only h o = writes_only (write_header h o)

pub header_fault_only : (h : Header) (a b : Result (Unit {0}) Refusal)
    → told_result a ≡ header_refused (header_fault h) (given tt) → told_result b ≡ header_refused (header_fault h) (given tt) → a ≡ b
header_fault_only h = outcome_only (header_refused (header_fault h) (given tt))

pub version_only : (v : Version) (a b : Told) → IsVersion a v → IsVersion b v → a ≡ b
version_only v a b p q =
    ap₂ {C = Told} (λ k s. record { number = k; size = s; most = a.most }) (p.number ∙ sym q.number) (p.size ∙ sym q.size)
    ∙ ap (λ (m : ℕ). record { number = b.number; size = b.size; most = m }) (p.most ∙ sym q.most)

pub size_only : (h : Header) (a b : ℕ) → a ≡ header_size h → b ≡ header_size h → a ≡ b
size_only h a b p q = p ∙ sym q

pub inner_modulus_only : (h : Header) (a b : ℕ) → a ≡ inner_modulus h → b ≡ inner_modulus h → a ≡ b
inner_modulus_only h a b p q = p ∙ sym q

pub too_slender_only : (h : Header) (a b : Bool) → a ≡ too_slender h → b ≡ too_slender h → a ≡ b
too_slender_only h a b p q = p ∙ sym q

-- `read_record_as`; `read_record` at i = 0
pub read_record_only : (i : ℕ) (s : List ℕ) (a b : Result Record Refusal) → told_result a ≡ read_record i s → told_result b ≡ read_record i s → a ≡ b
read_record_only i s = record_only (read_record i s)

pub write_record_only : (r : Record) (o : List ℕ) (a b : Result (Unit {0}) Refusal) (x y : List ℕ)
    → Writes (write_record r o) (told_result a) x → Writes (write_record r o) (told_result b) y → (a ≡ b) × (x ≡ y)
write_record_only r o = writes_only (write_record r o)

pub record_fault_only : (i : ℕ) (r : Record) (a b : Result (Unit {0}) Refusal)
    → told_result a ≡ record_refused i (record_fault r 0) (given tt) → told_result b ≡ record_refused i (record_fault r 0) (given tt) → a ≡ b
record_fault_only i r = outcome_only (record_refused i (record_fault r 0) (given tt))

pub number_only : (r : Refusal) (a b : ℕ) → a ≡ number_of r → b ≡ number_of r → a ≡ b
number_only r a b p q = p ∙ sym q

pub place_only : (r : Refusal) (a b : ℕ) → a ≡ place_of r → b ≡ place_of r → a ≡ b
place_only r a b p q = p ∙ sym q

pub record_in_only : (s : List ℕ) (a b : Raw) → a ≡ raw_at (read_of 16 s) → b ≡ raw_at (read_of 16 s) → a ≡ b
record_in_only s a b p q = p ∙ sym q

-- the tests of a kind
pub kind_only : (test : ℕ → Bool) (kind : ℕ) (a b : Bool) → a ≡ test kind → b ≡ test kind → a ≡ b
kind_only test kind a b p q = p ∙ sym q
