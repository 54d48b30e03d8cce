-- What taking a header's and a record's numbers promises, from the fault of what they are held as.
-- Assumes nothing.
use Prim.Native.Nat.{ℕ, ◌+◌, ◌*◌, ◌≤◌}
use mathlib.Core.Path.{◌≡◌, refl, sym, ap, ap₂, ◌∙◌, subst}
use mathlib.Core.Bool.{cond}
use mathlib.Core.List.{List}
use native.Mathlib.Omega.{arith}
use lib.Dec.{eqb}
use Rattle.sheet.specs.declared.Header.{Header}
use Rattle.sheet.specs.declared.Record.{Record}
use Rattle.sheet.specs.Refusals.{Answer, given, header_refused, record_refused}
use Rattle.sheet.specs.Versions.{first_bytes}
use Rattle.sheet.specs.Header.{header_fault}
use Rattle.sheet.specs.Record.{record_fault}
use Rattle.sheet.specs.Exactly.{header_cases, record_cases}
use Rattle.numbers.specs.From.{header_of_numbers, header_numbers_fault, header_from, record_of_numbers, record_numbers_fault, record_from}
use Rattle.numbers.specs.Held.{first_of, earlier_of, header_held, header_apart, record_held, record_apart}
use Rattle.numbers.proofs.Numbers.{header_numbers_fault_lem, header_held_same, header_apart_past, record_numbers_fault_lem, record_held_same, record_apart_past}
use Rattle.numbers.proofs.Places.{carrying, taken}

pub header_by_held : (ns : List ℕ) (h : Header) (e : ℕ) {x y : Answer (Unit {0})} → h ≡ header_held ns → e ≡ header_apart ns
    → x ≡ header_refused (header_fault h) (given tt) → y ≡ cond (eqb e 0) x (earlier_of x 3 e) → carrying h y ≡ header_from ns
unfolding header_from
header_by_held ns h e is_held_lem is-apart =
    taken (header_cases first_bytes) 0 (λ k. omega arith) (omega arith) (header_numbers_fault ns) (header_fault h) e h (header_of_numbers ns)
    (header_numbers_fault_lem ns ∙ ap₂ first_of (ap (λ (y : Header). header_fault y) (sym is_held_lem)) (sym is-apart))
    (subst (λ (k : ℕ). (k ≡ 0 → ⊥) → 2 ≤ k) (sym is-apart) (header_apart_past ns))
    (λ z. is_held_lem ∙ header_held_same ns z)

pub record_by_held : (i : ℕ) (ns : List ℕ) (r : Record) (e : ℕ) {x y : Answer (Unit {0})} → r ≡ record_held ns → e ≡ record_apart ns
    → x ≡ record_refused i (record_fault r 0) (given tt) → y ≡ cond (eqb e 0) x (earlier_of x 7 (32 * i + e)) → carrying r y ≡ record_from i ns
unfolding record_from
record_by_held i ns r e is_held_lem is-apart =
    taken (record_cases i) (32 * i) (λ k. refl) (omega arith) (record_numbers_fault ns) (record_fault r 0) e r (record_of_numbers ns)
    (record_numbers_fault_lem ns ∙ ap₂ first_of (ap (λ (y : Record). record_fault y 0) (sym is_held_lem)) (sym is-apart))
    (subst (λ (k : ℕ). (k ≡ 0 → ⊥) → 2 ≤ k) (sym is-apart) (record_apart_past ns))
    (λ z. is_held_lem ∙ record_held_same ns z)
