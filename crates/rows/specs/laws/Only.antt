-- Two rows that meet a promise of this crate are equal: `header_at` and `record_at`.
-- Assumes nothing.
use Rattle.std.specs.Prelude.{ℕ, ◌≡◌, refl, Option, Some, None, Result, Ok, Err}
use Rattle.std.proofs.Common.{sym, ap, ap₂, ◌∙◌}
use Rattle.sheet.specs.declared.Refusal.{Refusal}
use Rattle.sheet.specs.laws.RefusalLaws.{refusal_only, given_refused, given_same, refused_number, refused_place}
use Rattle.text.specs.declared.LineEnd.{LineEnd}
use Rattle.rows.specs.declared.Row.{Row}
use Rattle.rows.specs.Rows.{Shown, end_by, told_row}
use Rattle.rows.specs.Steps.{next_of}

-- the next line's place from what is said of the end
next_back : (next : Option ℕ) → next_of (end_by next) ≡ next
next_back (Some n) = refl
next_back None = refl

next_only : (m n : Option ℕ) → end_by m ≡ end_by n → m ≡ n
next_only m n e = sym (next_back m) ∙ ap next_of e ∙ next_back n

pub row_only : (a : Shown) (q r : Result Row Refusal) → told_row q ≡ a → told_row r ≡ a → q ≡ r
row_only a (Ok q) (Ok r) e f =
    let same = e ∙ sym f in
    let next : q.next ≡ r.next = next_only q.next r.next (given_same (ap (λ (w : Shown). w.answer) same)) in
    let size : q.size ≡ r.size = ap (λ (w : Shown). w.size) same in
    let bytes : q.bytes ≡ r.bytes = ap (λ (w : Shown). w.bytes) same in
    ap₂ {C = Result Row Refusal} (λ b n. Ok (record { bytes = b; size = n; next = q.next })) bytes size
    ∙ ap (λ (x : Option ℕ). Ok (record { bytes = r.bytes; size = r.size; next = x })) next
row_only a (Ok q) (Err y) e f = given_refused (ap (λ (w : Shown). w.answer) (e ∙ sym f))
row_only a (Err x) (Ok r) e f = given_refused (ap (λ (w : Shown). w.answer) (f ∙ sym e))
row_only a (Err x) (Err y) e f =
    let same = ap (λ (w : Shown). w.answer) (e ∙ sym f) in
    ap Err (refusal_only x y (refused_number same) (refused_place same))
