-- Two results that meet a promise of this crate are equal.
-- Assumes nothing.
use Rattle.std.specs.Prelude.{ℕ, ◌≡◌, List}
use Rattle.std.proofs.Common.{sym, ap₂, ◌∙◌}
use Rattle.std.specs.Borrow.{Bor}
use Rattle.fields.specs.declared.Field.{Field}
use Rattle.fields.specs.Field.{field_at}
use Rattle.text.specs.declared.Reader.{Reader}
use Rattle.text.specs.declared.Line.{Line}
use Rattle.text.specs.Line.{Numbers, line_start, Reads}

-- `Reader::new`, at the place 0, and `Reader::moved`
pub reader_only : (text : Bor (List ℕ)) (at : ℕ) (q r : Reader) → (q.text ≡ text) × (q.at ≡ at) → (r.text ≡ text) × (r.at ≡ at) → q ≡ r
reader_only text at q r e f = ap₂ {C = Reader} (λ t a. record { text = t; at = a }) (e.0 ∙ sym f.0) (e.1 ∙ sym f.1)

-- `Reader::next` and `field_from`
pub field_only : (s : List ℕ) (at : ℕ) (a b : Field) → a ≡ field_at s at → b ≡ field_at s at → a ≡ b
field_only s at a b e f = e ∙ sym f

pub line_at_only : (l : Numbers) (nums : List ℕ) (q r : Line) (a b : List ℕ) → Reads l nums q a → Reads l nums r b → (q ≡ r) × (a ≡ b)
line_at_only l nums q r a b e f = (
  ap₂ {C = Line} (λ c d. record { count = c; end = d }) (e.count ∙ sym f.count) (e.end ∙ sym f.end),
  e.numbers ∙ sym f.numbers,
)

pub line_start_only : (s : List ℕ) (line a b : ℕ) → a ≡ line_start s line → b ≡ line_start s line → a ≡ b
line_start_only s line a b e f = e ∙ sym f
