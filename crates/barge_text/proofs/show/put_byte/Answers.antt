-- A byte that prints is shown as itself, any other by its two digits.
use Rattle.std.proofs.Common.{◌≡◌, ℕ, ◌/◌, ◌%◌, true, false, List, [], ◌∷◌, sym, ap₂, subst, ◌∙◌}
use Rattle.decimal.specs.Laid.{Laid}
use Rattle.barge_text.specs.Shown.{is_printed, hex_digit, shown_byte}
use Rattle.barge_text.proofs.show.put_byte.Goals as goal

printed : (b : ℕ) → is_printed b ≡ true → b ∷ [] ≡ shown_byte b
unfolding shown_byte
printed b e = rw e

spelled : (b : ℕ) → is_printed b ≡ false → 92 ∷ 120 ∷ hex_digit (b / 16) ∷ hex_digit (b % 16) ∷ [] ≡ shown_byte b
unfolding shown_byte
spelled b e = rw e

pub returns-then-prints : goal.returns-then-prints
returns-then-prints c =
    subst (λ (x : List ℕ). Laid c.args.out.now c.args.at x c.put.result c.put.new.out) (printed c.args.byte (sym c.prints.ensures ∙ c.if-prints.true)) c.put.ensures

pub returns : goal.returns
returns c =
    let digits = ap₂ {C = List ℕ} (λ x y. 92 ∷ 120 ∷ x ∷ y ∷ []) c.hex.ensures c.hex-2.ensures in
    subst (λ (x : List ℕ). Laid c.args.out.now c.args.at x c.put-2.result c.put-2.new.out) (digits ∙ spelled c.args.byte (sym c.prints.ensures ∙ c.if-prints.false)) c.put-2.ensures
