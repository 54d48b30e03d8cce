-- The lines of a text: how long each is, and how they stand one after another.
-- Assumes nothing.
use Rattle.std.specs.Prelude.{ℕ, suc, ◌+◌, ◌^◌, ◌≤◌, ◌<◌, ◌≡◌, refl, List, [], ◌∷◌, ◌++◌, length}
use Rattle.std.proofs.Common.{sym, ap, ◌∙◌, append_assoc, append-nil, arith, length-append}
use Rattle.decimal.specs.Decimal.{decimal_of}
use Rattle.decimal.specs.laws.DecimalLaws.{decimal_most}
use Rattle.decimal.specs.laws.LineLaws.{line_one, line_more}
use Rattle.checker.specs.declared.Entry.{Entry}
use Rattle.checker.specs.Entry.{entry_values, entry_fault}
use Rattle.checker.specs.laws.EntryLaws.{entry_fit}
use Rattle.report.specs.Text.{line, lines_text}
use Rattle.report.specs.Page.{longest_line}

-- ---- how long a line is

one_length : (n : ℕ) → length (line (n ∷ [])) ≡ length (decimal_of n) + 1
one_length n = ap length (line_one 32 (10 ∷ []) n) ∙ length-append (decimal_of n) (10 ∷ [])

more_length : (n m : ℕ) (ns : List ℕ) → length (line (n ∷ m ∷ ns)) ≡ length (decimal_of n) + 1 + length (line (m ∷ ns))
more_length n m ns =
    ap length (line_more 32 (10 ∷ []) n m ns)
    ∙ length-append (decimal_of n ++ (32 ∷ [])) (line (m ∷ ns))
    ∙ ap (λ (k : ℕ). k + length (line (m ∷ ns))) (length-append (decimal_of n) (32 ∷ []))

-- two numbers of so many digits at most
pub pair_most : (j k m n : ℕ) → m < 10 ^ suc j → n < 10 ^ suc k → length (line (m ∷ n ∷ [])) ≤ suc j + suc k + 2
pair_most j k m n a b = omega (arith, more_length m n [], one_length n, decimal_most j m a, decimal_most k n b)

-- a verdict's line
pub entry_most : (e : Entry) → entry_fault e ≡ 0 → length (line (entry_values e)) ≤ longest_line
entry_most e z =
    let fit = entry_fit e z in
    omega (
      arith,
      more_length e.id e.rule (e.required ∷ e.source ∷ []),
      decimal_most 3 e.id (omega (arith, fit.0)),
      more_length e.rule e.required (e.source ∷ []),
      decimal_most 0 e.rule (omega (arith, fit.1.0)),
      pair_most 5 0 e.required e.source (omega (arith, fit.1.1.0)) (omega (arith, fit.1.1.1.0)),
    )

-- ---- one after another

pub lines_append : (a b : List (List ℕ)) → lines_text (a ++ b) ≡ lines_text a ++ lines_text b
unfolding lines_text
lines_append [] b = refl
lines_append (numbers ∷ a) b = ap (λ (t : List ℕ). line numbers ++ t) (lines_append a b) ∙ sym (append_assoc (line numbers) (lines_text a) (lines_text b))

-- one line more
pub lines_last : (a : List (List ℕ)) (numbers : List ℕ) → lines_text (a ++ (numbers ∷ [])) ≡ lines_text a ++ line numbers
unfolding lines_text
lines_last a numbers = lines_append a (numbers ∷ []) ∙ ap (λ (t : List ℕ). lines_text a ++ t) (append-nil (line numbers))
