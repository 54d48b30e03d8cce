-- `report::put_pair` meets its contract.
use mathlib.Core.Path.{◌≡◌, ap, ◌∙◌}
use mathlib.Core.List.{List, [], ◌∷◌, ◌++◌}
use Prim.Native.Nat.{ℕ}
use Rattle.decimal.specs.Decimal.{decimal_of}
use Rattle.decimal.specs.Line.{line_of}
use Rattle.decimal.specs.laws.LineLaws.{line_one, line_more}
use Rattle.decimal.specs.laws.LaidLaws.{first_fits, second_fits, laid_both}
use Rattle.report.proofs.put_pair.Goals as goal

-- `report::put_pair` meets its contract.
-- Assumes nothing.
-- the two pieces
abbrev first : ℕ → List ℕ
first n = decimal_of n ++ (32 ∷ [])

abbrev second : ℕ → List ℕ → List ℕ
second n after = decimal_of n ++ after

split : (m n : ℕ) (after : List ℕ) → line_of 32 after (m ∷ n ∷ []) ≡ first m ++ second n after
split m n after = line_more 32 after m n [] ∙ ap (λ (t : List ℕ). first m ++ t) (line_one 32 after n)

pub put_number-next-requires : goal.put_number-next-requires
put_number-next-requires c =
    let a = c.args in
    first_fits a.page.now a.at (first a.m) (second a.n a.after.now) (split a.m a.n a.after.now) c.requires

pub put_number-requires : goal.put_number-requires
put_number-requires c =
    let a = c.args in
    second_fits a.page.now a.at (first a.m) (second a.n a.after.now) (split a.m a.n a.after.now) c.requires c.put_number-next.ensures

pub returns : goal.returns
returns c =
    let a = c.args in
    let l = laid_both a.page.now a.at (first a.m) (second a.n a.after.now) (split a.m a.n a.after.now) c.requires c.put_number-next.ensures c.put_number.ensures in
    record { place = l.place; bytes = l.bytes }
