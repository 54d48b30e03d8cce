use Rattle.std.proofs.Common.{ℕ, ◌≡◌, ◌+◌, ◌-◌, ◌≤◌, ◌<◌, List, [], ◌∷◌, ◌++◌, get_or, ap, ◌∙◌, arith}
use Rattle.decimal.specs.Decimal.{decimal_of}
use Rattle.rows.specs.Pack.{fields_from}
use Rattle.sheet_csv.specs.Write.{line}
use Rattle.sheet_csv.proofs.Laying.{first_fits, all_fits, turn, finish, number_more, number_last}
use Rattle.sheet_csv.proofs.page.put_line.Goals as goal

module _ (ns : List ℕ) (count i : ℕ) where
  -- a number and its comma, and what is left then; the last one and its line end
  abbrev piece : List ℕ
  piece = decimal_of (get_or ns i 0) ++ 44 ∷ []

  abbrev left : List ℕ
  left = line (fields_from (i + 1) (count - (i + 1)) ns)

  abbrev final : List ℕ
  final = decimal_of (get_or ns (count - 1) 0) ++ (13 ∷ 10 ∷ [])

  more : 1 ≤ count → i < count - 1 → line (fields_from i (count - i) ns) ≡ piece ++ left
  more some h = number_more ns count i (omega arith)

  at_last : 1 ≤ count → i ≤ count - 1 → count - 1 ≤ i → line (fields_from i (count - i) ns) ≡ final
  at_last some upto h =
      let e : i ≡ count - 1 = omega arith in
      number_last ns count i (omega arith) ∙ ap (λ (k : ℕ). decimal_of (get_or ns k 0) ++ (13 ∷ 10 ∷ [])) e

pub put_number-here-requires : goal.put_number-here-requires
put_number-here-requires c =
    let ns = c.args.nums in
    let i = c.loop-i.i in
    first_fits _ _ _ _ _ _ c.loop-i.invariant.1 (piece ns c.args.count i) (left ns c.args.count i) (more ns c.args.count i c.requires.0 c.loop-i-test.true)

pub loop-i-preserved : goal.loop-i-preserved
loop-i-preserved c =
    let ns = c.args.nums in
    let i = c.loop-i.i in
    (omega arith, turn _ _ _ _ _ _ c.loop-i.invariant.1 (piece ns c.args.count i) (left ns c.args.count i) (more ns c.args.count i c.requires.0 c.loop-i-test.true) _ _ c.put_number-here.ensures)

pub put_number-requires : goal.put_number-requires
put_number-requires c =
    let ns = c.args.nums in
    let i = c.loop-i.i in
    all_fits _ _ _ _ _ _ c.loop-i.invariant.1 (final ns c.args.count i) (at_last ns c.args.count i c.requires.0 c.loop-i.invariant.0 c.loop-i-test.false)

pub returns : goal.returns
returns c =
    let ns = c.args.nums in
    let i = c.loop-i.i in
    finish _ _ _ _ _ _ c.loop-i.invariant.1 (final ns c.args.count i) (at_last ns c.args.count i c.requires.0 c.loop-i.invariant.0 c.loop-i-test.false) _ _ c.put_number.ensures
