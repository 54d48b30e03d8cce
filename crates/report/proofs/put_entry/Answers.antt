-- `report::put_entry` meets its contract.
use mathlib.Core.Path.{◌≡◌, sym, ap, ◌∙◌}
use mathlib.Core.List.{List, [], ◌∷◌, ◌++◌, append_assoc}
use Prim.Native.Nat.{ℕ}
use Rattle.checker.specs.declared.Entry.{Entry}
use Rattle.checker.specs.Entry.{entry_values}
use Rattle.decimal.specs.Decimal.{decimal_of}
use Rattle.decimal.specs.Line.{line_of}
use Rattle.decimal.specs.laws.LineLaws.{line_one, line_more}
use Rattle.decimal.specs.laws.LaidLaws.{first_fits, second_fits, laid_both}
use Rattle.report.specs.Text.{line}
use Rattle.report.proofs.put_entry.Goals as goal

-- `report::put_entry` meets its contract.
-- Assumes nothing.
-- the two pieces of the line
abbrev first : Entry → List ℕ
first e = line_of 32 (32 ∷ []) (e.id ∷ e.rule ∷ [])

abbrev second : Entry → List ℕ
second e = line (e.required ∷ e.source ∷ [])

split : (e : Entry) → line (entry_values e) ≡ first e ++ second e
split e =
    let id = decimal_of e.id ++ (32 ∷ []) in
    let rule = decimal_of e.rule ++ (32 ∷ []) in
    let pair : first e ≡ id ++ rule = line_more 32 (32 ∷ []) e.id e.rule [] ∙ ap (λ (t : List ℕ). id ++ t) (line_one 32 (32 ∷ []) e.rule) in
    line_more 32 (10 ∷ []) e.id e.rule (e.required ∷ e.source ∷ [])
    ∙ ap (λ (t : List ℕ). id ++ t) (line_more 32 (10 ∷ []) e.rule e.required (e.source ∷ []))
    ∙ sym (append_assoc id rule (second e))
    ∙ ap (λ (t : List ℕ). t ++ second e) (sym pair)

pub put_pair-next-requires : goal.put_pair-next-requires
put_pair-next-requires c =
    first_fits c.args.page.now c.args.at (first c.args.e) (second c.args.e) (split c.args.e) c.requires

pub put_pair-requires : goal.put_pair-requires
put_pair-requires c =
    second_fits c.args.page.now c.args.at (first c.args.e) (second c.args.e) (split c.args.e) c.requires c.put_pair-next.ensures

pub returns : goal.returns
returns c =
    let l = laid_both c.args.page.now c.args.at (first c.args.e) (second c.args.e) (split c.args.e) c.requires c.put_pair-next.ensures c.put_pair.ensures in
    record { place = l.place; bytes = l.bytes }
