-- `barge_text::text_of` meets its contract: no more of a sheet has to be read than the buffer holds.
use Prim.Native.Nat.{ℕ}
use mathlib.Core.Path.{◌≡◌, ap, subst, ◌∙◌}
use mathlib.Core.List.{List}
use lib.ListN.{length, take}
use Rattle.sheet.specs.Refusals.{Answer}
use Rattle.sheet_csv.specs.Read.{Converts}
use Rattle.sheet_csv.specs.Write.{text_from}
use Rattle.barge_text.specs.laws.ConvertLaws.{text_cut}
use Rattle.barge_text.proofs.text_of.Goals as goal

pub returns : goal.returns
returns c input e =
    let b = c.args.buffer.now in
    let o = c.args.out.now in
    let same : text_from (take c.args.got b) (length o) ≡ text_from input (length o) = ap (λ (x : List ℕ). text_from x (length o)) e ∙ text_cut (length b) input (length o) c.requires.0 in
    subst (λ (x : Answer (List ℕ)). Converts x o c.write_text.result c.write_text.new.out) same c.write_text.ensures
