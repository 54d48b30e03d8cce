-- `barge_text::refusal_page` meets its contract: a page has room for the line.
use Rattle.std.specs.Prelude.{Result}
use mathlib.Core.Path.{◌≡◌, sym, ap, ◌∙◌}
use mathlib.Core.List.{List, ◌++◌}
use Prim.Native.Nat.{ℕ}
use native.Mathlib.Omega.{arith}
use lib.ListN.{length, take, drop, replicate}
use lib.Seq.{take_at}
use Rattle.sheet.specs.Refusals.{given, told_result}
use Rattle.sheet.specs.laws.RefusalLaws.{given_same, given_refused}
use Rattle.report.specs.Page.{longest}
use Rattle.report.specs.laws.PageLaws.{refusal_told, length_told}
use Rattle.report.specs.Pieces.{refusal_text, TellsRefusal}
use Rattle.sheet.specs.declared.Refusal.{Refusal}
use Rattle.barge_text.proofs.refusal_page.Goals as goal

module _ (r : Refusal) {told : Result ℕ Refusal} {text : List ℕ} (t : TellsRefusal r (replicate longest 0) told text) where
  spelled : (told_result told ≡ given (length (refusal_text r))) × (text ≡ refusal_text r ++ drop (length (refusal_text r)) (replicate longest 0))
  spelled = refusal_told r (replicate longest 0) told text (omega arith) t

pub returns : goal.returns
returns c =
    let line = refusal_text c.args.r in
    let s = spelled c.args.r c.write_refusal.ensures in
    let len_is = c.unwrap_or-len.ensures ∙ length_told c.write_refusal.result (length line) 0 s.0 in
    record {
      inside = omega (arith, len_is, c.write_refusal.ensures.most, c.write_refusal.auto.text);
      text = ap (take c.unwrap_or-len.result) s.1 ∙ take_at line (drop (length line) (replicate longest 0)) c.unwrap_or-len.result (sym len_is);
    }
