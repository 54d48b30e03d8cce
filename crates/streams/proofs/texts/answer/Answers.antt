-- `streams::texts::answer` meets its contract: what is written is in the output, so that its length has room on the line.
use Prim.Native.Nat.{ℕ, ◌≤◌}
use mathlib.Core.Path.{◌≡◌, ap, ◌∙◌}
use mathlib.Core.List.{List}
use native.Mathlib.Omega.{arith}
use lib.ListN.{length, drop, length-append}
use Rattle.sheet.specs.Refusals.{Answer, given, refused, told_result}
use Rattle.decimal.specs.laws.LaidLaws.{laid_inside, laid_taken}
use Rattle.sheet_csv.specs.Read.{length_of, output_by}
use Rattle.streams.specs.Parts.{line_for, ShortLine}
use Rattle.streams.proofs.texts.answer.Goals as goal

-- what stands in front of the output has no more bytes than it
inside : (a : Answer (List ℕ)) (o after : List ℕ) → length o ≤ 65536 → length after ≡ length o → after ≡ output_by a o → ShortLine (length_of a)
inside (given b) o after l k e = omega (arith, ap length e, length-append b (drop (length b) o))
inside (refused m p) o after l k e = tt

pub returns : goal.returns
returns c =
    let text = line_for (told_result c.converted-answer.result) in
    let room = laid_inside c.args.line.now text c.put_line.ensures c.put_line.auto.line in
    record {
      inside = omega (arith, room, c.put_line.ensures.place, c.put_line.auto.line);
      line = laid_taken c.args.line.now text c.put_line.ensures ∙ ap line_for c.converted-answer.ensures.answer;
      bytes = c.converted-answer.ensures.bytes;
    }
