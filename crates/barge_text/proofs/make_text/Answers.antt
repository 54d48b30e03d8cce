-- `barge_text::make_text` is safe and ends: the text is in the output.
use mathlib.Core.Path.{sym}
use native.Mathlib.Omega.{arith}
use lib.ListN.{length, take, length-take}
use lib.Seq.{take_all}
use Rattle.barge_text.specs.laws.ConvertLaws.{made_inside}
use Rattle.barge_text.proofs.make_text.Goals as goal

pub deliver-requires : goal.deliver-requires
deliver-requires g c =
    let a = c.args in
    let b = a.buffer.now in
    let first = take a.got b in
    made_inside _ _ c.text_of-converted.result c.text_of-converted.new.out c.text_of-converted.auto.out (c.text_of-converted.ensures first (sym (take_all (length b) first (simp length-take (omega arith)))))
