use Rattle.wording.specs.Words.{mark_byte}
use Rattle.wording.specs.laws.PiecesLaws.{Filling}
use Rattle.wording.proofs.fill.Given as goal

-- what is left of the words, behind the mark at hand, gives the whole
abbrev pub invariant-loop-byte : goal.invariant-loop-byte
invariant-loop-byte l = Filling l.words l.given l.own l.initial.page l.at l.page l.next (mark_byte l.mark) l.byte-index
