-- What is written so far and the pieces of the records that are left are the whole text.
use Rattle.std.proofs.Common.{ℕ, ◌-◌, ◌≤◌, ◌≡◌, Bool, false, Option, List, ◌++◌}
use Rattle.std.specs.Io.KnownBytes.{Appends}
use Rattle.sheet.specs.declared.Header.{Header}
use Rattle.barge_explain.specs.Explain.{explained_from}
use Rattle.barge_explain.proofs.print_trails.Given as goal

pub record Telling (old new : Option (List ℕ)) (h : Header) (records : List ℕ) (asked i : ℕ) (begun : Bool) : Type 0 where
  pub upto : i ≤ h.count
  pub text : List ℕ
  pub written : Appends old new text
  pub whole : text ++ explained_from h records asked (h.count - i) i begun ≡ explained_from h records asked h.count 0 false

abbrev pub invariant-loop-i : goal.invariant-loop-i
invariant-loop-i g l = Telling (g.W.Write.contents l.initial.out) (g.W.Write.contents l.out) l.h l.records l.asked l.i l.begun
