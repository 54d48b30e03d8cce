-- The bytes passed stand in front as they are shown.
use Rattle.std.proofs.Common.{ℕ, length, ◌*◌, ◌≡◌, ◌≤◌, List, take}
use Rattle.decimal.specs.Laid.{Laid}
use Rattle.barge_text.specs.Shown.{shown}
use Rattle.barge_text.proofs.show.put_bytes.Given as goal

pub record Putting (line out₀ out : List ℕ) (at i : ℕ) : Type 0 where
  pub upto : i ≤ length line
  pub room : 4 * length line ≤ length out₀
  pub same : length out ≡ length out₀
  pub front : Laid out₀ 0 (shown (take i line)) at out
  pub short : at ≤ 4 * i

abbrev pub invariant-loop-byte : goal.invariant-loop-byte
invariant-loop-byte l = Putting l.line l.initial.out l.out l.at l.byte-index
