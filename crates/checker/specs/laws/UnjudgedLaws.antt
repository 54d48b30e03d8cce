-- An output with room for the verdicts of every sheet plays no part in the answer.
-- Assumes nothing.
use Rattle.std.specs.Prelude.{ℕ, ◌*◌, ◌≤◌, ◌≡◌, refl, List, Result}
use Rattle.std.proofs.Common.{arith, le-leb}
use Rattle.sheet.specs.declared.Header.{Header}
use Rattle.sheet.specs.Refusals.{Answer, given, refused, told_result}
use Rattle.sheet.specs.laws.RefusalLaws.{header_only}
use Rattle.sheet.specs.laws.HeaderLaws.{header_ranges}
use Rattle.sheet.specs.laws.HeaderBack.{header_read_fine}
use Rattle.checker.specs.Check.{◌then◌, demand, sheet_header, header_for, sheet_in}
use Rattle.checker.specs.laws.FrontLaws.{header_slim}
use Rattle.checker.specs.Unjudged.{room, sound_header}
use Rattle.sheet.specs.declared.Refusal.{Refusal}

-- it gives what any longer one gives: refusal 5 does not arise
pub room_enough : (s : List ℕ) (space : ℕ) → room ≤ space → sheet_in s space ≡ sheet_in s room
unfolding sheet_in header_for ◌then◌ demand
room_enough s space l = go (sheet_header s) refl
  where
    go : (x : Answer Header) → sheet_header s ≡ x → sheet_in s space ≡ sheet_in s room
    go (refused k p) e = rw e
    go (given h) e =
        let few = (header_ranges h (header_read_fine s h (header_slim s h e).0)).count_few in
        rw (e, le-leb (4 * h.count) space (omega arith), le-leb (4 * h.count) room (omega arith))

-- two answers that meet the promise of `sound_header` are equal
pub sound_header_only : (s : List ℕ) (q r : Result Header Refusal) → told_result q ≡ sound_header s → told_result r ≡ sound_header s → q ≡ r
sound_header_only s q r f g = header_only (sound_header s) q r f g
