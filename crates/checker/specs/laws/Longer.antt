-- A sheet that is longer than any: its first 6421 bytes say all that the answer rests on, so that no more have to be read.
-- Assumes nothing.
use Rattle.std.specs.Prelude.{ℕ, ◌≤◌, ◌<◌, ◌≡◌, refl, List, length, take}
use Rattle.std.proofs.Common.{sym, ap, ◌∙◌, arith, length-take, take_all, take-take, ne_eqb}
use Rattle.std.proofs.Math.Decide.{dec_lt}
use Rattle.sheet.specs.declared.Header.{Header}
use Rattle.sheet.specs.Refusals.{Answer, given, refused}
use Rattle.sheet.specs.Versions.{enough}
use Rattle.sheet.specs.laws.VersionLaws.{regular, regular_at}
use Rattle.sheet.specs.Header.{version_field, version_in}
use Rattle.sheet.specs.laws.HeaderFront.{read_same}
use Rattle.sheet.specs.laws.HeaderLaws.{header_ranges}
use Rattle.checker.specs.Check.{◌then◌, demand, sheet_header, sheet_size, header_for, Sheet, sheet_in, output_by, output_of, answer_of}
use Rattle.checker.specs.laws.FrontLaws.{header_slim, header_same}
use Rattle.sheet.specs.laws.HeaderBack.{header_read_fine}

-- the answer to a sheet that is too long, by its header
abbrev too_long : Answer Header → Answer Sheet
too_long (given h) = refused 4 0
too_long (refused k p) = refused k p

too_long_lem : (s : List ℕ) (room : ℕ) (x : Answer Header) → sheet_header s ≡ x → enough ≤ length s → sheet_in s room ≡ too_long x
unfolding sheet_in header_for ◌then◌ demand
too_long_lem s room (refused k p) e l = rw e
too_long_lem s room (given h) e l =
    let few = (header_ranges h (header_read_fine s h (header_slim s h e).0)).count_high in
    let other : length s ≡ sheet_size h → ⊥ = λ z. omega (arith, few, (regular h.own).short) in
    rw (e, ne_eqb (length s) (sheet_size h) other)

header_cut : (s : List ℕ) → enough ≤ length s → sheet_header (take enough s) ≡ sheet_header s
header_cut s l =
    let few : (version_in s).size ≤ enough = omega (arith, (regular_at (version_field s)).short) in
    header_same (take enough s) s (read_same s (take enough s) enough (take-take enough enough s (omega arith)) few l (simp length-take (omega arith)))

-- what is read of a sheet up to there says what the whole of it says
pub sheet_cut : (s : List ℕ) (room : ℕ) → sheet_in (take enough s) room ≡ sheet_in s room
sheet_cut s room = go (dec_lt (length s) enough)
  where
    go : Dec (length s < enough) → sheet_in (take enough s) room ≡ sheet_in s room
    go (yes l) = ap (λ (b : List ℕ). sheet_in b room) (take_all enough s (omega arith))
    go (no l) =
        let h : enough ≤ length s = omega arith in
        too_long_lem (take enough s) room (sheet_header s) (header_cut s h) (simp length-take (omega arith)) ∙ sym (too_long_lem s room (sheet_header s) refl h)

pub answer_cut : (s : List ℕ) (room : ℕ) → answer_of (take enough s) room ≡ answer_of s room
unfolding answer_of
answer_cut s room = rw (sheet_cut s room)

pub output_cut : (s out : List ℕ) → output_of (take enough s) out ≡ output_of s out
unfolding output_of
output_cut s out = ap (λ (t : Answer Sheet). output_by t out) (sheet_cut s (length out))
