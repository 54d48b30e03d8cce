-- Real sheets and programs of which the premises of the demands hold, and what the demands say of them.
-- Assumes nothing.
use Rattle.std.specs.Prelude.{ℕ, zero, suc, ◌≡◌, refl, true, List, [], ◌∷◌, ◌++◌, take, set}
use Rattle.std.proofs.Common.{ap, ◌∙◌, arith, lit≤, lit<}
use Rattle.hull.specs.Raising.{InGauge}
use Rattle.checker.specs.Entry.{entry_bytes, read_entry}
use Rattle.checker.specs.Check.{four_at, tallied}
use Rattle.checker.specs.laws.Computing.{checking}
use Rattle.demands.specs.Table.{Row, HeaderSound}
use Rattle.demands.specs.laws.SlenderRead.{later_version}
use Rattle.demands.specs.Program.{Program, Leaves}
use Rattle.demands.specs.Raise.{raised_by, raised_times, with_scantling, meets_rule}
use Rattle.demands.specs.Demands.{Third, Demands}
use Rattle.demands.specs.Sources.{SourceSaid}
use Rattle.demands.specs.Empty.{ShutOut, DropsSource}
use Rattle.demands.specs.EmptyPrograms.{checker, passing, naming, first_only, counting}
use Rattle.demands.specs.laws.Rows.{refused_exactly}
use Rattle.demands.specs.laws.SourcesProved.{sources_said}
use Rattle.demands.specs.laws.ShutOut.{checker_meets, checker_demands}
use Rattle.demands.specs.laws.Only.{demands_only}
use Rattle.demands.specs.laws.Example.{example, light, stressed, flooded, bare, lent, row_by_row, two_not_enough}

-- each row of the table but 9, which has sheets of its own, holds for a sheet
pub each_row : Row (take 11 example) 9 1 0
    × Row (set example 0 247) 9 2 0
    × Row (set example 4 208) 9 3 4
    × Row (example ++ (0 ∷ [])) 9 4 0
    × Row example 7 5 0
    × Row (set example 28 144) 9 6 1
    × Row (set example 43 233) 9 7 45
    × Row (set example 29 28) 9 8 1
each_row = (
  (refused_exactly (take 11 example) 9 1 0).0 row_by_row.0,
  (refused_exactly (set example 0 247) 9 2 0).0 row_by_row.1,
  (refused_exactly (set example 4 208) 9 3 4).0 row_by_row.2,
  (refused_exactly (example ++ (0 ∷ [])) 9 4 0).0 row_by_row.3,
  (refused_exactly example 7 5 0).0 row_by_row.4,
  (refused_exactly (set example 28 144) 9 6 1).0 row_by_row.5,
  (refused_exactly (set example 43 233) 9 7 45).0 row_by_row.6,
  (refused_exactly (set example 29 28) 9 8 1).0 row_by_row.7,
)

-- the header of V with no records is sound, so that every program that meets the demands accepts it and writes nothing
bare_sound : HeaderSound bare
bare_sound = record { long = lit≤ tt; fields = (refl, (refl, (refl, (refl, (refl, (refl, (refl, (refl, (refl, tt))))))))) }

pub bare_accepted : (P : Program) → Demands P → (out : List ℕ) → (P.answer bare out ≡ tallied 0 0) × (P.after bare out ≡ out)
bare_accepted P d out = (d.first bare out).none_judged refl bare_sound (λ z. omega (arith, later_version bare z)) refl

-- what the checker answers and leaves on a sheet with a number and on one with none
checker_numbers : (checker.answer example lent ≡ tallied 2 2) × Leaves checker example lent 0 (record { id = 7; rule = 3; required = 617; source = 0 })
    × (checker.answer stressed lent ≡ tallied 1 1) × Leaves checker stressed lent 0 (record { id = 12; rule = 5; required = 0; source = 0 })
unfolding checking
checker_numbers = (refl, refl, refl, refl)

-- demand 3 on both
pub number_example : Third checker example lent 2 0 (record { id = 7; rule = 3; required = 617; source = 0 })
number_example = checker_demands.third example lent 2 2 0 _ checker_numbers.0 (lit< tt) checker_numbers.1 (lit≤ tt)

pub no_number_example : (x : ℕ) → InGauge 5 x → meets_rule (with_scantling 0 5 x stressed) 0 5 ≡ true → ⊥
no_number_example x g e =
    let w = ((checker_demands.third stressed lent 1 1 0 (record { id = 12; rule = 5; required = 0; source = 0 }) checker_numbers.2 (lit< tt) checker_numbers.3 (lit≤ tt)).least_number x g).0 e in
    omega (arith, w.0)

-- what it answers and leaves on a plate under ballast: at T 620 it fails rule 2, at 676 it passes, both with source 2
flooded_numbers : (checker.answer (flooded 155) lent ≡ tallied 1 1) × Leaves checker (flooded 155) lent 0 (record { id = 5; rule = 2; required = 676; source = 2 })
    × (checker.answer (flooded 169) lent ≡ tallied 1 0) × Leaves checker (flooded 169) lent 0 (record { id = 5; rule = 0; required = 0; source = 2 })
unfolding checking
flooded_numbers = (refl, refl, refl, refl)

-- what is said of the source, of a failure and of a pass
pub source_example : SourceSaid checker (flooded 155) lent 0 (record { id = 5; rule = 2; required = 676; source = 2 })
source_example = sources_said checker checker_meets (flooded 155) lent 1 1 0 _ flooded_numbers.0 (lit< tt) flooded_numbers.1

pub source_of_pass : SourceSaid checker (flooded 169) lent 0 (record { id = 5; rule = 0; required = 0; source = 2 })
source_of_pass = sources_said checker checker_meets (flooded 169) lent 1 0 0 _ flooded_numbers.2 (lit< tt) flooded_numbers.3

-- whatever program meets the demands leaves the same there, so that none drops the source on a pass
pub not_dropping : ShutOut DropsSource
not_dropping P d f =
    let same = demands_only P checker d checker_demands (flooded 169) lent in
    let leaves : Leaves P (flooded 169) lent 0 (record { id = 5; rule = 0; required = 0; source = 2 }) = ap (λ (o : List ℕ). read_entry (four_at 0 o)) same.1 ∙ flooded_numbers.3 in
    omega (arith, f (flooded 169) lent 1 0 0 _ (same.0 ∙ flooded_numbers.2) (lit< tt) leaves refl)

-- raising by what a program leaves is raising by what the checker leaves
raised_same : (P : Program) → Demands P → (out : List ℕ) (count i : ℕ) (s : List ℕ) → raised_times P out count i s ≡ raised_times checker out count i s
unfolding raised_times
raised_same P d out zero i s = refl
raised_same P d out (suc count) i s =
    raised_same P d out count i (raised_by i s (read_entry (four_at i (P.after s out))))
    ∙ ap (λ (o : List ℕ). raised_times checker out count i (raised_by i s (read_entry (four_at i o)))) (demands_only P checker d checker_demands s out).1

-- two raisings are not enough, whatever the program
pub two_raisings : (P : Program) → Demands P → Leaves P (raised_times P lent 2 0 light) lent 0 (record { id = 12; rule = 6; required = 168; source = 0 })
two_raisings P d =
    ap (λ (s : List ℕ). read_entry (four_at 0 (P.after s lent))) (raised_same P d lent 2 0 light)
    ∙ ap (λ (o : List ℕ). read_entry (four_at 0 o)) (demands_only P checker d checker_demands (raised_times checker lent 2 0 light) lent).1
    ∙ two_not_enough.2

-- what the empty programs answer and leave on the example, which they accept
pub empty_on_example : (passing.answer example lent ≡ tallied 2 0)
    × (passing.after example lent ≡ entry_bytes (record { id = 7; rule = 0; required = 0; source = 0 }) ++ (entry_bytes (record { id = 12; rule = 0; required = 0; source = 0 }) ++ (170 ∷ [])))
    × ((naming 617).answer example lent ≡ tallied 2 2)
    × ((naming 617).after example lent ≡ entry_bytes (record { id = 7; rule = 3; required = 617; source = 0 }) ++ (entry_bytes (record { id = 12; rule = 5; required = 617; source = 0 }) ++ (170 ∷ [])))
    × (first_only.answer example lent ≡ tallied 2 1)
    × (first_only.after example lent ≡ entry_bytes (record { id = 7; rule = 3; required = 617; source = 0 }) ++ (entry_bytes (record { id = 12; rule = 0; required = 0; source = 0 }) ++ (170 ∷ [])))
    × ((counting (λ h. 1)).answer example lent ≡ tallied 2 1)
unfolding checking
empty_on_example = (refl, refl, refl, refl, refl, refl, refl)
