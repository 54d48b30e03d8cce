-- Hulls that are too slender: a sheet of version 1 is never turned away for it; and sheets at the limit and a centimetre to either side, computed.
-- Assumes nothing.
use Rattle.std.specs.Prelude.{ℕ, ◌≡◌, refl, false, List, ◌++◌, take, set, replicate}
use Rattle.std.proofs.Common.{arith}
use Rattle.sheet.specs.declared.Own.{Own}
use Rattle.sheet.specs.declared.Own.TheVariants.{One, Two}
use Rattle.sheet.specs.Versions.{version_of}
use Rattle.sheet.specs.Refusals.{Answer, given, refused}
use Rattle.sheet.specs.Header.{version_field, header_bytes}
use Rattle.checker.specs.Check.{verdicts, failures, Totals, answer_of}
use Rattle.checker.specs.laws.Computing.{reading}
use Rattle.demands.specs.Table.{Row, sheet_short, version, header_short, header_field, slender, sheet_length, output_short, kind, field, order}
use Rattle.demands.specs.Program.{Program, Refuses}
use Rattle.demands.specs.Demands.{Demands}
use Rattle.demands.specs.laws.SlenderRead.{later_version}
use Rattle.demands.specs.laws.Rows.{refused_exactly}

-- row 9 is that of a later version
only_later : (s : List ℕ) (room k p : ℕ) → Row s room k p → k ≡ 9 → version_field s ≡ 1 → ⊥
only_later s room k p (slender f z) e v = omega (arith, later_version s z)
only_later s room k p (sheet_short l) e v = omega arith
only_later s room k p (version l n) e v = omega arith
only_later s room k p (header_short l n m) e v = omega arith
only_later s room k p (header_field f l c) e v = omega arith
only_later s room k p (sheet_length f n m) e v = omega arith
only_later s room k p (output_short f n w m) e v = omega arith
only_later s room k p (kind i t c) e v = omega arith
only_later s room k p (field i f t c) e v = omega arith
only_later s room k p (order i t a l) e v = omega arith

-- whatever program meets the demands does not refuse a sheet of version 1 by 9
pub never_in_version_1 : (P : Program) → Demands P → (s out : List ℕ) → version_field s ≡ 1 → (p : ℕ) → Refuses P s out 9 p → ⊥
never_in_version_1 P d s out v p e = only_later s _ 9 p (((d.first s out).refused_exactly 9 p).0 e) refl v

-- ---- headers of sheets, by L, H, n and what the version has of its own

abbrev hull : (L H count : ℕ) → Own → List ℕ
hull L H count own =
    header_bytes
    (record {
      version = (version_of own).number;
      length = record { 0 = L };
      draught = record { 0 = 250 };
      wave = record { 0 = H };
      two_runs = false;
      moment = 20000;
      bottom_modulus = 200000;
      count = count;
      own = own;
    })

-- with no record, in version 2
abbrev second : (L H depth : ℕ) → List ℕ
second L H depth = hull L H 0 (Two (record { inner_modulus = 300000; depth = record { 0 = depth } }))

-- accepted, with nothing to judge
abbrev none_judged : Answer Totals
none_judged = given (record { n = 0; failed = 0 })

-- at 60 a hull of depth 228 may be 7980 long, at 120 one of depth 320 may be 8000; at 0, and in version 1, a hull may have any length
pub at_the_limit : (answer_of (second 7979 60 228) 0 ≡ none_judged)
    × (answer_of (second 7980 60 228) 0 ≡ none_judged)
    × (answer_of (second 7981 60 228) 0 ≡ refused 9 0)
    × (answer_of (second 7999 120 320) 0 ≡ none_judged)
    × (answer_of (second 8000 120 320) 0 ≡ none_judged)
    × (answer_of (second 8001 120 320) 0 ≡ refused 9 0)
    × (answer_of (second 13500 0 100) 0 ≡ none_judged)
    × (answer_of (hull 13500 120 0 One) 0 ≡ none_judged)
unfolding answer_of verdicts failures reading
at_the_limit = (refl, refl, refl, refl, refl, refl, refl, refl)

-- the header of a slender hull that counts one record, with nothing behind it, and with sixteen bytes that are none
abbrev counted : List ℕ
counted = hull 8001 120 1 (Two (record { inner_modulus = 300000; depth = record { 0 = 320 } }))

abbrev faulty : List ℕ
faulty = counted ++ replicate 16 0

-- 9 before 4, and before 5 and 6; 1 and 3 before 9
computed : (answer_of counted 4 ≡ refused 9 0)
    × (answer_of faulty 0 ≡ refused 9 0)
    × (answer_of (take 19 counted) 4 ≡ refused 1 0)
    × (answer_of (set counted 19 1) 4 ≡ refused 3 12)
unfolding answer_of reading
computed = (refl, refl, refl, refl)

-- these rows hold for these sheets
pub slender_rows : Row (second 7981 60 228) 0 9 0 × Row (second 8001 120 320) 0 9 0 × Row counted 4 9 0 × Row faulty 0 9 0 × Row (take 19 counted) 4 1 0 × Row (set counted 19 1) 4 3 12
slender_rows = (
  (refused_exactly (second 7981 60 228) 0 9 0).0 at_the_limit.2,
  (refused_exactly (second 8001 120 320) 0 9 0).0 at_the_limit.5,
  (refused_exactly counted 4 9 0).0 computed.0,
  (refused_exactly faulty 0 9 0).0 computed.1,
  (refused_exactly (take 19 counted) 4 1 0).0 computed.2,
  (refused_exactly (set counted 19 1) 4 3 12).0 computed.3,
)
