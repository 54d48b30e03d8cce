-- Sheets of version 2, computed: case 9's plate, of kind 4, on vessel V with depth 300 and a ZDB of 300,000; the same plate in version 1; and one sheet
-- for each row of the table that version 2 has of its own.
-- Assumes nothing.
use Rattle.std.specs.Prelude.{ℕ, ◌≡◌, refl, List, [], ◌∷◌, ◌++◌, take, set}
use Rattle.sheet.specs.Refusals.{given, refused}
use Rattle.checker.specs.declared.Entry.{Entry}
use Rattle.checker.specs.Entry.{entry_bytes}
use Rattle.checker.specs.Check.{answer_of, output_of}
use Rattle.checker.specs.laws.Computing.{reading, checking}
use Rattle.demands.specs.Table.{Row}
use Rattle.demands.specs.laws.Example.{vessel}
use Rattle.demands.specs.laws.Rows.{refused_exactly}

-- V's header in version 2, with one record; its last eight bytes are ZDB and depth
abbrev pub head : List ℕ
head = set vessel 0 39 ++ (8 ∷ 0 ∷ 146 ∷ 124 ∷ 9 ∷ 96 ∷ 0 ∷ 0 ∷ 0 ∷ [])

-- the plate, as id 9, by the two bytes that T stands in: 125 and 192 at T 503, 126 and 0 at T 504
abbrev pub plate : (high low : ℕ) → List ℕ
plate high low = 64 ∷ 39 ∷ 232 ∷ 0 ∷ 7 ∷ 208 ∷ high ∷ low ∷ 0 ∷ 0 ∷ 0 ∷ 7 ∷ 83 ∷ 0 ∷ 0 ∷ 0 ∷ []

abbrev pub inner : List ℕ
inner = head ++ plate 125 192

-- the same in version 1
abbrev pub in_first : List ℕ
in_first = vessel ++ (8 ∷ plate 125 192)

-- the verdict of rule 3 with a number, which comes from the cargo
abbrev pub third : ℕ → Entry
third required = record { id = 9; rule = 3; required = required; source = 3 }

-- at T 503 the plate is one short of the 504 that ZDB asks for; by ZB it would be 617, as in version 1
pub inner_output : (output_of inner (0 ∷ 0 ∷ 0 ∷ 0 ∷ []) ≡ entry_bytes (third 504)) × (output_of in_first (0 ∷ 0 ∷ 0 ∷ 0 ∷ []) ≡ entry_bytes (third 617))
unfolding checking
inner_output = (refl, refl)

-- at T 504 it passes
pub inner_passes : answer_of (head ++ plate 126 0) 4 ≡ given (record { n = 1; failed = 0 })
unfolding checking
inner_passes = refl

-- 1 for 12 and for 19 bytes of version 2, but 2 for 12 bytes of version 15; 3 for a ZDB of 0, a depth of 99 and the last of the 27 zero bits; 4 for one byte more
computed : (answer_of (take 12 inner) 4 ≡ refused 1 0)
    × (answer_of (take 19 inner) 4 ≡ refused 1 0)
    × (answer_of (take 12 (set inner 0 247)) 4 ≡ refused 2 0)
    × (answer_of (set (set inner 13 0) 14 0) 4 ≡ refused 3 10)
    × (answer_of (set (set inner 15 3) 16 24) 4 ≡ refused 3 11)
    × (answer_of (set inner 19 1) 4 ≡ refused 3 12)
    × (answer_of (inner ++ (0 ∷ [])) 4 ≡ refused 4 0)
unfolding answer_of reading
computed = (refl, refl, refl, refl, refl, refl, refl)

-- each of these rows holds for its sheet
pub own_rows : Row (take 12 inner) 4 1 0
    × Row (take 19 inner) 4 1 0
    × Row (take 12 (set inner 0 247)) 4 2 0
    × Row (set (set inner 13 0) 14 0) 4 3 10
    × Row (set (set inner 15 3) 16 24) 4 3 11
    × Row (set inner 19 1) 4 3 12
    × Row (inner ++ (0 ∷ [])) 4 4 0
own_rows = (
  (refused_exactly (take 12 inner) 4 1 0).0 computed.0,
  (refused_exactly (take 19 inner) 4 1 0).0 computed.1,
  (refused_exactly (take 12 (set inner 0 247)) 4 2 0).0 computed.2,
  (refused_exactly (set (set inner 13 0) 14 0) 4 3 10).0 computed.3,
  (refused_exactly (set (set inner 15 3) 16 24) 4 3 11).0 computed.4,
  (refused_exactly (set inner 19 1) 4 3 12).0 computed.5,
  (refused_exactly (inner ++ (0 ∷ [])) 4 4 0).0 computed.6,
)
