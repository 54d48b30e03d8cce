-- Edits of the document's example (vessel V, case 4 as id 7 and case 10 as id 12), computed: one of each kind, and one for each refusal of an edit.
-- Assumes nothing.
use Rattle.std.specs.Prelude.{ℕ, ◌≡◌, refl, false, List, [], ◌∷◌, ◌++◌, set, replicate}
use Rattle.keyed.specs.Keyed.{position_of, has_of}
use Rattle.sheet.specs.declared.Record.{Record}
use Rattle.sheet.specs.declared.Body.TheVariants.{Plate as isPlate}
use Rattle.sheet.specs.Refusals.{given, refused}
use Rattle.sheet.specs.Record.{plate_fault}
use Rattle.checker.specs.laws.Computing.{reading}
use Rattle.checker.specs.Unjudged.{sound_sheet}
use Rattle.edit.specs.Edit.{sheet_at, replacing, inserting, removing, placing, put_in, remove_in}

-- all that an edit computes with, under one name for an `unfolding` line
unfoldable pub editing : Type 0
unfolding put_in remove_in placing replacing inserting removing position_of has_of sheet_at sound_sheet reading plate_fault
editing = Unit {0}

-- V's header, with a count of one, two and three
abbrev pub vessel : ℕ → List ℕ
vessel count = 23 ∷ 208 ∷ 15 ∷ 163 ∷ 192 ∷ 39 ∷ 16 ∷ 0 ∷ 48 ∷ 212 ∷ 0 ∷ count ∷ []

-- the two records
abbrev seven : List ℕ
seven = 32 ∷ 31 ∷ 232 ∷ 0 ∷ 7 ∷ 208 ∷ 150 ∷ 0 ∷ 0 ∷ 0 ∷ 0 ∷ 0 ∷ 0 ∷ 0 ∷ 0 ∷ 0 ∷ []

abbrev pub twelve : List ℕ
twelve = 80 ∷ 48 ∷ 0 ∷ 31 ∷ 68 ∷ 176 ∷ 105 ∷ 50 ∷ 100 ∷ 180 ∷ 100 ∷ 2 ∷ 48 ∷ 2 ∷ 163 ∷ 232 ∷ []

-- the sheet of 44 bytes, in a buffer with so many more
abbrev pub lent : ℕ → List ℕ
lent more = vessel 16 ++ (seven ++ (twelve ++ replicate more 170))

-- case 4 with this id and this thickness
abbrev plate : ℕ → ℕ → Record
plate id T =
    record {
      kind = 2;
      id = id;
      body = isPlate
          (record {
            factor = record { 0 = 1000 };
            z = record { 0 = 0 };
            spacing = record { 0 = 500 };
            thickness = record { 0 = T };
            b1 = record { 0 = 0 };
            b2 = record { 0 = 0 };
            ballast = false;
            tank_top = record { 0 = 0 };
            cargo = 0;
          });
    }

-- mended to 617, as the checker asks: its own sixteen bytes change; as id 9 it goes in between, and the sixteen bytes behind the sheet are taken
pub put_examples : (put_in (lent 0) 44 (plate 7 617) ≡ given (record { size = 44; bytes = vessel 16 ++ ((32 ∷ 31 ∷ 232 ∷ 0 ∷ 7 ∷ 208 ∷ 154 ∷ 64 ∷ 0 ∷ 0 ∷ 0 ∷ 0 ∷ 0 ∷ 0 ∷ 0 ∷ 0 ∷ []) ++ twelve) }))
    × (put_in (lent 17) 44 (plate 9 600) ≡ given (record { size = 60; bytes = vessel 24 ++ (seven ++ ((32 ∷ 39 ∷ 232 ∷ 0 ∷ 7 ∷ 208 ∷ 150 ∷ 0 ∷ 0 ∷ 0 ∷ 0 ∷ 0 ∷ 0 ∷ 0 ∷ 0 ∷ 0 ∷ []) ++ (twelve ++ (170 ∷ [])))) }))
unfolding editing
put_examples = (refl, refl)

-- id 7 goes out, id 12 closes the gap, and sixteen zeros come free; past them nothing changes
pub remove_example : remove_in (lent 1) 44 7 ≡ given (record { size = 28; bytes = vessel 8 ++ (twelve ++ (replicate 16 0 ++ (170 ∷ []))) })
unfolding editing
remove_example = refl

-- 1 for a length over the buffer, and under the header; 4 and 8 of the table's own; 6 for a kind that does not go with a plate and 7 for a thickness of 0, with 2 as
-- the record; 10; and 11 one byte short
pub refusal_examples : (put_in (lent 0) 45 (plate 7 617) ≡ refused 1 0)
    × (put_in (lent 0) 11 (plate 7 617) ≡ refused 1 0)
    × (put_in (lent 0) 43 (plate 7 617) ≡ refused 4 0)
    × (put_in (set (lent 0) 29 28) 44 (plate 7 617) ≡ refused 8 1)
    × (put_in (lent 0) 44 (record { kind = 5; id = 7; body = (plate 7 617).body }) ≡ refused 6 2)
    × (put_in (lent 0) 44 (plate 7 0) ≡ refused 7 70)
    × (remove_in (lent 0) 44 9 ≡ refused 10 0)
    × (put_in (lent 15) 44 (plate 9 600) ≡ refused 11 0)
unfolding editing
refusal_examples = (refl, refl, refl, refl, refl, refl, refl, refl)

-- the same vessel in version 2, with ZDB 300,000 and depth 300: the records stand behind twenty bytes
abbrev second : ℕ → List ℕ
second count = 39 ∷ 208 ∷ 15 ∷ 163 ∷ 192 ∷ 39 ∷ 16 ∷ 0 ∷ 48 ∷ 212 ∷ 0 ∷ count ∷ 0 ∷ 146 ∷ 124 ∷ 9 ∷ 96 ∷ 0 ∷ 0 ∷ 0 ∷ []

-- the same with depth 228, of which its length is more than 35
abbrev slender : List ℕ
slender = set (set (second 16) 15 7) 16 32 ++ (seven ++ twelve)

-- id 9 goes in between and id 7 goes out, as above; a length of 19 is under the header; a slender hull is 9, also in a sheet that is a byte short
pub second_examples : (put_in (second 16 ++ (seven ++ (twelve ++ replicate 17 170))) 52 (plate 9 600) ≡ given (record { size = 68; bytes = second 24 ++ (seven ++ ((32 ∷ 39 ∷ 232 ∷ 0 ∷ 7 ∷ 208 ∷ 150 ∷ 0 ∷ 0 ∷ 0 ∷ 0 ∷ 0 ∷ 0 ∷ 0 ∷ 0 ∷ 0 ∷ []) ++ (twelve ++ (170 ∷ [])))) }))
    × (remove_in (second 16 ++ (seven ++ (twelve ++ (170 ∷ [])))) 52 7 ≡ given (record { size = 36; bytes = second 8 ++ (twelve ++ (replicate 16 0 ++ (170 ∷ []))) }))
    × (put_in (second 16 ++ (seven ++ twelve)) 19 (plate 7 617) ≡ refused 1 0)
    × (put_in slender 52 (plate 7 617) ≡ refused 9 0)
    × (remove_in slender 51 7 ≡ refused 9 0)
unfolding editing
second_examples = (refl, refl, refl, refl, refl)
