-- What is said of any functions that meet the promises is said of some: functions that do as the promises say, and calls of them on the document's example, computed.
-- Assumes nothing.
use Rattle.std.specs.Prelude.{ℕ, ◌*◌, ◌+◌, ◌≡◌, refl, [], ◌∷◌, ◌++◌}
use Rattle.numbers.specs.From.{record_from, record_numbers_fault}
use Rattle.yard.specs.Packed.{number_unit}
use Rattle.yard.specs.Editing.{resized}
use Rattle.edit.specs.Edit.{header_of, put_numbers_in, size_by, bytes_by}
use Rattle.edit_laws.specs.Calls.{Call, put_fields, remove_id, Editor, MeetsEditor, answered, called_all}
use Rattle.edit_laws.specs.laws.CallLaws.{comes_to}
use Rattle.edit_laws.specs.laws.Example.{editing, vessel, twelve, lent}

-- the functions that answer and leave what a call comes to
abbrev pub as_promised : Editor
as_promised = record {
  answer = λ c b len. resized (size_by (comes_to c (record { size = len; bytes = b })));
  after = λ c b len. bytes_by (comes_to c (record { size = len; bytes = b })) b;
}

-- they meet the promises
pub editor_meets : MeetsEditor as_promised
editor_meets = record {
  puts = λ b len ns. record { answer = refl; bytes = refl };
  removes = λ b len id. record { answer = refl; bytes = refl };
}

-- case 4 with id 9, as numbers, and with thickness 0
abbrev nine : ℕ → Call
nine T = put_fields (2 ∷ 9 ∷ 1000 ∷ 0 ∷ 500 ∷ T ∷ 0 ∷ 0 ∷ 0 ∷ 0 ∷ 0 ∷ 0 ∷ 0 ∷ [])

-- Id 7 goes out, so that the buffer of 44 bytes has room for id 9; a plate of no thickness and an id that is not there are refused, and leave what was.
pub calls_example : called_all as_promised (remove_id 7 ∷ nine 600 ∷ nine 0 ∷ remove_id 7 ∷ []) (record { size = 44; bytes = lent 0 })
    ≡ record { size = 44; bytes = vessel 16 ++ ((32 ∷ 39 ∷ 232 ∷ 0 ∷ 7 ∷ 208 ∷ 150 ∷ 0 ∷ 0 ∷ 0 ∷ 0 ∷ 0 ∷ 0 ∷ 0 ∷ 0 ∷ 0 ∷ []) ++ twelve) }
unfolding called_all size_by bytes_by put_numbers_in header_of record_from record_numbers_fault editing
calls_example = refl

-- what C is answered: the new length; without the removal 11; 7 with 32 × 2 + 6; 10
pub answers_example : (answered as_promised (remove_id 7) (record { size = 44; bytes = lent 0 }) ≡ 28)
    × (answered as_promised (nine 600) (record { size = 44; bytes = lent 0 }) ≡ 11 * number_unit)
    × (answered as_promised (nine 0) (record { size = 44; bytes = lent 0 }) ≡ 7 * number_unit + 70)
    × (answered as_promised (remove_id 8) (record { size = 44; bytes = lent 0 }) ≡ 10 * number_unit)
unfolding size_by bytes_by put_numbers_in header_of record_from record_numbers_fault editing
answers_example = (refl, refl, refl, refl)
