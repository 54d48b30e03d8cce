-- The fields that every version has, word by word.
-- Assumes nothing.
use Prim.Native.Nat.{ℕ, ◌+◌, ◌*◌, ◌/◌, ◌%◌, ◌^◌, ◌<◌}
use mathlib.Core.Path.{◌≡◌, refl, ◌∙◌}
use mathlib.Core.List.{List, [], ◌∷◌}
use native.Mathlib.Nat.{div-one, div-div-eq-div-mul}
use Rattle.layout.specs.Layout.{unpack}
use Rattle.layout.specs.laws.Laws.{unpack_words}
use Rattle.sheet.specs.Lines.{first_widths}

-- the parts of the two words
abbrev pub parts : (hi lo : ℕ) → List ℕ
parts hi lo =
    hi / 2 ^ 60 % 2 ^ 4
    ∷ hi / 2 ^ 46 % 2 ^ 14
    ∷ hi / 2 ^ 36 % 2 ^ 10
    ∷ hi / 2 ^ 28 % 2 ^ 8
    ∷ hi / 2 ^ 27 % 2 ^ 1
    ∷ hi / 2 ^ 7 % 2 ^ 20
    ∷ (hi % 2 ^ 7 * 2 ^ 20 + lo / 2 ^ 12 % 2 ^ 20)
    ∷ lo / 2 ^ 3 % 2 ^ 9
    ∷ lo % 2 ^ 3
    ∷ []

pub first_fields_lem : (hi lo : ℕ) → lo < 2 ^ 32 → unpack first_widths (hi * 2 ^ 32 + lo) ≡ parts hi lo
first_fields_lem hi lo h =
    unpack_words (4 ∷ 14 ∷ 10 ∷ 8 ∷ 1 ∷ 20 ∷ []) (9 ∷ 3 ∷ []) 7 20 32 refl hi lo h ∙ simp (div-one, div-div-eq-div-mul)
