-- The two shapes' fields, word by word.
-- Assumes nothing.
use Prim.Native.Nat.{ℕ, ◌+◌, ◌*◌, ◌/◌, ◌%◌, ◌^◌, ◌<◌}
use mathlib.Core.Path.{◌≡◌, refl, ap, ap₂, ◌∙◌}
use mathlib.Core.Bool.{cond}
use mathlib.Core.List.{List, [], ◌∷◌}
use native.Mathlib.Nat.{div-one, div-div-eq-div-mul}
use lib.ListN.{get_or}
use lib.Dec.{ltb}
use Rattle.layout.specs.Layout.{unpack}
use Rattle.layout.specs.laws.Laws.{unpack_words}
use Rattle.sheet.specs.Lines.{plate_widths, member_widths}
use Rattle.sheet.specs.Record.{plate_at, member_at, record_at, spare_at}
use Rattle.sheet.specs.declared.Plate.{Plate}
use Rattle.sheet.specs.declared.Member.{Member}
use Rattle.sheet.specs.declared.Record.{Record}
use Rattle.sheet.specs.declared.Body.TheVariants.{Plate as isPlate, Member as isMember}

pub plate_fields_lem : (hi lo : ℕ) → lo < 2 ^ 64
    → unpack plate_widths (hi * 2 ^ 64 + lo)
    ≡ (hi / 2 ^ 60 % 2 ^ 4 ∷ hi / 2 ^ 50 % 2 ^ 10 ∷ hi / 2 ^ 40 % 2 ^ 10 ∷ hi / 2 ^ 30 % 2 ^ 10 ∷ hi / 2 ^ 18 % 2 ^ 12 ∷ hi / 2 ^ 6 % 2 ^ 12
    ∷ (hi % 2 ^ 6 * 2 ^ 4 + lo / 2 ^ 60 % 2 ^ 4)
    ∷ lo / 2 ^ 50 % 2 ^ 10 ∷ lo / 2 ^ 49 % 2 ^ 1 ∷ lo / 2 ^ 38 % 2 ^ 11 ∷ lo / 2 ^ 20 % 2 ^ 18 ∷ lo % 2 ^ 20 ∷ [])
plate_fields_lem hi lo h =
    unpack_words (4 ∷ 10 ∷ 10 ∷ 10 ∷ 12 ∷ 12 ∷ []) (10 ∷ 1 ∷ 11 ∷ 18 ∷ 20 ∷ []) 6 4 64 refl hi lo h ∙ simp (div-one, div-div-eq-div-mul)

pub member_fields_lem : (hi lo : ℕ) → lo < 2 ^ 64
    → unpack member_widths (hi * 2 ^ 64 + lo)
    ≡ (hi / 2 ^ 60 % 2 ^ 4 ∷ hi / 2 ^ 50 % 2 ^ 10 ∷ hi / 2 ^ 40 % 2 ^ 10 ∷ hi / 2 ^ 28 % 2 ^ 12 ∷ hi / 2 ^ 18 % 2 ^ 10 ∷ hi / 2 ^ 6 % 2 ^ 12
    ∷ (hi % 2 ^ 6 * 2 ^ 1 + lo / 2 ^ 63 % 2 ^ 1)
    ∷ lo / 2 ^ 56 % 2 ^ 7 ∷ lo / 2 ^ 49 % 2 ^ 7 ∷ lo / 2 ^ 41 % 2 ^ 8 ∷ lo / 2 ^ 24 % 2 ^ 17 ∷ lo / 2 ^ 10 % 2 ^ 14 ∷ lo % 2 ^ 10 ∷ [])
member_fields_lem hi lo h =
    unpack_words (4 ∷ 10 ∷ 10 ∷ 12 ∷ 10 ∷ 12 ∷ []) (7 ∷ 7 ∷ 8 ∷ 17 ∷ 14 ∷ 10 ∷ []) 6 1 64 refl hi lo h ∙ simp (div-one, div-div-eq-div-mul)

-- a record by its first word's kind and id
abbrev pub plate_with : ℕ → Plate → Record
plate_with hi p = record { kind = hi / 2 ^ 60 % 2 ^ 4; id = hi / 2 ^ 50 % 2 ^ 10; body = isPlate p }

abbrev pub member_with : ℕ → Member → Record
member_with hi m = record { kind = hi / 2 ^ 60 % 2 ^ 4; id = hi / 2 ^ 50 % 2 ^ 10; body = isMember m }

pub record_law : (hi lo : ℕ) → lo < 2 ^ 64
    → record_at (hi * 2 ^ 64 + lo)
    ≡ cond (ltb (hi / 2 ^ 60 % 2 ^ 4) 5)
    (plate_with hi (plate_at (unpack plate_widths (hi * 2 ^ 64 + lo))))
    (member_with hi (member_at (unpack member_widths (hi * 2 ^ 64 + lo))))
record_law hi lo h =
    let n = hi * 2 ^ 64 + lo in
    let e = plate_fields_lem hi lo h in
    ap₂
    (λ (k i : ℕ).
    cond (ltb k 5)
    (record { kind = k; id = i; body = isPlate (plate_at (unpack plate_widths n)) })
    (record { kind = k; id = i; body = isMember (member_at (unpack member_widths n)) }))
    (ap (λ (vs : List ℕ). get_or vs 0 0) e)
    (ap (λ (vs : List ℕ). get_or vs 1 0) e)

pub spare_law : (hi lo : ℕ) → lo < 2 ^ 64 → spare_at (hi * 2 ^ 64 + lo) ≡ cond (ltb (hi / 2 ^ 60 % 2 ^ 4) 5) (lo % 2 ^ 20) 0
spare_law hi lo h = ap (λ (vs : List ℕ). cond (ltb (get_or vs 0 0) 5) (get_or vs 11 0) 0) (plate_fields_lem hi lo h)
