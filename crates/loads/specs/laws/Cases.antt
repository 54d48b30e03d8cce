-- Loads and what they come from, worked out.
-- Assumes nothing.
use Rattle.std.specs.Prelude.{ℕ, ◌-◌, ◌<◌, ◌≡◌, refl, true, false, List, [], ◌∷◌, map, leb}
use Rattle.std.proofs.Common.{arith}
use Rattle.std.proofs.lemmas.Bool.{lt-leb}
use Rattle.gauge.specs.Ceil.{ceil_of}
use Rattle.loads.specs.Loads.{sea, ballast, relief, deep_pressure}
use Rattle.loads.specs.Sources.{Named, sea_named, deep_named, bottom_named, inner_named}

-- a pressure and its source's number
abbrev pair : Named → List ℕ
pair l = l.pressure ∷ l.source ∷ []

abbrev computed : List (List ℕ)
computed =
    map pair
    (sea_named 250 60 250
    ∷ sea_named 250 60 251
    -- ballast over the sea and with the relief under it, then equal to it, then over it
    ∷ bottom_named 240 60 0 true 175
    ∷ bottom_named 240 60 0 true 176
    ∷ bottom_named 240 60 0 true 177
    -- so above the draught, the relief more than the ballast and less
    ∷ bottom_named 900 0 901 true 901
    ∷ bottom_named 240 60 241 true 241
    -- cargo under ballast, equal to it, and over it
    ∷ inner_named 9809 0 true 0
    ∷ inner_named 9810 0 true 0
    ∷ inner_named 9811 0 true 0
    -- cargo alone, also of nothing
    ∷ inner_named 0 0 false 0
    ∷ deep_named 250 60 true
    ∷ [])

pub source_cases : computed
    ≡ (3001860 ∷ 0 ∷ [])
    ∷ (3259000 ∷ 1 ∷ [])
    ∷ (26545860 ∷ 0 ∷ [])
    ∷ (26545860 ∷ 0 ∷ [])
    ∷ (26643960 ∷ 2 ∷ [])
    ∷ (3250000 ∷ 1 ∷ [])
    ∷ (9280260 ∷ 2 ∷ [])
    ∷ (9810000 ∷ 2 ∷ [])
    ∷ (9810000 ∷ 2 ∷ [])
    ∷ (9811000 ∷ 3 ∷ [])
    ∷ (0 ∷ 3 ∷ [])
    ∷ (17103735 ∷ 0 ∷ [])
    ∷ []
unfolding sea deep_pressure ceil_of bottom_named inner_named
source_cases = refl

-- above the draught a tank is never exactly as heavy as the sea: the pressures differ by a number that no whole centimetres make up
pub no_tie_above : (D0 z zL : ℕ) → D0 < z
    → (sea D0 0 z ≡ ballast zL z - relief D0 0 → ⊥) × (sea D0 60 z ≡ ballast zL z - relief D0 60 → ⊥) × (sea D0 120 z ≡ ballast zL z - relief D0 120 → ⊥)
unfolding sea
no_tie_above D0 z zL l =
    let above : leb z D0 ≡ false = lt-leb z D0 l in
    (λ e. omega (arith, rw above at e), λ e. omega (arith, rw above at e), λ e. omega (arith, rw above at e))
