-- Document 01, "Numbers off the drawing board", computed with its own rules: the twelve cases in one table.
-- Assumes nothing.
use Rattle.std.specs.Prelude.{ℕ, ◌≡◌, refl, Bool, false, List, [], ◌∷◌}
use Rattle.gauge.specs.Ceil.{ceil_of}
use Rattle.gauge.specs.Least.{first_from, least_in, number_of}
use Rattle.demands.specs.Document01Rules.{sea, pM, on_bottom, on_inner, on_deep, q, R, K2, rule1, rule2, rule3, rule4, rule5, rule6}

-- what a rule requires of T, W or A, 0 where nothing will do
abbrev least_t : (ℕ → Bool) → ℕ
least_t test = number_of (least_in test 4000)

abbrev least_w : (ℕ → Bool) → ℕ
least_w test = number_of (least_in test 100000)

abbrev least_a : (ℕ → Bool) → ℕ
least_a test = number_of (least_in test 16000)

-- vessel V: L 8000, D0 250, H 60, one run, M 20,000, ZB 200,000; K 1000, S 500, z 0, no ballast
abbrev plate_of : (kind P K2 : ℕ) → List ℕ
plate_of kind P K2 = least_t (rule1 kind 8000 1000 500) ∷ least_t (rule2 kind 1000 500 P) ∷ least_t (rule3 kind 1000 500 K2 (R 20000 200000)) ∷ []

-- with βb and βs 100
abbrev member_of : (kind P l η σ1 : ℕ) → List ℕ
member_of kind P l η σ1 =
    least_t (rule4 kind 8000 1000 500) ∷ least_w (rule5 kind 100 η σ1 (q P 500) l) ∷ least_a (rule6 kind 100 η (q P 500) l) ∷ []

-- rule 3 of kind 1 where K2 is 1000 and ZB 1,000,000
abbrev rule3_at : ℕ → ℕ
rule3_at M = least_t (rule3 1 1000 500 1000 (R M 1000000))

abbrev computed : List (List ℕ)
computed =
    (sea 250 60 0 ∷ sea 250 60 250 ∷ sea 250 60 251 ∷ [])
    ∷ (sea 250 0 250 ∷ sea 250 0 251 ∷ sea 250 120 251 ∷ [])
    ∷ (pM 250 60 ∷ pM 100 120 ∷ [])
    ∷ plate_of 2 (on_bottom 250 60 0 false 0) 0
    ∷ (K2 250 50 ∷ plate_of 1 (on_bottom 250 60 0 false 0) (K2 250 50))
    ∷ (K2 10 60 ∷ [])
    ∷ (rule3_at 104671 ∷ rule3_at 104672 ∷ [])
    ∷ (rule3_at 209999 ∷ rule3_at 210000 ∷ [])
    ∷ plate_of 4 (on_inner 30000 0 false 0) 0
    ∷ (q (sea 250 60 0) 500 ∷ member_of 5 (sea 250 60 0) 300 90 50)
    ∷ member_of 6 (on_deep 250 60 false) 500 100 0
    ∷ (least_t (rule4 5 11999 1000 600) ∷ least_t (rule4 5 12000 1000 600) ∷ [])
    ∷ []

-- as the document prints them
abbrev printed : List (List ℕ)
printed =
    (27526860 ∷ 3001860 ∷ 3259000 ∷ [])
    ∷ (0 ∷ 3250000 ∷ 6426000 ∷ [])
    ∷ (676890 ∷ 0 ∷ [])
    ∷ (530 ∷ 315 ∷ 617 ∷ [])
    ∷ (1040 ∷ 605 ∷ 420 ∷ 1034 ∷ [])
    ∷ (26000 ∷ [])
    ∷ (1100 ∷ 1094 ∷ [])
    ∷ (0 ∷ 0 ∷ [])
    ∷ (458 ∷ 329 ∷ 617 ∷ [])
    ∷ (13764 ∷ 420 ∷ 567 ∷ 168 ∷ [])
    ∷ (508 ∷ 1996 ∷ 310 ∷ [])
    ∷ (481 ∷ 450 ∷ [])
    ∷ []

pub twelve_cases_01 : computed ≡ printed
unfolding first_from least_in ceil_of sea on_bottom on_inner on_deep q K2 rule4 rule5 rule6
twelve_cases_01 = refl
