-- `pencil::numbers::rule_numbers` meets its contract.
use Prim.Native.Nat.{ℕ, ◌+◌, ◌-◌, ◌/◌, ◌%◌, ◌≤◌}
use mathlib.Core.Path.{◌≡◌, ap, ◌∙◌}
use mathlib.Core.List.{List, [], ◌∷◌}
use lib.Dec.{eqb}
use native.Mathlib.Omega.{arith}
use Rattle.std.proofs.Math.Decide.{dec_le}
use borrow.Author.Tests.{le-leb, lt-leb}
use mir.Val.{bool_byte}
use Rattle.gauge.specs.Least.{number_of}
use Rattle.pencil.specs.Numbers.{product, apart, rule_numbers}
use Rattle.pencil.proofs.numbers.rule_numbers.Goals as goal

-- the registers part by part
listed_same : {per has top m0 m1 m2 m3 m4 m5 m6 : ℕ} {a b c d e f g h i j k l m n o p : ℕ} {a₂ b₂ c₂ d₂ e₂ f₂ g₂ h₂ i₂ j₂ k₂ l₂ m₂ n₂ o₂ p₂ : ℕ}
    → a ≡ a₂ → b ≡ b₂ → c ≡ c₂ → d ≡ d₂ → e ≡ e₂ → f ≡ f₂ → g ≡ g₂ → h ≡ h₂ → i ≡ i₂ → j ≡ j₂ → k ≡ k₂ → l ≡ l₂ → m ≡ m₂ → n ≡ n₂ → o ≡ o₂ → p ≡ p₂
    → ◌≡◌ {A = List ℕ}
    (0 ∷ a ∷ b ∷ c ∷ d ∷ per ∷ e ∷ f ∷ g ∷ h ∷ i ∷ j ∷ k ∷ l ∷ m ∷ n ∷ has ∷ top ∷ m0 ∷ m1 ∷ m2 ∷ m3 ∷ m4 ∷ m5 ∷ m6 ∷ o ∷ p ∷ 0 ∷ 0 ∷ 0 ∷ 0 ∷ 0 ∷ [])
    (0 ∷ a₂ ∷ b₂ ∷ c₂ ∷ d₂ ∷ per ∷ e₂ ∷ f₂ ∷ g₂ ∷ h₂ ∷ i₂ ∷ j₂ ∷ k₂ ∷ l₂ ∷ m₂ ∷ n₂ ∷ has ∷ top ∷ m0 ∷ m1 ∷ m2 ∷ m3 ∷ m4 ∷ m5 ∷ m6 ∷ o₂ ∷ p₂ ∷ 0 ∷ 0 ∷ 0 ∷ 0 ∷ 0 ∷ [])
listed_same q1 q2 q3 q4 q5 q6 q7 q8 q9 q10 q11 q12 q13 q14 q15 q16 = rw (q1, q2, q3, q4, q5, q6, q7, q8, q9, q10, q11, q12, q13, q14, q15, q16)

whole_same : {a b c a₂ b₂ c₂ : ℕ} → a ≡ a₂ → b ≡ b₂ → c ≡ c₂ → (a + b % 4294967296) / c ≡ (a₂ + b₂ % 4294967296) / c₂
whole_same p q r = rw (p, q, r)

left_same : {a b c a₂ b₂ c₂ : ℕ} → a ≡ a₂ → b ≡ b₂ → c ≡ c₂ → (a + b % 4294967296) % c ≡ (a₂ + b₂ % 4294967296) % c₂
left_same p q r = rw (p, q, r)

tried_same : {a b c a₂ b₂ c₂ : ℕ} → a ≡ a₂ → b ≡ b₂ → c ≡ c₂ → product a b - c ≡ product a₂ b₂ - c₂
tried_same p q r = rw (p, q, r)

nearby : {a b a₂ b₂ : ℕ} → a ≡ a₂ → b ≡ b₂ → a - bool_byte (eqb a b) ≡ a₂ - bool_byte (eqb a₂ b₂)
nearby p q = rw (p, q)

-- what one is over the other, whichever it is
apart_same : (a b : ℕ) → (a - b) + (b - a) ≡ apart a b
apart_same a b = go (dec_le a b)
  where
    go : Dec (a ≤ b) → (a - b) + (b - a) ≡ apart a b
    go (yes l) = rw (le-leb a b l) (omega arith)
    go (no l) = rw (lt-leb a b (omega arith)) (omega arith)

pub returns : goal.returns
unfolding rule_numbers
returns c =
    let w = c.worked_in-worked.ensures in
    let t = c.taken_apart-parts.ensures in
    let least = c.number-least.ensures ∙ ap number_of w.least in
    let beside = c.saturating_sub-beside.ensures ∙ nearby least w.first in
    listed_same
    c.divide-side.ensures.whole
    c.divide-side.ensures.left
    t.right
    w.root
    (c.divide-over.ensures.whole ∙ whole_same t.short w.root t.step)
    (c.divide-over.ensures.left ∙ left_same t.short w.root t.step)
    w.first
    (c.try_number-at_first.ensures.x ∙ tried_same t.step w.first t.short)
    (c.try_number-at_first.ensures.square ∙ ap (λ (x : ℕ). product x x) (tried_same t.step w.first t.short))
    beside
    (c.try_number-at_other.ensures.x ∙ tried_same t.step beside t.short)
    (c.try_number-at_other.ensures.square ∙ ap (λ (x : ℕ). product x x) (tried_same t.step beside t.short))
    least
    (c.abs_diff-margin.ensures ∙ ap (λ (l : ℕ). (l - c.args.rule.has) + (c.args.rule.has - l)) least ∙ apart_same _ c.args.rule.has)
    t.step
    t.short
