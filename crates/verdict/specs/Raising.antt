-- What a verdict says of the rules, and another number in place of a scantling, over any list of rules.
use Rattle.std.specs.Prelude.{ℕ, ◌≤◌, ◌<◌, ◌≡◌, Bool, true, false, List, [], ◌∷◌}
use Rattle.gauge.specs.Least.{Monotone}
use Rattle.verdict.specs.declared.Verdict.{Verdict}
use Rattle.verdict.specs.Verdict.{Rule, pass, failing, verdict_of}

-- q is the least of the gauge 1, 2, .., top that passes the test: larger ones pass, smaller ones fail, and 0 stands exactly where none would do
pub record Required (asks : ℕ → Bool) (top q : ℕ) : Type 0 where
  pub within : 1 ≤ q → q ≤ top
  pub meets : 1 ≤ q → asks q ≡ true
  pub larger : 1 ≤ q → (y : ℕ) → q ≤ y → asks y ≡ true
  pub smaller : (j : ℕ) → 1 ≤ j → j < q → asks j ≡ false
  pub none : q ≡ 0 → (j : ℕ) → 1 ≤ j → j ≤ top → asks j ≡ false
  pub zero : ((j : ℕ) → 1 ≤ j → j ≤ top → asks j ≡ false) → q ≡ 0

-- of every rule of the list
abbrev pub All : (Rule → Type 0) → List Rule → Type 0
All P [] = Unit {0}
All P (r ∷ rs) = P r × All P rs

-- every rule is met
abbrev pub Met : List Rule → Type 0
Met rs = All (λ (r : Rule). r.asks r.has ≡ true) rs

-- every rule is met by every larger scantling too
abbrev pub AllMonotone : List Rule → Type 0
AllMonotone rs = All (λ (r : Rule). Monotone r.asks) rs

-- v is the verdict of the first rule of the list that fails, and the rules before it are met
pub data Failing (v : Verdict) : List Rule → Type 0 where
  here : {r : Rule} {rs : List Rule} → r.asks r.has ≡ false → v ≡ failing r → Failing v (r ∷ rs)
  there : {r : Rule} {rs : List Rule} → r.asks r.has ≡ true → Failing v rs → Failing v (r ∷ rs)

-- the rule that a verdict names
abbrev pub the_rule : {v : Verdict} {rs : List Rule} → Failing v rs → Rule
the_rule (here {r} f e) = r
the_rule (there t f) = the_rule f

-- what is said of it, and of the number
pub record Names (v : Verdict) (r : Rule) : Type 0 where
  pub number : v.rule ≡ r.number
  pub fails : r.asks r.has ≡ false
  pub least : Required r.asks r.top v.required

-- a verdict is a pass where every rule is met, and else that of the first that fails
pub data Found (rs : List Rule) : Type 0 where
  passes : Met rs → verdict_of rs ≡ pass → Found rs
  fails : Failing (verdict_of rs) rs → Found rs

-- the rules' numbers rise, the first being above n
abbrev pub Rising : ℕ → List Rule → Type 0
Rising n [] = Unit {0}
Rising n (r ∷ rs) = (n < r.number) × Rising r.number rs

-- a verdict is a pass, or its rule is above n
pub data Later (n : ℕ) (v : Verdict) : Type 0 where
  passed : v ≡ pass → Later n v
  above : n < v.rule → Later n v

-- a rule before and after x was put in place of a scantling: it asks the same, of x where it is rule k, and of a scantling that is no lower where the one before is not above x
pub record Put (k x : ℕ) (low : Type 0) (before after : Rule) : Type 0 where
  pub number : after.number ≡ before.number
  pub asks : after.asks ≡ before.asks
  pub named : before.number ≡ k → after.has ≡ x
  pub no_lower : low → before.has ≤ after.has

-- so with every rule of a list
abbrev pub AllPut : (k x : ℕ) → Type 0 → List Rule → List Rule → Type 0
AllPut k x low [] [] = Unit {0}
AllPut k x low [] (r ∷ rs) = ⊥
AllPut k x low (r ∷ rs) [] = ⊥
AllPut k x low (r ∷ rs) (s ∷ ss) = Put k x low r s × AllPut k x low rs ss
