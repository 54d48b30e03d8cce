-- Every larger scantling meets a rule too.
-- Assumes nothing.
use Rattle.std.specs.Prelude.{ℕ, ◌*◌, ◌<◌, Bool, List, ◌≡◌, refl, leb}
use Rattle.std.proofs.Common.{sym, ◌∙◌, lit<}
use Rattle.gauge.specs.Ceil.{ceil_of}
use Rattle.gauge.specs.Least.{Monotone}
use Rattle.gauge.specs.laws.Monotone.{either}
use Rattle.gauge.specs.Shape.{meets_of}
use Rattle.gauge.specs.laws.ShapeLaws.{monotone, over_floor, excess}
use Rattle.gauge.specs.declared.Shape.{Shape}
use Rattle.gauge.specs.declared.Shape.TheVariants.{Floor, Square}
use Rattle.loads.specs.Sources.{Named, deciding}
use Rattle.truth.specs.laws.Tests.{either_both}
use Rattle.sheet.specs.Kinds.{is_floor, is_deep}
use Rattle.sheet.specs.declared.Header.{Header}
use Rattle.sheet.specs.declared.Member.{Member}
use Rattle.framing.specs.Rules.{rule4, rule5, rule6, is_short, squared, stressed, by_kind, member_pressure, member_named}
use Rattle.framing.specs.Shapes.{stressed_shape}
use Rattle.framing.specs.laws.ShapeLaws.{stressed_said}

-- a test that says what a shape does is monotone
as_shape : (d : Shape) (test : ℕ → Bool) → ((x : ℕ) → meets_of d x ≡ test x) → Monotone test
as_shape d test h x y l e = sym (h y) ∙ monotone d x y l (h x ∙ e)

by_kind_lem : (kind : ℕ) (f g h : ℕ → Bool) → Monotone f → Monotone g → Monotone h → Monotone (λ (x : ℕ). by_kind kind (f x) (g x) (h x))
by_kind_lem kind f g h p q r = either (is_deep kind) _ _ (either (is_floor kind) _ _ q r) p

squared_monotone : (a step short p : ℕ) → 0 < a → Monotone (λ (x : ℕ). squared a (step * x) short p)
squared_monotone a step short p h = as_shape (Square step short (ceil_of p a)) _ (λ x. excess step short p a x h)

floor_monotone : (a p : ℕ) → 0 < a → Monotone (λ (x : ℕ). leb p (a * x))
floor_monotone a p h = as_shape (Floor (ceil_of p a)) _ (λ x. over_floor a p x h)

stressed_monotone : (a limit σ1 p : ℕ) → 0 < a → Monotone (λ (x : ℕ). stressed a limit σ1 x p)
stressed_monotone a limit σ1 p h = as_shape (stressed_shape a limit σ1 p) _ (λ x. stressed_said a limit σ1 p x h)

pub rule4_monotone : (kind L K S : ℕ) → Monotone (rule4 kind L K S)
unfolding rule4
rule4_monotone kind L K S =
    either (is_deep kind) _ _ (squared_monotone _ _ _ _ (lit< tt))
    (either (is_short L) _ _ (squared_monotone _ _ _ _ (lit< tt)) (squared_monotone _ _ _ _ (lit< tt)))

pub rule5_monotone : (kind βb η σ1 q l : ℕ) → Monotone (rule5 kind βb η σ1 q l)
unfolding rule5
rule5_monotone kind βb η σ1 q l =
    by_kind_lem kind _ _ _ (stressed_monotone _ _ σ1 _ (lit< tt)) (floor_monotone _ _ (lit< tt)) (stressed_monotone _ _ σ1 _ (lit< tt))

pub rule6_monotone : (kind βs η q l : ℕ) → Monotone (rule6 kind βs η q l)
unfolding rule6
rule6_monotone kind βs η q l =
    by_kind_lem kind _ _ _ (floor_monotone _ _ (lit< tt)) (floor_monotone _ _ (lit< tt)) (floor_monotone _ _ (lit< tt))

-- the pressure that names its source is the one that q is worked out of
pub member_pressure_lem : (h : Header) (kind : ℕ) (m : Member) → (member_named h kind m).pressure ≡ member_pressure h kind m
member_pressure_lem h kind m = either_both (λ (ls : List Named) (P : ℕ). (deciding ls).pressure ≡ P) (is_deep kind) _ _ _ _ refl refl
