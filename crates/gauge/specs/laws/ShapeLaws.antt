-- The laws of shapes: every shape is monotone, and how an inequality becomes a shape.
-- Assumes nothing.
use Rattle.std.specs.Prelude.{ℕ, ◌-◌, ◌*◌, ◌/◌, ◌≤◌, ◌<◌, Bool, true, false, ◌&&◌, cond, ◌≡◌, refl, leb}
use Rattle.std.proofs.Common.{ap, sym, ◌∙◌, arith, mul-le-mul, mul-le-mul_left, div-lt_iff_lt-mul, mul_comm, one-mul, le-leb, leb-true}
use Rattle.std.proofs.Math.Nat.{sub-zero}
use Rattle.std.proofs.Math.Dec.{leb-zero}
use Rattle.std.proofs.lemmas.Bool.{lt-leb}
use Rattle.truth.specs.laws.Tests.{both}
use Rattle.gauge.specs.declared.Shape.{Shape}
use Rattle.gauge.specs.declared.Shape.TheVariants.{Never, Floor, Square}
use Rattle.gauge.specs.Least.{least_in, Monotone}
use Rattle.gauge.specs.laws.LeastLaws.{least_same}
use Rattle.gauge.specs.Ceil.{ceil_of}
use Rattle.gauge.specs.laws.CeilLaws.{ceil_le}
use Rattle.gauge.specs.Shape.{meets_of, least_of, Says}

-- every larger number meets a shape too
pub monotone : (d : Shape) → Monotone (meets_of d)
monotone Never x y l e = e
monotone (Floor n) x y l e = le-leb n y (omega (arith, leb-true n x e))
monotone (Square step short n) x y l e =
    let h = both _ _ e in
    let m = mul-le-mul_left step l in
    let s = leb-true short (step * x) h.0 in
    let q = leb-true n _ h.1 in
    let w : step * x - short ≤ step * y - short = omega arith in
    let v = mul-le-mul w w in
    let a : short ≤ step * y = omega arith in
    let b : n ≤ (step * y - short) * (step * y - short) = omega arith in
    rw (le-leb _ _ a, le-leb _ _ b)

-- what a shape says, any that is equal to it says
pub said : {c d : Shape} {top : ℕ} {test : ℕ → Bool} → c ≡ d → Says d top test → Says c top test
said e s x m n = ap (λ (d : Shape). meets_of d x) e ∙ s x m n

-- of two shapes the one that a question takes, and of two tests
pub either_says : (b : Bool) (c d : Shape) (f g : ℕ → Bool) (top : ℕ) → (b ≡ true → Says c top f) → (b ≡ false → Says d top g)
    → Says (cond b c d) top (λ (x : ℕ). cond b (f x) (g x))
either_says true c d f g top p q = p refl
either_says false c d f g top p q = q refl

-- the least number that meets a shape is the least that passes the test which it says
pub least_said : (d : Shape) (top : ℕ) (test : ℕ → Bool) → Says d top test → least_of d top ≡ least_in test top
least_said d top test h = least_same (meets_of d) test top h

-- a shape that every number meets
pub always : (test : ℕ → ℕ) (n top : ℕ) → n ≡ 0 → Says (Floor 0) top (λ (x : ℕ). leb n (test x))
always test n top e x m l = simp (e, leb-zero)

-- a square with nothing taken off
pub plain : (n x : ℕ) → meets_of (Square 1 0 n) x ≡ leb n (x * x)
plain n x = simp (one-mul, sub-zero, leb-zero)

-- a·x² ≥ b·c, where b·c is past a·top²: no number of the gauge will do
pub over_never : (a b c top : ℕ) → 0 < b → a * (top * top) / b < c → Says Never top (λ (x : ℕ). leb (b * c) (a * (x * x)))
over_never a b c top h l x m n =
    sym (lt-leb (b * c) (a * (x * x)) (omega (arith, (div-lt_iff_lt-mul h).0 l, mul_comm b c, mul-le-mul_left a (mul-le-mul n n))))

-- and else the square is at least the quotient, rounded up
pub over_square : (a p x : ℕ) → 0 < a → meets_of (Square 1 0 (ceil_of p a)) x ≡ leb p (a * (x * x))
over_square a p x h = plain (ceil_of p a) x ∙ ceil_le p a (x * x) h

-- a·x ≥ p: a floor at the quotient, rounded up
pub over_floor : (a p x : ℕ) → 0 < a → meets_of (Floor (ceil_of p a)) x ≡ leb p (a * x)
over_floor a p x h = ceil_le p a x h

-- a·X² ≥ p for X = step·x − short ≥ 0
pub excess : (step short p a x : ℕ) → 0 < a →
    meets_of (Square step short (ceil_of p a)) x ≡ (leb short (step * x) && leb p (a * ((step * x - short) * (step * x - short))))
excess step short p a x h = ap (◌&&◌ (leb short (step * x))) (ceil_le p a _ h)
