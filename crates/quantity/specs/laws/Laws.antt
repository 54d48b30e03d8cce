-- What a maker's answer is in each of the three cases, and that no other answer is right.
-- Assumes nothing.
use Rattle.std.specs.Prelude.{ℕ, ◌<◌, ◌≤◌, ◌≡◌, refl, eqb, Option, Some, None}
use Rattle.std.proofs.Common.{sym, ap, ◌∙◌, arith, le-leb, eq-eqb, ne_eqb}
use Rattle.std.proofs.Math.Decide.{dec_le}
use Rattle.std.proofs.lemmas.Bool.{lt-leb}
use Rattle.quantity.specs.Range.{Range, from, within, span, spacing, thickness, modulus, shear_area, pressure, line_load, steel_factor}
use Rattle.quantity.specs.Made.{Held, held, refused, Makes, told, held_below}
use Rattle.quantity.specs.declared.Span.{Span}
use Rattle.quantity.specs.declared.Spacing.{Spacing}
use Rattle.quantity.specs.declared.Thickness.{Thickness}
use Rattle.quantity.specs.declared.Modulus.{Modulus}
use Rattle.quantity.specs.declared.ShearArea.{ShearArea}
use Rattle.quantity.specs.declared.Pressure.{Pressure}
use Rattle.quantity.specs.declared.LineLoad.{LineLoad}
use Rattle.quantity.specs.declared.SteelFactor.{SteelFactor}

module _ (r : Range) (x : ℕ) where
  pub below : x < r.low → Makes r r.low r.high x refused
  below l = record { lowest = refl; highest = refl; answered = simp (lt-leb _ _ l) }

  pub above : r.low ≤ x → r.high < x → Makes r r.low r.high x refused
  above l h = record { lowest = refl; highest = refl; answered = simp (le-leb _ _ l, lt-leb _ _ h) }

  pub inside : r.low ≤ x → x ≤ r.high → Makes r r.low r.high x (held x)
  inside l h = record { lowest = refl; highest = refl; answered = simp (le-leb _ _ l, le-leb _ _ h) }

-- two answers of a maker are equal, where a value is what its number makes
module _ {A : Type 0} (number : A → ℕ) (of : ℕ → A) (of_number : (a : A) → of (number a) ≡ a) where
  abbrev back : Held → Option A
  back (held x) = Some (of x)
  back refused = None

  again : (a : Option A) → back (told number a) ≡ a
  again (Some a) = ap Some (of_number a)
  again None = refl

  pub only : (r : Range) (low high x : ℕ) (a b : Option A) → Makes r low high x (told number a) → Makes r low high x (told number b) → a ≡ b
  only r low high x a b p q = sym (again a) ∙ ap back (p.answered ∙ sym q.answered) ∙ again b

pub span_only : (low high x : ℕ) (a b : Option Span) → Makes span low high x (told (λ q. q.0) a) → Makes span low high x (told (λ q. q.0) b) → a ≡ b
span_only = only (λ q. q.0) (λ x. record { 0 = x }) (λ q. refl) span

pub spacing_only : (low high x : ℕ) (a b : Option Spacing) → Makes spacing low high x (told (λ q. q.0) a) → Makes spacing low high x (told (λ q. q.0) b) → a ≡ b
spacing_only = only (λ q. q.0) (λ x. record { 0 = x }) (λ q. refl) spacing

pub thickness_only : (low high x : ℕ) (a b : Option Thickness) → Makes thickness low high x (told (λ q. q.0) a) → Makes thickness low high x (told (λ q. q.0) b) → a ≡ b
thickness_only = only (λ q. q.0) (λ x. record { 0 = x }) (λ q. refl) thickness

pub modulus_only : (low high x : ℕ) (a b : Option Modulus) → Makes modulus low high x (told (λ q. q.0) a) → Makes modulus low high x (told (λ q. q.0) b) → a ≡ b
modulus_only = only (λ q. q.0) (λ x. record { 0 = x }) (λ q. refl) modulus

pub shear_area_only : (low high x : ℕ) (a b : Option ShearArea) → Makes shear_area low high x (told (λ q. q.0) a) → Makes shear_area low high x (told (λ q. q.0) b) → a ≡ b
shear_area_only = only (λ q. q.0) (λ x. record { 0 = x }) (λ q. refl) shear_area

pub pressure_only : (low high x : ℕ) (a b : Option Pressure) → Makes pressure low high x (told (λ q. q.0) a) → Makes pressure low high x (told (λ q. q.0) b) → a ≡ b
pressure_only = only (λ q. q.0) (λ x. record { 0 = x }) (λ q. refl) pressure

pub line_load_only : (low high x : ℕ) (a b : Option LineLoad) → Makes line_load low high x (told (λ q. q.0) a) → Makes line_load low high x (told (λ q. q.0) b) → a ≡ b
line_load_only = only (λ q. q.0) (λ x. record { 0 = x }) (λ q. refl) line_load

pub steel_factor_only : (low high x : ℕ) (a b : Option SteelFactor) → Makes steel_factor low high x (told (λ q. q.0) a) → Makes steel_factor low high x (told (λ q. q.0) b) → a ≡ b
steel_factor_only = only (λ q. q.0) (λ x. record { 0 = x }) (λ q. refl) steel_factor

-- and so are two values that hold a number
pub hold_only : {A : Type 0} (top x : ℕ) (of : ℕ → A) (a b : A) → a ≡ of (held_below top x) → b ≡ of (held_below top x) → a ≡ b
hold_only top x of a b p q = p ∙ sym q

-- a range of one value
pub one_value : (a x : ℕ) → within (from a a) x ≡ eqb x a
one_value a x = go (dec_le a x) (dec_le x a)
  where
    go : Dec (a ≤ x) → Dec (x ≤ a) → within (from a a) x ≡ eqb x a
    go (yes h) (yes k) = rw (le-leb a x h, le-leb x a k, eq-eqb x a (omega arith))
    go (yes h) (no k) = rw (le-leb a x h, lt-leb x a (omega arith), ne_eqb x a (λ e. k (omega arith)))
    go (no h) k = rw (lt-leb a x (omega arith), ne_eqb x a (λ e. h (omega arith)))
