-- The rest of a field that is no number, one byte at a time.
use mathlib.Core.Path.{◌≡◌, refl, sym, ap, ◌∙◌}
use mathlib.Core.List.{List, [], ◌∷◌}
use mathlib.Core.Bool.{Bool, true, false, cond, true≢false}
use Prim.Native.Nat.{ℕ, zero, suc, ◌+◌, ◌<◌}
use native.Mathlib.Omega.{arith}
use lib.Dec.{ltb, eqb}
use lib.ListN.{length, drop}
use lib.Seq.{drop-drop}
use Rattle.fields.specs.Number.{digit_of}
use Rattle.fields.specs.Marks.{Marks, seen, seen_at, by, outside, inside}
use Rattle.fields.specs.Field.{field_of}
use Rattle.fields.specs.Rest.{is_closed, plain_turn, closed_turn, quoted_turn, turn_of, marks_in}
use Rattle.fields.specs.declared.Num.{Num}
use Rattle.fields.specs.declared.Place.{Place}
use Rattle.fields.specs.declared.Seen.{Seen}
use Rattle.fields.specs.declared.Mode.{Mode}
use Rattle.fields.specs.declared.Turn.{Turn}
use Rattle.fields.specs.declared.Field.{Field}

two_bad : (t u : Bool) → cond t Num.Bad (cond u Num.Bad Num.Bad) ≡ Num.Bad
two_bad true u = refl
two_bad false true = refl
two_bad false false = refl

-- what is no number stays none
pub stays : (b : ℕ) → digit_of Num.Bad b ≡ Num.Bad
unfolding digit_of
stays b = two_bad (ltb b 48) (ltb 57 b)

-- the field, after a turn
abbrev pub turned : Turn → ℕ → List ℕ → Field
turned (Turn.On m) next l = field_of (marks_in m l next) Num.Bad
turned Turn.End next l = Field.End Num.Bad
turned Turn.Comma next l = Field.Comma Num.Bad next
turned Turn.Line next l = Field.Line Num.Bad next
turned Turn.Fault next l = Field.Fault

by_plain : (k : Seen) (next : ℕ) (s : List ℕ) → turned (plain_turn k) next s ≡ field_of (by k Place.Inside next (outside s next) (inside s next)) Num.Bad
unfolding field_of
by_plain Seen.End next s = refl
by_plain Seen.Comma next s = refl
by_plain Seen.Line next s = refl
by_plain Seen.Skip next s = refl
by_plain Seen.Quote next s = refl
by_plain (Seen.Data b) next s = ap (λ (n : Num). field_of (outside s next Place.Inside) n) (sym (stays b))

by_closed : (k : Seen) (next : ℕ) (s : List ℕ) → turned (closed_turn k) next s ≡ field_of (by k Place.Closed next (outside s next) (inside s next)) Num.Bad
unfolding field_of
by_closed Seen.End next s = refl
by_closed Seen.Comma next s = refl
by_closed Seen.Line next s = refl
by_closed Seen.Skip next s = refl
by_closed Seen.Quote next s = ap (λ (n : Num). field_of (inside s next) n) (sym (stays 34))
by_closed (Seen.Data b) next s = refl

by_quoted : (t : Bool) (b next : ℕ) (s : List ℕ) → turned (cond t (Turn.On Mode.Closed) (Turn.On Mode.Quoted)) next s ≡ field_of (cond t (outside s next Place.Closed) (Marks.byte b (inside s next))) Num.Bad
unfolding field_of
by_quoted true b next s = refl
by_quoted false b next s = ap (λ (n : Num). field_of (inside s next) n) (sym (stays b))

turn_eq : (l : List ℕ) (mode : Mode) (at : ℕ) → turned (turn_of l mode) (at + 1) (drop 1 l) ≡ field_of (marks_in mode l at) Num.Bad
unfolding outside seen_at field_of
turn_eq [] Mode.Plain at = refl
turn_eq [] Mode.Closed at = refl
turn_eq [] Mode.Quoted at = refl
turn_eq (b ∷ s) Mode.Plain at = by_plain (seen b s) (at + 1) s
turn_eq (b ∷ s) Mode.Closed at = by_closed (seen b s) (at + 1) s
turn_eq (b ∷ s) Mode.Quoted at = by_quoted (eqb b 34) b (at + 1) s

pub rest_step : (s : List ℕ) (at : ℕ) (mode : Mode) (t : Turn) → t ≡ turn_of (drop at s) mode → turned t (at + 1) (drop (at + 1) s) ≡ field_of (marks_in mode (drop at s) at) Num.Bad
rest_step s at mode t e =
    ap (λ (x : Turn). turned x (at + 1) (drop (at + 1) s)) e
    ∙ ap (λ (l : List ℕ). turned (turn_of (drop at s) mode) (at + 1) l) (sym (drop-drop 1 at s))
    ∙ turn_eq (drop at s) mode at

abbrev pub stops : Turn → Bool
stops (Turn.On m) = false
stops Turn.End = true
stops Turn.Comma = false
stops Turn.Line = false
stops Turn.Fault = true

at_end : (mode : Mode) → stops (turn_of [] mode) ≡ true
unfolding seen_at
at_end Mode.Plain = refl
at_end Mode.Closed = refl
at_end Mode.Quoted = refl

pub before_end : (s : List ℕ) (at : ℕ) (mode : Mode) (t : Turn) → t ≡ turn_of (drop at s) mode → stops t ≡ false → at < length s
before_end [] zero mode t e f = absurd (true≢false (sym (ap stops e ∙ at_end mode) ∙ f))
before_end [] (suc at) mode t e f = absurd (true≢false (sym (ap stops e ∙ at_end mode) ∙ f))
before_end (b ∷ s) zero mode t e f = omega arith
before_end (b ∷ s) (suc at) mode t e f = let h = before_end s at mode t e f in omega arith

pub quoted_past : (l : List ℕ) → l ≡ [] → quoted_turn l ≡ Turn.Fault
quoted_past l e = ap quoted_turn e

pub closed_is : (p : Place) → true ≡ is_closed p → p ≡ Place.Closed
closed_is Place.Closed e = refl
closed_is Place.Start e = absurd (true≢false e)
closed_is Place.Inside e = absurd (true≢false e)

-- at a place that is not past a quote, a byte goes to the field
pub open_is : (p : Place) (b next : ℕ) (out : Place → Marks) (ins : Marks) → false ≡ is_closed p → by (Seen.Data b) p next out ins ≡ Marks.byte b (out Place.Inside)
open_is Place.Closed b next out ins e = absurd (true≢false (sym e))
open_is Place.Start b next out ins e = refl
open_is Place.Inside b next out ins e = refl
