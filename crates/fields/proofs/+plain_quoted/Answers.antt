use Rattle.std.proofs.Common.{ℕ, ◌+◌, ◌<◌, ◌≡◌, List, length, get_or, drop, false, refl, sym, ap, ◌∙◌, arith, ltb-false}
use Rattle.fields.specs.Number.{digit_of}
use Rattle.fields.specs.Marks.{Marks, seen_at, outside, inside}
use Rattle.fields.specs.Field.{field_of}
use Rattle.fields.specs.Rest.{is_closed}
use Rattle.fields.specs.declared.Num.{Num}
use Rattle.fields.specs.declared.Num.TheVariants.{Bad}
use Rattle.fields.specs.declared.Seen.TheVariants.{End, Comma, Line, Skip, Quote, Data}
use Rattle.fields.specs.declared.Place.{Place}
use Rattle.fields.specs.declared.Place.TheVariants.{Start, Inside, Closed}
use Rattle.fields.proofs.RestLaws.{closed_is, open_is}
use Rattle.fields.proofs.Laws.{before_end, told, told_quote, told_byte, told_unclosed}
use Rattle.fields.proofs.+plain_quoted.Goals as goal

-- a byte of a plain field: the field goes on with it
to_byte : (s : List ℕ) (at : ℕ) (place : Place) (num : Num) (b : ℕ) (x : Num) → Data b ≡ seen_at (drop at s) → false ≡ is_closed place → x ≡ digit_of num b
    → field_of (outside (drop (at + 1) s) (at + 1) Inside) x ≡ field_of (outside (drop at s) at place) num
unfolding field_of
to_byte s at place num b x e f g =
    ap (λ (n : Num). field_of (outside (drop (at + 1) s) (at + 1) Inside) n) g
    ∙ ap (λ (m : Marks). field_of m num) (sym (open_is place b (at + 1) (outside (drop (at + 1) s) (at + 1)) (inside (drop (at + 1) s) (at + 1)) f))
    ∙ told s at place num (Data b) place e refl

-- a byte inside quotes
to_quoted : (s : List ℕ) (at b : ℕ) (num x : Num) → at < length s → b ≡ get_or s at 0 → (b ≡ 34 → ⊥) → x ≡ digit_of num b
    → field_of (inside (drop (at + 1) s) (at + 1)) x ≡ field_of (inside (drop at s) at) num
to_quoted s at b num x l e f g =
    ap (λ (n : Num). field_of (inside (drop (at + 1) s) (at + 1)) n) (g ∙ ap (digit_of num) e) ∙ sym (told_byte s at num l (λ q. f (e ∙ q)))

pub plain-overflow_add-result : goal.plain-overflow_add-result
plain-overflow_add-result t c = omega (arith, before_end c.args.text.now c.args.at Comma (sym c.in-Comma.is ∙ c.look.ensures) refl)

pub plain-overflow_add-result-in-Line : goal.plain-overflow_add-result-in-Line
plain-overflow_add-result-in-Line t c = omega (arith, before_end c.args.text.now c.args.at Line (sym c.in-Line.is ∙ c.look.ensures) refl)

pub plain-overflow_add-at : goal.plain-overflow_add-at
plain-overflow_add-at t c = omega (arith, before_end c.args.text.now c.args.at Skip (sym c.in-Skip.is ∙ c.look.ensures) refl)

pub plain-plain-requires : goal.plain-plain-requires
plain-plain-requires t c = (omega (arith, before_end c.args.text.now c.args.at Skip (sym c.in-Skip.is ∙ c.look.ensures) refl, c.decreases), tt)

pub plain-overflow_add-at-in-Start : goal.plain-overflow_add-at-in-Start
plain-overflow_add-at-in-Start t c = omega (arith, before_end c.args.text.now c.args.at Quote (sym c.in-Quote.is ∙ c.look.ensures) refl)

pub plain-quoted-requires : goal.plain-quoted-requires
plain-quoted-requires t c = (omega (arith, before_end c.args.text.now c.args.at Quote (sym c.in-Quote.is ∙ c.look.ensures) refl, c.decreases), tt)

pub plain-overflow_add-at-in-Closed : goal.plain-overflow_add-at-in-Closed
plain-overflow_add-at-in-Closed t c = omega (arith, before_end c.args.text.now c.args.at Quote (sym c.in-Quote.is ∙ c.look.ensures) refl)

pub plain-returns-then-is_closed : goal.plain-returns-then-is_closed
unfolding field_of
plain-returns-then-is_closed t c =
    told c.args.text.now c.args.at c.args.place c.args.num (Data _) Closed (sym c.in-Data.is ∙ c.look.ensures) (closed_is _ (sym c.if-is_closed.true ∙ c.is_closed.ensures))

pub plain-overflow_add-at-in-Bad : goal.plain-overflow_add-at-in-Bad
plain-overflow_add-at-in-Bad t c = omega (arith, before_end c.args.text.now c.args.at (Data _) (sym c.in-Data.is ∙ c.look.ensures) refl)

pub plain-overflow_add-at-in_default : goal.plain-overflow_add-at-in_default
plain-overflow_add-at-in_default t c = omega (arith, before_end c.args.text.now c.args.at (Data _) (sym c.in-Data.is ∙ c.look.ensures) refl)

pub plain-plain-requires-in_default : goal.plain-plain-requires-in_default
plain-plain-requires-in_default t c = (omega (arith, before_end c.args.text.now c.args.at (Data _) (sym c.in-Data.is ∙ c.look.ensures) refl, c.decreases), tt)

pub plain-returns-in-End : goal.plain-returns-in-End
unfolding field_of
plain-returns-in-End t c = told c.args.text.now c.args.at c.args.place c.args.num End _ (sym c.in-End.is ∙ c.look.ensures) refl

pub plain-returns-in-Comma : goal.plain-returns-in-Comma
unfolding field_of
plain-returns-in-Comma t c = told c.args.text.now c.args.at c.args.place c.args.num Comma _ (sym c.in-Comma.is ∙ c.look.ensures) refl

pub plain-returns-in-Line : goal.plain-returns-in-Line
unfolding field_of
plain-returns-in-Line t c = told c.args.text.now c.args.at c.args.place c.args.num Line _ (sym c.in-Line.is ∙ c.look.ensures) refl

pub plain-returns-in-Skip : goal.plain-returns-in-Skip
plain-returns-in-Skip t c = c.plain.ensures ∙ told c.args.text.now c.args.at c.args.place c.args.num Skip _ (sym c.in-Skip.is ∙ c.look.ensures) refl

pub plain-returns-in-Start : goal.plain-returns-in-Start
plain-returns-in-Start t c = c.quoted.ensures ∙ told c.args.text.now c.args.at c.args.place c.args.num Quote Start (sym c.in-Quote.is ∙ c.look.ensures) c.in-Start.is

pub plain-returns-in-Inside : goal.plain-returns-in-Inside
unfolding field_of
plain-returns-in-Inside t c = told c.args.text.now c.args.at c.args.place c.args.num Quote Inside (sym c.in-Quote.is ∙ c.look.ensures) c.in-Inside.is

pub plain-returns-in-Closed : goal.plain-returns-in-Closed
unfolding field_of digit_of
plain-returns-in-Closed t c = c.rest.ensures ∙ told c.args.text.now c.args.at c.args.place c.args.num Quote Closed (sym c.in-Quote.is ∙ c.look.ensures) c.in-Closed.is

pub plain-returns-in-Bad : goal.plain-returns-in-Bad
plain-returns-in-Bad t c =
    c.rest-in-Bad.ensures
    ∙ to_byte c.args.text.now c.args.at c.args.place c.args.num c.in-Data.b Bad (sym c.in-Data.is ∙ c.look.ensures) (sym c.if-is_closed.false ∙ c.is_closed.ensures)
    (sym c.in-Bad.is ∙ c.digit.ensures)

pub plain-returns-in_default : goal.plain-returns-in_default
plain-returns-in_default t c =
    c.plain-in_default.ensures
    ∙ to_byte c.args.text.now c.args.at c.args.place c.args.num c.in-Data.b _ (sym c.in-Data.is ∙ c.look.ensures) (sym c.if-is_closed.false ∙ c.is_closed.ensures) c.digit.ensures

pub quoted-returns-in-None : goal.quoted-returns-in-None
quoted-returns-in-None t c =
    sym (told_unclosed _ _ _ (ltb-false _ _ (sym c.in-None.ensures.lookup.0)))

pub quoted-returns-in-Some-eq34 : goal.quoted-returns-in-Some-eq34
quoted-returns-in-Some-eq34 t c =
    let there = c.in-Some-eq34.ensures.lookup.3 in
    c.plain.ensures ∙ sym (told_quote _ _ _ there.0 (sym (there.1 0) ∙ c.in-Some-eq34.field-0-test))

pub quoted-returns-in-Bad : goal.quoted-returns-in-Bad
quoted-returns-in-Bad t c =
    let there = c.in-Some.ensures.lookup.3 in
    c.rest.ensures ∙ to_quoted c.args.text.now c.args.at _ c.args.num Bad there.0 (there.1 0) c.in-Some.field-0-test.1 (sym c.in-Bad.is ∙ c.digit.ensures)

pub quoted-returns-in_default : goal.quoted-returns-in_default
quoted-returns-in_default t c =
    let there = c.in-Some.ensures.lookup.3 in
    c.quoted.ensures ∙ to_quoted c.args.text.now c.args.at _ c.args.num _ there.0 (there.1 0) c.in-Some.field-0-test.1 c.digit.ensures
