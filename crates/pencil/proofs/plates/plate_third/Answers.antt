-- `pencil::plates::plate_third` meets its contract.
use Prim.Native.Nat.{ℕ, ◌/◌, ◌%◌}
use mathlib.Core.Bool.{Bool}
use mathlib.Core.Path.{◌≡◌, ap, ap₂, ◌∙◌}
use mathlib.Core.List.{List, [], ◌∷◌}
use Rattle.gauge.specs.declared.Shape.{Shape}
use Rattle.quantity.specs.Range.{thickness}
use Rattle.pencil.specs.declared.Section.{Section}
use Rattle.pencil.specs.Numbers.{product}
use Rattle.pencil.specs.Trail.{Tells, ruled, bending_lines, FormParts, form_of, plate_third}
use Rattle.pencil.proofs.plates.plate_third.Goals as goal

-- a section part by part
ruled_same : (d : Shape) (top has : ℕ) {front front₂ more more₂ : List ℕ} {last last₂ p p₂ a a₂ : ℕ} {s : Section}
    → front ≡ front₂ → last ≡ last₂ → p ≡ p₂ → a ≡ a₂ → more ≡ more₂
    → Tells (ruled front 68 0 last p a 0 d top has more) s → Tells (ruled front₂ 68 0 last₂ p₂ a₂ 0 d top has more₂) s
ruled_same d top has q1 q2 q3 q4 q5 t = rw (q1, q2, q3, q4, q5) at t

seven : {a b c d e f g a₂ b₂ c₂ d₂ e₂ f₂ g₂ : ℕ} → a ≡ a₂ → b ≡ b₂ → c ≡ c₂ → d ≡ d₂ → e ≡ e₂ → f ≡ f₂ → g ≡ g₂
    → ◌≡◌ {A = List ℕ} (a ∷ b ∷ c ∷ d ∷ e ∷ f ∷ g ∷ []) (a₂ ∷ b₂ ∷ c₂ ∷ d₂ ∷ e₂ ∷ f₂ ∷ g₂ ∷ [])
seven q1 q2 q3 q4 q5 q6 q7 = rw (q1, q2, q3, q4, q5, q6, q7)

limit_whole : {t a a₂ z z₂ : ℕ} → t ≡ product a 16000000 → a ≡ a₂ → z ≡ z₂ → t / z ≡ product a₂ 16000000 / z₂
limit_whole p q r = rw (p, q, r)

limit_left : {t a a₂ z z₂ : ℕ} → t ≡ product a 16000000 → a ≡ a₂ → z ≡ z₂ → t % z ≡ product a₂ 16000000 % z₂
limit_left p q r = rw (p, q, r)

-- src/plates.rt:159:1
pub returns : goal.returns
unfolding plate_third
returns c =
    let f = c.form_of-form.ensures in
    let l = c.divide-limit.ensures in
    let s = c.divide-side.ensures in
    let r = c.divide-ratio.ensures in
    let a = c.args in
    let long = c.is_long.ensures in
    let form : Bool → FormParts = λ x. form_of x a.w.is_second a.p.spacing.0 a.p.factor.0 a.w.k2 a.w.stress in
    let fa = f.a ∙ ap (λ (x : Bool). (form x).a) long in
    let fp = f.panel ∙ ap (λ (x : Bool). (form x).panel) long in
    ruled_same a.w.third thickness.high a.p.thickness.0
    (c.bending_lines-front.ensures ∙ ap₂ (λ (x : ℕ) (y : Bool). bending_lines a.kind a.h.version x a.w.is_second y) s.whole c.is_never-never.ensures)
    c.verdict_line.ensures
    (f.p ∙ ap (λ (x : Bool). (form x).p) long)
    fa
    (seven r.whole r.left s.whole s.left c.times-fork.ensures (l.whole ∙ limit_whole c.times.ensures fa fp) (l.left ∙ limit_left c.times.ensures fa fp))
    c.ruled.ensures
