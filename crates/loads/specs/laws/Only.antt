-- Two answers that meet a promise of this crate are equal.
-- Assumes nothing.
use Rattle.std.specs.Prelude.{ℕ, Bool, cond, eqb, ◌≡◌, refl}
use Rattle.std.proofs.Common.{sym, ap, ap₂, ◌∙◌}
use Rattle.loads.specs.declared.Source.{Source}
use Rattle.loads.specs.declared.Source.TheVariants.{SeaBelow, SeaAbove, Ballast, Cargo}
use Rattle.loads.specs.declared.Load.{Load}
use Rattle.loads.specs.declared.Line.{Line}
use Rattle.loads.specs.Loads.{wind}
use Rattle.loads.specs.Sources.{number_of, Named, NamedLine, told_load, told_line, line_named, sea_named, bottom_named, inner_named, deep_named}

-- the source of a number
source_at : ℕ → Source
source_at n = cond (eqb n 0) SeaBelow (cond (eqb n 1) SeaAbove (cond (eqb n 2) Ballast Cargo))

source_back : (s : Source) → source_at (number_of s) ≡ s
unfolding source_at
source_back SeaBelow = refl
source_back SeaAbove = refl
source_back Ballast = refl
source_back Cargo = refl

-- two sources of one number
pub source_only : (a b : Source) → number_of a ≡ number_of b → a ≡ b
source_only a b e = sym (source_back a) ∙ ap source_at e ∙ source_back b

pub number_only : (s : Source) (a b : ℕ) → a ≡ number_of s → b ≡ number_of s → a ≡ b
number_only s a b p q = p ∙ sym q

-- two loads that say the same
pub load_only : (n : Named) (a b : Load) → told_load a ≡ n → told_load b ≡ n → a ≡ b
load_only n a b p q =
    let same = p ∙ sym q in
    let pressure : a.pressure ≡ b.pressure = ap (λ (x : ℕ). record { 0 = x }) (ap (λ (m : Named). m.pressure) same) in
    let source = source_only a.source b.source (ap (λ (m : Named). m.source) same) in
    ap₂ {C = Load} (λ k s. record { pressure = k; source = s }) pressure source

pub sea_only : (D0 H z : ℕ) (a b : Load) → told_load a ≡ sea_named D0 H z → told_load b ≡ sea_named D0 H z → a ≡ b
sea_only D0 H z = load_only (sea_named D0 H z)

pub bottom_only : (D0 H z : ℕ) (is_ballast : Bool) (zL : ℕ) (a b : Load) →
    told_load a ≡ bottom_named D0 H z is_ballast zL → told_load b ≡ bottom_named D0 H z is_ballast zL → a ≡ b
bottom_only D0 H z is_ballast zL = load_only (bottom_named D0 H z is_ballast zL)

pub inner_only : (cargo z : ℕ) (is_ballast : Bool) (zL : ℕ) (a b : Load) →
    told_load a ≡ inner_named cargo z is_ballast zL → told_load b ≡ inner_named cargo z is_ballast zL → a ≡ b
inner_only cargo z is_ballast zL = load_only (inner_named cargo z is_ballast zL)

pub deep_only : (D0 H : ℕ) (two_runs : Bool) (a b : Load) → told_load a ≡ deep_named D0 H two_runs → told_load b ≡ deep_named D0 H two_runs → a ≡ b
deep_only D0 H two_runs = load_only (deep_named D0 H two_runs)

pub wind_only : (H a b : ℕ) → a ≡ wind H → b ≡ wind H → a ≡ b
wind_only H a b p q = p ∙ sym q

pub line_load_only : (n : Named) (S : ℕ) (a b : Line) → told_line a ≡ line_named n S → told_line b ≡ line_named n S → a ≡ b
line_load_only n S a b p q =
    let same = p ∙ sym q in
    let load : a.load ≡ b.load = ap (λ (x : ℕ). record { 0 = x }) (ap (λ (m : NamedLine). m.load) same) in
    let source = source_only a.source b.source (ap (λ (m : NamedLine). m.source) same) in
    ap₂ {C = Line} (λ k s. record { load = k; source = s }) load source
