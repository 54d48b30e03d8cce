-- The load that decides does decide, and no other one does; its pressure is the one that the document gives.
-- Assumes nothing.
use Rattle.std.specs.Prelude.{ℕ, ◌≤◌, ◌<◌, max, ◌≡◌, refl, Bool, true, false, List, [], ◌∷◌, leb, ltb}
use Rattle.std.proofs.Common.{sym, ap, ap₂, ◌∙◌, arith, lit≤, lt-ltb, le-ltb}
use Rattle.std.proofs.Math.Decide.{dec_lt}
use Rattle.std.proofs.Math.Nat.{max-le}
use Rattle.truth.specs.laws.Tests.{either_of}
use Rattle.loads.specs.declared.Source.TheVariants.{Cargo}
use Rattle.loads.specs.Loads.{bottom_pressure, inner_pressure}
use Rattle.loads.specs.Sources.{number_of, Named, sea_named, tank_named, cargo_named, heavier, deciding, bottom_named, inner_named, Among, first, later, Decides}

-- ---- of two

-- what holds of both holds of the heavier
heavier_either : (P : Named → Type 0) (a b : Named) → P a → P b → P (heavier a b)
heavier_either P a b p q =
    either_of P (ltb a.pressure b.pressure) _ _ q (either_of P (ltb b.pressure a.pressure) _ _ p (either_of P (ltb a.source b.source) _ _ p q))

-- one that is no less than two, and has no higher number than one that is as great
decides_two : (d a b : Named) → Among d (a ∷ b ∷ []) → (a.pressure ≤ d.pressure) × (b.pressure ≤ d.pressure)
    → (a.pressure ≡ d.pressure → d.source ≤ a.source) × (b.pressure ≡ d.pressure → d.source ≤ b.source) → Decides d (a ∷ b ∷ [])
decides_two d a b m g n = record { one_of_them = m; none_greater = greater; lowest_number = lowest }
  where
    greater : (l : Named) → Among l (a ∷ b ∷ []) → l.pressure ≤ d.pressure
    greater l (first e) = omega (arith, ap (λ (k : Named). k.pressure) e, g.0)
    greater l (later (first e)) = omega (arith, ap (λ (k : Named). k.pressure) e, g.1)
    greater l (later (later x6)) = elim x6 [ ]

    lowest : (l : Named) → Among l (a ∷ b ∷ []) → l.pressure ≡ d.pressure → d.source ≤ l.source
    lowest l (first e) p = omega (arith, ap (λ (k : Named). k.source) e, n.0 (sym (ap (λ (k : Named). k.pressure) e) ∙ p))
    lowest l (later (first e)) p = omega (arith, ap (λ (k : Named). k.source) e, n.1 (sym (ap (λ (k : Named). k.pressure) e) ∙ p))
    lowest l (later (later x7)) p = elim x7 [ ]

heavier_decides : (a b : Named) → Decides (heavier a b) (a ∷ b ∷ [])
heavier_decides a b = go (dec_lt a.pressure b.pressure) (dec_lt b.pressure a.pressure) (dec_lt a.source b.source)
  where
    go : Dec (a.pressure < b.pressure) → Dec (b.pressure < a.pressure) → Dec (a.source < b.source) → Decides (heavier a b) (a ∷ b ∷ [])
    go (yes l) y z = rw (lt-ltb _ _ l) (decides_two b a b (later (first refl)) (omega arith, omega arith) (λ e. absurd (omega arith), λ e. omega arith))
    go (no n) (yes l) z =
        let m : b.pressure ≤ a.pressure = omega arith in
        rw (le-ltb _ _ m, lt-ltb _ _ l) (decides_two a a b (first refl) (omega arith, m) (λ e. omega arith, λ e. absurd (omega arith)))
    go (no n) (no k) (yes l) =
        let m : b.pressure ≤ a.pressure = omega arith in
        let w : a.pressure ≤ b.pressure = omega arith in
        rw (le-ltb _ _ m, le-ltb _ _ w, lt-ltb _ _ l) (decides_two a a b (first refl) (omega arith, m) (λ e. omega arith, λ e. omega arith))
    go (no n) (no k) (no j) =
        let m : b.pressure ≤ a.pressure = omega arith in
        let w : a.pressure ≤ b.pressure = omega arith in
        let s : b.source ≤ a.source = omega arith in
        rw (le-ltb _ _ m, le-ltb _ _ w, le-ltb _ _ s) (decides_two b a b (later (first refl)) (w, omega arith) (λ e. s, λ e. omega arith))

-- its pressure is the greater one
heavier_pressure : (a b : Named) → (heavier a b).pressure ≡ max a.pressure b.pressure
heavier_pressure a b = go (heavier_decides a b).one_of_them
  where
    least : max a.pressure b.pressure ≤ (heavier a b).pressure
    least = max-le ((heavier_decides a b).none_greater a (first refl)) ((heavier_decides a b).none_greater b (later (first refl)))

    go : Among (heavier a b) (a ∷ b ∷ []) → (heavier a b).pressure ≡ max a.pressure b.pressure
    go (first e) = omega (arith, ap (λ (k : Named). k.pressure) e, least)
    go (later (first e)) = omega (arith, ap (λ (k : Named). k.pressure) e, least)
    go (later (later x6)) = elim x6 [ ]

-- ---- of several

-- h decides among two, and d among h and others: then d among all of them
module _ (d h a b : Named) (bs : List Named) (two : Decides h (a ∷ b ∷ [])) (rest : Decides d (h ∷ bs)) where
  among_two : Among h (a ∷ b ∷ []) → d ≡ h → Among d (a ∷ b ∷ bs)
  among_two (first e) f = first (f ∙ e)
  among_two (later (first e)) f = later (first (f ∙ e))
  among_two (later (later x7)) f = elim x7 [ ]

  among_all : Among d (h ∷ bs) → Among d (a ∷ b ∷ bs)
  among_all (first e) = among_two two.one_of_them e
  among_all (later m) = later (later m)

  -- what h is over, d is over
  through : (l : Named) → Among l (a ∷ b ∷ []) → (l.pressure ≤ d.pressure) × (l.pressure ≡ d.pressure → d.source ≤ l.source)
  through l m =
      let under = two.none_greater l m in
      let over = rest.none_greater h (first refl) in
      (omega arith, λ e. let s : h.pressure ≡ d.pressure = omega arith in omega (arith, rest.lowest_number h (first refl) s, two.lowest_number l m (omega arith)))

  over : (l : Named) → Among l (a ∷ b ∷ bs) → (l.pressure ≤ d.pressure) × (l.pressure ≡ d.pressure → d.source ≤ l.source)
  over l (first e) = through l (first e)
  over l (later (first e)) = through l (later (first e))
  over l (later (later m)) = (rest.none_greater l (later m), rest.lowest_number l (later m))

  decides_all : Decides d (a ∷ b ∷ bs)
  decides_all = record { one_of_them = among_all rest.one_of_them; none_greater = λ l m. (over l m).0; lowest_number = λ l m. (over l m).1 }

pub deciding_decides : (a : Named) (bs : List Named) → Decides (deciding (a ∷ bs)) (a ∷ bs)
deciding_decides a [] = record { one_of_them = first refl; none_greater = greater; lowest_number = lowest }
  where
    greater : (l : Named) → Among l (a ∷ []) → l.pressure ≤ a.pressure
    greater l (first e) = omega (arith, ap (λ (k : Named). k.pressure) e)
    greater l (later x3) = elim x3 [ ]

    lowest : (l : Named) → Among l (a ∷ []) → l.pressure ≡ a.pressure → a.source ≤ l.source
    lowest l (first e) p = omega (arith, ap (λ (k : Named). k.source) e)
    lowest l (later x4) p = elim x4 [ ]
deciding_decides a (b ∷ bs) = decides_all _ (heavier a b) a b bs (heavier_decides a b) (deciding_decides (heavier a b) bs)

-- no other one decides
pub decides_only : (ls : List Named) (c d : Named) → Decides c ls → Decides d ls → c ≡ d
decides_only ls c d p q =
    let pressure : c.pressure ≡ d.pressure = omega (arith, p.none_greater d q.one_of_them, q.none_greater c p.one_of_them) in
    let source : c.source ≡ d.source = omega (arith, p.lowest_number d q.one_of_them (sym pressure), q.lowest_number c p.one_of_them pressure) in
    ap₂ {C = Named} (λ k s. record { pressure = k; source = s }) pressure source

-- ---- the document's pressures

pub bottom_pressure_lem : (D0 H z : ℕ) (is_ballast : Bool) (zL : ℕ) → (bottom_named D0 H z is_ballast zL).pressure ≡ bottom_pressure D0 H z is_ballast zL
unfolding bottom_named bottom_pressure
bottom_pressure_lem D0 H z true zL = heavier_pressure _ _
bottom_pressure_lem D0 H z false zL = refl

pub inner_pressure_lem : (cargo z : ℕ) (is_ballast : Bool) (zL : ℕ) → (inner_named cargo z is_ballast zL).pressure ≡ inner_pressure cargo z is_ballast zL
unfolding inner_named inner_pressure
inner_pressure_lem cargo z true zL = heavier_pressure _ _
inner_pressure_lem cargo z false zL = refl

-- ---- no number is above that of cargo

abbrev Numbered : Named → Type 0
Numbered l = l.source ≤ number_of Cargo

pub sea_numbered : (D0 H z : ℕ) → (sea_named D0 H z).source ≤ number_of Cargo
sea_numbered D0 H z = either_of (λ (n : ℕ). n ≤ number_of Cargo) (leb z D0) _ _ (lit≤ tt) (lit≤ tt)

pub bottom_numbered : (D0 H z : ℕ) (is_ballast : Bool) (zL : ℕ) → (bottom_named D0 H z is_ballast zL).source ≤ number_of Cargo
unfolding bottom_named
bottom_numbered D0 H z true zL = heavier_either Numbered (sea_named D0 H z) (tank_named _) (sea_numbered D0 H z) (lit≤ tt)
bottom_numbered D0 H z false zL = sea_numbered D0 H z

pub inner_numbered : (cargo z : ℕ) (is_ballast : Bool) (zL : ℕ) → (inner_named cargo z is_ballast zL).source ≤ number_of Cargo
unfolding inner_named
inner_numbered cargo z true zL = heavier_either Numbered (cargo_named cargo) (tank_named _) (lit≤ tt) (lit≤ tt)
inner_numbered cargo z false zL = lit≤ tt
