-- The source that a finding names is right, and raising does not change it.
-- Assumes nothing.
use Rattle.std.specs.Prelude.{ℕ, zero, suc, ◌≤◌, ◌≡◌, refl, Bool, true, false, cond, List, [], eqb}
use Rattle.std.proofs.Common.{sym, ap, subst, ◌∙◌, lit≤}
use Rattle.loads.specs.declared.Source.TheVariants.{Cargo}
use Rattle.loads.specs.Sources.{number_of, Named, deciding, Decides}
use Rattle.truth.specs.laws.Tests.{either_of}
use Rattle.loads.specs.laws.SourceLaws.{deciding_decides, sea_numbered, bottom_numbered, inner_numbered}
use Rattle.sheet.specs.Kinds.{is_bottom, is_deep}
use Rattle.sheet.specs.declared.Header.{Header}
use Rattle.sheet.specs.declared.Record.{Record}
use Rattle.sheet.specs.declared.Body.{Body}
use Rattle.sheet.specs.declared.Body.TheVariants.{Plate as isPlate, Member as isMember}
use Rattle.verdict.specs.declared.Verdict.{Verdict}
use Rattle.plating.specs.laws.Laws.{plate_named_lem, plate_pressure_lem}
use Rattle.framing.specs.laws.Laws.{member_pressure_lem}
use Rattle.hull.specs.Hull.{verdict, body_named, source_of}
use Rattle.hull.specs.Raising.{raised_body, raised, raised_once, raised_times}
use Rattle.hull.specs.Sources.{body_loads, loads_on, body_pressure, pressure_on}

-- ---- right

named_decides : (h : Header) (kind : ℕ) (b : Body) → Decides (body_named h kind b) (body_loads h kind b)
named_decides h kind (isPlate p) = either_of (λ (ls : List Named). Decides (deciding ls) ls) (is_bottom kind) _ _ (deciding_decides _ _) (deciding_decides _ _)
named_decides h kind (isMember m) = either_of (λ (ls : List Named). Decides (deciding ls) ls) (is_deep kind) _ _ (deciding_decides _ []) (deciding_decides _ [])

-- its pressure is the one that the rules go by
named_pressure : (h : Header) (kind : ℕ) (b : Body) → (body_named h kind b).pressure ≡ body_pressure h kind b
named_pressure h kind (isPlate p) = plate_pressure_lem h kind p
named_pressure h kind (isMember m) = member_pressure_lem h kind m

-- the source named, with the pressure that the rules go by, is one of the loads on the record; none of them is greater, and none that is as great has a
-- lower number
pub source_right : (h : Header) (r : Record) → Decides (record { pressure = pressure_on h r; source = source_of h r }) (loads_on h r)
source_right h r =
    subst (λ (P : ℕ). Decides (record { pressure = P; source = source_of h r }) (loads_on h r)) (named_pressure h r.kind r.body) (named_decides h r.kind r.body)

-- its number is one of the four
pub source_most : (h : Header) (r : Record) → source_of h r ≤ number_of Cargo
source_most h r = go r.kind r.body
  where
    go : (kind : ℕ) (b : Body) → (body_named h kind b).source ≤ number_of Cargo
    go kind (isPlate p) =
        subst (λ (n : Named). n.source ≤ number_of Cargo) (sym (plate_named_lem h kind p))
        (either_of (λ (n : Named). n.source ≤ number_of Cargo) (is_bottom kind) _ _
        (bottom_numbered h.draught.0 h.wave.0 p.z.0 p.ballast p.tank_top.0)
        (inner_numbered p.cargo p.z.0 p.ballast p.tank_top.0))
    go kind (isMember m) = either_of (λ (ls : List Named). (deciding ls).source ≤ number_of Cargo) (is_deep kind) _ _ (lit≤ tt) (sea_numbered h.draught.0 h.wave.0 m.z.0)

-- ---- unchanged

body_source : (h : Header) (kind : ℕ) (v : Verdict) (b : Body) → body_named h kind (raised_body v b) ≡ body_named h kind b
body_source h kind v (isPlate p) = refl
body_source h kind v (isMember m) = refl

-- another number in place of a scantling leaves the source as it was
pub raising_source : (h : Header) (v : Verdict) (r : Record) → source_of h (raised v r) ≡ source_of h r
raising_source h v r = ap (λ (n : Named). n.source) (body_source h r.kind v r.body)

-- so do any raisings
pub times_source : (count : ℕ) (h : Header) (r : Record) → source_of h (raised_times count h r) ≡ source_of h r
unfolding raised_times raised_once
times_source zero h r = refl
times_source (suc count) h r = times_source count h (raised_once h r) ∙ once (eqb (verdict h r).required 0)
  where
    once : (b : Bool) → source_of h (cond b r (raised (verdict h r) r)) ≡ source_of h r
    once true = refl
    once false = raising_source h (verdict h r) r
