-- The verdict on a sound record can be written.
-- Assumes nothing.
use Rattle.std.specs.Prelude.{ℕ, ◌+◌, ◌≤◌, ◌≡◌, refl, Bool, true, false, cond, ◌&&◌, List, [], ◌∷◌, leb, eqb, Option, Some, None}
use Rattle.std.proofs.Common.{arith, leb-true, ne_eqb}
use Rattle.truth.specs.laws.Tests.{both}
use Rattle.quantity.specs.Range.{from, within, modulus}
use Rattle.quantity.specs.laws.RangeLaws.{lies_within}
use Rattle.gauge.specs.Least.{least_in, number_of, Answer as LeastAnswer}
use Rattle.gauge.specs.laws.LeastLaws.{least_answers}
use Rattle.loads.specs.declared.Source.TheVariants.{Cargo}
use Rattle.loads.specs.Sources.{number_of as sourceNumber}
use Rattle.layout.specs.laws.LineLaws.{none_all}
use Rattle.sheet.specs.declared.Header.{Header}
use Rattle.sheet.specs.declared.Record.{Record}
use Rattle.sheet.specs.declared.Body.{Body}
use Rattle.sheet.specs.declared.Body.TheVariants.{Plate as isPlate, Member as isMember}
use Rattle.sheet.specs.Lines.{plate_lines, member_lines}
use Rattle.sheet.specs.Record.{plate_values, member_values, plate_fault, member_fault, body_fault, record_fault}
use Rattle.verdict.specs.declared.Verdict.{Verdict}
use Rattle.verdict.specs.Verdict.{Rule, failing, verdict_of}
use Rattle.hull.specs.Hull.{body_rules, source_of}
use Rattle.hull.specs.laws.SourceLaws.{source_most}
use Rattle.plating.specs.Rules.{plate_rules}
use Rattle.framing.specs.Rules.{member_rules}
use Rattle.checker.specs.Entry.{entry_fault}
use Rattle.checker.specs.laws.EntryLaws.{allowed_entry}
use Rattle.checker.specs.Check.{entry_of}

-- a record's id is one that a verdict can carry
id_allowed : (kind id : ℕ) (b : Body) → body_fault kind id b 0 ≡ 0 → within (from 1 1000) id ≡ true
unfolding plate_fault member_fault
id_allowed kind id (isPlate p) e = (none_all 0 (plate_lines kind p.ballast p.z.0) (plate_values kind id p 0) e).1.0
id_allowed kind id (isMember m) e = (none_all 0 (member_lines kind) (member_values kind id m) e).1.0

-- a rule whose number and gauge a verdict can carry
abbrev rule_fits : Rule → Bool
rule_fits r = leb 1 r.number && (leb r.number 6 && leb r.top modulus.high)

abbrev rules_fit : List Rule → Bool
rules_fit [] = true
rules_fit (r ∷ rs) = rule_fits r && rules_fit rs

least_most : (test : ℕ → Bool) (top : ℕ) → number_of (least_in test top) ≤ top
least_most test top = go (least_in test top) (least_answers test top)
  where
    go : (l : Option ℕ) → LeastAnswer test 1 (top + 1) l → number_of l ≤ top
    go (Some k) a = omega (arith, a.within)
    go None a = omega arith

up_to : (high v : ℕ) → v ≤ high → within (from 0 high) v ≡ true
up_to high v l = lies_within (from 0 high) v (omega arith) l

-- what a verdict carries is allowed
abbrev Carried : Verdict → Type 0
Carried v = (within (from 0 6) v.rule ≡ true) × (within (from 0 (cond (eqb v.rule 0) 0 modulus.high)) v.required ≡ true)

carried : (rs : List Rule) → rules_fit rs ≡ true → Carried (verdict_of rs)
carried [] f = (refl, refl)
carried (r ∷ rs) f = go (r.asks r.has) (carried rs (both (rule_fits r) (rules_fit rs) f).1)
  where
    failed : Carried (failing r)
    failed =
        let low_rest = both (leb 1 r.number) (leb r.number 6 && leb r.top modulus.high) (both (rule_fits r) (rules_fit rs) f).0 in
        let high = both (leb r.number 6) (leb r.top modulus.high) low_rest.1 in
        let most : number_of (least_in r.asks r.top) ≤ modulus.high = omega (arith, least_most r.asks r.top, leb-true r.top modulus.high high.1) in
        let some : r.number ≡ 0 → ⊥ = λ z. omega (arith, leb-true 1 r.number low_rest.0) in
        (up_to 6 r.number (leb-true r.number 6 high.0), rw (ne_eqb r.number 0 some) (up_to modulus.high _ most))

    go : (t : Bool) → Carried (verdict_of rs) → Carried (cond t (verdict_of rs) (failing r))
    go true c = c
    go false c = failed

body_carried : (h : Header) (kind : ℕ) (b : Body) → Carried (verdict_of (body_rules h kind b))
body_carried h kind (isPlate p) = carried (plate_rules h kind p) refl
body_carried h kind (isMember m) = carried (member_rules h kind m) refl

-- the verdict on a sound record has no fault
pub entry_sound : (h : Header) (r : Record) → record_fault r 0 ≡ 0 → entry_fault (entry_of h r) ≡ 0
unfolding entry_of
entry_sound h r e =
    let c = body_carried h r.kind r.body in
    allowed_entry (entry_of h r) (id_allowed r.kind r.id r.body e, (c.0, (c.1, (up_to (sourceNumber Cargo) (source_of h r) (source_most h r), tt))))
