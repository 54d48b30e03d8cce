-- One answer after another: where the whole is given, and where and with what it is refused.
-- Assumes nothing.
use Rattle.std.specs.Prelude.{ℕ, ◌≡◌, refl, Bool, true, false}
use Rattle.std.proofs.Common.{sym, ap₂}
use Rattle.sheet.specs.Refusals.{Answer, given, refused}
use Rattle.sheet.specs.laws.RefusalLaws.{given_refused, refused_number, refused_place}
use Rattle.checker.specs.Check.{◌then◌, demand}

-- what comes next is given only where what comes first is
pub then_given : {A B : Type 0} (x : Answer A) (next : A → Answer B) (b : B) → (x then next) ≡ given b → (a : A) × (x ≡ given a) × (next a ≡ given b)
unfolding ◌then◌
then_given (given a) next b e = (a, refl, e)
then_given (refused k p) next b e = given_refused (sym e)

pub demand_given : (t : Bool) (k : ℕ) (u : Unit {0}) → demand t k ≡ given u → t ≡ true
unfolding demand
demand_given true k u e = refl
demand_given false k u e = given_refused (sym e)

-- the same refusal of something else
pub refused_as : {A B : Type 0} {l q k p : ℕ} → ◌≡◌ {A = Answer A} (refused l q) (refused k p) → ◌≡◌ {A = Answer B} (refused l q) (refused k p)
refused_as e = ap₂ refused (refused_number e) (refused_place e)

-- where the whole is refused, by which of the two
pub data By {A B : Type 0} (x : Answer A) (next : A → Answer B) (k p : ℕ) : Type 0 where
  first : x ≡ refused k p → By x next k p
  later : (a : A) → x ≡ given a → next a ≡ refused k p → By x next k p

pub by : {A B : Type 0} (x : Answer A) (next : A → Answer B) (k p : ℕ) → (x then next) ≡ refused k p → By x next k p
unfolding ◌then◌
by (given a) next k p e = later a refl e
by (refused l q) next k p e = first (refused_as e)

pub demanded : (t : Bool) (k l p : ℕ) → demand t k ≡ refused l p → (t ≡ false) × (k ≡ l) × (p ≡ 0)
unfolding demand
demanded true k l p e = given_refused e
demanded false k l p e = (refl, refused_number e, sym (refused_place e))

-- and the other way round
pub stays : {A B : Type 0} (x : Answer A) (next : A → Answer B) (k p : ℕ) → x ≡ refused k p → (x then next) ≡ refused k p
unfolding ◌then◌
stays (given a) next k p e = given_refused e
stays (refused l q) next k p e = refused_as e

pub goes_on : {A B : Type 0} (x : Answer A) (next : A → Answer B) (a : A) → x ≡ given a → (x then next) ≡ next a
unfolding ◌then◌
goes_on x next a e = rw e
