-- Two answers that meet the promise of `worked` are equal.
-- Assumes nothing.
use Rattle.std.specs.Prelude.{◌≡◌, refl, Result}
use Rattle.std.proofs.Common.{ap, ap₂}
use Rattle.loads.specs.declared.Load.{Load}
use Rattle.loads.specs.laws.Only.{load_only}
use Rattle.loads.specs.Sources.{told_load}
use Rattle.sheet.specs.Refusals.{Answer}
use Rattle.sheet.specs.laws.RefusalLaws.{as_only}
use Rattle.framing.specs.declared.MemberWork.{MemberWork}
use Rattle.framing.specs.Work.{Work, told_work, told_worked}
use Rattle.sheet.specs.declared.Refusal.{Refusal}

-- a working with this load and, for the rest, what a told one says
with_load : Load → Work → MemberWork
with_load l w = record { load = l; line = record { 0 = w.line }; web = w.web; bending = w.bending; shear = w.shear; verdict = w.verdict }

-- two workings that say the same
work_only : (v w : MemberWork) → told_work v ≡ told_work w → v ≡ w
unfolding with_load
work_only v w e =
    let load : v.load ≡ w.load = load_only (told_load w.load) v.load w.load (ap (λ (x : Work). x.load) e) refl in
    ap₂ with_load load e

pub member_worked_only : (a : Answer Work) (i j : Result MemberWork Refusal) → told_worked i ≡ a → told_worked j ≡ a → i ≡ j
member_worked_only = as_only told_work work_only
