-- Two answers that meet the promise of `worked`, or of `is_long`, are equal.
-- Assumes nothing.
use Rattle.std.specs.Prelude.{◌≡◌, refl, Result, Ok, Err}
use Rattle.std.proofs.Common.{sym, ap, ap₂, ◌∙◌}
use Rattle.loads.specs.declared.Load.{Load}
use Rattle.loads.specs.laws.Only.{load_only}
use Rattle.loads.specs.Sources.{told_load}
use Rattle.sheet.specs.Refusals.{Answer}
use Rattle.sheet.specs.laws.RefusalLaws.{as_only}
use Rattle.plating.specs.declared.PlateWork.{PlateWork}
use Rattle.plating.specs.Work.{Work, told_work, told_worked}
use Rattle.sheet.specs.declared.Refusal.{Refusal}

-- a working with this load and, for the rest, what a told one says
with_load : Load → Work → PlateWork
with_load l w =
    record {
      load = l;
      modulus = w.modulus;
      stress = w.stress;
      k2 = w.k2;
      is_second = w.is_second;
      first = w.first;
      second = w.second;
      third = w.third;
      verdict = w.verdict;
    }

-- two workings that say the same
work_only : (v w : PlateWork) → told_work v ≡ told_work w → v ≡ w
unfolding with_load
work_only v w e =
    let load : v.load ≡ w.load = load_only (told_load w.load) v.load w.load (ap (λ (x : Work). x.load) e) refl in
    ap₂ with_load load e

pub plate_worked_only : (a : Answer Work) (i j : Result PlateWork Refusal) → told_worked i ≡ a → told_worked j ≡ a → i ≡ j
plate_worked_only = as_only told_work work_only
