-- How a plate's thickness is worked out: the numbers that its rules go by, and the shapes that they take.
use Rattle.std.specs.Prelude.{ℕ, Bool, cond, Result, Ok, Err}
use Rattle.gauge.specs.declared.Shape.{Shape}
use Rattle.loads.specs.Sources.{Named, told_load}
use Rattle.sheet.specs.declared.Header.{Header}
use Rattle.sheet.specs.declared.Plate.{Plate}
use Rattle.sheet.specs.Kinds.{is_long}
use Rattle.sheet.specs.Refusals.{Answer, told_as}
use Rattle.verdict.specs.declared.Verdict.{Verdict}
use Rattle.plating.specs.declared.PlateWork.{PlateWork}
use Rattle.plating.specs.Rules.{R, plate_modulus, K2, is_second, plate_pressure, plate_named, plate_verdict}
use Rattle.plating.specs.Shapes.{shape1, shape2, shape3}
use Rattle.sheet.specs.declared.Refusal.{Refusal}

-- the load that decides, the modulus at the plate, R, K2, whether rule 3 takes its second form, the shapes of rules 1, 2 and 3, and the verdict
pub record Work : Type 0 where
  pub load : Named
  pub modulus : ℕ
  pub stress : ℕ
  pub k2 : ℕ
  pub is_second : Bool
  pub first : Shape
  pub second : Shape
  pub third : Shape
  pub verdict : Verdict

-- K2 where the framing is transverse, and else 0
abbrev pub panel_k2 : ℕ → ℕ → ℕ → ℕ
panel_k2 kind b1 b2 = cond (is_long kind) 0 (K2 b1 b2)

-- those of a plate
abbrev pub work_of : Header → ℕ → Plate → Work
work_of h kind p =
    let stress = R h.moment (plate_modulus h kind) in
    record {
      load = plate_named h kind p;
      modulus = plate_modulus h kind;
      stress = stress;
      k2 = panel_k2 kind p.b1.0 p.b2.0;
      is_second = is_second kind p.factor.0 stress;
      first = shape1 kind h.length.0 p.factor.0 p.spacing.0;
      second = shape2 kind p.factor.0 p.spacing.0 (plate_pressure h kind p);
      third = shape3 kind p.factor.0 p.spacing.0 (K2 p.b1.0 p.b2.0) stress;
      verdict = plate_verdict h kind p;
    }

-- what the code's answer says
abbrev pub told_work : PlateWork → Work
told_work w =
    record {
      load = told_load w.load;
      modulus = w.modulus;
      stress = w.stress;
      k2 = w.k2;
      is_second = w.is_second;
      first = w.first;
      second = w.second;
      third = w.third;
      verdict = w.verdict;
    }

abbrev pub told_worked : Result PlateWork Refusal → Answer Work
told_worked = told_as told_work
