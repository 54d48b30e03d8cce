-- How a member's scantlings are worked out: the numbers that its rules go by, and the shapes that they take.
use Rattle.std.specs.Prelude.{ℕ, Result}
use Rattle.gauge.specs.declared.Shape.{Shape}
use Rattle.loads.specs.Sources.{Named, told_load}
use Rattle.sheet.specs.declared.Header.{Header}
use Rattle.sheet.specs.declared.Member.{Member}
use Rattle.sheet.specs.Refusals.{Answer, told_as}
use Rattle.verdict.specs.declared.Verdict.{Verdict}
use Rattle.framing.specs.declared.MemberWork.{MemberWork}
use Rattle.framing.specs.Rules.{member_named, member_line, member_verdict}
use Rattle.framing.specs.Shapes.{shape4, shape5, shape6}
use Rattle.sheet.specs.declared.Refusal.{Refusal}

-- the load that the member bears, q, the shapes of rules 4, 5 and 6, and the verdict
pub record Work : Type 0 where
  pub load : Named
  pub line : ℕ
  pub web : Shape
  pub bending : Shape
  pub shear : Shape
  pub verdict : Verdict

-- those of a member
abbrev pub work_of : Header → ℕ → Member → Work
work_of h kind m =
    let q = member_line h kind m in
    record {
      load = member_named h kind m;
      line = q;
      web = shape4 kind h.length.0 m.factor.0 m.spacing.0;
      bending = shape5 kind m.bending m.eta m.stress q m.span.0;
      shear = shape6 kind m.shear m.eta q m.span.0;
      verdict = member_verdict h kind m;
    }

-- what the code's answer says
abbrev pub told_work : MemberWork → Work
told_work w = record { load = told_load w.load; line = w.line.0; web = w.web; bending = w.bending; shear = w.shear; verdict = w.verdict }

abbrev pub told_worked : Result MemberWork Refusal → Answer Work
told_worked = told_as told_work
