-- What the promises of the smaller functions say.
use Rattle.std.specs.Prelude.{ℕ, ◌/◌, ◌%◌, ◌≡◌}
use Rattle.gauge.specs.declared.Shape.{Shape}
use Rattle.pencil.specs.declared.Quotient.{Quotient}
use Rattle.pencil.specs.declared.Parts.{Parts}
use Rattle.pencil.specs.declared.Tried.{Tried}
use Rattle.pencil.specs.declared.Form.{Form}
use Rattle.pencil.specs.Numbers.{product, step_of, short_of, right_of}
use Rattle.pencil.specs.Trail.{FormParts}

-- p over a, and what remains
pub record Divided (p a : ℕ) (q : Quotient) : Type 0 where
  pub whole : q.whole ≡ p / a
  pub left : q.left ≡ p % a

pub record PartsOf (d : Shape) (q : Parts) : Type 0 where
  pub step : q.step ≡ step_of d
  pub short : q.short ≡ short_of d
  pub right : q.right ≡ right_of d

-- X, and its square
pub record Tries (n : ℕ) (t : Tried) : Type 0 where
  pub x : t.x ≡ n
  pub square : t.square ≡ product n n

pub record FormTold (f : FormParts) (g : Form) : Type 0 where
  pub p : g.p ≡ f.p
  pub a : g.a ≡ f.a
  pub panel : g.panel ≡ f.panel
