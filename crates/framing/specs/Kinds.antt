-- The kinds of member as the document numbers them.
use Rattle.std.specs.Prelude.{ℕ}
use Rattle.framing.specs.declared.kinds.Kind.{Kind}
use Rattle.framing.specs.declared.kinds.Kind.TheVariants.{Longitudinal, Floor, Transverse, Girder}

-- the number of a kind of member
abbrev pub number_of : Kind → ℕ
number_of Longitudinal = 5
number_of Floor = 6
number_of Transverse = 7
number_of Girder = 8
