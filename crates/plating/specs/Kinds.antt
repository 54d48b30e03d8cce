-- The kinds of plate as the document numbers them.
use Rattle.std.specs.Prelude.{ℕ}
use Rattle.plating.specs.declared.kinds.Kind.{Kind}
use Rattle.plating.specs.declared.kinds.Kind.TheVariants.{Bottom, LongBottom, Inner, LongInner}

-- the number of a kind of plate
abbrev pub number_of : Kind → ℕ
number_of Bottom = 1
number_of LongBottom = 2
number_of Inner = 3
number_of LongInner = 4
