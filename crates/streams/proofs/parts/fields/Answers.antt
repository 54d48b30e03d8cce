-- One number behind another.
use Rattle.streams.specs.Parts.{fields_in}
use Rattle.streams.proofs.parts.fields.Goals as goal

pub returns : goal.returns
unfolding fields_in
returns c =
    rw (
      c.number.ensures,
      c.number-2.ensures,
      c.number-3.ensures,
      c.number-4.ensures,
      c.number-5.ensures,
      c.number-6.ensures,
      c.number-7.ensures,
      c.number-8.ensures,
      c.number-9.ensures,
      c.number-10.ensures,
      c.number-11.ensures,
      c.number-12.ensures,
      c.number-13.ensures,
    )
