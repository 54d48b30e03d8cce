use Rattle.fields.specs.Marks.{marks_at}
use Rattle.fields.specs.Field.{field_at}
use Rattle.fields.proofs.field_at.Goals as goal

pub returns : goal.returns
unfolding field_at marks_at
returns c = c.plain.ensures
