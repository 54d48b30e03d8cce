-- `streams::texts::converted` meets its contract.
use Rattle.streams.specs.Texts.{asked}
use Rattle.streams.proofs.texts.converted.Goals as goal

pub returns-in-FromText : goal.returns-in-FromText
unfolding asked
returns-in-FromText c = rw c.in-FromText.is c.read_sheet.ensures

pub returns-in-ToText : goal.returns-in-ToText
unfolding asked
returns-in-ToText c = rw c.in-ToText.is c.write_text.ensures

pub returns-in-FromTable : goal.returns-in-FromTable
unfolding asked
returns-in-FromTable c = rw c.in-FromTable.is c.read_table.ensures
