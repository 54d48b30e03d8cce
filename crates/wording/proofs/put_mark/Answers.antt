use Rattle.std.proofs.Common.{ℕ, ◌+◌, ◌*◌, List, length, arith}
use Rattle.wording.specs.Words.{bytes, hundredths, tenths, shown}
use Rattle.wording.specs.Writes.{number_most}
use Rattle.wording.specs.laws.WritesLaws.{within}
use Rattle.wording.proofs.put_mark.Goals as goal

-- the longest text of a number before its unit
abbrev room : List ℕ → ℕ
room unit = 4 * number_most + 3 + length unit

pub returns-in-Thickness : goal.returns-in-Thickness
unfolding shown
returns-in-Thickness c = rw c.in-Thickness.is (within {ts = hundredths c.args.n (bytes " mm)")} {m = room (bytes " mm)")} _ (omega arith) c.put_hundredths.ensures)

pub returns-in-Modulus : goal.returns-in-Modulus
unfolding shown
returns-in-Modulus c = rw c.in-Modulus.is (within {ts = tenths c.args.n (bytes " cm³)")} {m = room (bytes " cm³)")} _ (omega arith) c.put_tenths.ensures)

pub returns-in-Area : goal.returns-in-Area
unfolding shown
returns-in-Area c = rw c.in-Area.is (within {ts = hundredths c.args.n (bytes " cm²)")} {m = room (bytes " cm²)")} _ (omega arith) c.put_hundredths-in-Area.ensures)

pub returns-in-Number : goal.returns-in-Number
unfolding shown
returns-in-Number c = rw c.in-Number.is (within _ (omega arith) c.put_number.ensures)
