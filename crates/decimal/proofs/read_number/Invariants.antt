use Rattle.std.proofs.Common.{◌≡◌, drop, Some}
use Rattle.decimal.specs.Read.{read_number}
use Rattle.decimal.specs.laws.ReadLaws.{read_from}
use Rattle.decimal.proofs.read_number.Given as goal

-- what is read, with the bytes that are left, is the number of them all
abbrev pub invariant-loop-byte : goal.invariant-loop-byte
invariant-loop-byte l = read_from (Some l.n) (drop l.byte-index l.text) ≡ read_number l.text
