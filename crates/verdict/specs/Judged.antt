-- Judging a record: a header or a record outside its values is refused by the table, and every other pair gets its verdict.
use Rattle.std.specs.Prelude.{ℕ, ◌≡◌, Result, Ok, Err}
use Rattle.sheet.specs.declared.Header.{Header}
use Rattle.sheet.specs.declared.Record.{Record}
use Rattle.sheet.specs.Header.{header_fault}
use Rattle.sheet.specs.Record.{record_fault}
use Rattle.sheet.specs.Refusals.{Answer, given, told, header_refused, record_refused, told_as}
use Rattle.loads.specs.Sources.{number_of}
use Rattle.verdict.specs.declared.Verdict.{Verdict}
use Rattle.sheet.specs.declared.Refusal.{Refusal}
use Rattle.verdict.specs.declared.Judged.{Judged}

-- the verdict on a record, and the number of what its pressure comes from
pub record Finding : Type 0 where
  pub verdict : Verdict
  pub source : ℕ

abbrev pub found : Judged → Finding
found j = record { verdict = j.verdict; source = number_of j.source }

-- what the code's answer says
abbrev pub told_judged : Result Judged Refusal → Answer Finding
told_judged = told_as found

-- 2 and 3 for the header, then 6 and 7 for the record as record 0, and else what is given
unfoldable pub judged_by : {A : Type 0} → Header → Record → A → Answer A
judged_by h r a = header_refused (header_fault h) (record_refused 0 (record_fault r 0) (given a))

-- neither the header nor the record is at fault
pub record Sound (h : Header) (r : Record) : Type 0 where
  pub header : header_fault h ≡ 0
  pub body : record_fault r 0 ≡ 0
