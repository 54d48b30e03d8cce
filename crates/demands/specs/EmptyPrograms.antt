-- The checker as a program, and empty programs made of it.
use Rattle.std.specs.Prelude.{ℕ, zero, suc, ◌*◌, cond, List, [], ◌∷◌, ◌++◌, length, take, drop, eqb, Result, Err}
use Rattle.sheet.specs.declared.Refusal.TheVariants.{SheetShort}
use Rattle.sheet.specs.Refusals.{Answer, given, refused}
use Rattle.sheet.specs.laws.RefusalLaws.{refusal_of}
use Rattle.checker.specs.declared.Entry.{Entry}
use Rattle.checker.specs.Check.{Sheet, sheet_in, verdicts, bytes_of, failures, tallied}
use Rattle.demands.specs.Table.{head_size}
use Rattle.demands.specs.Program.{Program}
use Rattle.sheet.specs.declared.Refusal.{Refusal}
use Rattle.checker.specs.declared.Checked.{Checked}

-- its answer to a sheet that was read, with this count of failures
abbrev pub answer_by : (Sheet → ℕ) → Answer Sheet → Result Checked Refusal
answer_by count (given t) = tallied t.header.count (count t)
answer_by count (refused k p) = Err (refusal_of k p)

-- its output, with these verdicts
abbrev pub after_by : (Sheet → List Entry) → Answer Sheet → List ℕ → List ℕ
after_by writes (given t) out = bytes_of (writes t) ++ drop (4 * t.header.count) out
after_by writes (refused k p) out = out

-- a program that reads sheets as the checker does, by what it counts and which verdicts it writes
abbrev pub reading : (List ℕ → Sheet → ℕ) → (Sheet → List Entry) → Program
reading count writes = record { answer = λ s out. answer_by (count s) (sheet_in s (length out)); after = λ s out. after_by writes (sheet_in s (length out)) out }

-- the checker
abbrev pub checker : Program
checker = reading (λ s t. failures (verdicts t)) verdicts

-- the verdicts changed, each by its record's number, the first being i
abbrev pub changed_from : (ℕ → Entry → Entry) → ℕ → List Entry → List Entry
changed_from change i [] = []
changed_from change i (e ∷ es) = change i e ∷ changed_from change (suc i) es

-- the checker with changed verdicts, which it counts
abbrev pub changing : (ℕ → Entry → Entry) → Program
changing change = reading (λ s t. failures (changed_from change 0 (verdicts t))) (λ t. changed_from change 0 (verdicts t))

-- a pass in place of a verdict
abbrev pub pass_instead : ℕ → Entry → Entry
pass_instead i e = record { id = e.id; rule = 0; required = 0; source = e.source }

-- the number q in every verdict with a rule
abbrev pub number_instead : ℕ → ℕ → Entry → Entry
number_instead q i e = record { id = e.id; rule = e.rule; required = cond (eqb e.rule 0) 0 q; source = e.source }

-- no source in a pass
abbrev pub source_dropped : ℕ → Entry → Entry
source_dropped i e = record { id = e.id; rule = e.rule; required = e.required; source = cond (eqb e.rule 0) 0 e.source }

-- a pass in place of every verdict but the first
abbrev pub pass_after_first : ℕ → Entry → Entry
pass_after_first zero e = e
pass_after_first (suc i) e = pass_instead (suc i) e

-- 1: it answers, and leaves the output as lent
abbrev pub idle : Program
idle = record { answer = checker.answer; after = λ s out. out }

-- 2: it refuses everything
abbrev pub refusing : Program
refusing = record { answer = λ s out. Err SheetShort; after = λ s out. out }

-- 3: it passes every member
abbrev pub passing : Program
passing = changing pass_instead

-- or names the number q
abbrev pub naming : ℕ → Program
naming q = changing (number_instead q)

-- 4: it judges the first record and fills the rest with passes
abbrev pub first_only : Program
first_only = changing pass_after_first

-- 5: it makes up the failure count from the header's bytes
abbrev pub counting : (List ℕ → ℕ) → Program
counting count = reading (λ s t. count (take (head_size s) s)) verdicts

-- it names no source on a pass
abbrev pub dropping : Program
dropping = changing source_dropped
