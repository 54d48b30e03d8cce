-- Five kinds of empty program that no promise may let through, and one of a later request, by what a program does on the sheets that it accepts; crates/demands/specs/EmptyPrograms.antt has one of each.
use Rattle.std.specs.Prelude.{ℕ, zero, suc, ◌+◌, ◌<◌, ◌≤◌, ◌≡◌, cond, List, take, eqb, Err}
use Rattle.sheet.specs.declared.Refusal.{Refusal}
use Rattle.sheet.specs.Refusals.{Answer, given, refused}
use Rattle.checker.specs.declared.Entry.{Entry}
use Rattle.checker.specs.Entry.{read_entry}
use Rattle.demands.specs.Table.{head_size}
use Rattle.checker.specs.Check.{four_at, tallied}
use Rattle.demands.specs.Program.{Program, Leaves}
use Rattle.demands.specs.Demands.{Demands}

-- no program that meets the demands is of this kind
abbrev pub ShutOut : (Program → Type 0) → Type 0
ShutOut OfKind = (P : Program) → Demands P → OfKind P → ⊥

-- what holds of every verdict that a program leaves, on a sheet that it accepts, for a record below n
abbrev pub OfVerdicts : (ℕ → Entry → Type 0) → Program → Type 0
OfVerdicts Says P = (s out : List ℕ) (n failed i : ℕ) (e : Entry) → P.answer s out ≡ tallied n failed → i < n → Leaves P s out i e → Says i e

-- 1: it leaves the output as lent
abbrev pub LeavesAsLent : Program → Type 0
LeavesAsLent P = (s out : List ℕ) (n failed : ℕ) → P.answer s out ≡ tallied n failed → P.after s out ≡ out

-- 2: it refuses everything
abbrev pub RefusesAll : Program → Type 0
RefusesAll P = (s out : List ℕ) → (r : Refusal) × (P.answer s out ≡ Err r)

-- 3: it passes every member
abbrev pub PassesAll : Program → Type 0
PassesAll = OfVerdicts (λ i e. e.rule ≡ 0)

-- or names one fixed number
abbrev pub NamesOne : ℕ → Program → Type 0
NamesOne q = OfVerdicts (λ i e. 1 ≤ e.rule → e.required ≡ q)

-- 4: it fills what follows the first record with passes
abbrev pub PassesRest : Program → Type 0
PassesRest = OfVerdicts (λ i e. 1 ≤ i → e.rule ≡ 0)

-- the rule of a verdict that is read, 0 where none is
abbrev pub rule_in : Answer Entry → ℕ
rule_in (given e) = e.rule
rule_in (refused k p) = 0

-- how many of the fours at 4i, 4i + 4, .. of an output, so many of them, have a rule
abbrev pub failed_in : List ℕ → (i count : ℕ) → ℕ
failed_in o i zero = 0
failed_in o i (suc count) = cond (eqb (rule_in (read_entry (four_at i o))) 0) 0 1 + failed_in o (i + 1) count

-- 5: it makes up the failure count, which on some sheet is not the number of verdicts with a rule that it leaves
abbrev pub Miscounts : Program → Type 0
Miscounts P = (s out : List ℕ) × (n failed : ℕ) × (P.answer s out ≡ tallied n failed) × (failed ≡ failed_in (P.after s out) 0 n → ⊥)

-- or which hangs on the header's bytes alone, or on nothing
abbrev pub MakesUpCount : (List ℕ → ℕ) → Program → Type 0
MakesUpCount count P = (s out : List ℕ) (n failed : ℕ) → P.answer s out ≡ tallied n failed → failed ≡ count (take (head_size s) s)

-- and since verdicts name a source: it names none on a pass
abbrev pub DropsSource : Program → Type 0
DropsSource = OfVerdicts (λ i e. e.rule ≡ 0 → e.source ≡ 0)
