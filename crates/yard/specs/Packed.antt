-- An answer as one number of 64 bits: a refusal is number · 2⁴⁰ + place; what is given is a number of its own, always under 2⁴⁰.
use Rattle.std.specs.Prelude.{◌≡◌, List, ℕ, ◌+◌, ◌*◌, length}
use Rattle.sheet.specs.Refusals.{Answer, given, refused, Wrote as WroteBy}
use Rattle.checker.specs.Check.{Totals, answer_of, output_of}

-- what a refusal's number counts: 2⁴⁰
abbrev pub number_unit : ℕ
number_unit = 1099511627776

-- an answer by the number of what is given
abbrev pub packed_by : {A : Type 0} → (A → ℕ) → Answer A → ℕ
packed_by number (given a) = number a
packed_by number (refused k p) = k * number_unit + p

-- a check that is not refused: n · 2¹⁶ + failed
abbrev pub totalled : Totals → ℕ
totalled t = t.n * 65536 + t.failed

abbrev pub packed : Answer Totals → ℕ
packed a = packed_by totalled a

-- reading and writing: 0 where there is no refusal
abbrev pub fine : {A : Type 0} → Answer A → ℕ
fine a = packed_by (λ x. 0) a

-- What `yard_check` promises: the answer, and the output's bytes as it returns.
pub record Checks (s out : List ℕ) (r : ℕ) (after : List ℕ) : Type 0 where
  pub answer : r ≡ packed (answer_of s (length out))
  pub bytes : after ≡ output_of s out

-- the fields' numbers after reading: those read; as they were where there is a refusal
abbrev pub filled : Answer (List ℕ) → List ℕ → List ℕ
filled (given ns) before = ns
filled (refused k p) before = before

-- What a reader promises: the answer, and the fields' numbers as it returns.
pub record Reads (a : Answer (List ℕ)) (before : List ℕ) (r : ℕ) (after : List ℕ) : Type 0 where
  pub answer : r ≡ fine a
  pub fields : after ≡ filled a before

-- What a writer promises: the answer, and the bytes that stand there afterwards.
pub record Wrote (w : WroteBy) (r : ℕ) (after : List ℕ) : Type 0 where
  pub answer : r ≡ fine w.answer
  pub bytes : after ≡ w.bytes
