-- What the functions of the pass over the records say. The promise of `check` rests on none of it.
use Rattle.std.specs.Prelude.{◌≡◌, ℕ, ◌*◌, ◌≤◌, List, [], ◌∷◌, ◌++◌, map, length, drop, Result, Ok, Err}
use Rattle.layout.specs.Layout.{unpack, bytes}
use Rattle.sheet.specs.declared.Header.{Header}
use Rattle.sheet.specs.Refusals.{Answer, given, told}
use Rattle.sheet.specs.Header.{header_fault}
use Rattle.checker.specs.declared.Entry.{Entry}
use Rattle.checker.specs.Entry.{entry_number}
use Rattle.checker.specs.Check.{◌then◌, parts_from, sound_after, records_in, entry_of, failures}
use Rattle.sheet.specs.declared.Refusal.{Refusal}

-- nothing is given
abbrev pub Refuses : {A : Type 0} → Answer A → Type 0
Refuses {A} x = (a : A) → x ≡ given a → ⊥

-- record i: 6, 7 and 8, and else the verdict on it
unfoldable pub judged_after : Header → (i before : ℕ) → List ℕ → Answer Entry
judged_after h i before b = sound_after i before b then λ r. given (entry_of h r)

-- the header is sound, and the records' bytes and the draft are those of what it counts
pub record Ready (h : Header) (b : List ℕ) (room : ℕ) : Type 0 where
  pub header : header_fault h ≡ 0
  pub whole : length b ≡ 16 * h.count
  pub fits : h.count ≤ room

-- where no record is turned away: how many verdicts have a rule, and what the draft holds, each verdict as its number
pub record Pass : Type 0 where
  pub failed : ℕ
  pub draft : List ℕ

-- what the code's answer says, with the draft as it is left; after a refusal that is nobody's
abbrev pub told_passed : Result ℕ Refusal → List ℕ → Answer Pass
told_passed (Ok failed) draft = given (record { failed = failed; draft = draft })
told_passed (Err r) draft = told r

-- the pass of verdicts over a draft
abbrev pub pass_of : ℕ → List Entry → List ℕ → Pass
pass_of n es draft = record { failed = failures es; draft = map entry_number es ++ drop n draft }

-- and of records, by the bytes of all of them
unfoldable pub pass_over : Header → List ℕ → List ℕ → Answer Pass
pass_over h b draft = records_in 0 0 (parts_from b 0 h.count) then λ rs. given (pass_of h.count (map (entry_of h) rs) draft)

-- the four bytes of each number, in turn
unfoldable pub number_bytes : List ℕ → List ℕ
number_bytes [] = []
number_bytes (n ∷ ns) = unpack (bytes 4) n ++ number_bytes ns
