-- The place of a refusal by line is the line's number, counted from 1, up to the highest of 32 bits.
-- Assumes nothing.
use Rattle.std.specs.Prelude.{ℕ, zero, suc, ◌+◌, ◌≤◌, ◌<◌, ◌≡◌, refl, Bool, true, List}
use Rattle.std.proofs.Common.{sym, ap, ◌∙◌, arith, lt-ltb, le-ltb}
use Rattle.std.proofs.Math.Decide.{dec_lt}
use Rattle.fields.specs.Lines.{Lines}
use Rattle.sheet_csv.specs.Read.{next_line}
use Rattle.csv_laws.specs.Faults.{FirstFaulty, quotes, line, later}

-- so many lines without a fault stand before the first faulty one
abbrev pub before : {head : Bool} {p : ℕ} {ls : Lines} {n q : ℕ} → FirstFaulty head p ls n q → ℕ
before quotes = 0
before (line j) = 0
before (later j f) = suc (before f)

next_below : (p : ℕ) → p < 4294967295 → next_line p ≡ p + 1
next_below p l = rw (lt-ltb p 4294967295 l)

next_up : (p : ℕ) → p ≤ next_line p
next_up p = go (dec_lt p 4294967295)
  where
    go : Dec (p < 4294967295) → p ≤ next_line p
    go (yes l) = omega (arith, next_below p l)
    go (no l) = let e : next_line p ≡ p = rw (le-ltb p 4294967295 (omega arith)) in omega arith

grows : {head : Bool} {p : ℕ} {ls : Lines} {n q : ℕ} → FirstFaulty head p ls n q → p ≤ q
grows quotes = omega arith
grows (line j) = omega arith
grows (later {p = p} j f) = omega (arith, grows f, next_up p)

-- below the highest place they are counted one by one
pub place_is : {head : Bool} {p : ℕ} {ls : Lines} {n q : ℕ} (f : FirstFaulty head p ls n q) → q < 4294967295 → q ≡ p + before f
place_is (quotes {p = p}) l = let z : p ≡ p + 0 = omega arith in z
place_is (line {p = p} j) l = let z : p ≡ p + 0 = omega arith in z
place_is (later {p = p} j f) l = omega (arith, place_is f l, next_below p (omega (arith, grows f, next_up p)))
