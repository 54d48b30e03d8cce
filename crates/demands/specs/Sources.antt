-- What a verdict says of the load that decided, on a program that checks sheets.
use Rattle.std.specs.Prelude.{ℕ, zero, suc, ◌*◌, ◌/◌, ◌<◌, ◌≡◌, List, [], ◌∷◌, ◌++◌, get_or, take, drop}
use Rattle.layout.specs.Layout.{pack, unpack, bytes}
use Rattle.loads.specs.Sources.{Decides}
use Rattle.sheet.specs.Refusals.{Answer, given, refused}
use Rattle.verdict.specs.declared.Verdict.{Verdict}
use Rattle.hull.specs.Hull.{verdict}
use Rattle.hull.specs.Raising.{InGauge, OwnRule}
use Rattle.hull.specs.Sources.{loads_on, pressure_on}
use Rattle.checker.specs.declared.Entry.{Entry}
use Rattle.checker.specs.Entry.{verdict_widths}
use Rattle.demands.specs.Table.{id_of}
use Rattle.checker.specs.Check.{four_at, Totals, tallied}
use Rattle.demands.specs.Program.{Program, Leaves}
use Rattle.demands.specs.Raise.{the_header, the_record, with_scantling, raised_times}

-- four bytes with 0 in the last two bits
abbrev pub cleared : List ℕ → List ℕ
cleared b = take 3 b ++ (get_or b 3 0 / 4 * 4 ∷ [])

-- an output whose first n verdicts have 0 there
unfoldable pub cleared_first : (n : ℕ) → List ℕ → List ℕ
cleared_first zero out = out
cleared_first (suc n) out = cleared (take 4 out) ++ cleared_first n (drop 4 out)

-- how many verdicts a check leaves
abbrev pub verdicts_left : Answer Totals → ℕ
verdicts_left (given w) = w.n
verdicts_left (refused k p) = 0

-- the four bytes of a verdict that names no source: its two bits are 0
abbrev pub sourceless : ℕ → Verdict → List ℕ
sourceless id v = unpack (bytes 4) (pack verdict_widths (id ∷ v.rule ∷ v.required ∷ 0 ∷ []))

-- for record i of a sheet that is accepted, whose verdict, as it is read at 4i, is e, a pass too
pub record SourceSaid (P : Program) (s out : List ℕ) (i : ℕ) (e : Entry) : Type 0 where
  -- the source, with the pressure that the rules go by, is one of the loads on the record; none of them is greater, and none that is as great has a lower
  -- number
  pub right : Decides (record { pressure = pressure_on (the_header s) (the_record s i); source = e.source }) (loads_on (the_header s) (the_record s i))
  -- with any x of its gauge in place of any of the record's scantlings the sheet is accepted, and what is read at 4i names the same source
  pub with_source : (k x : ℕ) → OwnRule (the_record s i).body k → InGauge k x
      → (m failed : ℕ) × (P.answer (with_scantling i k x s) out ≡ tallied m failed) × ((f : Entry) → Leaves P (with_scantling i k x s) out i f → f.source ≡ e.source)
  -- and after any number of raisings
  pub raised_source : (count : ℕ) (f : Entry) → Leaves P (raised_times P out count i s) out i f → f.source ≡ e.source
  -- without the source the four bytes are those of the verdict by the rules alone
  pub forgotten : cleared (four_at i (P.after s out)) ≡ sourceless (id_of s i) (verdict (the_header s) (the_record s i))

-- of every verdict that it leaves
abbrev pub SaysSources : Program → Type 0
SaysSources P = (s out : List ℕ) (n failed i : ℕ) (e : Entry) → P.answer s out ≡ tallied n failed → i < n → Leaves P s out i e → SourceSaid P s out i e
