-- Every program that meets the promise of `check` says the right sources.
-- Assumes nothing.
use Rattle.std.specs.Prelude.{ℕ, ◌+◌, ◌*◌, ◌/◌, ◌%◌, ◌^◌, ◌≤◌, ◌<◌, ◌≡◌, List, [], ◌∷◌, ◌++◌}
use Rattle.std.proofs.Common.{sym, ap₂, ◌∙◌, arith}
use Rattle.std.proofs.Math.Path.{ap, subst}
use Rattle.layout.specs.Layout.{pack, unpack, bytes}
use Rattle.loads.specs.Sources.{Decides}
use Rattle.sheet.specs.declared.Header.{Header}
use Rattle.sheet.specs.declared.Record.{Record}
use Rattle.sheet.specs.laws.RefusalLaws.{given_same}
use Rattle.hull.specs.Hull.{verdict, source_of, finding}
use Rattle.hull.specs.Raising.{put_record, OwnRule, raised_times as raisedRecord}
use Rattle.hull.specs.Sources.{loads_on, pressure_on}
use Rattle.hull.specs.laws.SourceLaws.{source_right, source_most, raising_source, times_source}
use Rattle.checker.specs.declared.Entry.{Entry}
use Rattle.checker.specs.Entry.{verdict_widths, entry_bytes}
use Rattle.checker.specs.Check.{Sheet, entry_with, entry_of, tallied}
use Rattle.demands.specs.Program.{Program, Meets, Leaves}
use Rattle.demands.specs.Raise.{the_header, the_record, with_scantling, raised_times}
use Rattle.demands.specs.Demands.{entry_on}
use Rattle.demands.specs.Sources.{cleared, sourceless, SourceSaid, SaysSources}
use Rattle.demands.specs.laws.Exchange as exchange
use Rattle.demands.specs.laws.Proved.{second_demand, holds_leaves, holds_done, put_own, times_holds, at_first, taken, inside, its}

-- ---- the bytes

-- a number of 32 bits whose last two are taken off
pub cleared_bytes : (m d : ℕ) → d ≤ 3 → cleared (unpack (bytes 4) (4 * m + d)) ≡ unpack (bytes 4) (4 * m)
cleared_bytes m d l =
    let a : (4 * m + d) / 2 ^ 24 % 2 ^ 8 ≡ 4 * m / 2 ^ 24 % 2 ^ 8 = omega arith in
    let b : (4 * m + d) / 2 ^ 16 % 2 ^ 8 ≡ 4 * m / 2 ^ 16 % 2 ^ 8 = omega arith in
    let c : (4 * m + d) / 2 ^ 8 % 2 ^ 8 ≡ 4 * m / 2 ^ 8 % 2 ^ 8 = omega arith in
    let e : (4 * m + d) / 2 ^ 0 % 2 ^ 8 / 4 * 4 ≡ 4 * m / 2 ^ 0 % 2 ^ 8 = omega arith in
    ap₂ {C = List ℕ} (λ (x y : List ℕ). x ++ y) (ap₂ {C = List ℕ} (λ x y. x ∷ y ∷ []) a b) (ap₂ {C = List ℕ} (λ x y. x ∷ y ∷ []) c e)

entry_cleared : (h : Header) (r : Record) (id : ℕ) → cleared (entry_bytes (entry_with id (finding h r))) ≡ sourceless id (verdict h r)
entry_cleared h r id =
    let v = verdict h r in
    let m = id * 2 ^ 20 + v.rule * 2 ^ 17 + v.required in
    let whole : pack verdict_widths (id ∷ v.rule ∷ v.required ∷ source_of h r ∷ []) ≡ 4 * m + source_of h r = omega arith in
    let bare : pack verdict_widths (id ∷ v.rule ∷ v.required ∷ 0 ∷ []) ≡ 4 * m = omega arith in
    ap (λ (n : ℕ). cleared (unpack (bytes 4) n)) whole ∙ cleared_bytes m (source_of h r) (source_most h r) ∙ ap (unpack (bytes 4)) (sym bare)

-- ---- the verdicts

module _ (P : Program) (meets : Meets P) (s out : List ℕ) (n failed i : ℕ) (done : P.answer s out ≡ tallied n failed) (l : i < n) where
  abbrev t : Sheet
  t = (taken P meets s out n failed i done l).0

  abbrev h : Header
  h = t.header

  abbrev r : Record
  r = (its P meets s out n failed i done l).0

  abbrev Holds : List ℕ → Record → Type 0
  Holds s' q = exchange.Holds s out t (taken P meets s out n failed i done l).1 i (inside P meets s out n failed i done l) s' q

  at_start : Holds s r
  at_start = at_first P meets s out t _ i _ r (its P meets s out n failed i done l).1

  its_own : the_record s i ≡ r
  its_own = exchange.its_record s out t _ i _ s r at_start

  -- what is read where record i is q
  leaves_own : (s' : List ℕ) (q : Record) → Holds s' q → Leaves P s' out i (entry_of h q)
  leaves_own s' q holds = holds_leaves P meets s out t _ i _ s' q holds

  -- a sheet whose record i bears the same loads names the same source
  same_source : (s' : List ℕ) (q : Record) → Holds s' q → source_of h q ≡ source_of h r → (f : Entry) → Leaves P s' out i f → f.source ≡ (entry_of h r).source
  unfolding entry_of
  same_source s' q holds e f leaves = ap (λ (x : Entry). x.source) (given_same (sym leaves ∙ leaves_own s' q holds)) ∙ e

  said : SourceSaid P s out i (entry_of h r)
  unfolding entry_of
  said =
      let two = second_demand P meets s out n failed done in
      let own : entry_of h r ≡ entry_on s i = given_same (sym (leaves_own s r at_start) ∙ two.verdict_of_record i l) in
      record {
        right =
            subst (λ (k : ℕ). Decides (record { pressure = pressure_on (the_header s) (the_record s i); source = k }) (loads_on (the_header s) (the_record s i)))
            (sym (ap (λ (x : Entry). x.source) own)) (source_right (the_header s) (the_record s i));
        with_source = λ k x own g.
            let holds : Holds (with_scantling i k x s) (put_record k x r) = put_own P meets s out t _ i _ s r at_start k x (subst (λ (q : Record). OwnRule q.body k) its_own own) g in
            let done = holds_done P meets s out t _ i _ (with_scantling i k x s) (put_record k x r) holds in
            (t.header.count, done.0, done.1, same_source (with_scantling i k x s) (put_record k x r) holds (raising_source h _ r));
        raised_source = λ count.
            same_source (raised_times P out count i s) (raisedRecord count h r) (times_holds P meets s out t _ i _ count s r at_start) (times_source count h r);
        forgotten = ap cleared (two.verdict_bytes_lem i l) ∙ entry_cleared (the_header s) (the_record s i) _;
      }

pub sources_said : (P : Program) → Meets P → SaysSources P
sources_said P meets s out n failed i e done l leaves =
    subst (λ (x : Entry). SourceSaid P s out i x)
    (given_same (sym (leaves_own P meets s out n failed i done l s _ (at_start P meets s out n failed i done l)) ∙ leaves)) (said P meets s out n failed i done l)
