-- A sheet that does not name version 2 is answered as in document 01, and its output left so, but for the last two bits of a verdict, which name its source now.
-- Assumes nothing.
use Prim.Native.Nat.{ℕ, ◌+◌, ◌*◌, ◌^◌, ◌≤◌}
use Rattle.std.specs.Prelude.{◌≡◌, length, eqb}
use Rattle.std.proofs.Math.Path.{refl, sym, ap, ap₂}
use Rattle.std.proofs.Common.{◌∙◌, arith}
use Rattle.std.proofs.Math.Bool.{cond}
use mathlib.Core.List.{List, [], ◌∷◌, ◌++◌, map}
use Rattle.std.proofs.Math.ListN.{drop}
use Rattle.gauge.specs.Ceil.{ceil_of}
use Rattle.gauge.specs.Least.{first_from, least_in}
use Rattle.layout.specs.Layout.{pack, unpack, bytes}
use Rattle.sheet.specs.declared.Header.{Header}
use Rattle.sheet.specs.declared.Own.TheVariants.{One}
use Rattle.sheet.specs.declared.Record.{Record}
use Rattle.sheet.specs.Refusals.{Answer, given, refused}
use Rattle.verdict.specs.declared.Verdict.{Verdict}
use Rattle.hull.specs.Hull.{source_of}
use Rattle.hull.specs.laws.SourceLaws.{source_most}
use Rattle.checker.specs.Check.{◌then◌, Sheet, sheet_in, entry_of, verdicts, bytes_of, failures, answer_of, output_by, output_of}
use Rattle.checker.specs.laws.CheckLaws.{sheet_whole}
use Rattle.demands.specs.Document01Sheet.{version_named}
use Rattle.demands.specs.Document01Sheet as doc
use Rattle.demands.specs.Document01Rules as rules
use Rattle.demands.specs.Sources.{cleared, cleared_first, verdicts_left}
use Rattle.demands.specs.Document01Rules.{verdict}
use Rattle.demands.specs.Document01.{four_bytes, zero2, verdict_bytes, failed, answer01, written, output01}
use Rattle.demands.specs.laws.Example.{example, lent}
use Rattle.demands.specs.laws.SourcesProved.{cleared_bytes}
use Rattle.demands.specs.laws.RulesUnmoved.{verdict_same}
use Rattle.demands.specs.laws.SheetUnmoved.{own_none, sheet_unmoved}

-- ---- the verdicts of a header with nothing of its own

module _ (h : Header) (bare : h.own ≡ One) where
  -- each in its four bytes
  bytes_same : (rs : List Record) → bytes_of (map (entry_of h) rs) ≡ verdict_bytes source_of h rs
  unfolding bytes_of entry_of verdict_bytes
  bytes_same [] = refl
  bytes_same (r ∷ rs) =
      ap₂ (λ (a b : List ℕ). a ++ b) (ap (λ (v : Verdict). four_bytes r.id v (source_of h r)) (verdict_same h bare r)) (bytes_same rs)

  -- and how many of them have a rule
  failed_same : (rs : List Record) → failures (map (entry_of h) rs) ≡ failed h rs
  unfolding failures entry_of failed
  failed_same [] = refl
  failed_same (r ∷ rs) = ap₂ ◌+◌ (ap (λ (v : Verdict). cond (eqb v.rule 0) 0 1) (verdict_same h bare r)) (failed_same rs)

-- ---- the last two bits of each

four_cleared : (id : ℕ) (v : Verdict) (d : ℕ) → d ≤ 3 → cleared (four_bytes id v d) ≡ four_bytes id v 0
four_cleared id v d l =
    let m = id * 2 ^ 20 + v.rule * 2 ^ 17 + v.required in
    let full : pack (10 ∷ 3 ∷ 17 ∷ 2 ∷ []) (id ∷ v.rule ∷ v.required ∷ d ∷ []) ≡ 4 * m + d = omega arith in
    let bare : pack (10 ∷ 3 ∷ 17 ∷ 2 ∷ []) (id ∷ v.rule ∷ v.required ∷ 0 ∷ []) ≡ 4 * m = omega arith in
    ap (λ (n : ℕ). cleared (unpack (bytes 4) n)) full ∙ cleared_bytes m d l ∙ ap (unpack (bytes 4)) (sym bare)

all_cleared : (h : Header) (rs : List Record) (rest : List ℕ) → cleared_first (length rs) (verdict_bytes source_of h rs ++ rest) ≡ verdict_bytes zero2 h rs ++ rest
unfolding cleared_first verdict_bytes
all_cleared h [] rest = refl
all_cleared h (r ∷ rs) rest =
    ap₂ (λ (a b : List ℕ). a ++ b) (four_cleared r.id (verdict h r) (source_of h r) (source_most h r)) (all_cleared h rs rest)

-- ---- a sheet that does not name version 2

module _ (s : List ℕ) (other : version_named s ≡ 2 → ⊥) where
  module _ (room : ℕ) (t : Sheet) (e : sheet_in s room ≡ given t) where
    bare : t.header.own ≡ One
    bare = own_none s other t.header (sheet_whole s room t e).header.read

    verdicts_unmoved : bytes_of (verdicts t) ≡ verdict_bytes source_of t.header t.records
    unfolding verdicts
    verdicts_unmoved = bytes_same t.header bare t.records

    failed_unmoved : failures (verdicts t) ≡ failed t.header t.records
    unfolding verdicts
    failed_unmoved = failed_same t.header bare t.records

  -- the answer is the document's
  pub answer_unmoved : (room : ℕ) → answer_of s room ≡ answer01 s room
  unfolding answer_of answer01 ◌then◌
  answer_unmoved room = go (sheet_in s room) refl
    where
      go : (x : Answer Sheet) → sheet_in s room ≡ x → answer_of s room ≡ answer01 s room
      go (refused k p) e = rw (e, sym (sheet_unmoved s other room) ∙ e)
      go (given t) e =
          rw (e, sym (sheet_unmoved s other room) ∙ e) (ap (λ (f : ℕ). given (record { n = t.header.count; failed = f })) (failed_unmoved room t e))

  -- and so is every byte of the output, the sources in their two bits
  pub output_unmoved : (out : List ℕ) → output_of s out ≡ output01 source_of s out
  unfolding output_of output01
  output_unmoved out = go (sheet_in s (length out)) refl ∙ ap (λ (x : Answer Sheet). written source_of x out) (sheet_unmoved s other (length out))
    where
      go : (x : Answer Sheet) → sheet_in s (length out) ≡ x → output_by (sheet_in s (length out)) out ≡ written source_of (sheet_in s (length out)) out
      go (refused k p) e = rw e
      go (given t) e = rw e (ap (λ (b : List ℕ). b ++ drop (4 * t.header.count) out) (verdicts_unmoved (length out) t e))

  -- which, with 0 there, is the document's own
  pub output_cleared : (out : List ℕ) → cleared_first (verdicts_left (answer_of s (length out))) (output_of s out) ≡ output01 zero2 s out
  unfolding answer_of output_of output01 ◌then◌ cleared_first
  output_cleared out = go (sheet_in s (length out)) refl ∙ ap (λ (x : Answer Sheet). written zero2 x out) (sheet_unmoved s other (length out))
    where
      go : (x : Answer Sheet) → sheet_in s (length out) ≡ x
          → cleared_first (verdicts_left (answer_of s (length out))) (output_of s out) ≡ written zero2 (sheet_in s (length out)) out
      go (refused k p) e = rw e
      go (given t) e =
          let rest = drop (4 * t.header.count) out in
          rw e
          (ap₂ cleared_first (sym (sheet_whole s (length out) t e).number) (ap (λ (b : List ℕ). b ++ rest) (verdicts_unmoved (length out) t e))
          ∙ all_cleared t.header t.records rest)

-- the premise holds for the document's example
pub example_unmoved : (answer_of example 9 ≡ answer01 example 9) × (output_of example lent ≡ output01 source_of example lent)
example_unmoved = let other : version_named example ≡ 2 → ⊥ = λ e. omega (arith, e) in (answer_unmoved example other 9, output_unmoved example other lent)

-- of which document 01 computes what it prints, 7 3 617, 12 5 567, 2 2; the ninth byte is as it was lent
pub example_01 : (answer01 example 9 ≡ given (record { n = 2; failed = 2 }))
    × (output01 zero2 example lent ≡ (four_bytes 7 (record { rule = 3; required = 617 }) 0 ++ (four_bytes 12 (record { rule = 5; required = 567 }) 0 ++ (170 ∷ []))))
unfolding first_from least_in ceil_of rules.sea rules.on_bottom rules.on_inner rules.on_deep rules.q rules.K2 rules.rule4 rules.rule5 rules.rule6 rules.verdict verdict_bytes failed answer01 output01 doc.sheet_in doc.header_in doc.records_in doc.record_in ◌then◌
example_01 = (refl, refl)
