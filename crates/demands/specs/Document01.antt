-- The checker of document 01, whole: what it answers and what it leaves in the output. No request changes this file, nor the two with the sheet
-- (Document01Sheet.antt) and with the rules (Document01Rules.antt). The document has zero in a verdict's last two bits, where the source came later; so what stands
-- there is left to whoever names this checker: `zero2` is the document's.
use Rattle.std.specs.Prelude.{ℕ, ◌+◌, ◌*◌, cond, List, [], ◌∷◌, ◌++◌, length, drop, eqb}
use Rattle.layout.specs.Layout.{pack, unpack, bytes}
use Rattle.sheet.specs.declared.Header.{Header}
use Rattle.sheet.specs.declared.Record.{Record}
use Rattle.sheet.specs.Refusals.{Answer, given, refused}
use Rattle.checker.specs.Check.{◌then◌, Sheet, Totals}
use Rattle.verdict.specs.declared.Verdict.{Verdict}
use Rattle.demands.specs.Document01Sheet.{sheet_in}
use Rattle.demands.specs.Document01Rules.{verdict}

-- a verdict is 32 bits: id 10, rule 3, required 17, and the last 2, in four bytes
abbrev pub four_bytes : (id : ℕ) → Verdict → (last : ℕ) → List ℕ
four_bytes id v last = unpack (bytes 4) (pack (10 ∷ 3 ∷ 17 ∷ 2 ∷ []) (id ∷ v.rule ∷ v.required ∷ last ∷ []))

-- zero 2
abbrev pub zero2 : Header → Record → ℕ
zero2 h r = 0

-- each verdict in its own four bytes
unfoldable pub verdict_bytes : (last : Header → Record → ℕ) → Header → List Record → List ℕ
verdict_bytes last h [] = []
verdict_bytes last h (r ∷ rs) = four_bytes r.id (verdict h r) (last h r) ++ verdict_bytes last h rs

-- the number of failed records: of verdicts with a rule
unfoldable pub failed : Header → List Record → ℕ
failed h [] = 0
failed h (r ∷ rs) = cond (eqb (verdict h r).rule 0) 0 1 + failed h rs

-- a check that is not refused gives n and the number of failed records
unfoldable pub answer01 : List ℕ → (room : ℕ) → Answer Totals
answer01 s room = sheet_in s room then λ t. given (record { n = t.header.count; failed = failed t.header t.records })

-- on a refusal the output's bytes stay as lent; else its first 4n bytes are written and no others
abbrev pub written : (last : Header → Record → ℕ) → Answer Sheet → List ℕ → List ℕ
written last (given t) out = verdict_bytes last t.header t.records ++ drop (4 * t.header.count) out
written last (refused k p) out = out

unfoldable pub output01 : (last : Header → Record → ℕ) → List ℕ → List ℕ → List ℕ
output01 last s out = written last (sheet_in s (length out)) out
