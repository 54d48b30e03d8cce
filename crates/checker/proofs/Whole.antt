-- The whole check: which answer it gives in each case, and what it leaves in the output.
-- Assumes nothing.
use Rattle.std.specs.Prelude.{Err}
use Prim.Native.Nat.{ℕ, ◌*◌, ◌≤◌}
use native.Mathlib.Omega.{arith}
use mathlib.Core.Path.{◌≡◌, sym, ap, ap₂, ◌∙◌}
use mathlib.Core.List.{List, ◌++◌, map}
use lib.ListN.{length, take, drop, length-map, length-drop}
use lib.Seq.{take_at}
use Rattle.sheet.specs.declared.Header.{Header}
use Rattle.sheet.specs.declared.Record.{Record}
use Rattle.sheet.specs.declared.Refusal.{Refusal}
use Rattle.sheet.specs.Refusals.{Answer, given, refused, told}
use Rattle.sheet.specs.laws.RefusalLaws.{given_refused, refused_number, refused_place, given_same}
use Rattle.sheet.specs.Versions.{most_records}
use Rattle.sheet.specs.Header.{header_size}
use Rattle.sheet.specs.laws.HeaderLaws.{header_ranges}
use Rattle.sheet.specs.laws.HeaderBack.{header_read_fine}
use Rattle.checker.specs.Entry.{entry_number}
use Rattle.checker.specs.Check.{◌then◌, header_for, records_part, parts_from, records_in, Sheet, sheet_in, entry_of, verdicts, bytes_of, answer_of, Checks, tallied}
use Rattle.checker.specs.laws.ThenLaws.{then_given}
use Rattle.checker.specs.laws.FrontLaws.{header_fits}
use Rattle.checker.specs.laws.CheckLaws.{taken, answer_done, output_done, refused_as_lent}
use Rattle.checker.specs.Passes.{Ready, Pass, pass_of, pass_over, number_bytes}
use Rattle.checker.proofs.Parts.{entries_bytes}

-- ---- what the table says

module _ (s : List ℕ) (room : ℕ) where
  pub at_header : (k p : ℕ) → refused k p ≡ header_for s room → sheet_in s room ≡ refused k p
  unfolding sheet_in ◌then◌
  at_header k p e = rw (sym e)

  module _ (h : Header) (read : given h ≡ header_for s room) where
    -- the draft has room for the verdicts of every sheet
    pub few : h.count ≤ most_records
    few = omega (arith, (header_ranges h (header_read_fine s h (header_fits s room h (sym read)).read)).count_few)

    -- the pass can start on a draft that has room for them
    pub ready : (size : ℕ) → h.count ≤ size → Ready h (records_part h s) size
    ready size l =
        let f = header_fits s room h (sym read) in
        record { header = header_read_fine s h f.read; whole = omega (arith, length-drop (header_size h) s, f.whole); fits = l }

    pub at_records : (draft : List ℕ) (k p : ℕ) → refused k p ≡ pass_over h (records_part h s) draft → sheet_in s room ≡ refused k p
    unfolding sheet_in pass_over ◌then◌
    at_records draft k p e = rw (sym read) (go (records_in 0 0 (parts_from (records_part h s) 0 h.count)) e)
      where
        go : (x : Answer (List Record)) → refused k p ≡ (x then λ rs. given (pass_of h.count (map (entry_of h) rs) draft))
            → ◌then◌ {B = Sheet} x (λ rs. given (record { header = h; records = rs })) ≡ refused k p
        go (given rs) g = given_refused (sym g)
        go (refused l q) g = ap₂ refused (sym (refused_number g)) (sym (refused_place g))

    sheet_given : (rs : List Record) → records_in 0 0 (parts_from (records_part h s) 0 h.count) ≡ given rs → sheet_in s room ≡ given (record { header = h; records = rs })
    unfolding sheet_in ◌then◌
    sheet_given rs e = rw (sym read, e)

-- ---- what the code does

module _ (s out : List ℕ) where
  pub refused_checks : (x : Refusal) → sheet_in s (length out) ≡ told x → Checks s out (Err x) out
  unfolding answer_of ◌then◌
  refused_checks x e = record { answer = rw e; bytes = sym (refused_as_lent s out _ _ e) }

  -- the draft's verdicts are written into the output
  module _ (h : Header) (read : given h ≡ header_for s (length out)) (draft : List ℕ) (failed : ℕ) (drawn after : List ℕ) (wrote : after ≡ number_bytes (take h.count drawn) ++ drop (4 * h.count) out) where
    given_checks : (rs : List Record) → records_in 0 0 (parts_from (records_part h s) 0 h.count) ≡ given rs → pass_of h.count (map (entry_of h) rs) draft ≡ record { failed = failed; draft = drawn }
        → Checks s out (tallied h.count failed) after
    unfolding verdicts
    given_checks rs found pass =
        let es = map (entry_of h) rs in
        let size = 4 * h.count in
        let whole = sheet_given s (length out) h read rs found in
        let ns = map entry_number es in
        let sized : length ns ≡ h.count = length-map es entry_number ∙ length-map rs (entry_of h) ∙ (taken (records_part h s) h.count 0 0 rs found).1 in
        let kept : take h.count drawn ≡ ns = ap (λ (p : Pass). take h.count p.draft) (sym pass) ∙ take_at ns (drop h.count draft) h.count sized in
        let front : number_bytes (take h.count drawn) ≡ bytes_of es = ap number_bytes kept ∙ entries_bytes es in
        record {
          answer = ap (λ (p : Pass). given (record { n = h.count; failed = p.failed })) (sym pass) ∙ sym (answer_done s out _ whole);
          bytes = wrote ∙ ap (λ (l : List ℕ). l ++ drop size out) front ∙ sym (output_done s out _ whole);
        }

    pub done_checks : given (record { failed = failed; draft = drawn }) ≡ pass_over h (records_part h s) draft → Checks s out (tallied h.count failed) after
    unfolding pass_over
    done_checks e =
        let a = then_given (records_in 0 0 (parts_from (records_part h s) 0 h.count)) _ _ (sym e) in
        given_checks a.0 a.1 (given_same a.2)
