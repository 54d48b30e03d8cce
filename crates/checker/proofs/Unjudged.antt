-- A sheet that is not judged: the records in turn, and the whole.
-- Assumes nothing.
use Prim.Native.Nat.{ℕ, ◌+◌, ◌≤◌, ◌<◌}
use mathlib.Core.Path.{◌≡◌, refl, sym, ap, ap₂, ◌∙◌}
use mathlib.Core.List.{List, ◌∷◌}
use native.Mathlib.Nat.{sub-zero}
use Rattle.sheet.specs.declared.Header.{Header}
use Rattle.sheet.specs.declared.Record.{Record}
use Rattle.sheet.specs.Refusals.{Answer, given, refused}
use Rattle.sheet.specs.laws.RefusalLaws.{given_refused, refused_number, refused_place}
use Rattle.checker.specs.Check.{◌then◌, header_for, records_part, record_part, parts_from, sound_after, records_in, Sheet, sheet_in}
use Rattle.checker.specs.Unjudged.{room, sound_sheet, sound_header, records_sound}
use Rattle.checker.proofs.Pass.{rest, rest_step, rest_none}

-- ---- the records in turn

-- rows 6 to 8 over the records from record i on, of n
unfoldable pub sound_from : (n : ℕ) → List ℕ → (i before : ℕ) → Answer (Unit {0})
sound_from n s i before = records_in i before (rest n s i) then λ rs. given tt

pub sound_start : (n : ℕ) (s : List ℕ) → sound_from n s 0 0 ≡ records_sound s n
unfolding sound_from records_sound rest
sound_start n s = rw sub-zero

module _ (n : ℕ) (s : List ℕ) (i before : ℕ) where
  pub sound_refused : i < n → (k p : ℕ) → refused k p ≡ sound_after i before (record_part s i) → refused k p ≡ sound_from n s i before
  unfolding sound_from records_in ◌then◌
  sound_refused more k p e = rw (rest_step n s i more, sym e)

  pub sound_turn : i < n → (r : Record) → given r ≡ sound_after i before (record_part s i) → sound_from n s (i + 1) r.id ≡ sound_from n s i before
  unfolding sound_from records_in ◌then◌
  sound_turn more r e = go (records_in (i + 1) r.id (rest n s (i + 1))) ∙ ap (λ (x : Answer (List Record)). x then λ rs. given tt) (sym step)
    where
      step : records_in i before (rest n s i) ≡ (records_in (i + 1) r.id (rest n s (i + 1)) then λ rs. given (r ∷ rs))
      step = rw (rest_step n s i more, sym e)

      go : (x : Answer (List Record)) → (x then λ rs. given (tt {0})) ≡ ((x then λ rs. given (r ∷ rs)) then λ rs. given tt)
      go (given rs) = refl
      go (refused k p) = refl

  pub sound_end : n ≤ i → given tt ≡ sound_from n s i before
  unfolding sound_from records_in ◌then◌
  sound_end done = rw (rest_none n s i done)

-- ---- the whole

module _ (s : List ℕ) where
  pub header_refused_lem : (k p : ℕ) → refused k p ≡ header_for s room → refused k p ≡ sound_header s
  unfolding sound_header sound_sheet sheet_in ◌then◌
  header_refused_lem k p e = rw (sym e)

  module _ (h : Header) (read : given h ≡ header_for s room) where
    pub records_refused : (k p : ℕ) → refused k p ≡ records_sound (records_part h s) h.count → refused k p ≡ sound_header s
    unfolding sound_header sound_sheet sheet_in records_sound ◌then◌
    records_refused k p e = rw (sym read) (go (records_in 0 0 (parts_from (records_part h s) 0 h.count)) e)
      where
        go : (x : Answer (List Record)) → refused k p ≡ (x then λ rs. given (tt {0}))
            → refused k p ≡ ((x then λ rs. given (record { header = h; records = rs })) then λ (t : Sheet). given t.header)
        go (given rs) g = given_refused (sym g)
        go (refused l q) g = ap₂ refused (refused_number g) (refused_place g)

    pub all_sound : given tt ≡ records_sound (records_part h s) h.count → given h ≡ sound_header s
    unfolding sound_header sound_sheet sheet_in records_sound ◌then◌
    all_sound e = rw (sym read) (go (records_in 0 0 (parts_from (records_part h s) 0 h.count)) e)
      where
        go : (x : Answer (List Record)) → given (tt {0}) ≡ (x then λ rs. given tt)
            → given h ≡ ((x then λ rs. given (record { header = h; records = rs })) then λ (t : Sheet). given t.header)
        go (given rs) g = refl
        go (refused l q) g = given_refused g
