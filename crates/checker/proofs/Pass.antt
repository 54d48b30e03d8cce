-- The pass: what one record comes to, one turn, and the whole.
-- Assumes nothing.
use Prim.Native.Nat.{ℕ, suc, ◌+◌, ◌-◌, ◌≤◌, ◌<◌}
use mathlib.Core.Path.{◌≡◌, refl, sym, ap, ap₂, ◌∙◌}
use mathlib.Core.List.{List, [], ◌∷◌, ◌++◌, map, append_assoc, append-nil}
use native.Mathlib.Omega.{arith}
use native.Mathlib.Nat.{sub-zero, zero-add, add-zero}
use native.Mathlib.Numerals.{add-one}
use lib.ListN.{length, take, drop, set, take-append-drop}
use lib.Seq.{take-suc-set, drop-set-lt}
use Rattle.layout.specs.Bytes.{read_of}
use Rattle.sheet.specs.declared.Header.{Header}
use Rattle.sheet.specs.declared.Record.{Record}
use Rattle.sheet.specs.declared.Raw.{Raw}
use Rattle.sheet.specs.Refusals.{Answer, given, refused}
use Rattle.sheet.specs.laws.RefusalLaws.{given_refused, refused_number, refused_place, given_same}
use Rattle.sheet.specs.Header.{header_fault}
use Rattle.sheet.specs.Record.{record_fault, read_record, raw_at}
use Rattle.sheet.specs.laws.RecordBack.{record_read_fine, record_read_raw}
use Rattle.verdict.specs.Judged.{Finding, judged_by}
use Rattle.verdict.specs.laws.JudgedLaws.{given_sound, sound_given}
use Rattle.hull.specs.Hull.{finding}
use Rattle.checker.specs.declared.Entry.{Entry}
use Rattle.checker.specs.Entry.{entry_fault, entry_number}
use Rattle.checker.specs.Check.{◌then◌, record_part, parts_from, sound_after, records_in, entry_with, entry_of, failing, failures}
use Rattle.checker.specs.laws.ThenLaws.{then_given}
use Rattle.checker.specs.laws.CheckLaws.{sound_read}
use Rattle.checker.specs.Passes.{Refuses, judged_after, Pass, pass_over}
use Rattle.checker.specs.laws.Sound.{entry_sound}
use Rattle.checker.proofs.Faults.{record_good}

-- ---- one record

module _ (h : Header) (i before : ℕ) (b : List ℕ) where
  pub judged_refused : (k p : ℕ) → refused k p ≡ sound_after i before b → refused k p ≡ judged_after h i before b
  unfolding judged_after ◌then◌
  judged_refused k p e = rw (sym e)

  -- what a verdict that is given is
  pub judged_sound : (e : Entry) → given e ≡ judged_after h i before b → (r : Record) × (sound_after i before b ≡ given r) × (e ≡ entry_of h r)
  unfolding judged_after
  judged_sound e g = let a = then_given (sound_after i before b) _ e (sym g) in (a.0, a.1, sym (given_same a.2))

  -- by the record as it stands in the bytes
  module _ (w : Raw) (taken : w ≡ raw_at (read_of 16 b)) where
    -- where the reader gives a record
    read_as : (r : Record) → sound_after i before b ≡ given r → (w ≡ record { values = r; spare = 0 }) × (record_fault r 0 ≡ 0) × (before < r.id)
    read_as r e =
        let s = sound_read i before b r e in
        let a = (record_read_raw i b r).0 s.0 in
        (taken ∙ a.0, a.1, s.1)

    pub spare_refused : (w.spare ≡ 0 → ⊥) → Refuses (sound_after i before b)
    spare_refused n r e = n (ap (λ (x : Raw). x.spare) (read_as r e).0)

    pub order_refused : w.values.id ≤ before → Refuses (sound_after i before b)
    order_refused l r e = let a = read_as r e in omega (arith, ap (λ (x : Raw). x.values.id) a.0, a.2)

    module _ (z : header_fault h ≡ 0) where
      pub judging_refused : (k p : ℕ) → refused k p ≡ judged_by h w.values (finding h w.values) → Refuses (sound_after i before b)
      judging_refused k p g r e =
          let a = read_as r e in
          let same : w.values ≡ r = ap (λ (x : Raw). x.values) a.0 in
          given_refused (sym (g ∙ ap (λ (q : Record). judged_by h q (finding h q)) same ∙ sound_given h r (finding h r) (record { header = z; body = a.1 })))

      pub judged_good : (f : Finding) → w.spare ≡ 0 → before < w.values.id → given f ≡ judged_by h w.values (finding h w.values) → (e : Entry) → e ≡ entry_with w.values.id f
          → given e ≡ judged_after h i before b
      unfolding judged_after ◌then◌ entry_of
      judged_good f n l g e is =
          let r = w.values in
          let s = given_sound h r (finding h r) f (sym g) in
          let same : f ≡ finding h r = given_same (g ∙ sound_given h r (finding h r) s) in
          let bare : raw_at (read_of 16 b) ≡ record { values = r; spare = 0 } = sym taken ∙ ap (λ (t : ℕ). record { values = r; spare = t }) n in
          let read : read_record i b ≡ given r = (record_read_raw i b r).1 (bare, s.body) in
          rw (sym (record_good i before b r (sym read) l)) (ap given (is ∙ ap (entry_with r.id) same))

-- ---- a turn

-- the records from record i on, of n
unfoldable pub rest : ℕ → List ℕ → ℕ → List (List ℕ)
rest n s i = parts_from s i (n - i)

pub rest_step : (n : ℕ) (s : List ℕ) (i : ℕ) → i < n → rest n s i ≡ record_part s i ∷ rest n s (i + 1)
unfolding parts_from rest
rest_step n s i l =
    let m : n - i ≡ suc (n - (i + 1)) = omega arith in
    rw m

pub rest_none : (n : ℕ) (s : List ℕ) (i : ℕ) → n ≤ i → rest n s i ≡ []
unfolding parts_from rest
rest_none n s i l =
    let m : n - i ≡ 0 = omega arith in
    rw m

-- the pass with the verdicts that are left: so many have failed before them, and the draft holds those up to record i
abbrev pass_with : (n i failed : ℕ) → List ℕ → List Entry → Pass
pass_with n i failed draft es = record { failed = failed + failures es; draft = take i draft ++ map entry_number es ++ drop n draft }

-- what the pass comes to from record i on
unfoldable pub pass_from : (n : ℕ) → Header → List ℕ → (i before failed : ℕ) → List ℕ → Answer Pass
pass_from n h s i before failed draft = records_in i before (rest n s i) then λ rs. given (pass_with n i failed draft (map (entry_of h) rs))

-- two steps that go on alike
then_same : {A B : Type 0} (x : Answer A) (f g : A → Answer B) → ((a : A) → f a ≡ g a) → (x then f) ≡ (x then g)
unfolding ◌then◌
then_same (given a) f g e = e a
then_same (refused k p) f g e = refl

-- what was given and made into another, and then goes on
then_then : {A B C : Type 0} (x : Answer A) (f : A → B) (g : B → Answer C) → ((x then λ a. given (f a)) then g) ≡ (x then λ a. g (f a))
unfolding ◌then◌
then_then (given a) f g = refl
then_then (refused k p) f g = refl

-- at the start it is the whole
pub pass_start : (h : Header) (s draft : List ℕ) → pass_from h.count h s 0 0 0 draft ≡ pass_over h s draft
unfolding pass_from pass_over rest
pass_start h s draft = rw sub-zero (then_same (records_in 0 0 (parts_from s 0 h.count)) _ _ (λ rs. rw zero-add))

-- the verdict on a sound record stands in front of those that are left
pass_step : (n : ℕ) (h : Header) (s : List ℕ) (i before failed : ℕ) (draft : List ℕ) → i < n → (r : Record) → sound_after i before (record_part s i) ≡ given r
    → pass_from n h s i before failed draft ≡ (records_in (i + 1) r.id (rest n s (i + 1)) then λ rs. given (pass_with n i failed draft (entry_of h r ∷ map (entry_of h) rs)))
unfolding pass_from records_in ◌then◌
pass_step n h s i before failed draft more r e =
    rw (rest_step n s i more, e)
    (then_then (records_in (i + 1) r.id (rest n s (i + 1))) (λ rs. r ∷ rs) (λ rs. given (pass_with n i failed draft (map (entry_of h) rs))))

-- what it comes to in all is what it comes to from record i on
module _ (n : ℕ) (h : Header) (s : List ℕ) (i before failed : ℕ) (draft : List ℕ) {all : Answer Pass} (left : pass_from n h s i before failed draft ≡ all) where
  -- a record that is turned away ends it
  pub pass_refused : (k p : ℕ) → i < n → refused k p ≡ judged_after h i before (record_part s i) → refused k p ≡ all
  unfolding pass_from judged_after records_in ◌then◌
  pass_refused k p more e = rw (rest_step n s i more) (go (sound_after i before (record_part s i)) e) ∙ left
    where
      go : (x : Answer Record) → refused k p ≡ (x then λ r. given (entry_of h r))
          → refused k p ≡ ((x then λ r. records_in (i + 1) r.id (rest n s (i + 1)) then λ rs. given (r ∷ rs)) then λ rs. given (pass_with n i failed draft (map (entry_of h) rs)))
      go (given r) g = given_refused (sym g)
      go (refused l q) g = ap₂ refused (refused_number g) (refused_place g)

  -- after the last there is nothing to add
  pub pass_end : i ≡ n → given (record { failed = failed; draft = draft }) ≡ all
  unfolding pass_from records_in ◌then◌ failures
  pass_end e =
      let l : n ≤ i = omega arith in
      let nothing : given (record { failed = failed; draft = draft }) ≡ pass_from n h s i before failed draft = rw (rest_none n s i l, e, append-nil, take-append-drop, add-zero) in
      nothing ∙ left

  -- a verdict is kept
  module _ (more : i < n) (e : Entry) (judged : given e ≡ judged_after h i before (record_part s i)) where
    sound : (r : Record) × (sound_after i before (record_part s i) ≡ given r) × (e ≡ entry_of h r)
    sound = judged_sound h i before (record_part s i) e judged

    pub writable : entry_fault e ≡ 0
    writable =
        let r = sound.0 in
        let a = sound_read i before (record_part s i) r sound.1 in
        ap entry_fault sound.2 ∙ entry_sound h r (record_read_fine i (record_part s i) r a.0)

    step : pass_from n h s i before failed draft ≡ (records_in (i + 1) e.id (rest n s (i + 1)) then λ rs. given (pass_with n i failed draft (e ∷ map (entry_of h) rs)))
    unfolding entry_of
    step =
        pass_step n h s i before failed draft more sound.0 sound.1
        ∙ ap (λ (x : Entry). records_in (i + 1) x.id (rest n s (i + 1)) then λ rs. given (pass_with n i failed draft (x ∷ map (entry_of h) rs))) (sym sound.2)

    -- its number has its place in the draft
    module _ (next : List ℕ) (stored : next ≡ set draft i (entry_number e)) (room : n ≤ length draft) (more_failed : ℕ) (counted : more_failed ≡ failing e) where
      draft_turn : (ns : List ℕ) → take (i + 1) next ++ ns ++ drop n next ≡ take i draft ++ (entry_number e ∷ ns) ++ drop n draft
      draft_turn ns = rw (stored, add-one, take-suc-set draft i (entry_number e) (omega arith), drop-set-lt n draft i (entry_number e) more) (simp append_assoc)

      failures_turn : (es : List Entry) → failed + more_failed + failures es ≡ failed + failures (e ∷ es)
      unfolding failures
      failures_turn es = omega arith

      pub pass_turn : pass_from n h s (i + 1) e.id (failed + more_failed) next ≡ all
      unfolding pass_from
      pass_turn =
          then_same (records_in (i + 1) e.id (rest n s (i + 1))) _ _
          (λ rs. ap₂ (λ (k : ℕ) (d : List ℕ). given (record { failed = k; draft = d })) (failures_turn (map (entry_of h) rs)) (draft_turn (map entry_number (map (entry_of h) rs))))
          ∙ sym step
          ∙ left
