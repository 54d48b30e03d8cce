-- What the table without 5 refuses a sheet with: never with 5, not with 1 where the header is read, and with 9 exactly where the hull is too slender.
-- Assumes nothing.
use Rattle.std.specs.Prelude.{ℕ, ◌+◌, ◌*◌, ◌≤◌, ◌≡◌, refl, Bool, true, false, not, cond, List, [], ◌∷◌, length, leb, ltb, eqb}
use Rattle.std.proofs.Common.{sym, ap, ◌∙◌, arith, length-drop, leb-false}
use Rattle.std.proofs.lemmas.Bool.{not-false}
use Rattle.truth.specs.laws.Tests.{clash}
use Rattle.sheet.specs.declared.Header.{Header}
use Rattle.sheet.specs.declared.Record.{Record}
use Rattle.sheet.specs.Refusals.{Answer, given, refused}
use Rattle.sheet.specs.laws.RefusalLaws.{given_refused, given_same, refused_number, refused_place}
use Rattle.sheet.specs.Header.{header_size, read_header}
use Rattle.sheet.specs.Slender.{too_slender}
use Rattle.sheet.specs.laws.HeaderLaws.{header_ranges}
use Rattle.sheet.specs.laws.HeaderBack.{header_read_fine}
use Rattle.sheet.specs.laws.HeaderExactly.{header_read_others}
use Rattle.sheet.specs.Record.{read_record}
use Rattle.sheet.specs.Exactly.{Exactly}
use Rattle.sheet.specs.laws.RecordExactly.{record_read_1, record_read_others}
use Rattle.checker.specs.Check.{◌then◌, demand, sheet_header, sheet_size, header_for, records_part, parts_from, sound_after, records_in, sheet_in}
use Rattle.checker.specs.laws.ThenLaws.{refused_as, stays}
use Rattle.checker.specs.laws.FrontLaws.{header_slim, header_fits, header_refused_lem, header_slender}
use Rattle.checker.specs.Unjudged.{room, sound_sheet}
use Rattle.checker.specs.laws.Parts.{Wide, parts_wide}

-- an answer that is not refusal m
abbrev pub Not : {A : Type 0} → ℕ → Answer A → Type 0
Not m x = (p : ℕ) → x ≡ refused m p → ⊥

then_not : {A B : Type 0} (m : ℕ) (x : Answer A) (next : A → Answer B) → Not m x → ((a : A) → x ≡ given a → Not m (next a)) → Not m (x then next)
unfolding ◌then◌
then_not m (given a) next f g = g a refl
then_not m (refused k q) next f g = λ p e. f p (refused_as e)

demand_not : (m : ℕ) (t : Bool) (k : ℕ) → (t ≡ false → k ≡ m → ⊥) → Not m (demand t k)
unfolding demand
demand_not m true k n p e = given_refused e
demand_not m false k n p e = n refl (refused_number e)

-- a number that no record of sixteen bytes is refused with
records_not : (m : ℕ) → (m ≡ 8 → ⊥) → ((i : ℕ) (b : List ℕ) → 16 ≤ length b → Not m (read_record i b)) → (i before : ℕ) (ps : List (List ℕ)) → Wide ps → Not m (records_in i before ps)
unfolding records_in sound_after
records_not m n f i before [] w = λ p e. given_refused e
records_not m n f i before (b ∷ ps) w =
    then_not m (sound_after i before b) _
    (then_not m (read_record i b) _ (f i b (omega (arith, w.0))) (λ r e. in_order r (ltb before r.id)))
    (λ r e. then_not m (records_in (i + 1) r.id ps) _ (records_not m n f (i + 1) r.id ps w.1) (λ rs g p h. given_refused h))
  where
    in_order : (r : Record) (t : Bool) → Not m (cond t (given r) (refused 8 i))
    in_order r true p e = given_refused e
    in_order r false p e = n (sym (refused_number e))

-- nor a sheet whose header is not
pub sheet_not : (m : ℕ) (s : List ℕ) → (m ≡ 8 → ⊥) → ((i : ℕ) (b : List ℕ) → 16 ≤ length b → Not m (read_record i b)) → Not m (header_for s room) → Not m (sound_sheet s)
unfolding sound_sheet sheet_in
sheet_not m s n f g =
    then_not m (header_for s room) _ g
    (λ h e. then_not m (records_in 0 0 (parts_from (records_part h s) 0 h.count)) _
    (records_not m n f 0 0 (parts_from (records_part h s) 0 h.count)
    (parts_wide (records_part h s) 0 h.count (omega (arith, (header_fits s room h e).whole, length-drop (header_size h) s))))
    (λ rs u p v. given_refused v))

header_not : (m : ℕ) (s : List ℕ) → ((h : Header) → read_header s ≡ given h → too_slender h ≡ true → m ≡ 9 → ⊥) → (m ≡ 4 → ⊥) → Not m (read_header s)
    → ((h : Header) → read_header s ≡ given h → leb (4 * h.count) room ≡ false → m ≡ 5 → ⊥) → Not m (header_for s room)
unfolding header_for sheet_header
header_not m s o n f g =
    then_not m (sheet_header s) _
    (then_not m (read_header s) _ f (λ h e. then_not m (demand (not (too_slender h)) 9) _ (demand_not m _ 9 (λ x z. o h e (not-false (too_slender h) x) (sym z))) (λ u w p q. given_refused q)))
    (λ h e. then_not m (demand (eqb (length s) (sheet_size h)) 4) _ (demand_not m _ 4 (λ x z. n (sym z)))
    (λ u w. then_not m (demand (leb (4 * h.count) room) 5) _ (demand_not m _ 5 (λ x z. g h (header_slim s h e).0 x (sym z))) (λ v y p q. given_refused q)))

-- a sheet whose header is read is not refused with 1
pub headed_not : (s : List ℕ) (g : Header) → read_header s ≡ given g → Not 1 (sound_sheet s)
headed_not s g read =
    sheet_not 1 s (λ z. omega arith) (λ i b m p e. omega (arith, ((record_read_1 i b p).0 e).0))
    (header_not 1 s (λ h e x z. omega arith) (λ z. omega arith) (λ p e. given_refused (sym read ∙ e)) (λ h e x z. omega arith))

-- and 5 is never given: the table's own is taken without it
pub never_5 : (s : List ℕ) → Not 5 (sound_sheet s)
never_5 s =
    sheet_not 5 s (λ z. omega arith) (λ i b m p. record_read_others i b 5 p (λ z. omega arith) (λ z. omega arith) (λ z. omega arith))
    (header_not 5 s (λ h e x z. omega arith) (λ z. omega arith) (λ p. header_read_others s 5 p (λ z. omega arith) (λ z. omega arith) (λ z. omega arith))
    (λ h e x z. omega (arith, leb-false (4 * h.count) room x, (header_ranges h (header_read_fine s h e)).count_few)))

-- ---- what turns the front of a sheet away turns the sheet away

front_refused : (s : List ℕ) (k p : ℕ) → header_for s room ≡ refused k p → sound_sheet s ≡ refused k p
unfolding sound_sheet sheet_in
front_refused s k p e = stays (header_for s room) _ k p e

pub under : (s : List ℕ) (k p : ℕ) → read_header s ≡ refused k p → sound_sheet s ≡ refused k p
under s k p e = front_refused s k p (header_refused_lem s room k p e)

-- ---- 9

slender_refused : (s : List ℕ) (h : Header) → read_header s ≡ given h → too_slender h ≡ true → sound_sheet s ≡ refused 9 0
slender_refused s h e slender = front_refused s 9 0 (header_slender s room h e slender)

slim_not_9 : (s : List ℕ) (h : Header) → read_header s ≡ given h → too_slender h ≡ false → Not 9 (sound_sheet s)
slim_not_9 s h read slim =
    sheet_not 9 s (λ z. omega arith) (λ i b m q. record_read_others i b 9 q (λ z. omega arith) (λ z. omega arith) (λ z. omega arith))
    (header_not 9 s (λ g e x z. clash x (ap (λ (a : Header). too_slender a) (given_same (sym e ∙ read)) ∙ slim)) (λ z. omega arith)
    (λ q e. given_refused (sym read ∙ e))
    (λ g e x z. omega arith))

pub sheet_9 : (s : List ℕ) (p : ℕ) → Exactly (sound_sheet s ≡ refused 9 p) ((h : Header) × (read_header s ≡ given h) × (too_slender h ≡ true) × (p ≡ 0))
sheet_9 s p = (λ e. by_header e (read_header s) refl, λ z. slender_refused s z.0 z.1 z.2 ∙ ap (refused 9) (sym z.3))
  where
    by_test : sound_sheet s ≡ refused 9 p → (h : Header) → read_header s ≡ given h → (t : Bool) → too_slender h ≡ t → (g : Header) × (read_header s ≡ given g) × (too_slender g ≡ true) × (p ≡ 0)
    by_test e h f true x = (h, f, x, refused_place (sym e ∙ slender_refused s h f x))
    by_test e h f false x = absurd (slim_not_9 s h f x p e)

    by_header : sound_sheet s ≡ refused 9 p → (x : Answer Header) → read_header s ≡ x → (h : Header) × (read_header s ≡ given h) × (too_slender h ≡ true) × (p ≡ 0)
    by_header e (given h) f = by_test e h f (too_slender h) refl
    by_header e (refused k q) f =
        let nine : 9 ≡ k = refused_number (sym e ∙ under s k q f) in
        absurd (header_read_others s 9 q (λ z. omega arith) (λ z. omega arith) (λ z. omega arith) (f ∙ ap (λ (j : ℕ). refused j q) (sym nine)))
