-- What is answered and written, by the answer.
-- Assumes nothing.
use Rattle.std.specs.Prelude.{Result, Ok, Err}
use Prim.Native.Nat.{ℕ, ◌≤◌, ◌<◌}
use mathlib.Core.Path.{◌≡◌, refl, sym, ap, ap₂, subst, ◌∙◌}
use mathlib.Core.List.{List, [], ◌++◌}
use lib.ListN.{length, take, drop}
use borrow.Author.Tests.{le-leb, lt-leb}
use Rattle.sheet.specs.declared.Header.{Header}
use Rattle.sheet.specs.declared.Refusal.{Refusal}
use Rattle.sheet.specs.Refusals.{Answer, given, refused, told}
use Rattle.sheet.specs.laws.RefusalLaws.{given_refused, refused_number, refused_place}
use Rattle.checker.specs.Check.{◌then◌, demand, Sheet}
use Rattle.checker.specs.Unjudged.{sound_sheet, sound_header}
use Rattle.fields.specs.Lines.{Lines}
use Rattle.sheet_csv.specs.Read.{sheet_made, sheet_of, length_of, output_by, Converts}
use Rattle.sheet_csv.specs.Write.{text_of, text_from}
use Rattle.sheet_csv.specs.Steps.{Fills, fits_in, sound_in}
use Rattle.sheet_csv.specs.laws.HeldLaws.{held_sound}

-- a refusal, with every byte as it was lent
pub refuses : (a : Answer (List ℕ)) (o : List ℕ) (x : Refusal) → a ≡ told x → Converts a o (Err x) o
refuses a o x e = subst (λ (y : Answer (List ℕ)). Converts y o (Err x) o) (sym e) (record { answer = refl; bytes = refl })

-- an answer that is passed on says what it said
pub passes_on : {a : Answer (List ℕ)} {o : List ℕ} (after : List ℕ) {r q : Result ℕ Refusal} → r ≡ q → Converts a o q after → Converts a o r after
passes_on {a} {o} after e says = subst (λ (x : Result ℕ Refusal). Converts a o x after) (sym e) says

-- bytes in front
pub converts : (a : Answer (List ℕ)) (b o after : List ℕ) → a ≡ given b → after ≡ b ++ drop (length b) o → Converts a o (Ok (length b)) after
converts a b o after e f = record { answer = ap length_of (sym e); bytes = f ∙ ap (λ (y : Answer (List ℕ)). output_by y o) (sym e) }

-- another answer that is the same
pub converts_same : (a b : Answer (List ℕ)) (o : List ℕ) (r : Result ℕ Refusal) (after : List ℕ) → a ≡ b → Converts a o r after → Converts b o r after
converts_same a b o r after e c = subst (λ (y : Answer (List ℕ)). Converts y o r after) e c

-- ---- an output with room, and one without

pub fits_short : (b : List ℕ) (room : ℕ) → room < length b → fits_in b room ≡ refused 5 0
unfolding ◌then◌ demand
fits_short b room l = rw (lt-leb (length b) room l)

pub fits_long : (b : List ℕ) (room : ℕ) → length b ≤ room → fits_in b room ≡ given b
unfolding ◌then◌ demand
fits_long b room l = rw (le-leb (length b) room l)

-- ---- the table's own

module _ (b : List ℕ) (room : ℕ) where
  pub sound_refused : (x : Refusal) → told x ≡ sound_header b → sound_in b room ≡ told x
  unfolding sound_header ◌then◌
  sound_refused x e = go (sound_sheet b) (sym e)
    where
      go : (y : Answer Sheet) → (y then λ t. given t.header) ≡ told x → (y then λ t. fits_in b room) ≡ told x
      go (given t) f = given_refused f
      go (refused k p) f = ap₂ refused (refused_number f) (refused_place f)

  pub sound_given : (h : Header) → given h ≡ sound_header b → sound_in b room ≡ fits_in b room
  unfolding sound_header ◌then◌
  sound_given h e = go (sound_sheet b) (sym e)
    where
      go : (y : Answer Sheet) → (y then λ t. given t.header) ≡ given h → (y then λ t. fits_in b room) ≡ fits_in b room
      go (given t) f = refl
      go (refused k p) f = given_refused (sym f)

-- ---- the lines

module _ (ls : Lines) (room : ℕ) (draft : List ℕ) where
  -- a line that is turned away
  pub lines_refused : (x : Refusal) → Fills (sheet_made ls) [] (Err x) draft → sheet_of ls room ≡ told x
  unfolding ◌then◌
  lines_refused x f = go (sheet_made ls) f
    where
      go : (y : Answer (List ℕ)) → Fills y [] (Err x) draft → (y then λ b. sound_in b room) ≡ told x
      go (given _) e = elim e [ ]
      go (refused k p) e = ap₂ refused (refused_number (sym e)) (refused_place (sym e))

  -- lines that make bytes: within the draft, and answered as what it holds
  pub lines_made : (end : ℕ) → Fills (sheet_made ls) [] (Ok end) draft → (end ≤ length draft) × (sound_in (take end draft) room ≡ sheet_of ls room)
  unfolding ◌then◌
  lines_made end f = go (sheet_made ls) f
    where
      go : (y : Answer (List ℕ)) → Fills y [] (Ok end) draft → (end ≤ length draft) × (sound_in (take end draft) room ≡ (y then λ b. sound_in b room))
      go (refused number place) h = elim h [ ]
      go (given b) h = (h.inside, held_sound b end draft h room)

-- ---- a sheet's text

module _ (s : List ℕ) (room : ℕ) where
  pub text_refused : (x : Refusal) → told x ≡ sound_header s → text_from s room ≡ told x
  unfolding sound_header text_from ◌then◌
  text_refused x e = go (sound_sheet s) (sym e)
    where
      go : (y : Answer Sheet) → (y then λ t. given t.header) ≡ told x → (y then λ t. fits_in (text_of t) room) ≡ told x
      go (given t) f = given_refused f
      go (refused k p) f = ap₂ refused (refused_number f) (refused_place f)

  pub text_given : (t : Sheet) → sound_sheet s ≡ given t → fits_in (text_of t) room ≡ text_from s room
  unfolding text_from ◌then◌
  text_given t e = rw e
