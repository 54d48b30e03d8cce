-- What the program prints of a sheet that is not turned away, and what its own contracts say.
use Rattle.std.specs.Prelude.{ℕ, zero, suc, ◌≤◌, ◌≡◌, Bool, true, false, ◌||◌, cond, List, [], ◌∷◌, ◌++◌, length, take, eqb, Result, Ok, Err}
use Rattle.std.specs.Prelude.{Option}
use Rattle.std.specs.Io.KnownBytes.{Appends}
use Rattle.sheet.specs.declared.Header.{Header}
use Rattle.sheet.specs.declared.Record.{Record}
use Rattle.sheet.specs.Refusals.{Answer, given, refused}
use Rattle.checker.specs.Check.{sheet_size, record_of}
use Rattle.wording.specs.Writes.{text_of}
use Rattle.pencil.specs.Templates.{head_words}
use Rattle.pencil.specs.Trail.{trail_text}
use Rattle.barge_explain.specs.declared.Piece.{Piece}
use Rattle.sheet.specs.declared.Refusal.{Refusal}

-- the sheet has as many bytes as the header that was read says
abbrev pub Sized : Result Header Refusal → ℕ → Type 0
Sized (Ok h) got = sheet_size h ≡ got
Sized (Err r) got = Unit

-- what stands before a trail: the head and an empty line before the first, an empty line before each other
abbrev pub lead_pieces : (begun : Bool) → List (List ℕ)
lead_pieces begun = cond begun ((10 ∷ []) ∷ []) (head_words ∷ (10 ∷ []) ∷ [])

-- what is printed of a record, and whether anything has been printed then
pub record Shown : Type 0 where
  pub text : List ℕ
  pub begun : Bool

-- of a record that is wanted, every one where no id is asked for; of any other nothing
abbrev pub shown_of : Header → (asked : ℕ) → (begun : Bool) → Record → Shown
shown_of h asked begun r =
    cond (eqb asked 0 || eqb asked r.id) (record { text = text_of (lead_pieces begun ++ (trail_text h r ∷ [])); begun = true }) (record { text = []; begun = begun })

unfoldable pub piece_of : Header → (asked : ℕ) → (begun : Bool) → Answer Record → Shown
piece_of h asked begun (given r) = shown_of h asked begun r
piece_of h asked begun (refused number place) = record { text = []; begun = begun }

-- the text is what was written, and whether anything has been
pub record Written (s : Shown) (old new : Option (List ℕ)) (b : Bool) : Type 0 where
  pub text : Appends old new s.text
  pub begun : b ≡ s.begun

-- the whole text: the pieces of records i, i + 1, .. one behind another
abbrev pub explained_from : Header → (records : List ℕ) (asked count i : ℕ) (begun : Bool) → List ℕ
explained_from h records asked zero i begun = []
explained_from h records asked (suc count) i begun =
    let s = piece_of h asked begun (record_of records i) in
    s.text ++ explained_from h records asked count (suc i) s.begun

-- that of a sheet, from its records' bytes and the id that is asked for, 0 for all
abbrev pub explained_text : Header → (records : List ℕ) (asked : ℕ) → List ℕ
explained_text h records asked = explained_from h records asked h.count 0 false

-- the piece's text stands in front of its page
pub record Prints (s : Shown) (p : Piece) : Type 0 where
  pub inside : p.len ≤ length p.bytes
  pub bytes : take p.len p.bytes ≡ s.text
  pub begun : p.begun ≡ s.begun

-- room for the head, an empty line and a trail
abbrev pub room : ℕ
room = 26528
