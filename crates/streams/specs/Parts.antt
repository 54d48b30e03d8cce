-- The numbers of a head or a form, and the line of an answer.
use Rattle.std.specs.Prelude.{ℕ, ◌+◌, ◌*◌, ◌≤◌, List, [], ◌∷◌, ◌++◌}
use Rattle.layout.specs.Bytes.{read_of}
use Rattle.sheet.specs.Refusals.{Answer, given, refused}
use Rattle.checker.specs.Check.{part}
use Rattle.decimal.specs.Decimal.{decimal_of}
use Rattle.report.specs.Text.{line, refused_word}

-- number i: four bytes, most significant first
abbrev pub number_at : List ℕ → ℕ → ℕ
number_at form i = read_of 4 (part form (4 * i) (4 * i + 4))

-- the thirteen numbers behind the first
unfoldable pub fields_in : List ℕ → List ℕ
fields_in form =
    number_at form 1
    ∷ number_at form 2
    ∷ number_at form 3
    ∷ number_at form 4
    ∷ number_at form 5
    ∷ number_at form 6
    ∷ number_at form 7
    ∷ number_at form 8
    ∷ number_at form 9
    ∷ number_at form 10
    ∷ number_at form 11
    ∷ number_at form 12
    ∷ number_at form 13
    ∷ []

-- the line of an answer: a length, or the refusal
unfoldable pub line_for : Answer ℕ → List ℕ
line_for (given n) = decimal_of n ++ (10 ∷ [])
line_for (refused number place) = refused_word ++ line (number ∷ place ∷ [])

-- the length is one of the largest output
abbrev pub ShortLine : Answer ℕ → Type 0
ShortLine (given n) = n ≤ 65536
ShortLine (refused number place) = Unit {0}
