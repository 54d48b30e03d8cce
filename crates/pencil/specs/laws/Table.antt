-- The table of the templates: every text is short.
-- Assumes nothing.
use Rattle.std.specs.Prelude.{ℕ, ◌≤◌, ◌<◌, ◌≡◌, refl, true, [], length}
use Rattle.std.proofs.Common.{arith}
use Rattle.decimal.specs.Decimal.{decimal_of, digits_in}
use Rattle.wording.specs.Words.{most}
use Rattle.pencil.specs.Templates.{templates, texts, text}
use Rattle.pencil.specs.Trail.{longest}
use Rattle.pencil.specs.laws.TableLaws.{joined, ends_of, all_short, short_at, Piece, piece, get_d_past}

how_many : length texts ≡ 92
unfolding texts templates
how_many = refl

all_short_lem : all_short texts ≡ true
unfolding texts templates decimal_of digits_in most
all_short_lem = refl

pub short : (t : ℕ) → most 0 (text t) ≤ longest
short t = short_at texts all_short_lem t

pub piece_at : (k : ℕ) → k < 92 → Piece (joined texts) (ends_of 0 texts) k (text k)
piece_at k h = piece texts k (omega (arith, how_many))

-- past the table there is none
pub past : (t : ℕ) → 92 ≤ t → text t ≡ []
past t h = get_d_past texts t (omega (arith, how_many))
