-- The rest of a field that is no number, one byte at a time. Private: what `rest` and its parts promise each other.
use Rattle.std.specs.Prelude.{ℕ, List, [], ◌∷◌, Bool, true, false, cond, eqb}
use Rattle.fields.specs.Marks.{Marks, seen_at, outside, inside}
use Rattle.fields.specs.declared.Place.{Place}
use Rattle.fields.specs.declared.Seen.{Seen}
use Rattle.fields.specs.declared.Mode.{Mode}
use Rattle.fields.specs.declared.Turn.{Turn}

abbrev pub is_closed : Place → Bool
is_closed Place.Closed = true
is_closed Place.Start = false
is_closed Place.Inside = false

abbrev pub plain_turn : Seen → Turn
plain_turn Seen.End = Turn.End
plain_turn Seen.Comma = Turn.Comma
plain_turn Seen.Line = Turn.Line
plain_turn Seen.Skip = Turn.On Mode.Plain
plain_turn Seen.Quote = Turn.Fault
plain_turn (Seen.Data b) = Turn.On Mode.Plain

abbrev pub closed_turn : Seen → Turn
closed_turn Seen.End = Turn.End
closed_turn Seen.Comma = Turn.Comma
closed_turn Seen.Line = Turn.Line
closed_turn Seen.Skip = Turn.On Mode.Closed
closed_turn Seen.Quote = Turn.On Mode.Quoted
closed_turn (Seen.Data b) = Turn.Fault

abbrev pub quoted_turn : List ℕ → Turn
quoted_turn [] = Turn.Fault
quoted_turn (b ∷ s) = cond (eqb b 34) (Turn.On Mode.Closed) (Turn.On Mode.Quoted)

abbrev pub turn_of : List ℕ → Mode → Turn
turn_of l Mode.Plain = plain_turn (seen_at l)
turn_of l Mode.Closed = closed_turn (seen_at l)
turn_of l Mode.Quoted = quoted_turn l

abbrev pub marks_in : Mode → List ℕ → ℕ → Marks
marks_in Mode.Plain l at = outside l at Place.Inside
marks_in Mode.Closed l at = outside l at Place.Closed
marks_in Mode.Quoted l at = inside l at
