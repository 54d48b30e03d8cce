-- What the functions of this crate say to each other. No promise to a caller rests on this.
use Rattle.std.specs.Prelude.{ℕ, Bool, true, false, List, ◌++◌, take, drop, Option, Some, None}
use Rattle.text.specs.declared.LineEnd.{LineEnd}
use Rattle.rows.specs.declared.form.Form.{Form}
use Rattle.rows.specs.Pack.{fields_from, fields_of, packed_on}
use Rattle.rows.specs.Forms.{first_count}
use Rattle.rows.specs.Rows.{zeros}

abbrev pub is_fault : LineEnd → Bool
is_fault (LineEnd.More next) = false
is_fault LineEnd.Last = false
is_fault LineEnd.Fault = true

-- where the line behind one that ends so starts
abbrev pub next_of : LineEnd → Option ℕ
next_of (LineEnd.More next) = Some next
next_of LineEnd.Last = None
next_of LineEnd.Fault = None

-- of thirteen numbers those of the first fields, and those behind them, with zeros behind each
abbrev pub first_part : List ℕ → List ℕ
first_part ns = fields_of first_count ns ++ zeros 5

abbrev pub own_part : List ℕ → List ℕ
own_part ns = fields_from first_count 5 ns ++ zeros 8

-- the fields of a form in its bytes, which begin at a place
unfoldable pub placed_of : List ℕ → Form → (at : ℕ) → List ℕ → List ℕ
placed_of ns f at b =
    take at b ++ (packed_on (fields_of f.count f.limits) (fields_of f.count ns) (take f.size (drop at b)) ++ drop f.size (drop at b))
