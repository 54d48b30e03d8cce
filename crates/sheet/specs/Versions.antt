-- The versions of the header, in one table: how many bytes each takes, how many records it counts, and what it holds of its own.
use Rattle.std.specs.Prelude.{ℕ, ◌+◌, ◌*◌, max, ◌<◌, ◌≡◌, cond, List, [], ◌∷◌, length, eqb}
use Rattle.quantity.specs.Range.{Range, from}
use Rattle.layout.specs.Line.{Line, line, zeros}
use Rattle.sheet.specs.declared.Version.{Version as Told}
use Rattle.sheet.specs.declared.Own.{Own}
use Rattle.sheet.specs.declared.Own.TheVariants.{One, Two}

-- the moduli ZB and ZDB, cm³
abbrev pub hull_modulus : Range
hull_modulus = from 1 100000000

-- the depth, cm
abbrev pub depths : Range
depths = from 100 1000

-- how many bytes hold the fields that every version has
abbrev pub first_bytes : ℕ
first_bytes = 12

-- a version: its number, the bytes of its header, the highest n, and the lines of its own fields, which stand after those that every version has
pub record Version : Type 0 where
  pub number : ℕ
  pub size : ℕ
  pub most : ℕ
  pub lines : List Line

-- what the code says of a version
pub record IsVersion (r : Told) (v : Version) : Type 0 where
  pub number : r.number ≡ v.number
  pub size : r.size ≡ v.size
  pub most : r.most ≡ v.most

-- version 1 has nothing of its own
abbrev pub one : Version
one = record { number = 1; size = 12; most = 400; lines = [] }

-- version 2: ZDB, depth, zero
abbrev pub two : Version
two = record { number = 2; size = 20; most = 400; lines = line 27 hull_modulus ∷ line 10 depths ∷ zeros 27 ∷ [] }

-- the table: version 1, and those after it
abbrev pub later : List Version
later = two ∷ []

abbrev pub versions : List Version
versions = one ∷ later

-- the greatest number that a version of a list has of something
abbrev pub greatest : (Version → ℕ) → List Version → ℕ
greatest f [] = 0
greatest f (v ∷ vs) = max (f v) (greatest f vs)

-- the most records of any sheet, and the bytes of the longest: a record has sixteen
abbrev pub most_records : ℕ
most_records = greatest (λ v. v.most) versions

abbrev pub longest_sheet : ℕ
longest_sheet = greatest (λ v. v.size + 16 * v.most) versions

-- one byte more: as many as have to be read of a longer input
abbrev pub enough : ℕ
enough = longest_sheet + 1

-- the numbers of the versions
abbrev pub version_numbers : Range
version_numbers = from 1 (length versions)

-- the version of a number among those of a list; version 1 where none has it
abbrev pub found : List Version → ℕ → Version
found [] k = one
found (v ∷ vs) k = cond (eqb k v.number) v (found vs k)

-- the version of a number. What no version's number is goes by version 1, whose line for the version then turns it away
abbrev pub numbered : ℕ → Version
numbered k = found later k

-- the version of what a header holds of its own
abbrev pub version_of : Own → Version
version_of One = one
version_of (Two s) = two

-- how many bytes a header needs that names version k and is of version v: those in which k stands, and where k is v's number, v's
abbrev pub bytes_needed : ℕ → Version → ℕ
bytes_needed k v = cond (eqb k v.number) v.size first_bytes

-- so many bytes are under those of the first fields, or, k being the version's number, under the version's
pub data Under (len k : ℕ) (v : Version) : Type 0 where
  under_first : len < first_bytes → Under len k v
  under_own : k ≡ v.number → len < v.size → Under len k v
