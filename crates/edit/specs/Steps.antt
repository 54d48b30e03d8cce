-- What the steps of an edit say. The promises of `put` and `remove` rest on none of it.
use Rattle.std.specs.Prelude.{◌≡◌, ℕ, ◌+◌, ◌-◌, ◌≤◌, Bool, List, ◌++◌, take, drop, replicate}
use Rattle.layout.specs.Bytes.{read_of}
use Rattle.sheet.specs.declared.Header.{Header}
use Rattle.sheet.specs.declared.Record.{Record}
use Rattle.sheet.specs.Refusals.{given}
use Rattle.sheet.specs.Header.{header_fault}
use Rattle.sheet.specs.Record.{record_fault, raw_at}
use Rattle.checker.specs.Check.{parts_from, Sheet}
use Rattle.keyed.specs.Keyed.{position_of, has_of}
use Rattle.edit.specs.Edit.{sheet_at, start}

-- ---- bytes that move by sixteen

-- those from a up to e stand sixteen further; the sixteen at a are still there
unfoldable pub opened : List ℕ → (a e : ℕ) → List ℕ
opened xs a e = take (a + 16) xs ++ (drop a (take e xs) ++ drop (e + 16) xs)

-- the bytes without the sixteen at a
abbrev pub without : (a : ℕ) → List ℕ → List ℕ
without a xs = take a xs ++ drop (a + 16) xs

-- the first k bytes are those without the sixteen at a; the others have not moved
unfoldable pub closed : List ℕ → (a k : ℕ) → List ℕ
closed xs a k = take k (without a xs) ++ drop k xs

-- zeros from a up to e
unfoldable pub cleared : List ℕ → (a e : ℕ) → List ℕ
cleared xs a e = take a xs ++ (replicate (e - a) 0 ++ drop e xs)

-- ---- the records by their bytes

-- the id in sixteen bytes, whatever else stands there
abbrev pub id_in : List ℕ → ℕ
id_in b = (raw_at (read_of 16 b)).values.id

-- the place of an id among the first n records, by the bytes of all of them
unfoldable pub place_in : List ℕ → (n id : ℕ) → ℕ
place_in b n id = position_of id_in id (parts_from b 0 n)

-- whether one of them has it
unfoldable pub has_in : List ℕ → (n id : ℕ) → Bool
has_in b n id = has_of id_in id (parts_from b 0 n)

-- ---- what a step may count on

-- the sheet is sound, and this is its header
pub record Known (b : List ℕ) (len : ℕ) (h : Header) : Type 0 where
  pub sheet : Sheet
  pub found : sheet_at b len ≡ given sheet
  pub header : h ≡ sheet.header

-- header and record are sound, and there is room for one record more
pub record Fits (h : Header) (i len : ℕ) (r : Record) (size : ℕ) : Type 0 where
  pub header : header_fault h ≡ 0
  pub sound : record_fault r 0 ≡ 0
  pub inside : start h i ≤ len
  pub room : len + 16 ≤ size

-- the header is sound, and record i is one of the sheet's
pub record Stands (h : Header) (i len size : ℕ) : Type 0 where
  pub header : header_fault h ≡ 0
  pub inside : start h i + 16 ≤ len
  pub whole : len ≤ size
