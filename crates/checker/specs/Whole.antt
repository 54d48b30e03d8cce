-- What is known of a sheet that is not turned away.
use Rattle.std.specs.Prelude.{ℕ, ◌+◌, ◌*◌, ◌≤◌, ◌<◌, ◌≡◌, false, List, [], ◌∷◌, length}
use Rattle.sheet.specs.declared.Header.{Header}
use Rattle.sheet.specs.declared.Record.{Record}
use Rattle.sheet.specs.Refusals.{given}
use Rattle.sheet.specs.Header.{read_header}
use Rattle.sheet.specs.Slender.{too_slender}
use Rattle.checker.specs.Check.{sheet_size, records_part, record_of, Sheet}

-- the header is read and its hull not too slender, the sheet has its length, and the output is long enough
pub record HeaderFits (s : List ℕ) (room : ℕ) (h : Header) : Type 0 where
  pub read : read_header s ≡ given h
  pub slim : too_slender h ≡ false
  pub whole : length s ≡ sheet_size h
  pub fits : 4 * h.count ≤ room

-- records that were taken in turn, the first of them record i
pub data Taken (s : List ℕ) : (i before : ℕ) → List Record → Type 0 where
  none : {i before : ℕ} → Taken s i before []
  next : {i before : ℕ} {r : Record} {rs : List Record} → record_of s i ≡ given r → before < r.id → Taken s (i + 1) r.id rs → Taken s i before (r ∷ rs)

-- the whole sheet
pub record Whole (s : List ℕ) (room : ℕ) (t : Sheet) : Type 0 where
  pub header : HeaderFits s room t.header
  pub records : Taken (records_part t.header s) 0 0 t.records
  pub number : length t.records ≡ t.header.count
