-- A header is read of its own bytes: two lists that begin alike are read alike.
-- Assumes nothing.
use Rattle.std.specs.Prelude.{ℕ, ◌+◌, ◌≤◌, ◌<◌, ◌≡◌, take, drop}
use Rattle.std.proofs.Common.{sym, ◌∙◌, arith, length-take-le, take_all, take-take}
use Rattle.std.proofs.Math.Path.{ap, ap₂}
use mathlib.Core.List.{List, ◌++◌}
use Rattle.std.proofs.Math.Decide.{dec_lt}
use Rattle.std.proofs.Math.ListN.{length, get_or}
use borrow.Author.Tests.{le-ltb}
use Rattle.layout.specs.Layout.{pack, unpack, bytes}
use Rattle.layout.specs.laws.BytesLaws.{drop_take}
use Rattle.layout.specs.Line.{fault_from}
use Rattle.sheet.specs.declared.Header.{Header}
use Rattle.sheet.specs.Versions.{Version, first_bytes, numbered, bytes_needed}
use Rattle.sheet.specs.laws.VersionLaws.{regular_at, needs_most}
use Rattle.sheet.specs.Lines.{header_lines, first_widths, own_widths}
use Rattle.sheet.specs.Refusals.{given, header_refused}
use Rattle.sheet.specs.Header.{header_size, header_fault, own_bytes, first_fields, own_fields, version_field, version_in, header_at, header_fields, header_bytes, read_header}
use Rattle.sheet.specs.laws.HeaderBack.{Holds, read_holds, holds_read, bytes_hold}

module _ (s t : List ℕ) (n : ℕ) (same : take n t ≡ take n s) where
  -- so do any fewer
  fewer : (m : ℕ) → m ≤ n → take m t ≡ take m s
  fewer m l = sym (take-take m n t l) ∙ ap (take m) same ∙ take-take m n s l

  first_same : first_bytes ≤ n → first_fields t ≡ first_fields s
  first_same l = ap (λ (x : List ℕ). unpack first_widths (pack (bytes first_bytes) x)) (fewer first_bytes l)

  own_same : (v : Version) → first_bytes ≤ v.size → v.size ≤ n → own_fields v t ≡ own_fields v s
  own_same v l m =
      let all : first_bytes + own_bytes v ≤ n = omega arith in
      ap (λ (x : List ℕ). unpack (own_widths v) (pack (bytes (own_bytes v)) x))
      (sym (drop_take first_bytes (own_bytes v) t) ∙ ap (drop first_bytes) (fewer (first_bytes + own_bytes v) all) ∙ drop_take first_bytes (own_bytes v) s)

  -- by as many bytes as the version takes, all fields are the same
  module _ (m : (version_in s).size ≤ n) where
    least : first_bytes ≤ (version_in s).size
    least = (regular_at (version_field s)).least

    first : first_fields t ≡ first_fields s
    first = first_same (omega (arith, least))

    pub version_same : version_in t ≡ version_in s
    version_same = ap (λ (x : List ℕ). numbered (get_or x 0 0)) first

    pub fields_same : header_fields t ≡ header_fields s
    fields_same = ap₂ (λ (x y : List ℕ). x ++ y) first (ap (λ (v : Version). own_fields v t) version_same ∙ own_same (version_in s) least m)

    -- and where both lists have so many, so is what is read
    pub read_same : n ≤ length s → n ≤ length t → read_header t ≡ read_header s
    unfolding read_header
    read_same ls lt =
        let few : bytes_needed (version_field s) (version_in s) ≤ length s = omega (arith, needs_most (version_field s) (version_in s) least) in
        let k : version_field t ≡ version_field s = ap (λ (x : List ℕ). get_or x 0 0) first in
        let few' : bytes_needed (version_field t) (version_in t) ≤ length t =
        omega (arith, needs_most (version_field s) (version_in s) least, ap₂ bytes_needed k version_same) in
        rw (le-ltb (length t) (bytes_needed (version_field t) (version_in t)) few', le-ltb (length s) (bytes_needed (version_field s) (version_in s)) few)
        (ap₂ (λ (v : Version) (vs : List ℕ). header_refused (fault_from 1 (header_lines v) vs) (given (header_at vs))) version_same fields_same)

-- whatever begins with the bytes of a header that is read is read as it
module _ (s t : List ℕ) (h : Header) (e : read_header s ≡ given h) (same : take (header_size h) t ≡ take (header_size h) s) where
  held : Holds s h
  held = read_holds s h e

  long : header_size h ≤ length t
  long = go (dec_lt (length t) (header_size h))
    where
      taken : length (take (header_size h) t) ≡ header_size h
      taken = ap length same ∙ length-take-le (header_size h) s held.long

      go : Dec (length t < header_size h) → header_size h ≤ length t
      go (yes l) = absurd (omega (arith, ap length (take_all (header_size h) t (omega arith)), taken))
      go (no l) = omega arith

  pub header_prefix : read_header t ≡ given h
  header_prefix =
      let size : (version_in s).size ≡ header_size h = ap (λ (v : Version). v.size) held.version in
      read_same s t (header_size h) same (omega arith) held.long long ∙ e

-- the bytes of a header that has no fault are read as it, whatever follows them
pub header_bytes_read : (h : Header) (z : List ℕ) → header_fault h ≡ 0 → read_header (header_bytes h ++ z) ≡ given h
header_bytes_read h z e = holds_read (header_bytes h ++ z) h (bytes_hold h z e)
