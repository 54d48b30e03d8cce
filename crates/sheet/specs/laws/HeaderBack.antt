-- The header, there and back: nothing is lost, in any version.
-- Assumes nothing.
use Rattle.std.specs.Prelude.{ℕ, ◌+◌, ◌≤◌, ◌≡◌, refl, get_or, take, drop}
use Rattle.std.proofs.Math.Path.{sym, ap, subst}
use Rattle.std.proofs.Common.{ap₂, ◌∙◌, arith, length-append, take-append-drop, take-add, take_at, length-take-le}
use mathlib.Core.List.{List, [], ◌∷◌, ◌++◌}
use Rattle.std.proofs.Math.ListN.{length}
use Rattle.quantity.specs.Range.{from}
use Rattle.layout.specs.Layout.{pack, unpack, bytes, Fit}
use Rattle.layout.specs.laws.Laws.{fit_parts, fields_again, bytes_again, bytes_add, length_unpack, length_bytes}
use Rattle.layout.specs.Line.{Allowed}
use Rattle.quantity.specs.laws.RangeLaws.{low_high}
use Rattle.layout.specs.laws.LineLaws.{all_none}
use Rattle.sheet.specs.declared.Header.{Header}
use Rattle.sheet.specs.declared.Own.{Own}
use Rattle.sheet.specs.declared.Own.TheVariants.{One, Two}
use Rattle.sheet.specs.Versions.{Version, first_bytes, version_of}
use Rattle.sheet.specs.laws.VersionLaws.{regular, numbered_own}
use Rattle.sheet.specs.Lines.{header_lines, first_widths, own_widths}
use Rattle.sheet.specs.Refusals.{given}
use Rattle.sheet.specs.Header.{header_size, first_values, own_values, header_values, header_at, raw_fault, header_fault, own_bytes, first_fields, own_fields, version_field, version_in, header_fields, read_header, header_bytes, write_header}
use Rattle.sheet.specs.laws.HeaderLaws.{version_at, spare_in, rest_in, values_at, header_allowed, header_version, header_fit, at_values}
use Rattle.sheet.specs.laws.HeaderExactly.{header_read_given, header_bytes_length, header_write_given, header_write_fine, header_write_bytes}

-- what a header's bytes hold in its version: it is long enough, its fields are the header's values, and none is at fault
pub record Holds (s : List ℕ) (h : Header) : Type 0 where
  pub long : header_size h ≤ length s
  pub version : version_in s ≡ version_of h.own
  pub fields : header_fields s ≡ header_values h 0 0
  pub fine : header_fault h ≡ 0

-- ---- a header is read exactly where the bytes hold it

-- allowed values of its own have nothing in the bits that carry nothing
no_rest : (o : Own) (rest : ℕ) → Allowed (version_of o).lines (own_values o rest) → own_values o rest ≡ own_values o 0
no_rest One rest a = refl
no_rest (Two s) rest a =
    let z : rest ≡ 0 = omega (arith, low_high (from 0 0) rest a.1.1.0) in
    ap (λ (n : ℕ). s.inner_modulus ∷ s.depth.0 ∷ n ∷ []) z

no_spare : (h : Header) (spare rest : ℕ) → Allowed (header_lines (version_of h.own)) (header_values h spare rest) → header_values h spare rest ≡ header_values h 0 0
no_spare h spare rest a =
    let b = a.1.1.1.1.1.1.1.1 in
    let z : spare ≡ 0 = omega (arith, low_high (from 0 0) spare b.0) in
    ap₂ (λ (n : ℕ) (vs : List ℕ). first_values h n ++ vs) z (no_rest h.own rest b.1)

module _ (s : List ℕ) (h : Header) where
  pub read_holds : read_header s ≡ given h → Holds s h
  unfolding raw_fault
  read_holds e =
      let r = (header_read_given s h).0 e in
      let version : version_in s ≡ version_of h.own = sym (version_at (version_field s) (own_fields (version_in s) s)) ∙ ap (λ (g : Header). version_of g.own) r.2 in
      let values : header_values h (spare_in s) (rest_in s) ≡ header_fields s = ap (λ (g : Header). header_values g (spare_in s) (rest_in s)) (sym r.2) ∙ values_at s in
      let allowed : Allowed (header_lines (version_of h.own)) (header_values h (spare_in s) (rest_in s)) =
      subst (λ (v : Version). Allowed (header_lines v) (header_values h (spare_in s) (rest_in s))) version
      (subst (λ (l : List ℕ). Allowed (header_lines (version_in s)) l) (sym values) r.1) in
      let none = no_spare h (spare_in s) (rest_in s) allowed in
      record {
        long = subst (λ (v : Version). v.size ≤ length s) version r.0;
        version = version;
        fields = sym values ∙ none;
        fine = all_none 1 (header_lines (version_of h.own)) (header_values h 0 0) (subst (λ (l : List ℕ). Allowed (header_lines (version_of h.own)) l) none allowed);
      }

  pub holds_read : Holds s h → read_header s ≡ given h
  holds_read t =
      (header_read_given s h).1 (
        subst (λ (v : Version). v.size ≤ length s) (sym t.version) t.long,
        subst (λ (v : Version). Allowed (header_lines v) (header_fields s)) (sym t.version)
            (subst (λ (l : List ℕ). Allowed (header_lines (version_of h.own)) l) (sym t.fields) (header_allowed h t.fine)),
        ap header_at t.fields ∙ at_values h (header_version h t.fine),
      )

  -- what is read has no fault
  pub header_read_fine : read_header s ≡ given h → header_fault h ≡ 0
  header_read_fine e = (read_holds e).fine

-- ---- what is written is read again

-- a header's bytes, whatever follows them, hold it
pub bytes_hold : (h : Header) (z : List ℕ) → header_fault h ≡ 0 → Holds (header_bytes h ++ z) h
bytes_hold h z e = record { long = long; version = version; fields = ap₂ (λ (x y : List ℕ). x ++ y) first own; fine = e }
  where
    v : Version
    v = version_of h.own

    s : List ℕ
    s = header_bytes h ++ z

    own_part : List ℕ
    own_part = unpack (bytes (own_bytes v)) (pack (own_widths v) (own_values h.own 0))

    long : header_size h ≤ length s
    long = omega (arith, length-append (header_bytes h) z, header_bytes_length h)

    first : first_fields s ≡ first_values h 0
    first = fields_again first_widths first_bytes refl (first_values h 0) (header_fit h e).0

    version : version_in s ≡ v
    version = numbered_own h.own (version_field s) (ap (λ (l : List ℕ). get_or l 0 0) first ∙ header_version h e)

    own_taken : take (own_bytes v) (drop first_bytes s) ≡ own_part
    own_taken = take_at own_part z (own_bytes v) (length_unpack (bytes (own_bytes v)) (pack (own_widths v) (own_values h.own 0)) ∙ length_bytes (own_bytes v))

    own : own_fields (version_in s) s ≡ own_values h.own 0
    own =
        ap (λ (w : Version). own_fields w s) version
        ∙ ap (λ (l : List ℕ). unpack (own_widths v) (pack (bytes (own_bytes v)) l)) own_taken
        ∙ fields_again (own_widths v) (own_bytes v) (regular h.own).filled (own_values h.own 0) (header_fit h e).1

pub header_read_again : (h : Header) (o : List ℕ) → (write_header h o).answer ≡ given tt → read_header (write_header h o).bytes ≡ given h
header_read_again h o e =
    let w = header_write_fine h o e in
    ap read_header (header_write_bytes h o e) ∙ holds_read (header_bytes h ++ drop (header_size h) o) h (bytes_hold h (drop (header_size h) o) w.1)

-- ---- what is read is written again

module _ (s : List ℕ) (h : Header) (e : read_header s ≡ given h) (fit : Fit (bytes (header_size h)) (take (header_size h) s)) where
  abbrev v : Version
  v = version_of h.own

  t : Holds s h
  t = read_holds s h e

  -- as many bytes as the version takes are those of the first fields and its own
  whole : header_size h ≡ first_bytes + own_bytes v
  whole = omega (arith, (regular h.own).least)

  in_two : take (header_size h) s ≡ take first_bytes s ++ take (own_bytes v) (drop first_bytes s)
  in_two = ap (λ (n : ℕ). take n s) whole ∙ take-add first_bytes (own_bytes v) s

  fits : Fit (bytes first_bytes) (take first_bytes s) × Fit (bytes (own_bytes v)) (take (own_bytes v) (drop first_bytes s))
  fits =
      let l : length (take first_bytes s) ≡ length (bytes first_bytes) = length-take-le first_bytes s (omega (arith, (regular h.own).least, t.long)) in
      fit_parts (bytes first_bytes) (bytes (own_bytes v)) (take first_bytes s) (take (own_bytes v) (drop first_bytes s)) l
      (subst (λ (ws : List ℕ). Fit ws (take first_bytes s ++ take (own_bytes v) (drop first_bytes s))) (ap bytes whole ∙ bytes_add first_bytes (own_bytes v)) (subst (Fit (bytes (header_size h))) in_two fit))

  -- the values are the fields, part by part
  parts : (first_fields s ≡ first_values h 0) × (own_fields v s ≡ own_values h.own 0)
  parts =
      let all : first_fields s ++ own_fields v s ≡ first_values h 0 ++ own_values h.own 0 = ap (λ (w : Version). first_fields s ++ own_fields w s) (sym t.version) ∙ t.fields in
      (ap (take 9) all, ap (drop 9) all)

  -- a header's bytes are those that it was read of
  pub header_bytes_same : header_bytes h ≡ take (header_size h) s
  header_bytes_same =
      ap₂ (λ (x y : List ℕ). unpack (bytes first_bytes) (pack first_widths x) ++ unpack (bytes (own_bytes v)) (pack (own_widths v) y)) (sym parts.0) (sym parts.1)
      ∙ ap₂ (λ (x y : List ℕ). x ++ y)
      (bytes_again first_widths first_bytes refl (take first_bytes s) fits.0)
      (bytes_again (own_widths v) (own_bytes v) (regular h.own).filled (take (own_bytes v) (drop first_bytes s)) fits.1)
      ∙ sym in_two

  -- it is written again: the same bytes, and onto those read, nothing changes
  pub header_written_again : (o : List ℕ) → header_size h ≤ length o → ((write_header h o).answer ≡ given tt) × (take (header_size h) (write_header h o).bytes ≡ take (header_size h) s)
  header_written_again o l =
      let fine = (header_write_given h o).1 (l, header_allowed h t.fine) in
      (fine, ap (take (header_size h)) (header_write_bytes h o fine) ∙ take_at (header_bytes h) (drop (header_size h) o) (header_size h) (header_bytes_length h) ∙ header_bytes_same)

  pub header_written_onto : (write_header h s).bytes ≡ s
  header_written_onto =
      header_write_bytes h s (header_written_again s t.long).0
      ∙ ap (λ (x : List ℕ). x ++ drop (header_size h) s) header_bytes_same
      ∙ take-append-drop (header_size h) s
