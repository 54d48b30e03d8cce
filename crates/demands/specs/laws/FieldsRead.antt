-- The fields of a sheet's bytes, and what is read of them: the header and the records that they are.
-- Assumes nothing.
use Rattle.std.specs.Prelude.{ℕ, ◌+◌, ◌*◌, ◌≤◌, ◌≡◌, refl, Bool, true, false, cond, List, length, get_or, take, drop, ltb}
use Rattle.std.proofs.Common.{sym, ap, subst, ◌∙◌, arith, length-drop, length-take-le, take-take}
use Rattle.quantity.specs.Range.{from}
use Rattle.layout.specs.Layout.{pack, unpack, bytes}
use Rattle.layout.specs.Line.{Allowed}
use Rattle.quantity.specs.laws.RangeLaws.{low_high}
use Rattle.sheet.specs.declared.Header.{Header}
use Rattle.sheet.specs.declared.Record.{Record}
use Rattle.sheet.specs.Versions.{Version}
use Rattle.sheet.specs.Lines.{plate_widths, member_widths}
use Rattle.sheet.specs.Refusals.{given}
use Rattle.sheet.specs.Header.{header_size, header_of, read_header}
use Rattle.sheet.specs.laws.HeaderBack.{read_holds}
use Rattle.sheet.specs.laws.HeaderExactly.{header_read_given}
use Rattle.sheet.specs.Record.{plate_record, member_record, plate_lines_of, member_lines_of, record_at, number_in, lines_at, fields_at}
use Rattle.sheet.specs.laws.RecordExactly.{record_read_given}
use Rattle.checker.specs.Check.{records_part, record_part, record_of}
use Rattle.checker.specs.laws.CheckLaws.{part_past}
use Rattle.demands.specs.Table.{head_size, number_of, kind_of, id_of, HeaderSound, RecordSound}

-- the bytes of all records: those after the header's
abbrev pub records_of : List ℕ → List ℕ
records_of s = drop (head_size s) s

module _ (s : List ℕ) where
  -- the header that its fields are is the one that is read
  pub header_sound : (h : Header) → read_header s ≡ given h → HeaderSound s × (header_of s ≡ h)
  header_sound h e = let r = (header_read_given s h).0 e in (record { long = r.0; fields = r.1 }, r.2)

  pub header_given : HeaderSound s → read_header s ≡ given (header_of s)
  header_given f = (header_read_given s (header_of s)).1 (f.long, f.fields, refl)

  -- its bytes are as many as its version takes, and the others are the records'
  pub size_read : (h : Header) → read_header s ≡ given h → head_size s ≡ header_size h
  size_read h e = ap (λ (v : Version). v.size) (read_holds s h e).version

  pub records_read : (h : Header) → read_header s ≡ given h → records_of s ≡ records_part h s
  records_read h e = ap (λ (k : ℕ). drop k s) (size_read h e)

-- the sixteen bytes of record i, among the bytes of all records, as they are read
module _ (s b : List ℕ) (all : records_of s ≡ b) (i : ℕ) where
  part_is : record_part b i ≡ take 16 (drop (head_size s + 16 * i) s)
  part_is = ap (λ (l : List ℕ). record_part l i) (sym all) ∙ part_past (head_size s) s i

  pub number_read : number_in (record_part b i) ≡ number_of s i
  number_read = ap number_in part_is ∙ ap (pack (bytes 16)) (take-take 16 16 (drop (head_size s + 16 * i) s) (omega arith))

  pub part_length : head_size s + 16 * i + 16 ≤ length s → 16 ≤ length (record_part b i)
  part_length l =
      omega (arith, ap length part_is, length-take-le 16 (drop (head_size s + 16 * i) s) (omega (arith, length-drop (head_size s + 16 * i) s)))

  -- a record that is read is within its values, and is the one that its fields are
  pub record_sound : (r : Record) → record_of b i ≡ given r → RecordSound s i × (record_at (number_of s i) ≡ r)
  record_sound r e =
      let q = (record_read_given i (record_part b i) r).0 e in
      (subst (λ (n : ℕ). Allowed (lines_at n) (fields_at n)) number_read q.1, ap record_at (sym number_read) ∙ q.2)

  pub record_is : head_size s + 16 * i + 16 ≤ length s → RecordSound s i → record_of b i ≡ given (record_at (number_of s i))
  record_is l a =
      (record_read_given i (record_part b i) (record_at (number_of s i))).1
      (part_length l, subst (λ (n : ℕ). Allowed (lines_at n) (fields_at n)) (sym number_read) a, ap record_at number_read)

module _ (s : List ℕ) (i : ℕ) where
  pub record_id_field : (record_at (number_of s i)).id ≡ id_of s i
  record_id_field = go (ltb (kind_of s i) 5)
    where
      vs : List ℕ
      vs = unpack plate_widths (number_of s i)

      ws : List ℕ
      ws = unpack member_widths (number_of s i)

      go : (t : Bool) → (cond t (plate_record vs) (member_record ws)).id ≡ get_or (cond t vs ws) 1 0
      go true = refl
      go false = refl

  -- its id is at least 1
  pub sound_id : RecordSound s i → 1 ≤ id_of s i
  sound_id a = go (ltb (kind_of s i) 5) a
    where
      vs : List ℕ
      vs = unpack plate_widths (number_of s i)

      ws : List ℕ
      ws = unpack member_widths (number_of s i)

      go : (t : Bool) → Allowed (cond t (plate_lines_of vs) (member_lines_of ws)) (cond t vs ws) → 1 ≤ get_or (cond t vs ws) 1 0
      go true b = (low_high (from 1 1000) (get_or vs 1 0) b.1.0).0
      go false b = (low_high (from 1 1000) (get_or ws 1 0) b.1.0).0
