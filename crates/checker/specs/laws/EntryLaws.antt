-- A verdict in the output: when it is read and written, and that nothing is lost there and back.
-- Assumes nothing.
use Rattle.std.specs.Prelude.{ℕ, ◌≤◌, ◌<◌, ◌^◌, ◌≡◌, refl, Bool, true, false, cond, List, ◌++◌, length, take, drop, eqb}
use Rattle.std.proofs.Common.{sym, ap, ◌∙◌, arith, take-append-drop, lt-ltb, le-ltb, eq-eqb, eqb-true}
use Rattle.std.proofs.Math.Decide.{dec_lt}
use Rattle.layout.specs.Layout.{pack, unpack, bytes, Fit}
use Rattle.layout.specs.laws.Laws.{pack_lt, pack_unpack_lt, unpack_pack}
use Rattle.layout.specs.Line.{Allowed, lines_fit}
use Rattle.layout.specs.laws.LineLaws.{none_all, all_none, allowed_fit}
use Rattle.sheet.specs.Refusals.{given, refused}
use Rattle.sheet.specs.laws.RefusalLaws.{given_refused, given_same}
use Rattle.checker.specs.declared.Entry.{Entry}
use Rattle.checker.specs.Entry.{verdict_table, verdict_lines, verdict_widths, entry_values, entry_at, entry_fault, entry_refused, entry_in, read_entry, entry_bytes, write_entry}

-- ---- an entry with no fault

-- every value that a line allows fits it
table_fits : (passed : Bool) → lines_fit (verdict_table passed) ≡ true
table_fits true = refl
table_fits false = refl

-- each of its values is allowed
entry_allowed : (e : Entry) → entry_fault e ≡ 0 → Allowed (verdict_lines e.rule) (entry_values e)
unfolding entry_fault
entry_allowed e z = none_all 0 (verdict_lines e.rule) (entry_values e) z

-- and the other way round
pub allowed_entry : (e : Entry) → Allowed (verdict_lines e.rule) (entry_values e) → entry_fault e ≡ 0
unfolding entry_fault
allowed_entry e a = all_none 1 (verdict_lines e.rule) (entry_values e) a

-- its values fit their fields
pub entry_fit : (e : Entry) → entry_fault e ≡ 0 → Fit verdict_widths (entry_values e)
entry_fit e z = allowed_fit (verdict_lines e.rule) (entry_values e) (table_fits (eqb e.rule 0)) (entry_allowed e z)

-- ---- there and back

-- the number of an entry is one of 32 bits
entry_lt : (e : Entry) → entry_fault e ≡ 0 → pack verdict_widths (entry_values e) < 2 ^ 32
entry_lt e z = pack_lt verdict_widths (entry_values e) (entry_fit e z)

-- reading, by the length
entry_short : (s : List ℕ) → length s < 4 → read_entry s ≡ refused 1 0
unfolding read_entry
entry_short s l = rw (lt-ltb _ _ l)

entry_long : (s : List ℕ) → 4 ≤ length s → read_entry s ≡ entry_in (pack (bytes 4) (take 4 s))
unfolding read_entry
entry_long s l = rw (le-ltb _ _ l)

-- what stands in the output is read
pub bytes_read : (e : Entry) (rest : List ℕ) → entry_fault e ≡ 0 → read_entry (entry_bytes e ++ rest) ≡ given e
unfolding entry_in
bytes_read e rest z =
    let n = pack verdict_widths (entry_values e) in
    let back : pack (bytes 4) (entry_bytes e) ≡ n = pack_unpack_lt (bytes 4) n (entry_lt e z) in
    let fields : unpack verdict_widths n ≡ entry_values e = unpack_pack verdict_widths (entry_values e) (entry_fit e z) in
    entry_long (entry_bytes e ++ rest) (omega arith)
    ∙ ap entry_in back
    ∙ ap (λ (vs : List ℕ). entry_refused (entry_fault (entry_at vs)) (given (entry_at vs))) fields
    ∙ ap (λ (t : Bool). cond t (given e) (refused 7 (entry_fault e))) (eq-eqb (entry_fault e) 0 z)

-- the bytes after writing
pub bytes_written : (e : Entry) (o : List ℕ) → 4 ≤ length o → entry_fault e ≡ 0 → (write_entry e o).bytes ≡ entry_bytes e ++ drop 4 o
unfolding write_entry
bytes_written e o l z = rw (le-ltb _ _ l, eq-eqb (entry_fault e) 0 z)

-- what was written is read
pub written_read : (e : Entry) (o : List ℕ) → 4 ≤ length o → entry_fault e ≡ 0 → read_entry (write_entry e o).bytes ≡ given e
written_read e o l z = ap read_entry (bytes_written e o l z) ∙ bytes_read e (drop 4 o) z

-- what is refused by a field
by_fault_lem : (t : Bool) (f : ℕ) (a e : Entry) → cond t (given a) (refused 7 f) ≡ given e → (t ≡ true) × (a ≡ e)
by_fault_lem true f a e g = (refl, given_same g)
by_fault_lem false f a e g = given_refused (sym g)

-- where an entry is given, there are four bytes and no field is at fault
module _ (s : List ℕ) (e : Entry) (given_e : read_entry s ≡ given e) where
  pub read_long : 4 ≤ length s
  read_long = go (dec_lt (length s) 4)
    where
      go : Dec (length s < 4) → 4 ≤ length s
      go (yes l) = given_refused (sym given_e ∙ entry_short s l)
      go (no l) = omega arith

  abbrev fields : List ℕ
  fields = unpack verdict_widths (pack (bytes 4) (take 4 s))

  read_in : (eqb (entry_fault (entry_at fields)) 0 ≡ true) × (entry_at fields ≡ e)
  unfolding entry_in
  read_in = by_fault_lem (eqb (entry_fault (entry_at fields)) 0) (entry_fault (entry_at fields)) (entry_at fields) e (sym (entry_long s read_long) ∙ given_e)

  pub read_sound : entry_fault e ≡ 0
  read_sound = ap entry_fault (sym read_in.1) ∙ eqb-true _ _ read_in.0

  -- what was read is written, byte for byte
  pub read_written : Fit (bytes 4) (take 4 s) → (write_entry e s).bytes ≡ s
  read_written f =
      let n = pack (bytes 4) (take 4 s) in
      let same : pack verdict_widths (entry_values e) ≡ n = ap (λ (a : Entry). pack verdict_widths (entry_values a)) (sym read_in.1) ∙ pack_unpack_lt verdict_widths n (pack_lt (bytes 4) (take 4 s) f) in
      bytes_written e s read_long read_sound
      ∙ ap (λ (k : ℕ). unpack (bytes 4) k ++ drop 4 s) same
      ∙ ap (λ (l : List ℕ). l ++ drop 4 s) (unpack_pack (bytes 4) (take 4 s) f)
      ∙ take-append-drop 4 s
