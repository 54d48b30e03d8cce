-- A sheet that is not turned away is the bytes of its header and of its records.
-- Assumes nothing.
use Rattle.std.specs.Prelude.{ℕ, zero, suc, ◌+◌, ◌*◌, ◌≤◌, ◌<◌, ◌≡◌, refl, List, [], ◌∷◌, ◌++◌, length, take, drop}
use Rattle.std.proofs.Common.{sym, ap, ap₂, subst, ◌∙◌, append-nil, arith, length-drop, take-append-drop, drop_of_length-le, take-add, take_all, drop-drop, length-take-le, le-ltb, eq-eqb}
use Rattle.layout.specs.Layout.{bytes, Fit}
use Rattle.sheet.specs.declared.Header.{Header}
use Rattle.sheet.specs.declared.Record.{Record}
use Rattle.sheet.specs.Refusals.{given}
use Rattle.sheet.specs.Header.{header_size, header_fault, header_bytes}
use Rattle.sheet.specs.laws.HeaderBack.{header_bytes_same, read_holds}
use Rattle.sheet.specs.Record.{record_fault, read_record, record_bytes, write_record}
use Rattle.sheet.specs.laws.RecordBack.{record_read_fine, record_written_onto}
use Rattle.checker.specs.Check.{records_part, record_part, Sheet}
use Rattle.checker.specs.Whole.{Taken, none, next}
use Rattle.checker.specs.laws.CheckLaws.{part_taken, sheet_whole}
use Rattle.checker.specs.Unjudged.{room, sound_sheet}

-- ---- bytes

-- a list of bytes; every slice is one
abbrev pub Bytes : List ℕ → Type 0
Bytes s = Fit (bytes (length s)) s

bytes_take : (k : ℕ) (s : List ℕ) → k ≤ length s → Bytes s → Fit (bytes k) (take k s)
bytes_take zero s l f = tt
bytes_take (suc k) [] l f = absurd (omega arith)
bytes_take (suc k) (b ∷ s) l f = (f.0, bytes_take k s (omega arith) f.1)

bytes_drop : (k : ℕ) (s : List ℕ) → Bytes s → Bytes (drop k s)
bytes_drop zero s f = f
bytes_drop (suc k) [] f = tt
bytes_drop (suc k) (b ∷ s) f = bytes_drop k s f.1

-- ---- records

-- the bytes of records, one behind the other
unfoldable pub joined_bytes : List Record → List ℕ
joined_bytes [] = []
joined_bytes (r ∷ rs) = record_bytes r ++ joined_bytes rs

-- sixteen bytes that are read as a record are its own
record_own : (i : ℕ) (b : List ℕ) (r : Record) → length b ≡ 16 → Fit (bytes 16) b → read_record i b ≡ given r → record_bytes r ≡ b
unfolding write_record
record_own i b r l f e =
    let whole : take 16 b ≡ b = take_all 16 b (omega arith) in
    let none_left : drop 16 b ≡ [] = drop_of_length-le b {i = 16} (omega arith) in
    let w : (write_record r b).bytes ≡ b = record_written_onto i b r e (subst (Fit (bytes 16)) (sym whole) f) in
    let is : (write_record r b).bytes ≡ record_bytes r ++ drop 16 b = rw (le-ltb (length b) 16 (omega arith), eq-eqb (record_fault r 0) 0 (record_read_fine i b r e)) in
    sym (append-nil (record_bytes r)) ∙ ap (λ (t : List ℕ). record_bytes r ++ t) (sym none_left) ∙ sym is ∙ w

taken_bytes : (b : List ℕ) (i before : ℕ) (rs : List Record) → Bytes b → Taken b i before rs → 16 * i + 16 * length rs ≤ length b → take (16 * length rs) (drop (16 * i) b) ≡ joined_bytes rs
unfolding joined_bytes
taken_bytes b i before [] f none l = refl
taken_bytes b i before (r ∷ rs) f (next e o t) l =
    let x = drop (16 * i) b in
    let long : 16 ≤ length x = omega (arith, length-drop (16 * i) b) in
    let n : 16 * length (r ∷ rs) ≡ 16 + 16 * length rs = omega arith in
    let own : record_bytes r ≡ take 16 x = record_own i (take 16 x) r (length-take-le 16 x long) (bytes_take 16 x long (bytes_drop (16 * i) b f)) (ap (read_record i) (sym (part_taken b i)) ∙ e) in
    let past : drop 16 x ≡ drop (16 * (i + 1)) b = drop-drop 16 (16 * i) b ∙ ap (λ (k : ℕ). drop k b) (let m : 16 * i + 16 ≡ 16 * (i + 1) = omega arith in m) in
    ap (λ (k : ℕ). take k x) n ∙ take-add 16 (16 * length rs) x
    ∙ ap₂ {C = List ℕ} (λ y z. y ++ z) (sym own) (ap (take (16 * length rs)) past ∙ taken_bytes b (i + 1) r.id rs f t (omega arith))

-- every record that was taken is sound
pub data Sound : List Record → Type 0 where
  nothing : Sound []
  further : {r : Record} {rs : List Record} → record_fault r 0 ≡ 0 → Sound rs → Sound (r ∷ rs)

taken_sound : (b : List ℕ) (i before : ℕ) (rs : List Record) → Taken b i before rs → Sound rs
taken_sound b i before [] none = nothing
taken_sound b i before (r ∷ rs) (next e o t) = further (record_read_fine i (record_part b i) r e) (taken_sound b (i + 1) r.id rs t)

-- ---- a whole sheet

pub record Whole (s : List ℕ) (t : Sheet) : Type 0 where
  pub bytes_are : s ≡ header_bytes t.header ++ joined_bytes t.records
  pub header : header_fault t.header ≡ 0
  pub records : Sound t.records

pub sheet_bytes : (s : List ℕ) (t : Sheet) → Bytes s → sound_sheet s ≡ given t → Whole s t
unfolding sound_sheet
sheet_bytes s t f e =
    let w = sheet_whole s room t e in
    let h = t.header in
    let size = header_size h in
    let b = records_part h s in
    let inside : size ≤ length s = omega (arith, w.header.whole) in
    let rest : length b ≡ 16 * length t.records = omega (arith, length-drop size s, w.header.whole, w.number) in
    let head : header_bytes h ≡ take size s = header_bytes_same s h w.header.read (bytes_take size s inside f) in
    let zero_on : drop (16 * 0) b ≡ b = refl in
    let tail : b ≡ joined_bytes t.records = sym (take_all (16 * length t.records) b (omega arith)) ∙ taken_bytes b 0 0 t.records (bytes_drop size s f) w.records (omega arith) in
    record {
      bytes_are = sym (take-append-drop size s) ∙ ap₂ {C = List ℕ} (λ x y. x ++ y) (sym head) tail;
      header = (read_holds s h w.header.read).fine;
      records = taken_sound b 0 0 t.records w.records;
    }
