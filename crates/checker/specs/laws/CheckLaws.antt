-- The laws of the whole sheet: what is known of a sheet that is not turned away.
-- Assumes nothing.
use Rattle.std.specs.Prelude.{ℕ, zero, suc, ◌+◌, ◌-◌, ◌*◌, ◌≤◌, ◌<◌, ◌≡◌, refl, Bool, true, false, cond, List, [], ◌∷◌, ◌++◌, map, length, take, drop, ltb}
use Rattle.std.proofs.Common.{sym, subst, ◌∙◌, append-nil, add-zero, drop_at, drop-drop, ltb-true}
use Rattle.std.proofs.Math.Path.{ap}
use native.Mathlib.Omega.{arith}
use Rattle.std.proofs.Math.ListN.{length-map}
use Rattle.sheet.specs.declared.Header.{Header}
use Rattle.sheet.specs.declared.Record.{Record}
use Rattle.sheet.specs.Refusals.{Answer, given, refused}
use Rattle.sheet.specs.laws.RefusalLaws.{given_refused, given_same}
use Rattle.sheet.specs.Record.{read_record}
use Rattle.checker.specs.declared.Entry.{Entry}
use Rattle.checker.specs.Entry.{entry_bytes, read_entry}
use Rattle.checker.specs.laws.EntryLaws.{bytes_read}
use Rattle.checker.specs.laws.ThenLaws.{then_given}
use Rattle.checker.specs.Whole.{Taken, none, next, Whole}
use Rattle.checker.specs.laws.FrontLaws.{header_fits}
use Rattle.checker.specs.Check.{◌then◌, header_for, records_part, record_part, record_of, parts_from, sound_after, records_in, Sheet, sheet_in, entry_of, verdicts, bytes_of, four_at, failures, Totals, answer_of, output_by, output_of}
use Rattle.sheet.specs.laws.RecordBack.{record_read_fine}
use Rattle.checker.specs.laws.Sound.{entry_sound}

-- ---- where a record's bytes are

-- the sixteen bytes of record i; and of record i among the bytes after the first k
pub part_taken : (b : List ℕ) (i : ℕ) → record_part b i ≡ take 16 (drop (16 * i) b)
part_taken b i = let e : 16 * i + 16 - 16 * i ≡ 16 = omega arith in ap (λ (n : ℕ). take n (drop (16 * i) b)) e

pub part_past : (k : ℕ) (s : List ℕ) (i : ℕ) → record_part (drop k s) i ≡ take 16 (drop (k + 16 * i) s)
part_past k s i = part_taken (drop k s) i ∙ ap (take 16) (drop-drop (16 * i) k s)

-- ---- refusals 6 to 8 do not arise

pub sound_read : (i before : ℕ) (b : List ℕ) (r : Record) → sound_after i before b ≡ given r → (read_record i b ≡ given r) × (before < r.id)
unfolding sound_after
sound_read i before b r e =
    let a = then_given (read_record i b) _ r e in
    let c = go (ltb before a.0.id) a.0 a.2 in
    (a.1 ∙ ap given c.1, omega (arith, ltb-true before a.0.id c.0, ap (λ (q : Record). q.id) c.1))
  where
    go : (t : Bool) (q : Record) → cond t (given q) (refused 8 i) ≡ given r → (t ≡ true) × (q ≡ r)
    go true q g = (refl, given_same g)
    go false q g = given_refused (sym g)

pub taken : (s : List ℕ) (count i before : ℕ) (rs : List Record) → records_in i before (parts_from s i count) ≡ given rs → Taken s i before rs × (length rs ≡ count)
unfolding records_in parts_from
taken s zero i before [] e = (none, refl)
taken s zero i before (r ∷ rs) e = absurd (let z : ◌≡◌ {A = ℕ} 0 1 = cc in omega arith)
taken s (suc count) i before rs e =
    let a = then_given (sound_after i before (record_part s i)) _ rs e in
    let b = then_given (records_in (i + 1) a.0.id (parts_from s (i + 1) count)) _ rs a.2 in
    let r = sound_read i before (record_part s i) a.0 a.1 in
    let t = taken s count (i + 1) a.0.id b.0 b.1 in
    subst (λ (l : List Record). Taken s i before l × (length l ≡ suc count)) (given_same b.2) (next r.0 r.1 t.0, ap suc t.1)

-- ---- a sheet that is not turned away

pub sheet_whole : (s : List ℕ) (room : ℕ) (t : Sheet) → sheet_in s room ≡ given t → Whole s room t
unfolding sheet_in
sheet_whole s room t e =
    let a = then_given (header_for s room) _ t e in
    let b = then_given (records_in 0 0 (parts_from (records_part a.0 s) 0 a.0.count)) _ t a.2 in
    let w = taken (records_part a.0 s) a.0.count 0 0 b.0 b.1 in
    subst (λ (u : Sheet). Whole s room u) (given_same b.2) (record { header = header_fits s room a.0 a.1; records = w.0; number = w.1 })

-- record j of those taken
pub taken_at : (s : List ℕ) (i before : ℕ) (rs : List Record) → Taken s i before rs → (j : ℕ) → j < length rs → (r : Record) × (record_of s (i + j) ≡ given r)
taken_at s i before [] t j l = absurd (omega arith)
taken_at s i before (r ∷ rs) (next e o t) zero l = (r, ap (record_of s) (add-zero i) ∙ e)
taken_at s i before (r ∷ rs) (next e o t) (suc j) l =
    let a = taken_at s (i + 1) r.id rs t j (omega arith) in
    let m : i + suc j ≡ i + 1 + j = omega arith in
    (a.0, ap (record_of s) m ∙ a.1)

-- its four bytes
bytes_at : (h : Header) (s tail : List ℕ) (i before : ℕ) (rs : List Record) → Taken s i before rs → (j : ℕ) → j < length rs → (r : Record) → record_of s (i + j) ≡ given r
    → four_at j (bytes_of (map (entry_of h) rs) ++ tail) ≡ entry_bytes (entry_of h r)
unfolding bytes_of
bytes_at h s tail i before [] t j l r e = absurd (omega arith)
bytes_at h s tail i before (q ∷ rs) (next f o t) zero l r e = ap (λ (a : Record). entry_bytes (entry_of h a)) (given_same (sym f ∙ ap (record_of s) (sym (add-zero i)) ∙ e))
bytes_at h s tail i before (q ∷ rs) (next f o t) (suc j) l r e =
    let m : i + 1 + j ≡ i + suc j = omega arith in
    let four : 4 * suc j ≡ suc (suc (suc (suc (4 * j)))) = omega arith in
    ap (λ (k : ℕ). take 4 (drop k (bytes_of (map (entry_of h) (q ∷ rs)) ++ tail))) four
    ∙ bytes_at h s tail (i + 1) q.id rs t j (omega arith) r (ap (record_of s) m ∙ e)

-- as many bytes as four for each verdict
pub bytes_length : (es : List Entry) → length (bytes_of es) ≡ 4 * length es
unfolding bytes_of
bytes_length [] = refl
bytes_length (e ∷ es) = omega (arith, bytes_length es)

module _ (s out : List ℕ) (t : Sheet) (given_t : sheet_in s (length out) ≡ given t) where
  -- the bytes of its records
  abbrev rs : List ℕ
  rs = records_part t.header s

  whole : Whole s (length out) t
  whole = sheet_whole s (length out) t given_t

  -- the output is the verdicts, and then the bytes as they were lent
  pub output_done : output_of s out ≡ bytes_of (verdicts t) ++ drop (4 * t.header.count) out
  unfolding output_of
  output_done = ap (λ (a : Answer Sheet). output_by a out) given_t

  -- each record of the sheet is read as a record
  pub record_given : (i : ℕ) → i < t.header.count → (r : Record) × (record_of (records_part t.header s) i ≡ given r)
  record_given i l =
      let a = taken_at rs 0 0 t.records whole.records i (omega (arith, whole.number)) in
      let m : i ≡ 0 + i = omega arith in
      (a.0, ap (record_of rs) m ∙ a.1)

  -- its own four bytes of the output are those of the verdict on it: no other record has a part in them
  pub verdict_at : (i : ℕ) → i < t.header.count → (r : Record) → record_of rs i ≡ given r → four_at i (output_of s out) ≡ entry_bytes (entry_of t.header r)
  unfolding verdicts
  verdict_at i l r e =
      let m : 0 + i ≡ i = omega arith in
      ap (four_at i) output_done
      ∙ bytes_at t.header rs (drop (4 * t.header.count) out) 0 0 t.records whole.records i (omega (arith, whole.number)) r (ap (record_of rs) m ∙ e)

  -- and are read back as that verdict
  pub verdict_read : (i : ℕ) → i < t.header.count → (r : Record) → record_of rs i ≡ given r → read_entry (four_at i (output_of s out)) ≡ given (entry_of t.header r)
  verdict_read i l r e =
      ap read_entry (verdict_at i l r e ∙ sym (append-nil (entry_bytes (entry_of t.header r))))
      ∙ bytes_read (entry_of t.header r) [] (entry_sound t.header r (record_read_fine i (record_part rs i) r e))

  -- there is one verdict for each record
  pub verdicts_count : length (verdicts t) ≡ t.header.count
  unfolding verdicts
  verdicts_count = length-map t.records (entry_of t.header) ∙ whole.number

  -- every byte past the verdicts is as it was lent
  pub rest_as_lent : drop (4 * t.header.count) (output_of s out) ≡ drop (4 * t.header.count) out
  rest_as_lent =
      ap (drop (4 * t.header.count)) output_done
      ∙ drop_at (bytes_of (verdicts t)) (drop (4 * t.header.count) out) (4 * t.header.count) (bytes_length (verdicts t) ∙ ap (λ (k : ℕ). 4 * k) verdicts_count)

  -- the answer is n and how many verdicts have a rule
  pub answer_done : answer_of s (length out) ≡ given (record { n = t.header.count; failed = failures (verdicts t) })
  unfolding answer_of ◌then◌
  answer_done = rw given_t

-- a refusal leaves every byte as it was lent
pub refused_as_lent : (s out : List ℕ) (k p : ℕ) → sheet_in s (length out) ≡ refused k p → output_of s out ≡ out
unfolding output_of
refused_as_lent s out k p e = ap (λ (a : Answer Sheet). output_by a out) e

-- a check that is not refused has given its header
pub answer_sheet : (s : List ℕ) (room : ℕ) (w : Totals) → answer_of s room ≡ given w → (t : Sheet) × (sheet_in s room ≡ given t) × (w ≡ record { n = t.header.count; failed = failures (verdicts t) })
unfolding answer_of
answer_sheet s room w e = let a = then_given (sheet_in s room) _ w e in (a.0, a.1, sym (given_same a.2))

-- and room for n verdicts
pub answer_room : (s : List ℕ) (room : ℕ) (w : Totals) → answer_of s room ≡ given w → 4 * w.n ≤ room
answer_room s room w e =
    let a = answer_sheet s room w e in
    omega (arith, (sheet_whole s room a.0 a.1).header.fits, ap (λ (x : Totals). x.n) a.2)
