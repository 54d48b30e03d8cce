-- No other member's verdict changes: in the checked sheet every other id keeps its verdict's bytes.
-- Assumes nothing.
use Rattle.std.specs.Prelude.{ℕ, zero, suc, ◌+◌, ◌*◌, ◌≤◌, ◌<◌, ◌≡◌, refl, List, [], ◌∷◌, length, leb}
use Rattle.std.proofs.Common.{sym, ap, subst, ◌∙◌, arith, zero-add, le-leb}
use Rattle.sheet.specs.declared.Header.{Header}
use Rattle.sheet.specs.declared.Record.{Record}
use Rattle.sheet.specs.declared.Body.{Body}
use Rattle.sheet.specs.declared.Body.TheVariants.{Plate as isPlate, Member as isMember}
use Rattle.sheet.specs.Refusals.{given}
use Rattle.sheet.specs.laws.RefusalLaws.{given_same}
use Rattle.sheet.specs.Record.{read_record}
use Rattle.sheet.specs.laws.RecordBack.{record_read_any}
use Rattle.framing.specs.Rules.{member_line}
use Rattle.checker.specs.Entry.{entry_bytes}
use Rattle.checker.specs.Check.{four_at, ◌then◌, demand, header_for, records_part, record_part, record_of, parts_from, Sheet, sheet_in, entry_of, output_of}
use Rattle.checker.specs.laws.ThenLaws.{then_given}
use Rattle.checker.specs.laws.FrontLaws.{slim_header}
use Rattle.checker.specs.laws.CheckLaws.{sheet_whole, verdict_at}
use Rattle.checker.specs.Unjudged.{room, sound_sheet}
use Rattle.keyed.specs.Keyed.{Edit, put, out, list_after}
use Rattle.keyed.specs.laws.Places.{At, put_keeps, out_keeps}
use Rattle.edit.specs.Edit.{sheet_at, id_of, counting, After}
use Rattle.edit.specs.laws.Taken.{Reads, nothing, reads, own_parts, taken_at}
use Rattle.edit_laws.specs.Edits.{sheet_of, edited, holding, edit_in}
use Rattle.edit_laws.specs.laws.Sequences.{one_edit}

-- ---- what a verdict rests on

-- not on the count
count_apart : (m : ℕ) (h : Header) (q : Record) → entry_of (counting m h) q ≡ entry_of h q
unfolding entry_of member_line
count_apart m h q = go q.kind q.id q.body
  where
    go : (kind id : ℕ) (b : Body) → entry_of (counting m h) (record { kind = kind; id = id; body = b }) ≡ entry_of h (record { kind = kind; id = id; body = b })
    go kind id (isPlate p) = refl
    go kind id (isMember p) = refl

-- a sheet in an output that has room for its verdicts, whatever else that has room for
pub with_room : (s : List ℕ) (x y : ℕ) (t : Sheet) → sheet_in s x ≡ given t → 4 * t.header.count ≤ y → sheet_in s y ≡ given t
unfolding sheet_in header_for ◌then◌ demand
with_room s x y t e l =
    let w = (sheet_whole s x t e).header in
    let h = t.header in
    let same : sheet_in s y ≡ sheet_in s x = rw (slim_header s h w.read w.slim, le-leb (4 * h.count) y l, le-leb (4 * h.count) x w.fits) in
    same ∙ e

-- ---- records by their places

pub read_of : (s : List ℕ) (k m : ℕ) (rs : List Record) → Reads (parts_from s k m) rs → (i : ℕ) → i < m → (q : Record) × At id_of rs i q × (read_record 0 (record_part s (k + i)) ≡ given q)
unfolding parts_from
read_of s k (suc m) [] a i l = elim a [ ]
read_of s k zero rs a i l = absurd (omega arith)
read_of s k (suc m) (r ∷ rs) (reads f a) zero l = let e : k ≡ k + 0 = omega arith in (r, refl, ap (λ (j : ℕ). read_record 0 (record_part s j)) (sym e) ∙ f)
read_of s k (suc m) (r ∷ rs) (reads f a) (suc i) l =
    let b = read_of s (k + 1) m rs a i (omega arith) in
    let e : k + 1 + i ≡ k + suc i = omega arith in
    (b.0, b.1, ap (λ (j : ℕ). read_record 0 (record_part s j)) (sym e) ∙ b.2)

pub at_read : (s : List ℕ) (k m : ℕ) (rs : List Record) → Reads (parts_from s k m) rs → (i : ℕ) (q : Record) → At id_of rs i q → (i < m) × (read_record 0 (record_part s (k + i)) ≡ given q)
unfolding parts_from
at_read s k zero (r ∷ rs) x4 i q b = elim x4 [ ]
at_read s k (suc m) [] x4 i q b = elim x4 [ ]
at_read s k zero [] nothing i q b = absurd b
at_read s k (suc m) (r ∷ rs) (reads f a) zero q b = let e : k ≡ k + 0 = omega arith in (omega arith, ap (λ (j : ℕ). read_record 0 (record_part s j)) (sym e) ∙ f ∙ ap given b)
at_read s k (suc m) (r ∷ rs) (reads f a) (suc i) q b =
    let c = at_read s (k + 1) m rs a i q b in
    let e : k + 1 + i ≡ k + suc i = omega arith in
    (omega (arith, c.0), ap (λ (j : ℕ). read_record 0 (record_part s j)) (sym e) ∙ c.1)

-- ---- the theorem

pub keeps : (e : Edit id_of) (rs : List Record) (i : ℕ) (q : Record) → (q.id ≡ edited e → ⊥) → At id_of rs i q → (j : ℕ) × At id_of (list_after id_of e rs) j q
unfolding list_after
keeps (put r) rs i q n a = put_keeps id_of r rs i q n a
keeps (out id) rs i q n a = out_keeps id_of id rs i q n a

module _ (a : After) (t : Sheet) (found : sheet_at a.bytes a.size ≡ given t) where
  -- it is the sheet that is checked
  checked : sound_sheet (sheet_of a) ≡ given t
  unfolding sheet_at
  checked = (then_given (demand (leb a.size (length a.bytes)) 1) _ t found).2

  in_output : (o : List ℕ) → 4 * t.header.count ≤ length o → sheet_in (sheet_of a) (length o) ≡ given t
  unfolding sound_sheet
  in_output o l = with_room (sheet_of a) room (length o) t checked l

  pub by_bytes : Reads (parts_from (records_part t.header (sheet_of a)) 0 t.header.count) t.records
  by_bytes =
      let k = taken_at a.bytes a.size t found in
      subst (λ (ps : List (List ℕ)). Reads ps t.records) (sym (own_parts a.bytes a.size t.header k.whole)) k.bytes

-- a record that is still there in another sheet with that header keeps its verdict's bytes, wherever it stands then
module _ (a : After) (t : Sheet) (found : sheet_at a.bytes a.size ≡ given t) (x : After) (us : List Record) (after : sheet_at x.bytes x.size ≡ given (holding t.header us)) (o o' : List ℕ)
    (fits : 4 * t.header.count ≤ length o) (fits' : 4 * length us ≤ length o') where
  abbrev w : Sheet
  w = holding t.header us

  pub verdict_kept : (i : ℕ) → i < t.header.count → (q : Record) → record_of (records_part t.header (sheet_of a)) i ≡ given q → (At id_of t.records i q → (j : ℕ) × At id_of us j q)
      → (j : ℕ) × (j < w.header.count) × (record_of (records_part t.header (sheet_of x)) j ≡ given q) × (four_at j (output_of (sheet_of x) o') ≡ four_at i (output_of (sheet_of a) o))
  verdict_kept i l q f still =
      let r = read_of (records_part t.header (sheet_of a)) 0 t.header.count t.records (by_bytes a t found) i l in
      let zero_i : 0 + i ≡ i = zero-add i in
      let read : read_record 0 (record_part (records_part t.header (sheet_of a)) i) ≡ given r.0 = ap (λ (j : ℕ). read_record 0 (record_part (records_part t.header (sheet_of a)) j)) (sym zero_i) ∙ r.2 in
      let same : r.0 ≡ q = given_same (sym (record_read_any 0 (record_part (records_part t.header (sheet_of a)) i) r.0 read i) ∙ f) in
      let kept = still (subst (λ (y : Record). At id_of t.records i y) same r.1) in
      let j = kept.0 in
      let s = at_read (records_part t.header (sheet_of x)) 0 w.header.count w.records (by_bytes x w after) j q kept.1 in
      let zero_j : 0 + j ≡ j = zero-add j in
      let there' : record_of (records_part t.header (sheet_of x)) j ≡ given q = record_read_any 0 (record_part (records_part t.header (sheet_of x)) j) q (ap (λ (m : ℕ). read_record 0 (record_part (records_part t.header (sheet_of x)) m)) (sym zero_j) ∙ s.1) j in (
        j,
        s.0,
        there',
        verdict_at (sheet_of x) o' w (in_output x w after o' fits') j s.0 q there'
            ∙ ap entry_bytes (count_apart (length w.records) t.header q)
            ∙ sym (verdict_at (sheet_of a) o t (in_output a t found o fits) i l q f),
      )

-- A record of the sheet whose id the edit is not about is a record of the sheet after it, and its verdict there has the bytes that it had: whatever the two
-- outputs are that have room for the verdicts.
module _ (a : After) (t : Sheet) (found : sheet_at a.bytes a.size ≡ given t) (e : Edit id_of) (x : After) (done : edit_in e a ≡ given x) (o o' : List ℕ)
    (fits : 4 * t.header.count ≤ length o) (fits' : 4 * length (list_after id_of e t.records) ≤ length o') where
  abbrev u : Sheet
  u = holding t.header (list_after id_of e t.records)

  after : sheet_at x.bytes x.size ≡ given u
  after = one_edit a t found e x done

  pub other_verdicts : (i : ℕ) → i < t.header.count → (q : Record) → record_of (records_part t.header (sheet_of a)) i ≡ given q → (q.id ≡ edited e → ⊥)
      → (j : ℕ) × (j < u.header.count) × (record_of (records_part t.header (sheet_of x)) j ≡ given q) × (four_at j (output_of (sheet_of x) o') ≡ four_at i (output_of (sheet_of a) o))
  other_verdicts i l q f n = verdict_kept a t found x (list_after id_of e t.records) after o o' fits fits' i l q f (keeps e t.records i q n)
