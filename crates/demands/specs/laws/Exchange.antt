-- A sheet in which record i is another sound record with the same id: it is not refused, and every other record and verdict is as it was.
-- Assumes nothing.
use Rattle.std.specs.Prelude.{ℕ, ◌+◌, ◌*◌, ◌≤◌, ◌<◌, ◌≡◌, refl, List, [], ◌∷◌, length}
use Rattle.std.proofs.Common.{sym, ap, subst, ◌∙◌, arith, lt-ltb, le-leb, eq-eqb}
use Rattle.std.proofs.Math.Decide.{ℕ_discrete}
use Rattle.sheet.specs.declared.Header.{Header}
use Rattle.sheet.specs.declared.Record.{Record}
use Rattle.sheet.specs.Refusals.{given}
use Rattle.sheet.specs.laws.RefusalLaws.{given_same}
use Rattle.sheet.specs.Header.{header_size, read_header}
use Rattle.sheet.specs.Record.{record_fault, record_bytes}
use Rattle.checker.specs.Entry.{entry_bytes, read_entry}
use Rattle.checker.specs.Check.{◌then◌, demand, sheet_size, header_for, records_part, record_of, parts_from, sound_after, records_in, Sheet, sheet_in, entry_of, output_of, four_at}
use Rattle.checker.specs.laws.FrontLaws.{slim_header}
use Rattle.checker.specs.Whole.{Taken, none, next}
use Rattle.checker.specs.laws.CheckLaws.{sheet_whole, record_given, verdict_at, verdict_read}
use Rattle.demands.specs.Table.{head_size}
use Rattle.demands.specs.Raise.{the_header, the_record, replaced}
use Rattle.demands.specs.laws.FieldsRead.{records_of, size_read, records_read, header_sound, record_sound}
use Rattle.demands.specs.laws.Replace.{replaced_length, replaced_header, replaced_record, replaced_others}

-- ---- a sheet whose records keep their ids is not refused

-- record j of the one sheet has the id of record j of the other
abbrev SameId : List ℕ → List ℕ → ℕ → Type 0
SameId s s' j = (r : Record) → record_of s j ≡ given r → (q : Record) × (record_of s' j ≡ given q) × (q.id ≡ r.id)

retaken : (s s' : List ℕ) (i before : ℕ) (rs : List Record) → Taken s i before rs → ((j : ℕ) → SameId s s' j)
    → (qs : List Record) × (records_in i before (parts_from s' i (length rs)) ≡ given qs)
unfolding records_in parts_from sound_after ◌then◌
retaken s s' i before [] none same = ([], refl)
retaken s s' i before (r ∷ rs) (next e o t) same =
    let q = same i r e in
    let rest = retaken s s' (i + 1) r.id rs t same in
    let l : before < q.0.id = omega (arith, q.2) in
    (q.0 ∷ rest.0, rw (q.1, lt-ltb before q.0.id l, q.2, rest.1))

-- a sheet of the same header and length, whose records have the same ids
accepted : (s s' : List ℕ) (room : ℕ) (t : Sheet) → sheet_in s room ≡ given t → read_header s' ≡ given t.header → length s' ≡ length s
    → ((j : ℕ) → SameId (records_part t.header s) (records_part t.header s') j)
    → (u : Sheet) × (sheet_in s' room ≡ given u) × (u.header ≡ t.header)
unfolding sheet_in header_for ◌then◌ demand
accepted s s' room t e header size same =
    let w = sheet_whole s room t e in
    let h = t.header in
    let whole : length s' ≡ sheet_size h = size ∙ w.header.whole in
    let again = retaken (records_part h s) (records_part h s') 0 0 t.records w.records same in
    let parts : records_in 0 0 (parts_from (records_part h s') 0 h.count) ≡ given again.0 = ap (λ (n : ℕ). records_in 0 0 (parts_from (records_part h s') 0 n)) (sym w.number) ∙ again.1 in (
      record { header = h; records = again.0 },
      rw (slim_header s' h header w.header.slim, eq-eqb (length s') (sheet_size h) whole, le-leb (4 * h.count) room w.header.fits, parts),
      refl,
    )

-- ---- a sheet in which only record i is another

module _ (s out : List ℕ) (t : Sheet) (given_t : sheet_in s (length out) ≡ given t) (i : ℕ) (inside : i < t.header.count) where
  -- the bytes of a sheet's records, under its header
  abbrev under : List ℕ → List ℕ
  under x = records_part t.header x

  -- it is not refused, has the same header, record i is r, and every other record is as it was
  pub record Holds (s' : List ℕ) (r : Record) : Type 0 where
    pub sheet : Sheet
    pub taken : sheet_in s' (length out) ≡ given sheet
    pub header : sheet.header ≡ t.header
    pub own : record_of (records_part t.header s') i ≡ given r
    pub others : (j : ℕ) → (j ≡ i → ⊥) → record_of (records_part t.header s') j ≡ record_of (records_part t.header s) j

  -- the sheet itself
  pub holds_at_first : (r : Record) → record_of (records_part t.header s) i ≡ given r → Holds s r
  holds_at_first r e = record { sheet = t; taken = given_t; header = refl; own = e; others = λ j n. refl }

  module _ (s' : List ℕ) (r : Record) (holds : Holds s' r) where
    pub its_header : the_header s' ≡ t.header
    its_header = (header_sound s' holds.sheet.header (sheet_whole s' (length out) holds.sheet holds.taken).header.read).1 ∙ holds.header

    -- the header that is read of it, and how many bytes it takes
    read : read_header s' ≡ given t.header
    read = (sheet_whole s' (length out) holds.sheet holds.taken).header.read ∙ ap given holds.header

    sized : head_size s' ≡ header_size t.header
    sized = size_read s' t.header read

    all_records : records_of s' ≡ records_part t.header s'
    all_records = records_read s' t.header read

    pub its_record : the_record s' i ≡ r
    its_record = (record_sound s' (under s') all_records i r holds.own).1

    within : i < holds.sheet.header.count
    within = subst (λ (h : Header). i < h.count) (sym holds.header) inside

    -- a record of the sheet under its own header
    as_held : (j : ℕ) (q : Record) → record_of (under s') j ≡ given q → record_of (records_part holds.sheet.header s') j ≡ given q
    as_held j q e = ap (λ (h : Header). record_of (records_part h s') j) holds.header ∙ e

    -- every other verdict's bytes are the same
    pub other_verdicts : (j : ℕ) → j < t.header.count → (j ≡ i → ⊥) → four_at j (output_of s' out) ≡ four_at j (output_of s out)
    other_verdicts j l n =
        let q = record_given s out t given_t j l in
        let m : j < holds.sheet.header.count = subst (λ (h : Header). j < h.count) (sym holds.header) l in
        verdict_at s' out holds.sheet holds.taken j m q.0 (as_held j q.0 (holds.others j n ∙ q.1))
        ∙ ap (λ (h : Header). entry_bytes (entry_of h q.0)) holds.header
        ∙ sym (verdict_at s out t given_t j l q.0 q.1)

    -- and its own are read as the verdict on r
    pub own_verdict : read_entry (four_at i (output_of s' out)) ≡ given (entry_of t.header r)
    own_verdict = verdict_read s' out holds.sheet holds.taken i within r (as_held i r holds.own) ∙ ap (λ (h : Header). given (entry_of h r)) holds.header

    room_for : header_size t.header + 16 * i + 16 ≤ length s'
    room_for = omega (arith, (sheet_whole s' (length out) holds.sheet holds.taken).header.whole, ap (λ (h : Header). header_size h) holds.header, within)

    -- another sound record with the same id in its place: every record keeps its id
    module _ (new : Record) (z : record_fault new 0 ≡ 0) (same : new.id ≡ r.id) where
      same_ids : (j : ℕ) → SameId (under s') (under (replaced i (record_bytes new) s')) j
      same_ids j p e = go (ℕ_discrete j i)
        where
          go : Dec (j ≡ i) → (q : Record) × (record_of (under (replaced i (record_bytes new) s')) j ≡ given q) × (q.id ≡ p.id)
          go (yes k) = (
            new,
            ap (record_of (under (replaced i (record_bytes new) s'))) k ∙ replaced_record s' (header_size t.header) sized i new z room_for,
            same ∙ ap (λ (x : Record). x.id) (given_same (sym holds.own ∙ ap (record_of (under s')) (sym k) ∙ e)),
          )
          go (no n) = (p, replaced_others s' (header_size t.header) sized i new z room_for j n ∙ e, refl)

      pub in_place : Holds (replaced i (record_bytes new) s') new
      in_place =
          let read_new = replaced_header s' (header_size t.header) sized i new z room_for t.header refl read ∙ ap given (sym holds.header) in
          let ids = subst (λ (h : Header). (j : ℕ) → SameId (records_part h s') (records_part h (replaced i (record_bytes new) s')) j) (sym holds.header) same_ids in
          let again = accepted s' (replaced i (record_bytes new) s') (length out) holds.sheet holds.taken read_new (replaced_length s' (header_size t.header) sized i new z room_for) ids in
          record {
            sheet = again.0;
            taken = again.1;
            header = again.2 ∙ holds.header;
            own = replaced_record s' (header_size t.header) sized i new z room_for;
            others = λ j n. replaced_others s' (header_size t.header) sized i new z room_for j n ∙ holds.others j n;
          }
