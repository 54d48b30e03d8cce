-- A sheet in a buffer that is not turned away: its length, its header, and its records by their bytes.
-- Assumes nothing.
use Rattle.std.specs.Prelude.{ℕ, zero, suc, ◌+◌, ◌*◌, ◌≤◌, ◌≡◌, refl, true, false, List, [], ◌∷◌, ◌++◌, length, take, drop, leb, ltb}
use Rattle.std.proofs.Common.{sym, ap, subst, ◌∙◌, arith, length-take-le, leb-true, lt-ltb}
use Rattle.truth.specs.laws.Tests.{both}
use Rattle.layout.specs.laws.BytesLaws.{drop_take}
use Rattle.sheet.specs.declared.Header.{Header}
use Rattle.sheet.specs.declared.Record.{Record}
use Rattle.sheet.specs.declared.Raw.{Raw}
use Rattle.sheet.specs.Refusals.{given}
use Rattle.sheet.specs.laws.RefusalLaws.{given_same}
use Rattle.sheet.specs.Header.{header_size, header_fault, read_header}
use Rattle.sheet.specs.Slender.{too_slender}
use Rattle.sheet.specs.laws.HeaderLaws.{header_ranges}
use Rattle.sheet.specs.laws.HeaderBack.{header_read_fine}
use Rattle.sheet.specs.Record.{read_record}
use Rattle.sheet.specs.laws.RecordBack.{record_read_any, record_read_raw}
use Rattle.checker.specs.Check.{◌then◌, demand, sheet_size, header_for, records_part, parts_from, sound_after, records_in, Sheet, sheet_in}
use Rattle.checker.specs.laws.ThenLaws.{then_given, demand_given}
use Rattle.checker.specs.laws.FrontLaws.{header_fits}
use Rattle.checker.specs.laws.CheckLaws.{sound_read}
use Rattle.checker.specs.Unjudged.{room, sound_sheet}
use Rattle.keyed.specs.Keyed.{rises, position_of, has_of}
use Rattle.keyed.specs.laws.Places.{SameKeys, none, next, same_place, same_has}
use Rattle.edit.specs.Edit.{sheet_at, highest, id_of}
use Rattle.edit.specs.Steps.{id_in, place_in, has_in}
use Rattle.checker.specs.laws.Parts.{parts_length, parts_within}

-- ---- records by their bytes

-- each sixteen bytes are read as the record
pub data Reads : List (List ℕ) → List Record → Type 0 where
  nothing : Reads [] []
  reads : {p : List ℕ} {r : Record} {ps : List (List ℕ)} {rs : List Record} → read_record 0 p ≡ given r → Reads ps rs → Reads (p ∷ ps) (r ∷ rs)

-- records that are taken in turn are read, and rise in their ids
pub taken_reads : (i before : ℕ) (ps : List (List ℕ)) (rs : List Record) → records_in i before ps ≡ given rs → Reads ps rs × (rises id_of before rs ≡ true)
unfolding records_in rises
taken_reads i before [] [] e = (nothing, refl)
taken_reads i before [] (r ∷ rs) e = absurd (let z : ◌≡◌ {A = ℕ} 0 1 = cc in omega arith)
taken_reads i before (p ∷ ps) rs e =
    let a = then_given (sound_after i before p) _ rs e in
    let b = then_given (records_in (i + 1) a.0.id ps) _ rs a.2 in
    let s = sound_read i before p a.0 a.1 in
    let rest = taken_reads (i + 1) a.0.id ps b.0 b.1 in
    subst (λ (l : List Record). Reads (p ∷ ps) l × (rises id_of before l ≡ true)) (given_same b.2)
    (reads (record_read_any i p a.0 s.0 0) rest.0, rw (lt-ltb before a.0.id s.1) rest.1)

-- and the other way round
pub reads_taken : (i before : ℕ) (ps : List (List ℕ)) (rs : List Record) → Reads ps rs → rises id_of before rs ≡ true → records_in i before ps ≡ given rs
unfolding records_in rises sound_after ◌then◌
reads_taken i before [] (r ∷ rs) x4 e = elim x4 [ ]
reads_taken i before (p ∷ ps) [] x4 e = elim x4 [ ]
reads_taken i before [] [] nothing e = refl
reads_taken i before (p ∷ ps) (r ∷ rs) (reads f s) e =
    let h = both (ltb before r.id) (rises id_of r.id rs) e in
    rw (record_read_any 0 p r f i, h.0, reads_taken (i + 1) r.id ps rs s h.1)

pub reads_length : (ps : List (List ℕ)) (rs : List Record) → Reads ps rs → length ps ≡ length rs
reads_length [] (r ∷ rs) x'' = elim x'' [ ]
reads_length (p ∷ ps) [] x3 = elim x3 [ ]
reads_length [] [] nothing = refl
reads_length (p ∷ ps) (r ∷ rs) (reads f s) = ap suc (reads_length ps rs s)

-- parts of both
pub reads_append : (ps qs : List (List ℕ)) (rs us : List Record) → Reads ps rs → Reads qs us → Reads (ps ++ qs) (rs ++ us)
reads_append [] qs (r ∷ rs) us x4 t = elim x4 [ ]
reads_append (p ∷ ps) qs [] us x4 t = elim x4 [ ]
reads_append [] qs [] us nothing t = t
reads_append (p ∷ ps) qs (r ∷ rs) us (reads f s) t = reads f (reads_append ps qs rs us s t)

pub reads_take : (k : ℕ) (ps : List (List ℕ)) (rs : List Record) → Reads ps rs → Reads (take k ps) (take k rs)
reads_take (suc k) [] (r ∷ rs) s = elim s [ ]
reads_take (suc k) (p ∷ ps) [] s = elim s [ ]
reads_take zero ps rs s = nothing
reads_take (suc k) [] [] nothing = nothing
reads_take (suc k) (p ∷ ps) (r ∷ rs) (reads f s) = reads f (reads_take k ps rs s)

pub reads_drop : (k : ℕ) (ps : List (List ℕ)) (rs : List Record) → Reads ps rs → Reads (drop k ps) (drop k rs)
reads_drop (suc k) [] (r ∷ rs) s = elim s [ ]
reads_drop (suc k) (p ∷ ps) [] s = elim s [ ]
reads_drop zero ps rs s = s
reads_drop (suc k) [] [] nothing = nothing
reads_drop (suc k) (p ∷ ps) (r ∷ rs) (reads f s) = reads_drop k ps rs s

-- the ids that stand in the bytes are those of the records
same_ids : (id : ℕ) (ps : List (List ℕ)) (rs : List Record) → Reads ps rs → SameKeys id_in id_of id ps rs
same_ids id [] (r ∷ rs) x'' = elim x'' [ ]
same_ids id (p ∷ ps) [] x3 = elim x3 [ ]
same_ids id [] [] nothing = none
same_ids id (p ∷ ps) (r ∷ rs) (reads f s) = next (ap (λ (w : Raw). w.values.id) ((record_read_raw 0 p r).0 f).0) (same_ids id ps rs s)

-- ---- the sheet

-- what is known of a sheet in the first len bytes of a buffer
pub record Taken (b : List ℕ) (len : ℕ) (t : Sheet) : Type 0 where
  pub fits : len ≤ length b
  pub whole : len ≡ sheet_size t.header
  pub read : read_header (take len b) ≡ given t.header
  pub slim : too_slender t.header ≡ false
  pub sound : header_fault t.header ≡ 0
  pub few : t.header.count ≤ highest t.header
  pub number : length t.records ≡ t.header.count
  pub bytes : Reads (parts_from (records_part t.header b) 0 t.header.count) t.records
  pub order : rises id_of 0 t.records ≡ true

-- its records are cut out of its own bytes
pub own_parts : (b : List ℕ) (len : ℕ) (h : Header) → len ≡ sheet_size h → parts_from (records_part h (take len b)) 0 h.count ≡ parts_from (records_part h b) 0 h.count
own_parts b len h size =
    ap (λ (m : ℕ). parts_from (records_part h (take m b)) 0 h.count) size
    ∙ ap (λ (l : List ℕ). parts_from l 0 h.count) (drop_take (header_size h) (16 * h.count) b)
    ∙ parts_within (records_part h b) (16 * h.count) 0 h.count (omega arith)

pub taken_at : (b : List ℕ) (len : ℕ) (t : Sheet) → sheet_at b len ≡ given t → Taken b len t
unfolding sheet_at sound_sheet sheet_in
taken_at b len t e =
    let s = take len b in
    let d = then_given (demand (leb len (length b)) 1) _ t e in
    let fits = leb-true len (length b) (demand_given (leb len (length b)) 1 d.0 d.1) in
    let a = then_given (header_for s room) _ t d.2 in
    let c = then_given (records_in 0 0 (parts_from (records_part a.0 s) 0 a.0.count)) _ t a.2 in
    subst (λ (u : Sheet). Taken b len u) (given_same c.2) (from fits a.0 a.1 c.0 c.1)
  where
    from : len ≤ length b → (h : Header) → header_for (take len b) room ≡ given h → (rs : List Record) → records_in 0 0 (parts_from (records_part h (take len b)) 0 h.count) ≡ given rs
        → Taken b len (record { header = h; records = rs })
    from fits h f rs g =
        let hf = header_fits (take len b) room h f in
        let fine = header_read_fine (take len b) h hf.read in
        let size : len ≡ sheet_size h = sym (length-take-le len b fits) ∙ hf.whole in
        let r = taken_reads 0 0 (parts_from (records_part h (take len b)) 0 h.count) rs g in
        let same = own_parts b len h size in
        record {
          fits = fits;
          whole = size;
          read = hf.read;
          slim = hf.slim;
          sound = fine;
          few = (header_ranges h fine).count_high;
          number = sym (reads_length (parts_from (records_part h (take len b)) 0 h.count) rs r.0) ∙ ap length same ∙ parts_length (records_part h b) 0 h.count;
          bytes = subst (λ (l : List (List ℕ)). Reads l rs) same r.0;
          order = r.1;
        }

-- a place found in the bytes is that among the records, and so is what is there
module _ (b : List ℕ) (len : ℕ) (t : Sheet) (k : Taken b len t) (id : ℕ) where
  pub place_same : place_in (records_part t.header b) t.header.count id ≡ position_of id_of id t.records
  unfolding place_in
  place_same = same_place id_in id_of id _ _ (same_ids id _ _ k.bytes)

  pub has_same : has_in (records_part t.header b) t.header.count id ≡ has_of id_of id t.records
  unfolding has_in
  has_same = same_has id_in id_of id _ _ (same_ids id _ _ k.bytes)
