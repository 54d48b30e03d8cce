-- The sheet that an edit which is done leaves.
-- Assumes nothing.
use Rattle.std.specs.Prelude.{ℕ, suc, ◌+◌, ◌-◌, ◌≤◌, ◌<◌, ◌≡◌, refl, true, List, [], ◌∷◌, ◌++◌, length, take, drop, replicate}
use Rattle.std.proofs.Common.{sym, ap, ap₂, ◌∙◌, append-nil, arith, length-append, length-drop, length-take-le}
use Rattle.sheet.specs.declared.Header.{Header}
use Rattle.sheet.specs.declared.Record.{Record}
use Rattle.sheet.specs.Refusals.{given}
use Rattle.sheet.specs.Header.{header_size, header_fault, header_bytes, read_header}
use Rattle.sheet.specs.Record.{record_fault, record_bytes}
use Rattle.sheet.specs.laws.RecordExactly.{record_id}
use Rattle.sheet.specs.laws.HeaderExactly.{header_bytes_length}
use Rattle.sheet.specs.laws.HeaderFront.{header_bytes_read}
use Rattle.sheet.specs.laws.OwnBytes.{record_bytes_length, record_bytes_read}
use Rattle.checker.specs.Check.{sheet_size, Sheet}
use Rattle.keyed.specs.Keyed.{rises, position_of, put_of, out_of}
use Rattle.keyed.specs.laws.MapLaws.{put_rises, out_rises}
use Rattle.keyed.specs.laws.Places.{place_le, has_lt, put_at, put_length, out_at}
use Rattle.edit.specs.Edit.{sheet_at, id_of, counting, After, put_in, remove_in}
use Rattle.edit.specs.laws.Done.{Put, replaces, inserts, put_done, remove_done}
use Rattle.edit.specs.laws.HeaderCount.{counting_sound}
use Rattle.edit.specs.laws.Taken.{nothing, reads, Taken, taken_at}
use Rattle.edit_laws.specs.Edits.{holding}
use Rattle.edit_laws.specs.laws.Rebuilt.{head, head_read, rebuilt, inserted_bytes, replaced_bytes, removed_bytes}

-- a header's bytes alone are read as it
own_bytes_lem : (h : Header) → header_fault h ≡ 0 → read_header (header_bytes h) ≡ given h
own_bytes_lem h e = ap read_header (sym (append-nil (header_bytes h))) ∙ header_bytes_read h [] e

-- ---- the sheet that it leaves

module _ (b : List ℕ) (len : ℕ) (t : Sheet) (found : sheet_at b len ≡ given t) where
  k : Taken b len t
  k = taken_at b len t found

  abbrev rs : List Record
  rs = t.records

  abbrev h : Header
  h = t.header

  -- a sheet holds as many records as its header counts
  pub holds_its_own : t ≡ holding h rs
  holds_its_own = ap (λ (m : ℕ). record { header = counting m h; records = rs }) (sym k.number)

  -- the header and the records of a sheet of so many bytes, in other words
  in_words : (s : List ℕ) (a : After) (g : Header) (qs us : List Record) → a.bytes ≡ s → a.size ≡ sheet_size g → sheet_at s (sheet_size g) ≡ given (record { header = g; records = qs }) → qs ≡ us
      → g ≡ counting (length us) h → sheet_at a.bytes a.size ≡ given (holding h us)
  in_words s a g qs us eb es f er eg = ap₂ sheet_at eb es ∙ f ∙ ap₂ (λ (x : Header) (y : List Record). given (record { header = x; records = y })) eg er

  module _ (r : Record) (z : record_fault r 0 ≡ 0) where
    abbrev i : ℕ
    i = position_of id_of r.id rs

    inside : i ≤ h.count
    inside = omega (arith, place_le id_of r.id rs, k.number)

    rising : rises id_of 0 (put_of id_of r rs) ≡ true
    rising = put_rises id_of 0 r rs k.order (record_id r z).0

    put_held : (a : After) → Put b len t r a → sheet_at a.bytes a.size ≡ given (holding h (put_of id_of r rs))
    put_held a (replaces has e) =
        let next : suc i ≡ i + 1 = omega arith in
        let m : i < h.count = omega (arith, has_lt id_of r.id rs has, k.number) in
        let put : put_of id_of r rs ≡ take i rs ++ ((r ∷ []) ++ drop (i + 1) rs) = put_at id_of r rs ∙ rw has (ap (λ (j : ℕ). take i rs ++ (r ∷ drop j rs)) next) in
        let many : length (put_of id_of r rs) ≡ h.count = put_length id_of r rs ∙ rw has k.number in
        in_words _ a h _ (put_of id_of r rs)
        (ap (λ (x : After). x.bytes) e ∙ replaced_bytes b len t k i inside m r)
        (ap (λ (x : After). x.size) e ∙ k.whole)
        (rebuilt b len t k i inside (i + 1) (omega arith) (take (header_size h) b) h (record_bytes r ∷ []) (r ∷ []) (drop len b) (head b len t k i) (head_read b len t k i) k.slim (record_bytes_length r, tt)
        (reads (record_bytes_read 0 r z) nothing) (omega arith) (ap (rises id_of 0) (sym put) ∙ rising))
        (sym put)
        (ap (λ (x : ℕ). counting x h) (sym many))
    put_held a (inserts new fits few e) =
        let g = counting (h.count + 1) h in
        let sound = counting_sound h (h.count + 1) k.sound (omega arith) in
        let put : put_of id_of r rs ≡ take i rs ++ ((r ∷ []) ++ drop i rs) = put_at id_of r rs ∙ rw new in
        let many : length (put_of id_of r rs) ≡ h.count + 1 = put_length id_of r rs ∙ rw new (ap (λ (n : ℕ). n + 1) k.number) in
        in_words _ a g _ (put_of id_of r rs)
        (ap (λ (x : After). x.bytes) e ∙ inserted_bytes b len t k i inside g r refl)
        (ap (λ (x : After). x.size) e ∙ omega (arith, k.whole))
        (rebuilt b len t k i inside i inside (header_bytes g) g (record_bytes r ∷ []) (r ∷ []) (drop (len + 16) b) (header_bytes_length g) (own_bytes_lem g sound) k.slim (record_bytes_length r, tt)
        (reads (record_bytes_read 0 r z) nothing) (omega (arith, inside)) (ap (rises id_of 0) (sym put) ∙ rising))
        (sym put)
        (ap (λ (x : ℕ). counting x h) (sym many))

  -- after a put: the sheet is not turned away, its header counts its records, and these are the old ones with the new one put in
  pub put_sheet : (r : Record) (a : After) → put_in b len r ≡ given a → sheet_at a.bytes a.size ≡ given (holding h (put_of id_of r rs))
  put_sheet r a e = let d = put_done b len t found r a e in put_held r d.0 a d.1

  -- after a removal: likewise, with that one taken out
  pub remove_sheet : (id : ℕ) (a : After) → remove_in b len id ≡ given a → sheet_at a.bytes a.size ≡ given (holding h (out_of id_of id rs))
  remove_sheet id a e =
      let d = remove_done b len t found id a e in
      let j = position_of id_of id rs in
      let next : suc j ≡ j + 1 = omega arith in
      let m : j < h.count = omega (arith, has_lt id_of id rs d.there, k.number) in
      let g = counting (h.count - 1) h in
      let sound = counting_sound h (h.count - 1) k.sound (omega (arith, k.few)) in
      let within : j ≤ h.count = omega arith in
      let out : out_of id_of id rs ≡ take j rs ++ ([] ++ drop (j + 1) rs) = out_at id_of id rs d.there ∙ ap (λ (x : ℕ). take j rs ++ drop x rs) next in
      let many : length (out_of id_of id rs) ≡ h.count - 1 =
      ap length out ∙ omega (arith, length-append (take j rs) (drop (j + 1) rs), length-take-le j rs (omega (arith, k.number)), length-drop (j + 1) rs, k.number) in
      in_words _ a g _ (out_of id_of id rs)
      (ap (λ (x : After). x.bytes) d.after ∙ removed_bytes b len t k j within m g refl)
      (ap (λ (x : After). x.size) d.after ∙ omega (arith, k.whole))
      (rebuilt b len t k j within (j + 1) (omega arith) (header_bytes g) g [] [] (replicate 16 0 ++ drop len b) (header_bytes_length g) (own_bytes_lem g sound) k.slim tt nothing (omega arith)
      (ap (rises id_of 0) (sym out) ∙ out_rises id_of 0 id rs k.order))
      (sym out)
      (ap (λ (x : ℕ). counting x h) (sym many))
