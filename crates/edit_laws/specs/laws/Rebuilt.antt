-- The sheet that an edit leaves: its bytes in their parts, and what is read of them.
-- Assumes nothing.
use Rattle.std.specs.Prelude.{ℕ, ◌+◌, ◌-◌, ◌*◌, ◌≤◌, ◌<◌, ◌≡◌, true, false, replicate}
use Rattle.std.proofs.Common.{sym, subst, ◌∙◌, zero-add, length-drop, take-append-drop, take_at, drop_at, take-take, length-take-le}
use Rattle.std.proofs.Math.Path.{ap, ap₂}
use mathlib.Core.List.{List, [], ◌∷◌, ◌++◌, append_assoc, append-nil}
use native.Mathlib.Omega.{arith}
use Rattle.std.proofs.Math.ListN.{length, take, drop, length-append}
use Rattle.std.proofs.Math.Seq.{drop-drop, take-add}
use Rattle.std.proofs.lemmas.List.{take-append-le}
use borrow.Author.Tests.{le-leb, eq-eqb}
use Rattle.sheet.specs.declared.Header.{Header}
use Rattle.sheet.specs.declared.Record.{Record}
use Rattle.sheet.specs.Refusals.{given}
use Rattle.sheet.specs.Header.{header_size, header_bytes, read_header}
use Rattle.sheet.specs.Slender.{too_slender}
use Rattle.sheet.specs.laws.HeaderLaws.{header_ranges}
use Rattle.sheet.specs.laws.HeaderBack.{header_read_fine}
use Rattle.sheet.specs.Record.{record_bytes}
use Rattle.sheet.specs.laws.HeaderFront.{header_prefix}
use Rattle.checker.specs.Check.{◌then◌, demand, sheet_header, sheet_size, header_for, records_part, part, parts_from, records_in, Sheet, sheet_in}
use Rattle.checker.specs.laws.FrontLaws.{slim_header}
use Rattle.checker.specs.Unjudged.{room, sound_sheet}
use Rattle.keyed.specs.Keyed.{rises}
use Rattle.edit.specs.Edit.{sheet_at, start, id_of, replacing, inserting, removing}
use Rattle.checker.specs.laws.Parts.{begin, join, Wide, join_append, join_length, wide_append, parts_length, parts_wide, parts_split, cut, joined}
use Rattle.edit.specs.laws.Taken.{Reads, reads_taken, reads_append, reads_take, reads_drop, Taken}

-- ---- a sheet that is put together

module _ (x : List ℕ) (ps : List (List ℕ)) (z : List ℕ) (h : Header) (rs : List Record) (sized : length x ≡ header_size h) (wide : Wide ps) (read : read_header x ≡ given h) (slim : too_slender h ≡ false)
    (number : h.count ≡ length ps) (each : Reads ps rs) (order : rises id_of 0 rs ≡ true) where
  abbrev whole : List ℕ
  whole = x ++ (join ps ++ z)

  long : length (x ++ join ps) ≡ sheet_size h
  long = omega (arith, length-append x (join ps), join_length ps wide, number)

  front : take (sheet_size h) whole ≡ x ++ join ps
  front = ap (take (sheet_size h)) (sym (append_assoc x (join ps) z)) ∙ take_at (x ++ join ps) z (sheet_size h) long

  header_read : sheet_header (x ++ join ps) ≡ given h
  header_read = slim_header (x ++ join ps) h (header_prefix x (x ++ join ps) h read (take-append-le (header_size h) x (join ps) (omega arith))) slim

  records_read : records_in 0 0 (parts_from (records_part h (x ++ join ps)) 0 h.count) ≡ given rs
  records_read =
      ap₂ (λ (s : List ℕ) (n : ℕ). records_in 0 0 (parts_from s 0 n)) (drop_at x (join ps) (header_size h) sized ∙ sym (append-nil (join ps))) number
      ∙ ap (records_in 0 0) (joined ps [] wide)
      ∙ reads_taken 0 0 ps rs each order

  -- it is not turned away, and holds the header and the records that it was put together from
  pub put_together : sheet_at whole (sheet_size h) ≡ given (record { header = h; records = rs })
  unfolding sheet_at sound_sheet sheet_in header_for ◌then◌ demand
  put_together =
      let fits : sheet_size h ≤ length whole = omega (arith, ap length (sym (append_assoc x (join ps) z)), length-append (x ++ join ps) z, long) in
      let few = (header_ranges h (header_read_fine x h read)).count_few in
      rw (le-leb (sheet_size h) (length whole) fits, front, header_read, eq-eqb (length (x ++ join ps)) (sheet_size h) long, le-leb (4 * h.count) room (omega arith), records_read)

-- ---- the bytes around record i, among those of all records

front_cut : (s : List ℕ) (i : ℕ) → begin i ≤ length s → take (begin i) s ≡ join (parts_from s 0 i)
front_cut s i l =
    let e : begin (0 + i) - begin 0 ≡ begin i = omega arith in
    ap (λ (k : ℕ). take k s) (sym e) ∙ cut s 0 i (omega arith)

back_cut : (s : List ℕ) (i m : ℕ) → begin (i + m) ≤ length s → drop (begin i) s ≡ join (parts_from s i m) ++ drop (begin (i + m)) s
back_cut s i m l =
    let k = begin (i + m) - begin i in
    let e : begin i + k ≡ begin (i + m) = omega arith in
    sym (take-append-drop k (drop (begin i) s)) ∙ ap₂ (λ (u v : List ℕ). u ++ v) (cut s i m l) (drop-drop k (begin i) s ∙ ap (λ (j : ℕ). drop j s) e)

-- the records before record i, and those from it on
first_parts : (b : List ℕ) (n i : ℕ) → i ≤ n → parts_from b 0 i ≡ take i (parts_from b 0 n)
first_parts b n i l =
    let e : i + (n - i) ≡ n = omega arith in
    sym (ap (λ (k : ℕ). take i (parts_from b 0 k)) (sym e) ∙ ap (take i) (parts_split b 0 i (n - i)) ∙ take_at (parts_from b 0 i) (parts_from b (0 + i) (n - i)) i (parts_length b 0 i))

last_parts : (b : List ℕ) (n i : ℕ) → i ≤ n → parts_from b i (n - i) ≡ drop i (parts_from b 0 n)
last_parts b n i l =
    let e : i + (n - i) ≡ n = omega arith in
    sym
    (ap (λ (k : ℕ). drop i (parts_from b 0 k)) (sym e)
    ∙ ap (drop i) (parts_split b 0 i (n - i))
    ∙ drop_at (parts_from b 0 i) (parts_from b (0 + i) (n - i)) i (parts_length b 0 i)
    ∙ ap (λ (k : ℕ). parts_from b k (n - i)) (zero-add i))

-- ---- the three edits

module _ (b : List ℕ) (len : ℕ) (t : Sheet) (k : Taken b len t) (i : ℕ) where
  abbrev n : ℕ
  n = t.header.count

  -- how many bytes the header takes, and the bytes of all records
  abbrev a : ℕ
  a = header_size t.header

  abbrev s : List ℕ
  s = records_part t.header b

  room_for : begin n ≤ length s
  room_for = omega (arith, length-drop a b, k.fits, k.whole)

  -- the header's bytes
  pub head : length (take (header_size t.header) b) ≡ header_size t.header
  head = length-take-le a b (omega (arith, k.fits, k.whole))

  pub head_read : read_header (take (header_size t.header) b) ≡ given t.header
  head_read =
      header_prefix (take len b) (take a b) t.header k.read (take-take a a b (omega arith) ∙ sym (take-take a len b (omega (arith, k.whole))))

  -- past the header, record j begins where it does among the bytes of all records
  past : (j : ℕ) → drop (start t.header j) b ≡ drop (begin j) s
  past j = sym (drop-drop (begin j) a b)

  module _ (inside : i ≤ n) where
    before : Reads (parts_from s 0 i) (take i t.records)
    before = subst (λ (l : List (List ℕ)). Reads l (take i t.records)) (sym (first_parts s n i inside)) (reads_take i (parts_from s 0 n) t.records k.bytes)

    before_wide : Wide (parts_from s 0 i)
    before_wide = parts_wide s 0 i (omega (arith, room_for))

    -- those from record j on
    from : (j : ℕ) → j ≤ n → Reads (parts_from s j (n - j)) (drop j t.records)
    from j l = subst (λ (m : List (List ℕ)). Reads m (drop j t.records)) (sym (last_parts s n j l)) (reads_drop j (parts_from s 0 n) t.records k.bytes)

    from_wide : (j : ℕ) → j ≤ n → Wide (parts_from s j (n - j))
    from_wide j l = parts_wide s j (n - j) (omega (arith, room_for))

    -- the bytes before record i, and from record j on up to the end of the sheet
    start_part : part b a (start t.header i) ≡ join (parts_from s 0 i)
    start_part =
        let e : start t.header i - a ≡ begin i = omega arith in
        ap (λ (m : ℕ). take m (drop a b)) e ∙ front_cut s i (omega (arith, room_for))

    end_part : (j : ℕ) → j ≤ n → part b (start t.header j) len ≡ join (parts_from s j (n - j))
    end_part j l =
        let e : len - start t.header j ≡ begin (j + (n - j)) - begin j = omega (arith, k.whole) in
        ap₂ (λ (m : ℕ) (x : List ℕ). take m x) e (past j) ∙ cut s j (n - j) (omega (arith, room_for))

    -- a sheet with records between those before record i and those from record j on
    module _ (j : ℕ) (later : j ≤ n) (x : List ℕ) (h : Header) (mid : List (List ℕ)) (new : List Record) (z : List ℕ) (sized : length x ≡ header_size h) (read : read_header x ≡ given h)
        (slim : too_slender h ≡ false) (wide : Wide mid) (each : Reads mid new) (number : h.count ≡ i + (length mid + (n - j))) (order : rises id_of 0 (take i t.records ++ (new ++ drop j t.records)) ≡ true) where
      abbrev all : List (List ℕ)
      all = parts_from s 0 i ++ (mid ++ parts_from s j (n - j))

      all_length : h.count ≡ length all
      all_length =
          omega (
            arith,
            number,
            length-append (parts_from s 0 i) (mid ++ parts_from s j (n - j)),
            length-append mid (parts_from s j (n - j)),
            parts_length s 0 i,
            parts_length s j (n - j),
          )

      pub rebuilt : sheet_at (x ++ (join all ++ z)) (sheet_size h) ≡ given (record { header = h; records = take i t.records ++ (new ++ drop j t.records) })
      rebuilt =
          put_together x all z h (take i t.records ++ (new ++ drop j t.records)) sized
          (wide_append (parts_from s 0 i) (mid ++ parts_from s j (n - j)) before_wide (wide_append mid (parts_from s j (n - j)) wide (from_wide j later)))
          read
          slim
          all_length
          (reads_append (parts_from s 0 i) (mid ++ parts_from s j (n - j)) (take i t.records) (new ++ drop j t.records) before
          (reads_append mid (parts_from s j (n - j)) new (drop j t.records) each (from j later)))
          order

    -- a record put in
    pub inserted_bytes : (h : Header) (r : Record) → header_size h ≡ header_size t.header
        → inserting h i len r b ≡ header_bytes h ++ (join (parts_from s 0 i ++ ((record_bytes r ∷ []) ++ parts_from s i (n - i))) ++ drop (len + 16) b)
    unfolding inserting join
    inserted_bytes h r same =
        ap (λ (m : ℕ). header_bytes h ++ (part b m (m + 16 * i) ++ (record_bytes r ++ (part b (m + 16 * i) len ++ drop (len + 16) b)))) same
        ∙ ap₂ (λ (u v : List ℕ). header_bytes h ++ (u ++ (record_bytes r ++ (v ++ drop (len + 16) b)))) start_part (end_part i inside)
        ∙ ap (◌++◌ (header_bytes h)) (regroup (join (parts_from s 0 i)) (record_bytes r) (join (parts_from s i (n - i))) (drop (len + 16) b) ∙ ap (λ (u : List ℕ). u ++ drop (len + 16) b) (sym (join_append (parts_from s 0 i) (record_bytes r ∷ parts_from s i (n - i)))))
      where
        regroup : (u v w y : List ℕ) → u ++ (v ++ (w ++ y)) ≡ u ++ (v ++ w) ++ y
        regroup u v w y = simp append_assoc

    -- a record replaced
    pub replaced_bytes : i < n → (r : Record)
        → replacing t.header i r b ≡ take (header_size t.header) b ++ (join (parts_from s 0 i ++ ((record_bytes r ∷ []) ++ parts_from s (i + 1) (n - (i + 1)))) ++ drop len b)
    unfolding replacing join
    replaced_bytes l r =
        let e : start t.header i + 16 ≡ start t.header (i + 1) = omega arith in
        let f : begin (i + 1 + (n - (i + 1))) ≡ begin n = omega arith in
        let g : a + begin n ≡ len = omega (arith, k.whole) in
        let end : drop (begin (i + 1 + (n - (i + 1)))) s ≡ drop len b = ap (λ (m : ℕ). drop m s) f ∙ drop-drop (begin n) a b ∙ ap (λ (m : ℕ). drop m b) g in
        let rest : drop (start t.header i + 16) b ≡ join (parts_from s (i + 1) (n - (i + 1))) ++ drop len b =
        ap (λ (m : ℕ). drop m b) e ∙ past (i + 1) ∙ back_cut s (i + 1) (n - (i + 1)) (omega (arith, room_for)) ∙ ap (λ (u : List ℕ). join (parts_from s (i + 1) (n - (i + 1))) ++ u) end in
        let front : take (start t.header i) b ≡ take a b ++ join (parts_from s 0 i) = take-add a (begin i) b ∙ ap (◌++◌ (take a b)) (front_cut s i (omega (arith, room_for))) in
        ap₂ (λ (u v : List ℕ). u ++ (record_bytes r ++ v)) front rest
        ∙ regroup (take a b) (join (parts_from s 0 i)) (record_bytes r) (join (parts_from s (i + 1) (n - (i + 1)))) (drop len b)
        ∙ ap (λ (u : List ℕ). take a b ++ (u ++ drop len b)) (sym (join_append (parts_from s 0 i) (record_bytes r ∷ parts_from s (i + 1) (n - (i + 1)))))
      where
        regroup : (x u v w y : List ℕ) → x ++ u ++ (v ++ (w ++ y)) ≡ x ++ (u ++ (v ++ w) ++ y)
        regroup x u v w y = simp append_assoc

    -- a record taken out
    pub removed_bytes : i < n → (h : Header) → header_size h ≡ header_size t.header
        → removing h i len b ≡ header_bytes h ++ (join (parts_from s 0 i ++ ([] ++ parts_from s (i + 1) (n - (i + 1)))) ++ (replicate 16 0 ++ drop len b))
    unfolding removing
    removed_bytes l h same =
        let e : start t.header i + 16 ≡ start t.header (i + 1) = omega arith in
        let rest : part b (start t.header i + 16) len ≡ join (parts_from s (i + 1) (n - (i + 1))) = ap (λ (m : ℕ). part b m len) e ∙ end_part (i + 1) (omega arith) in
        ap (λ (m : ℕ). header_bytes h ++ (part b m (m + 16 * i) ++ (part b (m + 16 * i + 16) len ++ (replicate 16 0 ++ drop len b)))) same
        ∙ ap₂ (λ (u v : List ℕ). header_bytes h ++ (u ++ (v ++ (replicate 16 0 ++ drop len b)))) start_part rest
        ∙ ap (◌++◌ (header_bytes h))
        (sym (append_assoc (join (parts_from s 0 i)) (join (parts_from s (i + 1) (n - (i + 1)))) (replicate 16 0 ++ drop len b))
        ∙ ap (λ (u : List ℕ). u ++ (replicate 16 0 ++ drop len b)) (sym (join_append (parts_from s 0 i) (parts_from s (i + 1) (n - (i + 1))))))
