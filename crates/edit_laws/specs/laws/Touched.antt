-- Which bytes an edit touches: a replacement its own sixteen; any other the header and the records from its place on; and none past the sheet but the
-- sixteen that it frees or takes.
-- Assumes nothing.
use Rattle.std.specs.Prelude.{ℕ, ◌+◌, ◌-◌, ◌≤◌, ◌≡◌, take, replicate}
use Rattle.std.proofs.Math.Path.{sym, ap}
use Rattle.std.proofs.Common.{◌∙◌, arith, length-take-le}
use mathlib.Core.List.{List, ◌++◌, append_assoc}
use Rattle.std.proofs.Math.ListN.{length, drop, length-append, length-drop, length-replicate}
use Rattle.std.proofs.Math.Seq.{take_at, drop_at}
use Rattle.sheet.specs.declared.Header.{Header}
use Rattle.sheet.specs.declared.Record.{Record}
use Rattle.sheet.specs.Header.{header_size, header_bytes}
use Rattle.sheet.specs.Record.{record_bytes}
use Rattle.sheet.specs.laws.HeaderExactly.{header_bytes_length}
use Rattle.sheet.specs.laws.OwnBytes.{record_bytes_length}
use Rattle.checker.specs.Check.{part}
use Rattle.edit.specs.Edit.{start, replacing, inserting, removing}

-- ---- parts of a list that is put together

part_length : (b : List ℕ) (a e : ℕ) → a ≤ e → e ≤ length b → length (part b a e) ≡ e - a
part_length b a e l m = length-take-le (e - a) (drop a b) (omega (arith, length-drop a b))

-- the part that is w, behind u
part_of : (u w z : List ℕ) (a e : ℕ) → length u ≡ a → e ≡ a + length w → part (u ++ (w ++ z)) a e ≡ w
part_of u w z a e p q =
    let m : length w ≡ e - a = omega arith in
    ap (take (e - a)) (drop_at u (w ++ z) a p) ∙ take_at w z (e - a) m

-- ---- a replacement

module _ (b : List ℕ) (h : Header) (i : ℕ) (r : Record) (l : start h i + 16 ≤ length b) where
  front : length (take (start h i) b) ≡ start h i
  front = length-take-le (start h i) b (omega arith)

  -- every byte before record i and after it is as it was, and its own are those of the record
  pub replaced_before : take (start h i) (replacing h i r b) ≡ take (start h i) b
  unfolding replacing
  replaced_before = take_at (take (start h i) b) _ (start h i) front

  pub replaced_own : part (replacing h i r b) (start h i) (start h i + 16) ≡ record_bytes r
  unfolding replacing
  replaced_own = part_of (take (start h i) b) (record_bytes r) _ (start h i) (start h i + 16) front (omega (arith, record_bytes_length r))

  pub replaced_after : drop (start h i + 16) (replacing h i r b) ≡ drop (start h i + 16) b
  unfolding replacing
  replaced_after =
      ap (drop (start h i + 16)) (sym (append_assoc (take (start h i) b) (record_bytes r) (drop (start h i + 16) b)))
      ∙ drop_at (take (start h i) b ++ record_bytes r) (drop (start h i + 16) b) (start h i + 16) (omega (arith, length-append (take (start h i) b) (record_bytes r), front, record_bytes_length r))

  pub replaced_length : length (replacing h i r b) ≡ length b
  unfolding replacing
  replaced_length =
      omega (arith, length-append (take (start h i) b) (record_bytes r ++ drop (start h i + 16) b), length-append (record_bytes r) (drop (start h i + 16) b), front, record_bytes_length r, length-drop (start h i + 16) b)

-- ---- an insertion as record i of a sheet of len bytes

module _ (b : List ℕ) (h : Header) (i len : ℕ) (r : Record) (l : start h i ≤ len) (m : len + 16 ≤ length b) where
  x : List ℕ
  x = part b (header_size h) (start h i)

  y : List ℕ
  y = part b (start h i) len

  z : List ℕ
  z = drop (len + 16) b

  -- the sheet's bytes up to each place
  to_place : length (header_bytes h ++ x) ≡ start h i
  unfolding x
  to_place = omega (arith, length-append (header_bytes h) (part b (header_size h) (start h i)), header_bytes_length h, part_length b (header_size h) (start h i) (omega arith) (omega arith))

  to_record : length (header_bytes h ++ x ++ record_bytes r) ≡ start h i + 16
  to_record = omega (arith, length-append (header_bytes h ++ x) (record_bytes r), to_place, record_bytes_length r)

  to_end : length (header_bytes h ++ x ++ record_bytes r ++ y) ≡ len + 16
  unfolding y
  to_end = omega (arith, length-append (header_bytes h ++ x ++ record_bytes r) (part b (start h i) len), to_record, part_length b (start h i) len l (omega arith))

  in_two : inserting h i len r b ≡ header_bytes h ++ x ++ (record_bytes r ++ (y ++ z))
  unfolding inserting x y z
  in_two = sym (append_assoc (header_bytes h) (part b (header_size h) (start h i)) (record_bytes r ++ (part b (start h i) len ++ drop (len + 16) b)))

  in_three : inserting h i len r b ≡ header_bytes h ++ x ++ record_bytes r ++ (y ++ z)
  in_three = in_two ∙ sym (append_assoc (header_bytes h ++ x) (record_bytes r) (y ++ z))

  in_four : inserting h i len r b ≡ header_bytes h ++ x ++ record_bytes r ++ y ++ z
  in_four = in_three ∙ sym (append_assoc (header_bytes h ++ x ++ record_bytes r) y z)

  pub inserted_header : take (header_size h) (inserting h i len r b) ≡ header_bytes h
  unfolding inserting
  inserted_header = take_at (header_bytes h) (part b (header_size h) (start h i) ++ (record_bytes r ++ (part b (start h i) len ++ drop (len + 16) b))) (header_size h) (header_bytes_length h)

  -- the records before record i stand where they stood
  pub inserted_before : part (inserting h i len r b) (header_size h) (start h i) ≡ part b (header_size h) (start h i)
  unfolding inserting
  inserted_before = part_of (header_bytes h) (part b (header_size h) (start h i)) _ (header_size h) (start h i) (header_bytes_length h) (omega (arith, part_length b (header_size h) (start h i) (omega arith) (omega arith)))

  pub inserted_own : part (inserting h i len r b) (start h i) (start h i + 16) ≡ record_bytes r
  inserted_own = ap (λ (s : List ℕ). part s (start h i) (start h i + 16)) in_two ∙ part_of (header_bytes h ++ x) (record_bytes r) (y ++ z) (start h i) (start h i + 16) to_place (omega (arith, record_bytes_length r))

  -- those from record i on stand sixteen bytes further
  pub inserted_moved : part (inserting h i len r b) (start h i + 16) (len + 16) ≡ part b (start h i) len
  unfolding y
  inserted_moved =
      ap (λ (s : List ℕ). part s (start h i + 16) (len + 16)) in_three
      ∙ part_of (header_bytes h ++ x ++ record_bytes r) (part b (start h i) len) z (start h i + 16) (len + 16) to_record (omega (arith, part_length b (start h i) len l (omega arith)))

  -- and past the sixteen that are taken nothing changes
  pub inserted_rest : drop (len + 16) (inserting h i len r b) ≡ drop (len + 16) b
  unfolding z
  inserted_rest = ap (drop (len + 16)) in_four ∙ drop_at (header_bytes h ++ x ++ record_bytes r ++ y) (drop (len + 16) b) (len + 16) to_end

  pub inserted_length : length (inserting h i len r b) ≡ length b
  unfolding z
  inserted_length = ap length in_four ∙ omega (arith, length-append (header_bytes h ++ x ++ record_bytes r ++ y) (drop (len + 16) b), to_end, length-drop (len + 16) b)

-- ---- a removal of record i of a sheet of len bytes

module _ (b : List ℕ) (h : Header) (i len : ℕ) (l : start h i + 16 ≤ len) (m : len ≤ length b) where
  v : List ℕ
  v = part b (header_size h) (start h i)

  w : List ℕ
  w = part b (start h i + 16) len

  nought : List ℕ
  nought = replicate 16 0

  up_to_place : length (header_bytes h ++ v) ≡ start h i
  unfolding v
  up_to_place = omega (arith, length-append (header_bytes h) (part b (header_size h) (start h i)), header_bytes_length h, part_length b (header_size h) (start h i) (omega arith) (omega arith))

  up_to_end : length (header_bytes h ++ v ++ w) ≡ len - 16
  unfolding w
  up_to_end = omega (arith, length-append (header_bytes h ++ v) (part b (start h i + 16) len), up_to_place, part_length b (start h i + 16) len l m)

  up_to_freed : length (header_bytes h ++ v ++ w ++ nought) ≡ len
  unfolding nought
  up_to_freed = omega (arith, length-append (header_bytes h ++ v ++ w) (replicate 16 0), up_to_end, length-replicate {A = ℕ} 16 0)

  by_two : removing h i len b ≡ header_bytes h ++ v ++ (w ++ (nought ++ drop len b))
  unfolding removing v w nought
  by_two = sym (append_assoc (header_bytes h) (part b (header_size h) (start h i)) (part b (start h i + 16) len ++ (replicate 16 0 ++ drop len b)))

  by_three : removing h i len b ≡ header_bytes h ++ v ++ w ++ (nought ++ drop len b)
  by_three = by_two ∙ sym (append_assoc (header_bytes h ++ v) w (nought ++ drop len b))

  by_four : removing h i len b ≡ header_bytes h ++ v ++ w ++ nought ++ drop len b
  by_four = by_three ∙ sym (append_assoc (header_bytes h ++ v ++ w) nought (drop len b))

  pub removed_header : take (header_size h) (removing h i len b) ≡ header_bytes h
  unfolding removing
  removed_header = take_at (header_bytes h) (part b (header_size h) (start h i) ++ (part b (start h i + 16) len ++ (replicate 16 0 ++ drop len b))) (header_size h) (header_bytes_length h)

  -- the records before record i stand where they stood
  pub removed_before : part (removing h i len b) (header_size h) (start h i) ≡ part b (header_size h) (start h i)
  unfolding removing
  removed_before = part_of (header_bytes h) (part b (header_size h) (start h i)) _ (header_size h) (start h i) (header_bytes_length h) (omega (arith, part_length b (header_size h) (start h i) (omega arith) (omega arith)))

  -- those after it stand sixteen bytes nearer
  pub removed_moved : part (removing h i len b) (start h i) (len - 16) ≡ part b (start h i + 16) len
  unfolding w
  removed_moved =
      ap (λ (s : List ℕ). part s (start h i) (len - 16)) by_two
      ∙ part_of (header_bytes h ++ v) (part b (start h i + 16) len) (nought ++ drop len b) (start h i) (len - 16) up_to_place (omega (arith, part_length b (start h i + 16) len l m))

  -- the sixteen that come free are zero
  pub removed_freed : part (removing h i len b) (len - 16) len ≡ replicate 16 0
  unfolding nought
  removed_freed =
      ap (λ (s : List ℕ). part s (len - 16) len) by_three
      ∙ part_of (header_bytes h ++ v ++ w) (replicate 16 0) (drop len b) (len - 16) len up_to_end (omega (arith, length-replicate {A = ℕ} 16 0))

  -- and past them nothing changes
  pub removed_rest : drop len (removing h i len b) ≡ drop len b
  removed_rest = ap (drop len) by_four ∙ drop_at (header_bytes h ++ v ++ w ++ nought) (drop len b) len up_to_freed

  pub removed_length : length (removing h i len b) ≡ length b
  removed_length = ap length by_four ∙ omega (arith, length-append (header_bytes h ++ v ++ w ++ nought) (drop len b), up_to_freed, length-drop len b)
