-- A sheet in which one record's sixteen bytes are replaced by those of a sound record: that record is read, and the header and every other record are read
-- as before.
-- Assumes nothing.
use Rattle.std.specs.Prelude.{ℕ, ◌+◌, ◌-◌, ◌*◌, ◌≤◌, ◌<◌, ◌≡◌, List, ◌++◌, length}
use Rattle.std.proofs.Common.{sym, ◌∙◌, arith, length-append, length-drop, take-append-drop, length-take-le, take-take, drop-drop, take_at, drop_at}
use Rattle.std.proofs.Math.Path.{ap}
use Rattle.std.proofs.Math.Decide.{dec_lt}
use Rattle.std.proofs.Math.ListN.{take, drop}
use Rattle.std.proofs.lemmas.List.{take-append-le, drop-append-le}
use Rattle.sheet.specs.declared.Header.{Header}
use Rattle.sheet.specs.declared.Record.{Record}
use Rattle.sheet.specs.Refusals.{given}
use Rattle.sheet.specs.Header.{header_size, read_header}
use Rattle.sheet.specs.laws.HeaderFront.{header_prefix}
use Rattle.sheet.specs.Record.{read_record, record_fault, record_bytes}
use Rattle.sheet.specs.laws.OwnBytes.{record_bytes_length, record_bytes_read}
use Rattle.checker.specs.Check.{record_of}
use Rattle.checker.specs.laws.CheckLaws.{part_past}
use Rattle.demands.specs.Table.{head_size}
use Rattle.demands.specs.Raise.{replaced}

-- ---- lists

-- a list in three parts, the middle one sixteen long
abbrev three : List ℕ → List ℕ → List ℕ → List ℕ
three p b q = p ++ (b ++ q)

module _ (p b q : List ℕ) (m : ℕ) (lp : length p ≡ m) (lb : length b ≡ 16) where
  -- the middle part
  in_middle : take 16 (drop m (three p b q)) ≡ b
  in_middle = ap (take 16) (drop_at p (b ++ q) m lp) ∙ take_at b q 16 lb

  -- sixteen before it
  before : (a : ℕ) → a + 16 ≤ m → take 16 (drop a (three p b q)) ≡ take 16 (drop a p)
  before a l = ap (take 16) (drop-append-le a p (b ++ q) (omega arith)) ∙ take-append-le 16 (drop a p) (b ++ q) (omega (arith, length-drop a p))

  -- sixteen after it
  after : (k : ℕ) → take 16 (drop (m + 16 + k) (three p b q)) ≡ take 16 (drop k q)
  after k =
      let far : m + (16 + k) ≡ m + 16 + k = omega arith in
      ap (take 16)
      (sym (drop-drop (16 + k) m (three p b q) ∙ ap (λ (x : ℕ). drop x (three p b q)) far)
      ∙ ap (drop (16 + k)) (drop_at p (b ++ q) m lp)
      ∙ sym (drop-drop k 16 (b ++ q))
      ∙ ap (drop k) (drop_at b q 16 lb))

-- ---- a sheet with one record replaced, whose header has k bytes

module _ (s : List ℕ) (k : ℕ) (sized : head_size s ≡ k) (i : ℕ) (r : Record) (z : record_fault r 0 ≡ 0) (l : k + 16 * i + 16 ≤ length s) where
  abbrev new : List ℕ
  new = replaced i (record_bytes r) s

  abbrev from : ℕ
  from = k + 16 * i

  abbrev bytes_of : List ℕ
  bytes_of = three (take from s) (record_bytes r) (drop (from + 16) s)

  new_is : new ≡ bytes_of
  unfolding replaced
  new_is = ap (λ (n : ℕ). take (n + 16 * i) s ++ (record_bytes r ++ drop (n + 16 * i + 16) s)) sized

  start_length : length (take from s) ≡ from
  start_length = length-take-le from s (omega arith)

  old_length : length (take 16 (drop from s)) ≡ 16
  old_length = length-take-le 16 (drop from s) (omega (arith, length-drop from s))

  -- the sheet as it was, in the same three parts
  parts : three (take from s) (take 16 (drop from s)) (drop (from + 16) s) ≡ s
  parts =
      ap (λ (t : List ℕ). take from s ++ (take 16 (drop from s) ++ t)) (sym (drop-drop 16 from s))
      ∙ ap (λ (t : List ℕ). take from s ++ t) (take-append-drop 16 (drop from s))
      ∙ take-append-drop from s

  pub replaced_length : length new ≡ length s
  replaced_length =
      ap length new_is
      ∙ omega (arith, length-append (take from s) (record_bytes r ++ drop (from + 16) s), length-append (record_bytes r) (drop (from + 16) s), length-drop (from + 16) s, start_length, record_bytes_length r)

  -- the header is read as before
  pub replaced_header : (h : Header) → header_size h ≡ k → read_header s ≡ given h → read_header new ≡ given h
  replaced_header h size e =
      let a : header_size h ≤ length (take from s) = omega (arith, start_length) in
      let same : take (header_size h) new ≡ take (header_size h) s =
      ap (take (header_size h)) new_is
      ∙ take-append-le (header_size h) (take from s) (record_bytes r ++ drop (from + 16) s) a
      ∙ take-take (header_size h) from s (omega arith) in
      header_prefix s new h e same

  -- record i is the new one
  pub replaced_record : record_of (drop k new) i ≡ given r
  replaced_record =
      ap (read_record i)
      (part_past k new i ∙ ap (λ (t : List ℕ). take 16 (drop from t)) new_is ∙ in_middle (take from s) (record_bytes r) (drop (from + 16) s) from start_length (record_bytes_length r))
      ∙ record_bytes_read i r z

  -- and every other record is read as before
  pub replaced_others : (j : ℕ) → (j ≡ i → ⊥) → record_of (drop k new) j ≡ record_of (drop k s) j
  replaced_others j n = ap (read_record j) (part_past k new j ∙ ap (λ (t : List ℕ). take 16 (drop (k + 16 * j) t)) new_is ∙ go (dec_lt j i) ∙ sym (part_past k s j))
    where
      go : Dec (j < i) → take 16 (drop (k + 16 * j) bytes_of) ≡ take 16 (drop (k + 16 * j) s)
      go (yes h) =
          before (take from s) (record_bytes r) (drop (from + 16) s) from start_length (record_bytes_length r) (k + 16 * j) (omega arith)
          ∙ sym (before (take from s) (take 16 (drop from s)) (drop (from + 16) s) from start_length old_length (k + 16 * j) (omega arith))
          ∙ ap (λ (t : List ℕ). take 16 (drop (k + 16 * j) t)) parts
      go (no h) =
          let m = 16 * (j - i - 1) in
          let at : from + 16 + m ≡ k + 16 * j = omega (arith, n) in
          let old = three (take from s) (take 16 (drop from s)) (drop (from + 16) s) in
          ap (λ (x : ℕ). take 16 (drop x bytes_of)) (sym at)
          ∙ after (take from s) (record_bytes r) (drop (from + 16) s) from start_length (record_bytes_length r) m
          ∙ sym (after (take from s) (take 16 (drop from s)) (drop (from + 16) s) from start_length old_length m)
          ∙ ap (λ (x : ℕ). take 16 (drop x old)) at
          ∙ ap (λ (t : List ℕ). take 16 (drop (k + 16 * j) t)) parts
