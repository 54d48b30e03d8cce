-- Each verdict's number goes into its own four bytes of the output.
-- Assumes nothing.
use Prim.Native.Nat.{ℕ, zero, suc, ◌+◌, ◌-◌, ◌*◌, ◌≤◌, ◌<◌}
use mathlib.Core.Path.{◌≡◌, refl, sym, ap, ◌∙◌}
use mathlib.Core.List.{List, [], ◌∷◌, ◌++◌, map, append_assoc, append-nil}
use native.Mathlib.Omega.{arith}
use native.Mathlib.Numerals.{add-one}
use lib.ListN.{length, take, drop, get_or, take-append-drop, length-take, length-drop, length-append, drop_of_length-le}
use lib.Seq.{drop-drop, take_at}
use borrow.Author.Tests.{le-ltb}
use borrow.Rule.Slice.PartMut.{put_mid, drop_put}
use Rattle.layout.specs.Layout.{unpack, bytes}
use Rattle.layout.specs.Bytes.{written_of}
use Rattle.checker.specs.declared.Entry.{Entry}
use Rattle.checker.specs.Entry.{entry_number}
use Rattle.checker.specs.Check.{bytes_of}
use Rattle.checker.specs.Passes.{number_bytes}

-- A part that was lent from the middle and has come back. at: where it starts, four bytes; v: what it holds now; past it nothing has changed.
module _ (out v : List ℕ) (at : ℕ) (sized : length v ≡ 4) (within : at + 4 ≤ length out) where
  unfoldable whole : List ℕ
  whole = put_mid at (at + 4 - at) out v

  drop_whole : (m : ℕ) → at + 4 ≤ m → drop m whole ≡ drop m out
  unfolding whole
  drop_whole m h =
      let d : drop (at + 4) whole ≡ drop (at + 4) out = drop_put at (at + 4) out v (omega arith) within (omega arith) in
      let e : at + 4 + (m - (at + 4)) ≡ m = omega arith in
      ap (λ (k : ℕ). drop k whole) (sym e)
      ∙ sym (drop-drop (m - (at + 4)) (at + 4) whole)
      ∙ ap (drop (m - (at + 4))) d
      ∙ drop-drop (m - (at + 4)) (at + 4) out
      ∙ ap (λ (k : ℕ). drop k out) e

  take_whole : take (at + 4) whole ≡ take at out ++ v
  unfolding whole
  take_whole =
      let l : length (take at out ++ v) ≡ at + 4 = simp (length-append, length-take) (omega arith) in
      ap (take (at + 4)) (sym (append_assoc (take at out) v _)) ∙ take_at (take at out ++ v) _ (at + 4) l

  part_turn : (m : ℕ) (more : List ℕ) → at + 4 ≤ m → take (at + 4) (put_mid at (at + 4 - at) out v) ++ more ++ drop m (put_mid at (at + 4 - at) out v) ≡ take at out ++ (v ++ more) ++ drop m out
  unfolding whole
  part_turn m more h = rw (take_whole, drop_whole m h) (simp append_assoc)

-- four bytes into which a number was written are the number's
wrote_four : (n : ℕ) (o after : List ℕ) → length o ≡ 4 → after ≡ written_of 4 n o → after ≡ unpack (bytes 4) n
unfolding written_of
wrote_four n o after l w =
    let four : 4 ≤ length o = omega arith in
    let none : length o ≤ 4 = omega arith in
    w ∙ rw (le-ltb (length o) 4 four, drop_of_length-le o none) (append-nil (unpack (bytes 4) n))

-- the numbers from the i-th on begin with it
number_next : (ns : List ℕ) (i : ℕ) → i < length ns → number_bytes (drop i ns) ≡ unpack (bytes 4) (get_or ns i 0) ++ number_bytes (drop (i + 1) ns)
unfolding number_bytes
number_next ns i h = rw add-one (go ns i h)
  where
    go : (ms : List ℕ) (k : ℕ) → k < length ms → number_bytes (drop k ms) ≡ unpack (bytes 4) (get_or ms k 0) ++ number_bytes (drop (suc k) ms)
    go [] k g = absurd (omega arith)
    go (m ∷ ms) zero g = refl
    go (m ∷ ms) (suc k) g = go ms k (omega arith)

-- writing the numbers from the i-th on gives the whole
abbrev pub whole_from : (draft out : List ℕ) (i : ℕ) → List ℕ
whole_from draft out i = take (4 * i) out ++ number_bytes (drop i draft) ++ drop (4 * length draft) out

module _ (draft out : List ℕ) (i : ℕ) (more : i < length draft) (room : 4 * length draft ≤ length out) where
  pub part_written : (o after : List ℕ) → o ≡ take (4 * i + 4 - 4 * i) (drop (4 * i) out) → after ≡ written_of 4 (get_or draft i 0) o
      → whole_from draft (put_mid (4 * i) (4 * i + 4 - 4 * i) out after) (i + 1) ≡ whole_from draft out i
  part_written o after lent wrote =
      let four_more : 4 * (i + 1) ≡ 4 * i + 4 = omega arith in
      let sized : length o ≡ 4 = rw lent (simp (length-take, length-drop) (omega arith)) in
      rw (four_more, wrote_four (get_or draft i 0) o after sized wrote, number_next draft i more)
      (part_turn out (unpack (bytes 4) (get_or draft i 0)) (4 * i) refl (omega arith) (4 * length draft) (number_bytes (drop (i + 1) draft)) (omega arith))

pub all_written : (draft out : List ℕ) (i : ℕ) → i ≡ length draft → whole_from draft out i ≡ out
unfolding number_bytes
all_written draft out i e =
    let none : length draft ≤ length draft = omega arith in
    let last : number_bytes (drop (length draft) draft) ≡ [] = rw (drop_of_length-le draft none) in
    rw (e, last, append-nil) (take-append-drop (4 * length draft) out)

-- the bytes of verdicts are those of their numbers
pub entries_bytes : (es : List Entry) → number_bytes (map entry_number es) ≡ bytes_of es
unfolding number_bytes bytes_of
entries_bytes [] = refl
entries_bytes (e ∷ es) = rw (entries_bytes es)
