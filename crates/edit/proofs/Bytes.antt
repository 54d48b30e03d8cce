-- What the steps that write leave in the buffer.
-- Assumes nothing.
use Prim.Native.Nat.{ℕ, ◌+◌, ◌-◌, ◌*◌, ◌≤◌}
use mathlib.Core.Path.{◌≡◌, sym, ap, ap₂, ◌∙◌}
use mathlib.Core.List.{List, [], ◌++◌, append_assoc, append-nil}
use native.Mathlib.Omega.{arith}
use lib.ListN.{length, take, drop, replicate, length-append, length-take, length-drop, drop_of_length-le}
use lib.Seq.{take_at, drop_at, take-append-le, drop-append-le, take-append-add, take-take, drop-drop, length-take-le}
use borrow.Author.Tests.{le-ltb, eq-eqb}
use borrow.Rule.Slice.PartMut.{put_mid}
use Rattle.layout.specs.laws.BytesLaws.{drop_take}
use Rattle.sheet.specs.declared.Header.{Header}
use Rattle.sheet.specs.declared.Record.{Record}
use Rattle.sheet.specs.Header.{header_size, header_fault, header_bytes, write_header}
use Rattle.sheet.specs.laws.HeaderLaws.{header_allowed}
use Rattle.sheet.specs.laws.HeaderExactly.{header_write_given, header_write_bytes}
use Rattle.sheet.specs.Record.{record_fault, record_bytes, write_record}
use Rattle.checker.specs.Check.{part}
use Rattle.edit.specs.Edit.{start, replacing, inserting, removing}
use Rattle.edit.specs.Steps.{opened, without, closed, cleared, Fits, Stands}

-- a part, the other way round
part_is : (b : List ℕ) (a e : ℕ) → a ≤ e → part b a e ≡ drop a (take e b)
part_is b a e l =
    let m : a + (e - a) ≡ e = omega arith in
    sym (ap (λ (k : ℕ). drop a (take k b)) (sym m) ∙ drop_take a (e - a) b)

-- the record's sixteen bytes come back into their place
in_place : (b v : List ℕ) (h : Header) (i : ℕ) (r : Record) → record_fault r 0 ≡ 0 → start h i + 16 ≤ length b → v ≡ (write_record r (take (start h i + 16 - start h i) (drop (start h i) b))).bytes
    → put_mid (start h i) (start h i + 16 - start h i) b v ≡ replacing h i r b
unfolding write_record replacing
in_place b v h i r z l w =
    let d : start h i + 16 - start h i ≡ 16 = omega arith in
    let o = take (start h i + 16 - start h i) (drop (start h i) b) in
    let n : length o ≡ 16 = ap (λ (k : ℕ). length (take k (drop (start h i) b))) d ∙ length-take-le 16 (drop (start h i) b) (omega (arith, length-drop (start h i) b)) in
    let long : 16 ≤ length o = omega arith in
    let short : length o ≤ 16 = omega arith in
    let end : drop 16 o ≡ [] = drop_of_length-le o short in
    let own : v ≡ record_bytes r = w ∙ rw (le-ltb (length o) 16 long, eq-eqb (record_fault r 0) 0 z, end) (append-nil (record_bytes r)) in
    ap₂ (λ (x : List ℕ) (k : ℕ). take (start h i) b ++ (x ++ drop k (drop (start h i) b))) own d
    ∙ ap (λ (x : List ℕ). take (start h i) b ++ (record_bytes r ++ x)) (drop-drop 16 (start h i) b)

-- the header's size being known by another name
pub replaced : (b v : List ℕ) (h : Header) (i k : ℕ) → k ≡ header_size h → (r : Record) → record_fault r 0 ≡ 0 → start h i + 16 ≤ length b
    → v ≡ (write_record r (take (k + 16 * i + 16 - (k + 16 * i)) (drop (k + 16 * i) b))).bytes → put_mid (k + 16 * i) (k + 16 * i + 16 - (k + 16 * i)) b v ≡ replacing h i r b
replaced b v h i k e r z l w =
    ap (λ (n : ℕ). put_mid (n + 16 * i) (n + 16 * i + 16 - (n + 16 * i)) b v) e
    ∙ in_place b v h i r z l (w ∙ ap (λ (n : ℕ). (write_record r (take (n + 16 * i + 16 - (n + 16 * i)) (drop (n + 16 * i) b))).bytes) e)

-- a part comes back as zeros
pub zeroed : (b v : List ℕ) (a e : ℕ) → a ≤ e → e ≤ length b → v ≡ replicate (length (take (e - a) (drop a b))) 0 → put_mid a (e - a) b v ≡ cleared b a e
unfolding cleared
zeroed b v a e l m f =
    let n : length (take (e - a) (drop a b)) ≡ e - a = length-take-le (e - a) (drop a b) (omega (arith, length-drop a b)) in
    let end : a + (e - a) ≡ e = omega arith in
    ap₂ (λ (x y : List ℕ). take a b ++ (x ++ y)) (f ∙ ap (λ (k : ℕ). replicate k 0) n) (drop-drop (e - a) a b ∙ ap (λ (k : ℕ). drop k b) end)

-- the header goes over its bytes in a buffer whose first are known
headed : (h : Header) (x y : List ℕ) → header_fault h ≡ 0 → header_size h ≤ length x → (write_header h (x ++ y)).bytes ≡ header_bytes h ++ (drop (header_size h) x ++ y)
headed h x y z l =
    let fine = (header_write_given h (x ++ y)).1 (omega (arith, length-append x y), header_allowed h z) in
    header_write_bytes h (x ++ y) fine ∙ ap (◌++◌ (header_bytes h)) (drop-append-le (header_size h) x y l)

module _ (b : List ℕ) (h : Header) (i len : ℕ) where
  abbrev a : ℕ
  a = start h i

  -- what stands between the header and the place
  before : a ≤ len → drop (header_size h) (take a b) ≡ part b (header_size h) a
  before l = sym (part_is b (header_size h) a (omega arith))

  pub inserted : (r : Record) → Fits h i len r (length b) → (o p q : List ℕ) → o ≡ opened b a len → p ≡ replacing h i r o → q ≡ (write_header h p).bytes → q ≡ inserting h i len r b
  unfolding opened replacing inserting
  inserted r f o p q eo ep eq =
      let n : length (take a b) ≡ a = length-take-le a b (omega (arith, f.inside, f.room)) in
      let m : length (take (a + 16) b) ≡ a + 16 = length-take-le (a + 16) b (omega (arith, f.inside, f.room)) in
      let after = drop a (take len b) ++ drop (len + 16) b in
      let low : take a o ≡ take a b = ap (take a) eo ∙ take-append-le a (take (a + 16) b) after (omega arith) ∙ take-take a (a + 16) b (omega arith) in
      let high : drop (a + 16) o ≡ after = ap (drop (a + 16)) eo ∙ drop_at (take (a + 16) b) after (a + 16) m in
      let whole : p ≡ take a b ++ (record_bytes r ++ after) = ep ∙ ap₂ (λ (x y : List ℕ). x ++ (record_bytes r ++ y)) low high in
      eq
      ∙ ap (λ (x : List ℕ). (write_header h x).bytes) whole
      ∙ headed h (take a b) (record_bytes r ++ after) f.header (omega arith)
      ∙ ap₂ (λ (x y : List ℕ). header_bytes h ++ (x ++ (record_bytes r ++ (y ++ drop (len + 16) b)))) (before f.inside) (sym (part_is b a len f.inside))

  pub removed : Stands h i len (length b) → (o p q : List ℕ) → o ≡ closed b a (len - 16) → p ≡ cleared o (len - 16) len → q ≡ (write_header h p).bytes → q ≡ removing h i len b
  unfolding closed cleared removing
  removed f o p q eo ep eq =
      let k = len - 16 in
      let n : length (take a b) ≡ a = length-take-le a b (omega (arith, f.inside, f.whole)) in
      let m : length (without a b) ≡ length b - 16 = simp (length-append, length-take, length-drop) (omega (arith, f.inside, f.whole)) in
      let c : length (take k (without a b)) ≡ k = length-take-le k (without a b) (omega (arith, f.inside, f.whole)) in
      let sum : length (take a b) + (k - a) ≡ k = omega (arith, f.inside) in
      let gap : k - a ≡ len - (a + 16) = omega (arith, f.inside) in
      let freed : len - k ≡ 16 = omega (arith, f.inside) in
      let shut : take k (without a b) ≡ take a b ++ part b (a + 16) len = ap (λ (x : ℕ). take x (without a b)) (sym sum) ∙ take-append-add (take a b) (drop (a + 16) b) (k - a) ∙ ap (λ (x : ℕ). take a b ++ take x (drop (a + 16) b)) gap in
      let low : take k o ≡ take a b ++ part b (a + 16) len = ap (take k) eo ∙ take_at (take k (without a b)) (drop k b) k c ∙ shut in
      let end : k + (len - k) ≡ len = omega (arith, f.inside) in
      let high : drop len o ≡ drop len b =
      ap (λ (x : ℕ). drop x o) (sym end)
      ∙ sym (drop-drop (len - k) k o)
      ∙ ap (λ (x : List ℕ). drop (len - k) (drop k x)) eo
      ∙ ap (drop (len - k)) (drop_at (take k (without a b)) (drop k b) k c)
      ∙ drop-drop (len - k) k b
      ∙ ap (λ (x : ℕ). drop x b) end in
      let whole : p ≡ take a b ++ (part b (a + 16) len ++ (replicate 16 0 ++ drop len b)) = ep ∙ in_three (take k o) (replicate (len - k) 0) (drop len o) low (ap (λ (x : ℕ). replicate x 0) freed) high in
      eq
      ∙ ap (λ (x : List ℕ). (write_header h x).bytes) whole
      ∙ headed h (take a b) (part b (a + 16) len ++ (replicate 16 0 ++ drop len b)) f.header (omega arith)
      ∙ ap (λ (x : List ℕ). header_bytes h ++ (x ++ (part b (a + 16) len ++ (replicate 16 0 ++ drop len b)))) (before (omega (arith, f.inside)))
    where
      in_three : (x y z : List ℕ) → x ≡ take a b ++ part b (a + 16) len → y ≡ replicate 16 0 → z ≡ drop len b → x ++ (y ++ z) ≡ take a b ++ (part b (a + 16) len ++ (replicate 16 0 ++ drop len b))
      in_three x y z ex ey ez =
          ap₂ (λ (u v : List ℕ). u ++ (y ++ v)) ex ez
          ∙ ap (λ (u : List ℕ). take a b ++ part b (a + 16) len ++ (u ++ drop len b)) ey
          ∙ append_assoc (take a b) (part b (a + 16) len) (replicate 16 0 ++ drop len b)
