-- There and back, for a header and for a record alike: what is written is read again, and what is read is written again byte for byte.
-- Assumes nothing.
use Rattle.std.specs.Prelude.{ℕ, ◌^◌, ◌≤◌, ◌<◌, ◌≡◌, List, ◌++◌, length, take, drop}
use Rattle.std.proofs.Common.{sym, ap, ◌∙◌, arith, length-append, take-append-drop, take_at, le-ltb}
use Rattle.layout.specs.Layout.{total, pack, unpack, bytes, Fit}
use Rattle.layout.specs.laws.Laws.{pack_lt, pack_unpack_lt, unpack_pack, length_unpack, length_bytes}
use Rattle.sheet.specs.Refusals.{Answer, given, Wrote}
use Rattle.sheet.specs.laws.RefusalLaws.{given_refused}
use Rattle.sheet.specs.laws.ExactlyLaws.{slice_long}
use Rattle.sheet.specs.Exactly.{Cases, by_slice}
use Rattle.sheet.specs.laws.Written.{written, written_fine, written_given, written_bytes, written_first}

-- the answer of reading the number in the first bytes; 1 where there are too few of them
abbrev pub read_by : {A : Type 0} → Cases → (ℕ → Answer A) → List ℕ → Answer A
read_by c read_in s = by_slice 1 c s (read_in (pack (bytes c.size) (take c.size s)))

-- the bytes of a number
abbrev pub bytes_of : Cases → ℕ → List ℕ
bytes_of c n = unpack (bytes c.size) n

-- how a number is read, which number each value is, and its fault. The two laws: the number of a value with no fault is read as that value, and a
-- number that is read as a value is that value's, which has no fault
module _ {A : Type 0} (c : Cases) (read_in : ℕ → Answer A) (number fault : A → ℕ)
    (number_read : (a : A) → fault a ≡ 0 → (number a < 2 ^ total (bytes c.size)) × (read_in (number a) ≡ given a))
    (read_number : (n : ℕ) (a : A) → n < 2 ^ total (bytes c.size) → read_in n ≡ given a → (fault a ≡ 0) × (number a ≡ n)) where
  abbrev k : ℕ
  k = c.size

  -- writing a value
  abbrev writes : A → List ℕ → Wrote
  writes a o = written c (fault a) (bytes_of c (number a)) o

  length_of_lem : (n : ℕ) → length (bytes_of c n) ≡ k
  length_of_lem n = length_unpack (bytes k) n ∙ length_bytes k

  pub read_again : (a : A) (o : List ℕ) → (writes a o).answer ≡ given tt → read_by c read_in (writes a o).bytes ≡ given a
  read_again a o e =
      let h = written_fine c (fault a) (bytes_of c (number a)) o e in
      let r = number_read a h.1 in
      let bs = bytes_of c (number a) in
      let l : k ≤ length (bs ++ drop k o) = omega (arith, length-append bs (drop k o), length_of_lem (number a)) in
      ap (read_by c read_in) (written_bytes c (fault a) bs o h.0 h.1)
      ∙ rw (le-ltb _ _ l)
      (ap (λ (b : List ℕ). read_in (pack (bytes k) b)) (take_at bs (drop k o) k (length_of_lem (number a)))
      ∙ ap read_in (pack_unpack_lt (bytes k) (number a) r.0)
      ∙ r.1)

  -- what is read: it is long enough, the value has no fault, and its bytes are those read
  module _ (s : List ℕ) (a : A) (fit : Fit (bytes k) (take k s)) (e : read_by c read_in s ≡ given a) where
    abbrev n : ℕ
    n = pack (bytes k) (take k s)

    long : (k ≤ length s) × (read_in n ≡ given a)
    long = (slice_long 1 c s (read_in n) (given a) (λ q. given_refused (sym q))).0 e

    value : (fault a ≡ 0) × (number a ≡ n)
    value = read_number n a (pack_lt (bytes k) (take k s) fit) long.1

    same_bytes : bytes_of c (number a) ≡ take k s
    same_bytes = ap (bytes_of c) value.1 ∙ unpack_pack (bytes k) (take k s) fit

    pub written_again : (o : List ℕ) → k ≤ length o → ((writes a o).answer ≡ given tt) × (take k (writes a o).bytes ≡ take k s)
    written_again o l =
        let bs = bytes_of c (number a) in (
          written_given c (fault a) bs o l value.0,
          written_first c (fault a) bs o (length_of_lem (number a)) (written_given c (fault a) bs o l value.0) ∙ same_bytes,
        )

    -- writing back what was read changes nothing
    pub written_onto : (writes a s).bytes ≡ s
    written_onto =
        written_bytes c (fault a) (bytes_of c (number a)) s long.0 value.0
        ∙ ap (λ (b : List ℕ). b ++ drop k s) same_bytes
        ∙ take-append-drop k s
