-- Which answer is given in each case.
-- Assumes nothing.
use Rattle.std.specs.Prelude.{Ok, Err}
use Prim.Native.Nat.{ℕ, ◌+◌, ◌-◌, ◌%◌, ◌^◌, ◌<◌, ◌≤◌}
use mathlib.Core.Path.{◌≡◌, refl, sym, ap, ap₂, ◌∙◌}
use mathlib.Core.Bool.{Bool, true, false, cond}
use mathlib.Core.List.{List, [], ◌∷◌, ◌++◌, append_assoc}
use native.Mathlib.Omega.{arith}
use native.Mathlib.Nat.{div-one}
use lib.ListN.{length, drop, get_or, take, length-drop}
use lib.Seq.{drop-drop}
use lib.Dec.{eqb}
use borrow.Rule.Slice.PartMut.{mid_of, put_mid}
use borrow.Author.Tests.{lt-ltb, le-ltb, eq-eqb, ne_eqb, eqb-true}
use Rattle.layout.specs.Layout.{pack, unpack, bytes}
use Rattle.layout.specs.Bytes.{read_of, written_of}
use Rattle.layout.specs.laws.BytesLaws.{read_all, write_all_lem}
use Rattle.layout.specs.laws.Tail.{mid_tail, put_tail}
use Rattle.layout.specs.Line.{fault_from}
use Rattle.sheet.specs.Versions.{first_bytes, one, two, numbered, version_of, bytes_needed, under_first}
use Rattle.sheet.specs.laws.VersionLaws.{regular, needs_own}
use Rattle.sheet.specs.Lines.{header_lines, first_widths, own_widths}
use Rattle.sheet.specs.Header.{header_size, first_values, own_values, header_at, raw_fault, header_fault, fields_in, own_bytes, first_fields, own_fields, version_field, version_in, header_fields, header_of, read_header, header_bytes, header_needs, write_header}
use Rattle.sheet.specs.laws.HeaderLaws.{version_at, spare_in, rest_in, read_fault}
use Rattle.sheet.specs.laws.HeaderExactly.{header_read_1, fine_needs}
use Rattle.sheet.specs.Refusals.{Answer, given, refused, told, header_refused, told_result}
use Rattle.sheet.specs.laws.RefusalLaws.{at_none, says}
use Rattle.sheet.specs.Writes.{Writes}
use Rattle.sheet.specs.declared.Header.{Header}
use Rattle.sheet.specs.declared.Own.TheVariants.{One, Two}
use Rattle.sheet.specs.declared.Section.{Section}
use Rattle.sheet.specs.declared.Refusal.{Refusal}
use Rattle.sheet.specs.declared.Refusal.TheVariants.{SheetShort, Version as OtherVersion, HeaderField, OutputShort}

-- what the refusal of a faulty field says
abbrev pub refusal_of : ℕ → Refusal
refusal_of f = cond (eqb f 1) OtherVersion (HeaderField f)

refused_says : {A : Type 0} (f : ℕ) (fine : Answer A) → (f ≡ 0 → ⊥) → told (refusal_of f) ≡ header_refused f fine
refused_says f fine z = says OtherVersion (HeaderField f) (λ k. refused 3 k) f fine refl z

fine_says : {A : Type 0} (f : ℕ) (fine : Answer A) → f ≡ 0 → fine ≡ header_refused f fine
fine_says f fine z = sym (at_none (refused 2 0) (λ k. refused 3 k) f fine z)

module _ (h : Header) (f : ℕ) (ef : f ≡ header_fault h) where
  pub fault_fine : f ≡ 0 → told_result {A = Unit {0}} (Ok tt) ≡ header_refused (header_fault h) (given (tt {0}))
  fault_fine z = fine_says f (given tt) z ∙ ap (λ (n : ℕ). header_refused n (given tt)) ef

  pub fault_refused : (r : Refusal) → r ≡ refusal_of f → (f ≡ 0 → ⊥) → told_result {A = Unit {0}} (Err r) ≡ header_refused (header_fault h) (given (tt {0}))
  fault_refused r er z = ap (λ (x : Refusal). told x) er ∙ refused_says f (given tt) z ∙ ap (λ (n : ℕ). header_refused n (given tt)) ef

-- ---- reading

pub read_few : (s : List ℕ) → length s < first_bytes → told_result {A = Header} (Err SheetShort) ≡ read_header s
read_few s l = sym ((header_read_1 s 0).1 (under_first l, refl))

-- what was read: the first bytes as a number of 96 bits, the next as one of 64, and the header that they are
module _ (s : List ℕ) (l : first_bytes ≤ length s) (n w : ℕ) (h : Header) (en : n ≡ read_of first_bytes s) (ew : w ≡ read_of 8 (drop first_bytes s)) (eh : h ≡ header_at (fields_in n w)) where
  number : n ≡ pack (bytes first_bytes) (take first_bytes s)
  number = en ∙ read_all first_bytes s l

  -- it names the version that stands in the bytes, and is of it
  named : h.version ≡ version_field s
  named = ap (λ (g : Header). g.version) eh ∙ ap (λ (m : ℕ). get_or (unpack first_widths m) 0 0) number

  kept : version_of h.own ≡ version_in s
  kept = ap (λ (g : Header). version_of g.own) eh ∙ version_at (get_or (unpack first_widths n) 0 0) (drop 9 (fields_in n w)) ∙ ap (λ (m : ℕ). numbered (get_or (unpack first_widths m) 0 0)) number

  same_needs : header_needs h ≡ bytes_needed (version_field s) (version_in s)
  same_needs = ap₂ bytes_needed named kept

  pub read_under : length s < header_needs h → told_result {A = Header} (Err SheetShort) ≡ read_header s
  unfolding read_header
  read_under u = rw (lt-ltb (length s) (bytes_needed (version_field s) (version_in s)) (omega (arith, same_needs)))

  module _ (enough : header_needs h ≤ length s) where
    -- in version 2 there are bytes for its own fields
    own_read : (t : Bool) → eqb (version_field s) two.number ≡ t → unpack (own_widths (cond t two one)) w ≡ own_fields (cond t two one) s
    own_read true e =
        let k = eqb-true (version_field s) two.number e in
        let v : version_in s ≡ two = ap numbered k in
        let long : 8 ≤ length (drop first_bytes s) = omega (arith, same_needs, needs_own (version_field s) two k, ap (bytes_needed (version_field s)) v, length-drop first_bytes s) in
        ap (unpack (own_widths two)) (ew ∙ read_all 8 (drop first_bytes s) long)
    own_read false e = refl

    fields_read : fields_in n w ≡ header_fields s
    fields_read =
        ap (λ (m : ℕ). fields_in m w) number
        ∙ ap (λ (us : List ℕ). first_fields s ++ us) (own_read (eqb (version_field s) two.number) refl)

    is_header : h ≡ header_of s
    is_header = eh ∙ ap header_at fields_read

    -- what stands in the last bits of the word is read in version 2 alone
    own_rest : (t : Bool) (section : Section) → eqb (version_field s) two.number ≡ t
        → own_values (cond t (Two section) One) (w % 2 ^ 27) ≡ own_values (cond t (Two section) One) (get_or (first_fields s ++ own_fields (cond t two one) s) 11 0)
    own_rest true section e =
        let third : w % 2 ^ 27 ≡ get_or (own_fields two s) 2 0 = ap (λ (m : ℕ). m % 2 ^ 27) (sym (div-one w)) ∙ ap (λ (us : List ℕ). get_or us 2 0) (own_read true e) in
        ap (λ (m : ℕ). section.inner_modulus ∷ section.depth.0 ∷ m ∷ []) third
    own_rest false section e = refl

    rest_read : raw_fault (header_of s) (spare_in s) (w % 2 ^ 27) ≡ raw_fault (header_of s) (spare_in s) (rest_in s)
    unfolding raw_fault
    rest_read =
        ap (λ (us : List ℕ). fault_from 1 (header_lines (version_of (header_of s).own)) (first_values (header_of s) (spare_in s) ++ us))
        (own_rest (eqb (version_field s) two.number) _ refl)

    module _ (spare rest f : ℕ) (es : spare ≡ get_or (unpack first_widths n) 8 0) (er : rest ≡ w % 2 ^ 27) (ef : f ≡ raw_fault h spare rest) where
      found : f ≡ fault_from 1 (header_lines (version_in s)) (header_fields s)
      found =
          let spared : spare ≡ spare_in s = es ∙ ap (λ (m : ℕ). get_or (unpack first_widths m) 8 0) number in
          ef ∙ ap₂ (λ (g : Header) (x : ℕ). raw_fault g x rest) is_header spared ∙ ap (raw_fault (header_of s) (spare_in s)) er ∙ rest_read ∙ sym (read_fault s)

      read_as : header_refused f (given h) ≡ read_header s
      unfolding read_header
      read_as =
          rw (le-ltb (length s) (bytes_needed (version_field s) (version_in s)) (omega (arith, same_needs)))
          (ap₂ (λ (k : ℕ) (a : Header). header_refused k (given a)) found is_header)

      pub read_good : f ≡ 0 → told_result (Ok h) ≡ read_header s
      read_good z = fine_says f (given h) z ∙ read_as

      pub read_bad : (r : Refusal) → r ≡ refusal_of f → (f ≡ 0 → ⊥) → told_result {A = Header} (Err r) ≡ read_header s
      read_bad r er z = ap (λ (x : Refusal). told x) er ∙ refused_says f (given h) z ∙ read_as

-- ---- writing

module _ (h : Header) (o : List ℕ) where
  pub write_under : length o < header_needs h → Writes (write_header h o) (told_result {A = Unit {0}} (Err OutputShort)) o
  unfolding write_header
  write_under l = record { answer = rw (lt-ltb _ _ l); bytes = rw (lt-ltb _ _ l) }

  module _ (f : ℕ) (l : header_needs h ≤ length o) (ef : f ≡ header_fault h) where
    pub write_bad : (r : Refusal) → r ≡ refusal_of f → (f ≡ 0 → ⊥) → Writes (write_header h o) (told_result {A = Unit {0}} (Err r)) o
    unfolding write_header
    write_bad r er z =
        record {
          answer = fault_refused h f ef r er z ∙ rw (le-ltb _ _ l);
          bytes = rw (le-ltb _ _ l, ne_eqb (header_fault h) 0 (λ e. z (ef ∙ e)));
        }

    module _ (z : f ≡ 0) where
      -- there is room for all of it
      pub room : header_size h ≤ length o
      room = omega (arith, fine_needs h (sym ef ∙ z))

      pub write_good : (after : List ℕ) → after ≡ header_bytes h ++ drop (header_size h) o → Writes (write_header h o) (told_result {A = Unit {0}} (Ok tt)) after
      unfolding write_header
      write_good after ea =
          record {
            answer = fault_fine h f ef z ∙ rw (le-ltb _ _ l);
            bytes = ea
                ∙ ap (λ (k : ℕ). header_bytes h ++ drop k o) (sym (fine_needs h (sym ef ∙ z)))
                ∙ rw (le-ltb _ _ l, eq-eqb (header_fault h) 0 (sym ef ∙ z));
          }

-- the first bytes, and then those of the version's own, are the header's
pub both_parts : (h : Header) (o m e : List ℕ) (n : ℕ) → header_size h ≤ length o → n ≡ pack first_widths (first_values h 0) → m ≡ written_of first_bytes n o
    → e ≡ unpack (bytes (own_bytes (version_of h.own))) (pack (own_widths (version_of h.own)) (own_values h.own 0)) ++ drop (own_bytes (version_of h.own)) (mid_of first_bytes (length m - first_bytes) m)
    → put_mid first_bytes (length m - first_bytes) m e ≡ header_bytes h ++ drop (header_size h) o
both_parts h o m e n l en em ee =
    let v = version_of h.own in
    let all : first_bytes + own_bytes v ≡ v.size = omega (arith, (regular h.own).least) in
    let first = unpack (bytes first_bytes) (pack first_widths (first_values h 0)) in
    let own = unpack (bytes (own_bytes v)) (pack (own_widths v) (own_values h.own 0)) in
    let m_is : m ≡ first ++ drop first_bytes o = em ∙ write_all_lem first_bytes n o (omega (arith, all)) ∙ ap (λ (k : ℕ). unpack (bytes first_bytes) k ++ drop first_bytes o) en in
    put_tail first_bytes m e (omega (arith, ap length m_is))
    ∙ ap₂ (λ (x y : List ℕ). x ++ y) (ap (take first_bytes) m_is) (ee ∙ ap (λ (x : List ℕ). own ++ drop (own_bytes v) x) (mid_tail first_bytes m ∙ ap (drop first_bytes) m_is))
    ∙ sym (append_assoc first own (drop (own_bytes v) (drop first_bytes o)))
    ∙ ap (λ (x : List ℕ). first ++ own ++ x) (drop-drop (own_bytes v) first_bytes o ∙ ap (λ (k : ℕ). drop k o) all)
