-- Which answer is given in each case.
-- Assumes nothing.
use Rattle.std.specs.Prelude.{Ok, Err}
use Prim.Native.Nat.{ℕ, ◌+◌, ◌*◌, ◌<◌, ◌≤◌}
use mathlib.Core.Path.{◌≡◌, refl, sym, ap, ap₂, ◌∙◌}
use mathlib.Core.Bool.{cond}
use mathlib.Core.List.{List, ◌++◌}
use lib.ListN.{length, drop}
use lib.Dec.{eqb}
use borrow.Author.Tests.{lt-ltb, le-ltb, eq-eqb, ne_eqb}
use Rattle.layout.specs.Layout.{unpack, bytes}
use Rattle.layout.specs.Bytes.{read_of, written_of}
use Rattle.layout.specs.laws.BytesLaws.{read_all, write_all_lem}
use Rattle.sheet.specs.Record.{record_fault, record_in, read_record, record_number, write_record, record_at, spare_at}
use Rattle.sheet.specs.laws.RecordLaws.{record_in_lem}
use Rattle.sheet.specs.Refusals.{Answer, given, refused, told, record_refused, told_result}
use Rattle.sheet.specs.laws.RefusalLaws.{at_none, says}
use Rattle.sheet.specs.Writes.{Writes}
use Rattle.sheet.specs.declared.Record.{Record}
use Rattle.sheet.specs.declared.Refusal.{Refusal}
use Rattle.sheet.specs.declared.Refusal.TheVariants.{SheetShort, OutputShort, Kind, Field}

-- what the refusal of a faulty field of record i says
abbrev pub refusal_of : ℕ → ℕ → Refusal
refusal_of i f = cond (eqb f 1) (Kind i) (Field (32 * i + f))

refused_says : {A : Type 0} (i f : ℕ) (fine : Answer A) → (f ≡ 0 → ⊥) → told (refusal_of i f) ≡ record_refused i f fine
refused_says i f fine z = says (Kind i) (Field (32 * i + f)) (λ k. refused 7 (32 * i + k)) f fine refl z

fine_says : {A : Type 0} (i f : ℕ) (fine : Answer A) → f ≡ 0 → fine ≡ record_refused i f fine
fine_says i f fine z = sym (at_none (refused 6 i) (λ k. refused 7 (32 * i + k)) f fine z)

module _ (i f : ℕ) where
  pub fault_fine : f ≡ 0 → told_result {A = Unit {0}} (Ok tt) ≡ record_refused i f (given (tt {0}))
  fault_fine z = fine_says i f (given tt) z

  pub fault_refused : (x : Refusal) → x ≡ refusal_of i f → (f ≡ 0 → ⊥) → told_result {A = Unit {0}} (Err x) ≡ record_refused i f (given (tt {0}))
  fault_refused x ex z = ap (λ (y : Refusal). told y) ex ∙ refused_says i f (given tt) z

pub read_short : (i : ℕ) (s : List ℕ) → length s < 16 → told_result {A = Record} (Err SheetShort) ≡ read_record i s
unfolding read_record
read_short i s l = rw (lt-ltb _ _ l)

read_long : (i : ℕ) (s : List ℕ) → 16 ≤ length s → read_record i s ≡ record_in i (read_of 16 s)
unfolding read_record
read_long i s l = rw (le-ltb _ _ l, read_all 16 s l)

module _ (i : ℕ) (s : List ℕ) (n : ℕ) (r : Record) (spare f : ℕ) (l : 16 ≤ length s) (en : n ≡ read_of 16 s) (er : r ≡ record_at n)
    (es : spare ≡ spare_at n) (ef : f ≡ record_fault r spare) where
  read_as : record_refused i f (given r) ≡ read_record i s
  read_as = ap₂ (λ (k : ℕ) (a : Record). record_refused i k (given a)) (ef ∙ ap₂ record_fault er es) er ∙ sym (read_long i s l ∙ ap (record_in i) (sym en) ∙ record_in_lem i n)

  pub read_good : f ≡ 0 → told_result (Ok r) ≡ read_record i s
  read_good z = fine_says i f (given r) z ∙ read_as

  pub read_bad : (x : Refusal) → x ≡ refusal_of i f → (f ≡ 0 → ⊥) → told_result {A = Record} (Err x) ≡ read_record i s
  read_bad x ex z = ap (λ (y : Refusal). told y) ex ∙ refused_says i f (given r) z ∙ read_as

module _ (r : Record) (o : List ℕ) where
  pub write_short : length o < 16 → Writes (write_record r o) (told_result {A = Unit {0}} (Err OutputShort)) o
  unfolding write_record
  write_short l = record { answer = rw (lt-ltb _ _ l); bytes = rw (lt-ltb _ _ l) }

  module _ (f : ℕ) (l : 16 ≤ length o) (ef : f ≡ record_fault r 0) where
    pub write_bad : (x : Refusal) → x ≡ refusal_of 0 f → (f ≡ 0 → ⊥) → Writes (write_record r o) (told_result {A = Unit {0}} (Err x)) o
    unfolding write_record
    write_bad x ex z =
        record {
          answer = fault_refused 0 f x ex z ∙ ap (λ (n : ℕ). record_refused 0 n (given tt)) ef ∙ rw (le-ltb _ _ l);
          bytes = rw (le-ltb _ _ l, ne_eqb (record_fault r 0) 0 (λ e. z (ef ∙ e)));
        }

    pub write_good : (n : ℕ) (after : List ℕ) → f ≡ 0 → n ≡ record_number r → after ≡ written_of 16 n o → Writes (write_record r o) (told_result {A = Unit {0}} (Ok tt)) after
    unfolding write_record
    write_good n after z en ea =
        record {
          answer = fault_fine 0 f z ∙ ap (λ (n : ℕ). record_refused 0 n (given tt)) ef ∙ rw (le-ltb _ _ l);
          bytes = ea ∙ write_all_lem 16 n o l ∙ ap (λ (m : ℕ). unpack (bytes 16) m ++ drop 16 o) en ∙ rw (le-ltb _ _ l, eq-eqb (record_fault r 0) 0 (sym ef ∙ z));
        }
