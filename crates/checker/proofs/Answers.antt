-- Which answer the verdict's reader and writer give in each case.
-- Assumes nothing.
use Rattle.std.specs.Prelude.{Ok, Err}
use Prim.Native.Nat.{ℕ, ◌<◌, ◌≤◌}
use mathlib.Core.Path.{◌≡◌, sym, ap, ap₂, ◌∙◌}
use mathlib.Core.List.{List, ◌++◌}
use lib.ListN.{length, drop}
use borrow.Author.Tests.{lt-ltb, le-ltb, eq-eqb, ne_eqb}
use Rattle.layout.specs.Layout.{pack, unpack, bytes}
use Rattle.layout.specs.Bytes.{read_of, written_of}
use Rattle.layout.specs.laws.BytesLaws.{read_all, write_all_lem}
use Rattle.sheet.specs.Refusals.{given, refused, told_result}
use Rattle.sheet.specs.Writes.{Writes}
use Rattle.sheet.specs.declared.Refusal.TheVariants.{SheetShort, OutputShort, Field}
use Rattle.checker.specs.declared.Entry.{Entry}
use Rattle.checker.specs.Entry.{verdict_widths, entry_values, entry_at, entry_fault, entry_refused, entry_in, read_entry, write_entry}

pub read_short : (s : List ℕ) → length s < 4 → told_result {A = Entry} (Err SheetShort) ≡ read_entry s
unfolding read_entry
read_short s l = rw (lt-ltb _ _ l)

read_long : (s : List ℕ) → 4 ≤ length s → read_entry s ≡ entry_in (read_of 4 s)
unfolding read_entry
read_long s l = rw (le-ltb _ _ l, read_all 4 s l)

module _ (s : List ℕ) (n : ℕ) (e : Entry) (f : ℕ) (l : 4 ≤ length s) (en : n ≡ read_of 4 s) (ee : e ≡ entry_at (unpack verdict_widths n)) (ef : f ≡ entry_fault e) where
  read_as : entry_refused f (given e) ≡ read_entry s
  unfolding entry_in
  read_as = ap₂ (λ (k : ℕ) (a : Entry). entry_refused k (given a)) (ef ∙ ap entry_fault ee) ee ∙ sym (read_long s l ∙ ap entry_in (sym en))

  pub read_good : f ≡ 0 → told_result (Ok e) ≡ read_entry s
  read_good z = rw (eq-eqb f 0 z) at read_as

  pub read_bad : (f ≡ 0 → ⊥) → told_result {A = Entry} (Err (Field f)) ≡ read_entry s
  read_bad z = rw (ne_eqb f 0 z) at read_as

module _ (e : Entry) (o : List ℕ) where
  pub write_short : length o < 4 → Writes (write_entry e o) (told_result {A = Unit {0}} (Err OutputShort)) o
  unfolding write_entry
  write_short l = record { answer = rw (lt-ltb _ _ l); bytes = rw (lt-ltb _ _ l) }

  module _ (f : ℕ) (l : 4 ≤ length o) (ef : f ≡ entry_fault e) where
    pub write_bad : (f ≡ 0 → ⊥) → Writes (write_entry e o) (told_result {A = Unit {0}} (Err (Field f))) o
    unfolding write_entry
    write_bad z =
        let n = ne_eqb (entry_fault e) 0 (λ g. z (ef ∙ g)) in
        record { answer = rw (le-ltb _ _ l, n) (ap (refused 7) ef); bytes = rw (le-ltb _ _ l, n) }

    pub write_good : (n : ℕ) (after : List ℕ) → f ≡ 0 → n ≡ pack verdict_widths (entry_values e) → after ≡ written_of 4 n o → Writes (write_entry e o) (told_result {A = Unit {0}} (Ok tt)) after
    unfolding write_entry
    write_good n after z en ea =
        let q = eq-eqb (entry_fault e) 0 (sym ef ∙ z) in
        record {
          answer = rw (le-ltb _ _ l, q);
          bytes = ea ∙ write_all_lem 4 n o l ∙ ap (λ (m : ℕ). unpack (bytes 4) m ++ drop 4 o) en ∙ rw (le-ltb _ _ l, q);
        }
