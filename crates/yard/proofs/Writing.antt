-- What a writer of numbers promises, from what taking the numbers and the writer below promise.
-- Assumes nothing.
use Prim.Native.Nat.{ℕ, ◌≤◌, ◌<◌}
use mathlib.Core.Path.{◌≡◌, refl, sym, ap, ap₂, ◌∙◌, subst}
use mathlib.Core.Bool.{Bool, true, false, cond}
use mathlib.Core.List.{List, ◌++◌}
use lib.ListN.{length, drop}
use lib.Dec.{eqb}
use borrow.Author.Tests.{lt-ltb, le-ltb}
use Rattle.sheet.specs.declared.Header.{Header}
use Rattle.sheet.specs.declared.Record.{Record}
use Rattle.sheet.specs.Refusals.{Answer, given, refused, Wrote as WroteBy}
use Rattle.sheet.specs.laws.RefusalLaws.{refused_number, refused_place, given_refused}
use Rattle.sheet.specs.Writes.{Writes}
use Rattle.sheet.specs.Exactly.{Cases, by_fault, header_cases, record_cases}
use Rattle.sheet.specs.laws.Written.{written, written_if}
use Rattle.sheet.specs.Header.{header_bytes, write_header}
use Rattle.sheet.specs.Record.{record_bytes, write_record}
use Rattle.numbers.specs.From.{named_size, header_of_numbers, header_numbers_fault, header_from, record_of_numbers, record_numbers_fault, record_from}
use Rattle.numbers.specs.laws.Back.{header_taken, record_taken}
use Rattle.yard.specs.Packed.{fine, Wrote}
use Rattle.yard.specs.Writing.{write_header_numbers, write_record_numbers}
use Rattle.yard.specs.laws.Back.{header_same, record_same}

-- by another writer that does the same
wrote_by : {w v : WroteBy} {a : Answer (Unit {0})} {r : ℕ} {after : List ℕ} → w ≡ v → r ≡ fine a → Writes w a after → Wrote v r after
wrote_by q e h = record { answer = e ∙ ap fine (h.answer ∙ ap (λ (w : WroteBy). w.answer) q); bytes = h.bytes ∙ ap (λ (w : WroteBy). w.bytes) q }

module _ (c : Cases) (o : List ℕ) (f : ℕ) (bs : List ℕ) (r : ℕ) where
  -- too short
  wrote_short : length o < c.size → r ≡ fine {A = Unit {0}} (refused 5 0) → Wrote (written c f bs o) r o
  wrote_short l e =
      subst (λ (t : Bool). Wrote (written_if t c f bs o) r o) (sym (lt-ltb (length o) c.size l)) (record { answer = e; bytes = refl })

  -- refused, whatever was looked for
  wrote_refused : {A : Type 0} (a : A) (k p : ℕ) → c.size ≤ length o → refused k p ≡ by_fault c f a → r ≡ fine {A = Unit {0}} (refused k p) → Wrote (written c f bs o) r o
  wrote_refused {A} a k p l q e =
      subst (λ (t : Bool). Wrote (written_if t c f bs o) r o) (sym (le-ltb (length o) c.size l)) (go (eqb f 0) (eqb f 1) q)
    where
      same : (j q : ℕ) → ◌≡◌ {A = Answer A} (refused k p) (refused j q) → r ≡ fine {A = Unit {0}} (refused j q)
      same j q s = e ∙ ap₂ (λ (x y : ℕ). fine {A = Unit {0}} (refused x y)) (refused_number s) (refused_place s)

      go : (t u : Bool) → refused k p ≡ cond t (given a) (cond u (refused c.first c.at) (refused c.later (c.place f)))
          → Wrote (record { answer = cond t (given tt) (cond u (refused c.first c.at) (refused c.later (c.place f))); bytes = cond t (bs ++ drop c.size o) o }) r o
      go true u s = given_refused (sym s)
      go false true s = record { answer = same c.first c.at s; bytes = refl }
      go false false s = record { answer = same c.later (c.place f) s; bytes = refl }

-- ---- a header

module _ (ns o : List ℕ) {r : ℕ} where
  pub header_short : length o < named_size ns → r ≡ fine {A = Unit {0}} (refused 5 0) → Wrote (write_header_numbers ns o) r o
  unfolding write_header_numbers
  header_short = wrote_short (header_cases (named_size ns)) o (header_numbers_fault ns) (header_bytes (header_of_numbers ns)) r

  pub header_refused_lem : (k p : ℕ) → named_size ns ≤ length o → refused k p ≡ header_from ns → r ≡ fine {A = Unit {0}} (refused k p) → Wrote (write_header_numbers ns o) r o
  unfolding write_header_numbers header_from
  header_refused_lem = wrote_refused (header_cases (named_size ns)) o (header_numbers_fault ns) (header_bytes (header_of_numbers ns)) r (header_of_numbers ns)

  pub header_given : (h : Header) {a : Answer (Unit {0})} {after : List ℕ} → given h ≡ header_from ns → r ≡ fine a → Writes (write_header h o) a after
      → Wrote (write_header_numbers ns o) r after
  header_given h e =
      let t = header_taken ns h (sym e) in
      wrote_by (ap (λ (x : Header). write_header x o) (sym t.1) ∙ header_same ns o t.0)

-- ---- a record

module _ (ns o : List ℕ) {r : ℕ} where
  pub record_short : length o < 16 → r ≡ fine {A = Unit {0}} (refused 5 0) → Wrote (write_record_numbers ns o) r o
  unfolding write_record_numbers
  record_short = wrote_short (record_cases 0) o (record_numbers_fault ns) (record_bytes (record_of_numbers ns)) r

  pub record_refused_lem : (k p : ℕ) → 16 ≤ length o → refused k p ≡ record_from 0 ns → r ≡ fine {A = Unit {0}} (refused k p) → Wrote (write_record_numbers ns o) r o
  unfolding write_record_numbers record_from
  record_refused_lem = wrote_refused (record_cases 0) o (record_numbers_fault ns) (record_bytes (record_of_numbers ns)) r (record_of_numbers ns)

  pub record_given : (x : Record) {a : Answer (Unit {0})} {after : List ℕ} → given x ≡ record_from 0 ns → r ≡ fine a → Writes (write_record x o) a after
      → Wrote (write_record_numbers ns o) r after
  record_given x e =
      let t = record_taken 0 ns x (sym e) in
      wrote_by (ap (λ (y : Record). write_record y o) (sym t.1) ∙ record_same ns o t.0)
