-- A record put in by its numbers: as the record that they are, or refused at the first number that its field does not allow.
-- Assumes nothing.
use Rattle.std.specs.Prelude.{ℕ, ◌≡◌, List}
use Rattle.std.proofs.Math.Path.{refl}
use Rattle.std.proofs.Common.{sym, ap, ◌∙◌}
use Rattle.sheet.specs.declared.Record.{Record}
use Rattle.sheet.specs.Refusals.{Answer, given, refused}
use Rattle.sheet.specs.Record.{record_fault}
use Rattle.sheet.specs.Exactly.{Exactly}
use Rattle.numbers.specs.Fields.{record_numbers}
use Rattle.numbers.specs.From.{record_from}
use Rattle.numbers.specs.laws.Back.{record_from_numbers}
use Rattle.checker.specs.Check.{◌then◌, Sheet}
use Rattle.edit.specs.Edit.{sheet_at, header_of, put_in, put_numbers_in}
use Rattle.edit_laws.specs.Rows.{SheetRow}
use Rattle.checker.specs.laws.ThenLaws.{refused_as}
use Rattle.edit_laws.specs.laws.RowLaws.{sheet_row, put_refused}

module _ (b : List ℕ) (len : ℕ) (ns : List ℕ) where
  -- of a sheet that is turned away, and of one that is not
  turned : (k p : ℕ) → sheet_at b len ≡ refused k p → put_numbers_in b len ns ≡ refused k p
  unfolding put_numbers_in header_of ◌then◌
  turned k p e = rw e

  pub numbers_put : (t : Sheet) → sheet_at b len ≡ given t → put_numbers_in b len ns ≡ (record_from t.header.count ns then λ r. put_in b len r)
  unfolding put_numbers_in header_of ◌then◌
  numbers_put t e = rw e

  -- why numbers are turned away: the sheet's own rows; then 6 and 7 by the numbers, with n as the record (`record_from`); then what putting in the record comes to
  pub data NumbersRow (k p : ℕ) : Type 0 where
    sheet : SheetRow b len k p → NumbersRow k p
    numbers : (t : Sheet) → sheet_at b len ≡ given t → record_from t.header.count ns ≡ refused k p → NumbersRow k p
    putting : (t : Sheet) → sheet_at b len ≡ given t → (r : Record) → record_from t.header.count ns ≡ given r → put_in b len r ≡ refused k p → NumbersRow k p

  pub numbers_refused_exactly : (k p : ℕ) → Exactly (put_numbers_in b len ns ≡ refused k p) (NumbersRow k p)
  unfolding ◌then◌
  numbers_refused_exactly k p = (λ e. forth (sheet_at b len) refl e, back)
    where
      by_record : (t : Sheet) → sheet_at b len ≡ given t → (x : Answer Record) → record_from t.header.count ns ≡ x → (x then λ r. put_in b len r) ≡ refused k p → NumbersRow k p
      by_record t f (refused l q) g h = numbers t f (g ∙ refused_as h)
      by_record t f (given r) g h = putting t f r g h

      forth : (x : Answer Sheet) → sheet_at b len ≡ x → put_numbers_in b len ns ≡ refused k p → NumbersRow k p
      forth (refused l q) f e = sheet ((sheet_row b len k p).0 (f ∙ refused_as (sym (turned l q f) ∙ e)))
      forth (given t) f e = by_record t f (record_from t.header.count ns) refl (sym (numbers_put t f) ∙ e)

      back : NumbersRow k p → put_numbers_in b len ns ≡ refused k p
      back (sheet s) = turned k p ((sheet_row b len k p).1 s)
      back (numbers t f g) = numbers_put t f ∙ ap (λ (x : Answer Record). x then λ r. put_in b len r) g
      back (putting t f r g h) = numbers_put t f ∙ ap (λ (x : Answer Record). x then λ r. put_in b len r) g ∙ h

-- a sound record's own numbers put in are the record put in
pub own_numbers_lem : (b : List ℕ) (len : ℕ) (r : Record) → record_fault r 0 ≡ 0 → put_numbers_in b len (record_numbers r) ≡ put_in b len r
unfolding ◌then◌ put_in
own_numbers_lem b len r z = go (sheet_at b len) refl
  where
    go : (x : Answer Sheet) → sheet_at b len ≡ x → put_numbers_in b len (record_numbers r) ≡ put_in b len r
    go (refused k p) e = turned b len (record_numbers r) k p e ∙ sym (put_refused b len r k p k p e)
    go (given t) e = numbers_put b len (record_numbers r) t e ∙ ap (λ (x : Answer Record). x then λ q. put_in b len q) (record_from_numbers t.header.count r z)
