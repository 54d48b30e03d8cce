-- Hulls that are too slender: an edit is refused by 9 exactly there, and no edit, done or refused, changes whether a hull is.
-- Assumes nothing.
use Rattle.std.specs.Prelude.{ℕ, ◌≡◌, refl, true, List, [], ◌∷◌, take}
use Rattle.std.proofs.Common.{sym, ap, ◌∙◌, arith}
use Rattle.truth.specs.laws.Tests.{clash}
use Rattle.sheet.specs.declared.Own.{Own}
use Rattle.sheet.specs.declared.Own.TheVariants.{One, Two}
use Rattle.sheet.specs.declared.Record.{Record}
use Rattle.sheet.specs.Versions.{Version, numbered, version_of}
use Rattle.sheet.specs.Header.{version_field}
use Rattle.sheet.specs.laws.HeaderBack.{read_holds}
use Rattle.sheet.specs.Slender.{beyond_own}
use Rattle.sheet.specs.Refusals.{Answer, given, refused}
use Rattle.sheet.specs.laws.RefusalLaws.{given_refused}
use Rattle.sheet.specs.laws.ExactlyLaws.{exactly_then}
use Rattle.sheet.specs.Exactly.{Exactly}
use Rattle.numbers.specs.From.{record_from}
use Rattle.numbers.specs.laws.Exactly.{record_from_others}
use Rattle.checker.specs.Check.{Sheet}
use Rattle.checker.specs.laws.ThenLaws.{then_given}
use Rattle.keyed.specs.Keyed.{Edit, put, out}
use Rattle.edit.specs.Edit.{sheet_at, header_of, id_of, After, put_in, put_numbers_in, remove_in}
use Rattle.checker.specs.laws.SheetRefusals.{sheet_9}
use Rattle.edit_laws.specs.Edits.{IsSlender, edit_in, after_by, after_all}
use Rattle.edit_laws.specs.laws.Sequences.{one_edit}
use Rattle.edit_laws.specs.Rows.{SheetRow, over, own, Slender}
use Rattle.edit_laws.specs.laws.RowLaws.{sheet_row, put_by_sheet, remove_by_sheet}
use Rattle.edit_laws.specs.laws.Numbers.{NumbersRow, sheet, numbers, putting, numbers_refused_exactly}

-- ---- an edit is refused by 9 exactly where the hull is too slender

pub nine_row : (b : List ℕ) (len p : ℕ) → Exactly (SheetRow b len 9 p) (Slender b len × (p ≡ 0))
nine_row b len p = (from_row, λ z. own z.0.fits ((sheet_9 (take len b) p).1 (z.0.header, z.0.read, z.0.slender, z.1)))
  where
    from_row : SheetRow b len 9 p → Slender b len × (p ≡ 0)
    from_row (over l c d) = absurd (omega arith)
    from_row (own l e) = let z = (sheet_9 (take len b) p).0 e in (record { fits = l; header = z.0; read = z.1; slender = z.2 }, z.3)

pub put_9 : (b : List ℕ) (len : ℕ) (r : Record) (p : ℕ) → Exactly (put_in b len r ≡ refused 9 p) (Slender b len × (p ≡ 0))
put_9 b len r p = exactly_then (put_by_sheet b len r 9 p (λ z. omega arith) (λ z. omega arith) (λ z. omega arith)) (nine_row b len p)

pub remove_9 : (b : List ℕ) (len id p : ℕ) → Exactly (remove_in b len id ≡ refused 9 p) (Slender b len × (p ≡ 0))
remove_9 b len id p = exactly_then (remove_by_sheet b len id 9 p (λ z. omega arith)) (nine_row b len p)

-- numbers too
pub numbers_9 : (b : List ℕ) (len : ℕ) (ns : List ℕ) (p : ℕ) → Exactly (put_numbers_in b len ns ≡ refused 9 p) (Slender b len × (p ≡ 0))
numbers_9 b len ns p = (λ e. by_row ((numbers_refused_exactly b len ns 9 p).0 e), λ z. (numbers_refused_exactly b len ns 9 p).1 (sheet ((nine_row b len p).1 z)))
  where
    by_row : NumbersRow b len ns 9 p → Slender b len × (p ≡ 0)
    by_row (sheet s) = (nine_row b len p).0 s
    by_row (numbers t f g) = absurd (record_from_others ns t.header.count 9 p (λ z. omega arith) (λ z. omega arith) g)
    by_row (putting t f r g h) = (put_9 b len r p).0 h

-- which a sheet of version 1 never is, so that no edit of one is refused by 9
first_never : (b : List ℕ) (len : ℕ) → version_field (take len b) ≡ 1 → Slender b len → ⊥
first_never b len v z =
    let first : (numbered (version_field (take len b))).number ≡ 1 = rw v in
    go z.header.own (ap (λ (x : Version). x.number) (sym (read_holds (take len b) z.header z.read).version) ∙ first) z.slender
  where
    go : (o : Own) → (version_of o).number ≡ 1 → beyond_own z.header.length.0 z.header.wave.0 o ≡ true → ⊥
    go One e f = clash f refl
    go (Two s) e f = omega arith

pub never_in_version_1 : (b : List ℕ) (len : ℕ) → version_field (take len b) ≡ 1 → (p : ℕ)
    → ((r : Record) → put_in b len r ≡ refused 9 p → ⊥)
    × ((ns : List ℕ) → put_numbers_in b len ns ≡ refused 9 p → ⊥)
    × ((id : ℕ) → remove_in b len id ≡ refused 9 p → ⊥)
never_in_version_1 b len v p = (
  λ r e. first_never b len v ((put_9 b len r p).0 e).0,
  λ ns e. first_never b len v ((numbers_9 b len ns p).0 e).0,
  λ id e. first_never b len v ((remove_9 b len id p).0 e).0,
)

-- ---- and no edit changes whether it is

-- then it is turned away
turned_away : (a : After) (t : Sheet) → sheet_at a.bytes a.size ≡ given t → IsSlender a → ⊥
turned_away a t e z = given_refused (sym e ∙ (sheet_row a.bytes a.size 9 0).1 ((nine_row a.bytes a.size 0).1 (z, refl)))

-- what leaves the buffer as it is, or finds a sheet that is not turned away and leaves one, does not change it
keeps : (a : After) (x : Answer After) → ((y : After) → x ≡ given y → (t u : Sheet) × (sheet_at a.bytes a.size ≡ given t) × (sheet_at y.bytes y.size ≡ given u))
    → Exactly (IsSlender a) (IsSlender (after_by x a))
keeps a (refused k p) f = (λ z. z, λ z. z)
keeps a (given y) f = let both = f y refl in (λ z. absurd (turned_away a both.0 both.2 z), λ z. absurd (turned_away y both.1 both.3 z))

-- an edit that is done finds such a sheet
found : (e : Edit id_of) (a y : After) → edit_in e a ≡ given y → (t : Sheet) × (sheet_at a.bytes a.size ≡ given t)
unfolding put_in remove_in
found (put r) a y e = let f = then_given (sheet_at a.bytes a.size) _ y e in (f.0, f.1)
found (out id) a y e = let f = then_given (sheet_at a.bytes a.size) _ y e in (f.0, f.1)

-- and leaves one
done : (e : Edit id_of) (a y : After) → edit_in e a ≡ given y → (t u : Sheet) × (sheet_at a.bytes a.size ≡ given t) × (sheet_at y.bytes y.size ≡ given u)
done e a y g = let f = found e a y g in (f.0, _, f.1, one_edit a f.0 f.1 e y g)

pub one_keeps : (e : Edit id_of) (a : After) → Exactly (IsSlender a) (IsSlender (after_by (edit_in e a) a))
one_keeps e a = keeps a (edit_in e a) (done e a)

-- nor do numbers that are put in
pub numbers_keep : (ns : List ℕ) (a : After) → Exactly (IsSlender a) (IsSlender (after_by (put_numbers_in a.bytes a.size ns) a))
unfolding put_numbers_in
numbers_keep ns a = keeps a (put_numbers_in a.bytes a.size ns) (λ y e.
    let h = then_given (header_of a.bytes a.size) _ y e in
    let r = then_given (record_from h.0.count ns) _ y h.2 in
    done (put r.0) a y r.2)

-- nor do edits in turn
pub edits_keep : (es : List (Edit id_of)) (a : After) → Exactly (IsSlender a) (IsSlender (after_all es a))
unfolding after_all
edits_keep [] a = (λ z. z, λ z. z)
edits_keep (e ∷ es) a = exactly_then (one_keeps e a) (edits_keep es (after_by (edit_in e a) a))
