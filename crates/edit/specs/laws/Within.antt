-- The sheet that an edit leaves is in the buffer.
-- Assumes nothing.
use Rattle.std.specs.Prelude.{ℕ, ◌≤◌, ◌≡◌, refl, List, length, Ok}
use Rattle.std.proofs.Math.Path.{ap}
use Rattle.std.proofs.Common.{◌∙◌, arith}
use Rattle.sheet.specs.declared.Record.{Record}
use Rattle.sheet.specs.Refusals.{Answer, given, refused}
use Rattle.sheet.specs.laws.RefusalLaws.{given_same, given_refused}
use Rattle.numbers.specs.From.{record_from}
use Rattle.checker.specs.Check.{Sheet}
use Rattle.checker.specs.laws.ThenLaws.{then_given}
use Rattle.edit.specs.Edit.{sheet_at, header_of, After, put_in, put_numbers_in, remove_in, size_by, Edits}
use Rattle.edit.specs.laws.Taken.{taken_at}
use Rattle.edit.specs.laws.Done.{Put, replaces, inserts, put_done, remove_done}

module _ (b : List ℕ) (len : ℕ) where
  placed_within : (t : Sheet) (r : Record) (a : After) → len ≤ length b → Put b len t r a → a.size ≤ length b
  placed_within t r a l (replaces has e) = omega (arith, ap (λ (x : After). x.size) e)
  placed_within t r a l (inserts new fits few e) = omega (arith, ap (λ (x : After). x.size) e)

  put_within : (r : Record) (a : After) → put_in b len r ≡ given a → a.size ≤ length b
  unfolding put_in
  put_within r a e =
      let s = then_given (sheet_at b len) _ a e in
      placed_within s.0 r a (taken_at b len s.0 s.1).fits (put_done b len s.0 s.1 r a e).1

  pub numbers_within : (ns : List ℕ) (a : After) → put_numbers_in b len ns ≡ given a → a.size ≤ length b
  unfolding put_numbers_in
  numbers_within ns a e =
      let h = then_given (header_of b len) _ a e in
      let r = then_given (record_from h.0.count ns) _ a h.2 in
      put_within r.0 a r.2

  pub remove_within : (id : ℕ) (a : After) → remove_in b len id ≡ given a → a.size ≤ length b
  unfolding remove_in
  remove_within id a e =
      let s = then_given (sheet_at b len) _ a e in
      omega (arith, (taken_at b len s.0 s.1).fits, ap (λ (x : After). x.size) (remove_done b len s.0 s.1 id a e).after)

-- so the length that an edit gives back is within, if that of what it comes to is
pub length_within : (x : Answer After) (b : List ℕ) (n : ℕ) (after : List ℕ) → ((a : After) → x ≡ given a → a.size ≤ length b) → Edits x b (Ok n) after → n ≤ length b
unfolding size_by
length_within x b n after l e = go x refl
  where
    go : (y : Answer After) → x ≡ y → n ≤ length b
    go (given a) f = omega (arith, l a f, given_same (e.answer ∙ ap size_by f))
    go (refused k p) f = given_refused (e.answer ∙ ap size_by f)
