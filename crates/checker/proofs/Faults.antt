-- Refusals 6 to 8 of one record: which of them is given in each case.
-- Assumes nothing.
use Prim.Native.Nat.{ℕ, ◌≤◌, ◌<◌}
use mathlib.Core.Path.{◌≡◌, sym}
use mathlib.Core.List.{List}
use borrow.Author.Tests.{lt-ltb, le-ltb}
use Rattle.sheet.specs.declared.Record.{Record}
use Rattle.sheet.specs.Refusals.{given, refused}
use Rattle.sheet.specs.Record.{read_record}
use Rattle.checker.specs.Check.{◌then◌, sound_after}

module _ (i before : ℕ) (b : List ℕ) where
  pub record_refused_lem : (k p : ℕ) → refused k p ≡ read_record i b → refused k p ≡ sound_after i before b
  unfolding sound_after ◌then◌
  record_refused_lem k p e = rw (sym e)

  module _ (r : Record) (read : given r ≡ read_record i b) where
    pub record_order : r.id ≤ before → refused 8 i ≡ sound_after i before b
    unfolding sound_after ◌then◌
    record_order l = rw (sym read, le-ltb before r.id l)

    pub record_good : before < r.id → given r ≡ sound_after i before b
    unfolding sound_after ◌then◌
    record_good l = rw (sym read, lt-ltb before r.id l)
