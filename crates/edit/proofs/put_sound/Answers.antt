-- `edit::put_sound` meets its contract.
use mathlib.Core.Path.{◌≡◌, sym, ap, ◌∙◌}
use mathlib.Core.List.{List}
use Prim.Native.Nat.{ℕ, ◌-◌, ◌*◌, ◌≤◌}
use native.Mathlib.Omega.{arith}
use lib.ListN.{length, length-drop}
use borrow.Rule.Slice.PartMut.{mid_of}
use Rattle.layout.specs.laws.Tail.{mid_past}
use Rattle.sheet.specs.Header.{header_size}
use Rattle.checker.specs.Check.{sheet_size, records_part}
use Rattle.edit.specs.Edit.{replacing}
use Rattle.edit.specs.Steps.{place_in, has_in}
use Rattle.edit.proofs.Answers.{size, place_within, put_replaced}
use Rattle.edit.proofs.put_sound.Goals.{After-has_at, After-size-size, Start}
use Rattle.edit.proofs.put_sound.Goals as goal

within : (c : Start) → sheet_size c.args.h ≤ length c.args.buf.now
within c = let w = size c.args.buf.now c.args.len c.args.h c.requires.0 in omega (arith, w.0, w.1)

-- the bytes of all records
past : (c : After-size-size) → let a = c.args in mid_of c.size-size.result (length a.buf.now - c.size-size.result) a.buf.now ≡ records_part a.h a.buf.now
past c = let a = c.args in mid_past c.size-size.result (header_size a.h) a.buf.now c.size-size.ensures

long : (c : After-size-size) → let a = c.args in 16 * a.h.count ≤ length (mid_of c.size-size.result (length a.buf.now - c.size-size.result) a.buf.now)
long c =
    let within : sheet_size c.args.h ≤ length c.args.buf.now = let w = size c.args.buf.now c.args.len c.args.h c.requires.0 in omega (arith, w.0, w.1) in
    let a = c.args in omega (arith, ap length (past c), length-drop (header_size a.h) a.buf.now, within)

-- where the id stands or belongs, and whether it is there
its_place : (c : After-has_at) → let a = c.args in c.place_of-i.result ≡ place_in (records_part a.h a.buf.now) a.h.count a.r.id
its_place c =
    let past : let a = c.args in mid_of c.size-size.result (length a.buf.now - c.size-size.result) a.buf.now ≡ records_part a.h a.buf.now = let a = c.args in mid_past c.size-size.result (header_size a.h) a.buf.now c.size-size.ensures in
    let a = c.args in c.place_of-i.ensures.0 ∙ ap (λ (b : List ℕ). place_in b a.h.count a.r.id) past

is_there : (c : After-has_at) → let a = c.args in c.has_at.result ≡ has_in (records_part a.h a.buf.now) a.h.count a.r.id
is_there c =
    let past : let a = c.args in mid_of c.size-size.result (length a.buf.now - c.size-size.result) a.buf.now ≡ records_part a.h a.buf.now = let a = c.args in mid_past c.size-size.result (header_size a.h) a.buf.now c.size-size.ensures in
    let a = c.args in c.has_at.ensures ∙ ap (λ (b : List ℕ). has_in b a.h.count a.r.id) past

-- src/lib.rt:118:28
pub slice_bounds-place_of-count : goal.slice_bounds-place_of-count
slice_bounds-place_of-count c = omega (arith, within (goal.at.slice_bounds-place_of-count c).Start, c.size-size.ensures)

-- src/lib.rt:118:28
pub slice_bounds-place_of-start : goal.slice_bounds-place_of-start
slice_bounds-place_of-start c = omega (arith, within (goal.at.slice_bounds-place_of-start c).Start, c.size-size.ensures)

-- src/lib.rt:118:9
pub place_of-i-requires : goal.place_of-i-requires
place_of-i-requires c = long (goal.at.place_of-i-requires c).After-size-size

-- src/lib.rt:119:21
pub slice_bounds-has_at-count : goal.slice_bounds-has_at-count
slice_bounds-has_at-count c = omega (arith, within (goal.at.slice_bounds-has_at-count c).Start, c.size-size.ensures)

-- src/lib.rt:119:21
pub slice_bounds-has_at-start : goal.slice_bounds-has_at-start
slice_bounds-has_at-start c = omega (arith, within (goal.at.slice_bounds-has_at-start c).Start, c.size-size.ensures)

-- src/lib.rt:119:8
pub has_at-requires : goal.has_at-requires
has_at-requires c = (long (goal.at.has_at-requires c).After-size-size, c.place_of-i.ensures.0)

-- src/lib.rt:120:9
pub replace-requires : goal.replace-requires
replace-requires c =
    let a = c.args in
    let l = place_within a.buf.now a.len a.h c.requires.0 a.r.id (sym (is_there (goal.at.replace-requires c).After-has_at) ∙ c.if-has_at.true) in
    (c.requires.1, omega (arith, within (goal.at.replace-requires c).Start, its_place (goal.at.replace-requires c).After-has_at, l))

-- src/lib.rt:121:9
pub returns-then-has_at : goal.returns-then-has_at
returns-then-has_at c =
    let a = c.args in
    put_replaced a.buf.now a.len a.h c.requires.0 a.r c.requires.1 (sym (is_there (goal.at.returns-then-has_at c).After-has_at) ∙ c.if-has_at.true) c.replace.new.buf
    (c.replace.ensures ∙ ap (λ n. replacing a.h n a.r a.buf.now) (its_place (goal.at.returns-then-has_at c).After-has_at))
