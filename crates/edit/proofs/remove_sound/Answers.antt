-- `edit::remove_sound` meets its contract.
use mathlib.Core.Path.{◌≡◌, sym, ap, ◌∙◌}
use Prim.Native.Nat.{ℕ, ◌-◌, ◌*◌, ◌≤◌, ◌<◌}
use mathlib.Core.List.{List}
use mathlib.Core.Bool.{true}
use native.Mathlib.Omega.{arith}
use lib.ListN.{length, length-drop}
use borrow.Rule.Slice.PartMut.{mid_of}
use Rattle.layout.specs.laws.Tail.{mid_past}
use Rattle.sheet.specs.declared.Header.{Header}
use Rattle.sheet.specs.Header.{header_size, header_fault}
use Rattle.checker.specs.Check.{sheet_size, records_part}
use Rattle.edit.specs.Edit.{highest, removing}
use Rattle.edit.specs.laws.HeaderCount.{counting_sound}
use Rattle.edit.specs.Steps.{place_in, has_in}
use Rattle.edit.proofs.Answers.{size, its_header, place_within, remove_none, remove_done}
use Rattle.edit.proofs.remove_sound.Goals.{After-has_at, After-size-size, Start, Then-has_at}
use Rattle.edit.proofs.remove_sound.Goals as goal

within : (c : Start) → (c.args.len ≡ sheet_size c.args.h) × (c.args.len ≤ length c.args.buf.now) × (c.args.h.count ≤ highest c.args.h)
within c = size c.args.buf.now c.args.len c.args.h c.requires

inside : (c : After-size-size) → c.size-size.result ≤ length c.args.buf.now
inside c =
    let within : (c.args.len ≡ sheet_size c.args.h) × (c.args.len ≤ length c.args.buf.now) × (c.args.h.count ≤ highest c.args.h) = size c.args.buf.now c.args.len c.args.h c.requires in
    let w = within in omega (arith, c.size-size.ensures, w.0, w.1)

-- the bytes of all records
past : (c : After-size-size) → let a = c.args in mid_of c.size-size.result (length a.buf.now - c.size-size.result) a.buf.now ≡ records_part a.h a.buf.now
past c = let a = c.args in mid_past c.size-size.result (header_size a.h) a.buf.now c.size-size.ensures

long : (c : After-size-size) → let a = c.args in 16 * a.h.count ≤ length (mid_of c.size-size.result (length a.buf.now - c.size-size.result) a.buf.now)
long c =
    let within : (c.args.len ≡ sheet_size c.args.h) × (c.args.len ≤ length c.args.buf.now) × (c.args.h.count ≤ highest c.args.h) = size c.args.buf.now c.args.len c.args.h c.requires in
    let a = c.args in
    let w = within in
    omega (arith, ap length (past c), length-drop (header_size a.h) a.buf.now, w.0, w.1)

-- where the id stands or belongs, and whether it is there
its_place : (c : After-has_at) → let a = c.args in c.place_of-i.result ≡ place_in (records_part a.h a.buf.now) a.h.count a.id
its_place c =
    let past : let a = c.args in mid_of c.size-size.result (length a.buf.now - c.size-size.result) a.buf.now ≡ records_part a.h a.buf.now = let a = c.args in mid_past c.size-size.result (header_size a.h) a.buf.now c.size-size.ensures in
    let a = c.args in c.place_of-i.ensures.0 ∙ ap (λ (b : List ℕ). place_in b a.h.count a.id) past

is_there : (c : After-has_at) → let a = c.args in c.has_at.result ≡ has_in (records_part a.h a.buf.now) a.h.count a.id
is_there c =
    let past : let a = c.args in mid_of c.size-size.result (length a.buf.now - c.size-size.result) a.buf.now ≡ records_part a.h a.buf.now = let a = c.args in mid_past c.size-size.result (header_size a.h) a.buf.now c.size-size.ensures in
    let a = c.args in c.has_at.ensures ∙ ap (λ (b : List ℕ). has_in b a.h.count a.id) past

-- the record is there, and is one of the n
there : (c : Then-has_at) → let a = c.args in has_in (records_part a.h a.buf.now) a.h.count a.id ≡ true
there c =
    let is_there : let a = c.args in c.has_at.result ≡ has_in (records_part a.h a.buf.now) a.h.count a.id = let past : let a = c.args in mid_of c.size-size.result (length a.buf.now - c.size-size.result) a.buf.now ≡ records_part a.h a.buf.now = let a = c.args in mid_past c.size-size.result (header_size a.h) a.buf.now c.size-size.ensures in
    let a = c.args in c.has_at.ensures ∙ ap (λ (b : List ℕ). has_in b a.h.count a.id) past in
    sym is_there ∙ c.if-has_at.true

below : (c : Then-has_at) → let a = c.args in c.place_of-i.result < a.h.count
below c =
    let its_place : let a = c.args in c.place_of-i.result ≡ place_in (records_part a.h a.buf.now) a.h.count a.id = let past : let a = c.args in mid_of c.size-size.result (length a.buf.now - c.size-size.result) a.buf.now ≡ records_part a.h a.buf.now = let a = c.args in mid_past c.size-size.result (header_size a.h) a.buf.now c.size-size.ensures in
    let a = c.args in c.place_of-i.ensures.0 ∙ ap (λ (b : List ℕ). place_in b a.h.count a.id) past in
    let a = c.args in
    omega (arith, its_place, place_within a.buf.now a.len a.h c.requires a.id (there c))

-- src/lib.rt:150:28
pub slice_bounds-place_of-count : goal.slice_bounds-place_of-count
slice_bounds-place_of-count c = omega (arith, inside c)

-- src/lib.rt:150:28
pub slice_bounds-place_of-start : goal.slice_bounds-place_of-start
slice_bounds-place_of-start c = omega (arith, inside (goal.at.slice_bounds-place_of-start c).After-size-size)

-- src/lib.rt:150:9
pub place_of-i-requires : goal.place_of-i-requires
place_of-i-requires c = long (goal.at.place_of-i-requires c).After-size-size

-- src/lib.rt:151:21
pub slice_bounds-has_at-count : goal.slice_bounds-has_at-count
slice_bounds-has_at-count c = omega (arith, inside (goal.at.slice_bounds-has_at-count c).After-size-size)

-- src/lib.rt:151:21
pub slice_bounds-has_at-start : goal.slice_bounds-has_at-start
slice_bounds-has_at-start c = omega (arith, inside (goal.at.slice_bounds-has_at-start c).After-size-size)

-- src/lib.rt:151:8
pub has_at-requires : goal.has_at-requires
has_at-requires c = (long (goal.at.has_at-requires c).After-size-size, c.place_of-i.ensures.0)

-- src/lib.rt:152:32
pub overflow_sub-n : goal.overflow_sub-n
overflow_sub-n c = omega (arith, below c)

-- src/lib.rt:153:9
pub take_out-requires : goal.take_out-requires
take_out-requires c =
    let a = c.args in
    record {
      header = ap (λ (g : Header). header_fault g) c.counted-fewer.ensures
          ∙ counting_sound a.h _ (its_header a.buf.now a.len a.h c.requires) (omega (arith, (within (goal.at.take_out-requires c).Start).2));
      inside = omega (arith, ap (λ (g : Header). header_size g) c.counted-fewer.ensures, (within (goal.at.take_out-requires c).Start).0, below (goal.at.take_out-requires c).Then-has_at);
      whole = (within (goal.at.take_out-requires c).Start).1;
    }

-- src/lib.rt:154:31
pub overflow_sub-result : goal.overflow_sub-result
overflow_sub-result c = omega (arith, (within (goal.at.overflow_sub-result c).Start).0, below (goal.at.overflow_sub-result c).Then-has_at)

-- src/lib.rt:154:9
pub returns-then-has_at : goal.returns-then-has_at
returns-then-has_at c =
    let a = c.args in
    remove_done a.buf.now a.len a.h c.requires a.id (there (goal.at.returns-then-has_at c).Then-has_at) c.counted-fewer.result c.counted-fewer.ensures c.take_out.new.buf
    (c.take_out.ensures ∙ ap (λ i. removing c.counted-fewer.result i a.len a.buf.now) (its_place (goal.at.returns-then-has_at c).After-has_at))

-- src/lib.rt:144:1
pub returns : goal.returns
returns c =
    let a = c.args in
    remove_none a.buf.now a.len a.h c.requires a.id (sym (is_there (goal.at.returns c).After-has_at) ∙ c.if-has_at.false)
