-- `edit::put_new` meets its contract.
use mathlib.Core.Path.{◌≡◌, sym, ap, ◌∙◌}
use Prim.Native.Nat.{◌+◌, ◌≤◌, ◌<◌}
use native.Mathlib.Omega.{arith}
use lib.ListN.{length}
use Rattle.sheet.specs.declared.Header.{Header}
use Rattle.sheet.specs.Refusals.{given, header_refused, told_result}
use Rattle.sheet.specs.Header.{header_size, header_fault}
use Rattle.sheet.specs.laws.VersionLaws.{regular}
use Rattle.checker.specs.Check.{sheet_size}
use Rattle.edit.specs.Edit.{highest, counting, inserting}
use Rattle.edit.proofs.Answers.{no_room, room_for_one, at_highest, below_highest, size, its_header, place_most, put_full, put_inserted}
use Rattle.edit.proofs.put_new.Goals.{After-header_fault, In-Ok, Start}
use Rattle.edit.proofs.put_new.Goals as goal

-- the buffer has room for the sheet
within : (c : Start) → (c.args.len ≡ sheet_size c.args.h) × (c.args.len ≤ length c.args.buf.now) × (c.args.h.count ≤ highest c.args.h)
within c = size c.args.buf.now c.args.len c.args.h c.requires.0

-- the header that counts one more, and what its own test says
more : (c : After-header_fault) → c.counted-more.result ≡ counting (c.args.h.count + 1) c.args.h
more c = c.counted-more.ensures

sound : (c : After-header_fault) → header_fault c.args.h ≡ 0
sound c = its_header c.args.buf.now c.args.len c.args.h c.requires.0

room : (c : After-header_fault) → c.args.len + 16 ≤ length c.args.buf.now
room c =
    let within : (c.args.len ≡ sheet_size c.args.h) × (c.args.len ≤ length c.args.buf.now) × (c.args.h.count ≤ highest c.args.h) = size c.args.buf.now c.args.len c.args.h c.requires.0 in
    omega (arith, within.1, c.if-buf-len-lt-RECORD.false)

tested : (c : After-header_fault) → told_result c.header_fault.result ≡ header_refused (header_fault (counting (c.args.h.count + 1) c.args.h)) (given (tt {0}))
tested c = c.header_fault.ensures ∙ ap (λ (g : Header). header_refused (header_fault g) (given (tt {0}))) (more c)

-- none of the header's fields is at fault, and n is below its highest
fine : (c : In-Ok) → let a = c.args in (header_fault (counting (a.h.count + 1) a.h) ≡ 0) × (a.h.count < highest a.h)
fine c =
    let sound : header_fault c.args.h ≡ 0 = its_header c.args.buf.now c.args.len c.args.h c.requires.0 in
    let more : c.counted-more.result ≡ counting (c.args.h.count + 1) c.args.h = c.counted-more.ensures in
    let tested : told_result c.header_fault.result ≡ header_refused (header_fault (counting (c.args.h.count + 1) c.args.h)) (given (tt {0})) = c.header_fault.ensures ∙ ap (λ (g : Header). header_refused (header_fault g) (given (tt {0}))) more in
    let a = c.args in
    below_highest a.h sound (sym (ap told_result c.in-Ok.is) ∙ tested)

-- src/lib.rt:96:8
pub overflow_sub-buf : goal.overflow_sub-buf
overflow_sub-buf c = omega (arith, (within (goal.at.overflow_sub-buf c).Start).1)

-- src/lib.rt:97:9
pub returns-then-buf-len-lt-RECORD : goal.returns-then-buf-len-lt-RECORD
returns-then-buf-len-lt-RECORD c =
    let a = c.args in
    let b = a.buf.now in
    put_full b a.len a.h c.requires.0 a.r c.requires.1 c.requires.3 (no_room a.h a.len (length b) (omega (arith, (within (goal.at.returns-then-buf-len-lt-RECORD c).Start).1, c.if-buf-len-lt-RECORD.true)))

-- src/lib.rt:99:27
pub overflow_add-h : goal.overflow_add-h
overflow_add-h c = omega (arith, (within (goal.at.overflow_add-h c).Start).2, (regular c.args.h.own).few)

-- src/lib.rt:104:13
pub insert-requires : goal.insert-requires
insert-requires c =
    let a = c.args in
    let b = a.buf.now in
    record {
      header = ap (λ (g : Header). header_fault g) (more (goal.at.insert-requires c).After-header_fault) ∙ (fine (goal.at.insert-requires c).In-Ok).0;
      sound = c.requires.1;
      inside = omega (arith, ap (λ (g : Header). header_size g) (more (goal.at.insert-requires c).After-header_fault), (within (goal.at.insert-requires c).Start).0, c.requires.2, place_most b a.len a.h c.requires.0 a.r.id);
      room = room (goal.at.insert-requires c).After-header_fault;
    }

-- src/lib.rt:92:1
pub returns-in-Err : goal.returns-in-Err
returns-in-Err c =
    let a = c.args in
    let b = a.buf.now in
    put_full b a.len a.h c.requires.0 a.r c.requires.1 c.requires.3
    (at_highest a.h (sound (goal.at.returns-in-Err c).After-header_fault) a.len (length b) _ _ (room (goal.at.returns-in-Err c).After-header_fault) (sym (ap told_result c.in-Err.is) ∙ tested (goal.at.returns-in-Err c).After-header_fault))

-- src/lib.rt:92:1
pub returns-in-Ok : goal.returns-in-Ok
returns-in-Ok c =
    let a = c.args in
    let b = a.buf.now in
    put_inserted b a.len a.h c.requires.0 a.r c.requires.1 c.requires.3 (room_for_one a.h a.len (length b) (room (goal.at.returns-in-Ok c).After-header_fault) (fine (goal.at.returns-in-Ok c).In-Ok).1) c.counted-more.result (more (goal.at.returns-in-Ok c).After-header_fault)
    c.insert.new.buf
    (c.insert.ensures ∙ ap (λ n. inserting c.counted-more.result n a.len a.r b) c.requires.2)
