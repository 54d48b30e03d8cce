-- An edit of a file: how many records are printed, its new sheet is in the buffer, and what was read of it turns it away as the whole would be.
-- Assumes nothing.
use Rattle.std.specs.Prelude.{ℕ, ◌≤◌, ◌≡◌, Bool, true, false, cond, List, length, take, ltb, Result, Ok, Err}
use Rattle.std.proofs.Common.{sym, ap₂, ◌∙◌, arith, take_all, take-take, le-leb}
use Rattle.std.proofs.Math.Path.{ap}
use Rattle.sheet.specs.declared.Header.{Header}
use Rattle.sheet.specs.laws.VersionLaws.{regular}
use Rattle.sheet.specs.Refusals.{Answer, given, refused, told_result}
use Rattle.sheet.specs.laws.RefusalLaws.{given_refused, refused_number, refused_place}
use Rattle.checker.specs.Check.{◌then◌, demand, sheet_size, Sheet, sheet_in}
use Rattle.checker.specs.Unjudged.{room, sound_sheet}
use Rattle.checker.specs.laws.Longer.{sheet_cut}
use Rattle.sheet.specs.Versions.{enough}
use Rattle.edit.specs.Edit.{sheet_at, header_of, After, put_numbers_in, remove_in, size_by, Edits}
use Rattle.edit.specs.laws.Within.{numbers_within, remove_within, length_within}
use Rattle.barge_edit.specs.Office.{fields_of, record_count, EditInside, OfFile}
use Rattle.sheet.specs.declared.Refusal.{Refusal}

-- no record is more than 13 numbers
pub fields_most : (kind : ℕ) → fields_of kind ≤ 13
unfolding fields_of
fields_most kind = go (ltb kind 5)
  where
    go : (t : Bool) → cond t 11 13 ≤ 13
    go true = omega arith
    go false = omega arith

-- a sheet's bytes say how many records its header counts, in every version
pub records_counted : (h : Header) → record_count (sheet_size h) ≡ h.count
records_counted h = let v = regular h.own in omega (arith, v.least, v.less)

-- the new sheet is in the buffer
inside : (x : Answer After) (b : List ℕ) (e : Result ℕ Refusal) (after : List ℕ) → ((a : After) → x ≡ given a → a.size ≤ length b) → Edits x b e after → EditInside e (length b)
inside x b (Ok n) after l d = length_within x b n after l d
inside x b (Err r) after l d = tt

pub put_inside : (b : List ℕ) (len : ℕ) (ns : List ℕ) (e : Result ℕ Refusal) (after : List ℕ) → Edits (put_numbers_in b len ns) b e after → EditInside e (length b)
put_inside b len ns e after d = inside (put_numbers_in b len ns) b e after (numbers_within b len ns) d

pub remove_inside : (b : List ℕ) (len id : ℕ) (e : Result ℕ Refusal) (after : List ℕ) → Edits (remove_in b len id) b e after → EditInside e (length b)
remove_inside b len id e after d = inside (remove_in b len id) b e after (remove_within b len id) d

-- ---- the whole file

-- the bytes that were read say what the whole of them say
sheet_whole : (b : List ℕ) (got : ℕ) (input : List ℕ) → enough ≤ length b → got ≤ length b → take got b ≡ take (length b) input → sheet_at b got ≡ sheet_at input (length input)
unfolding sheet_at sound_sheet demand ◌then◌
sheet_whole b got input l m e =
    let n = length b in
    let cut : sheet_in (take n input) room ≡ sheet_in input room
    = sym (sheet_cut (take n input) room) ∙ ap (λ (s : List ℕ). sheet_in s room) (take-take enough n input l) ∙ sheet_cut input room in
    let all : take (length input) input ≡ input = take_all (length input) input (omega arith) in
    rw (le-leb got n m, le-leb (length input) (length input) (omega arith), e, all) cut

-- what turns the sheet away turns either edit away
header_turned : (b : List ℕ) (len k p : ℕ) → header_of b len ≡ refused k p → sheet_at b len ≡ refused k p
unfolding header_of ◌then◌
header_turned b len k p e = go (sheet_at b len) e
  where
    go : (x : Answer Sheet) → ◌then◌ {B = Header} x (λ t. given t.header) ≡ refused k p → x ≡ refused k p
    go (given t) f = given_refused f
    go (refused l q) f = ap₂ refused (refused_number f) (refused_place f)

module _ (b : List ℕ) (got : ℕ) (l : enough ≤ length b) (m : got ≤ length b) (input : List ℕ) (e : take got b ≡ take (length b) input) (k p : ℕ) (turned : header_of input (length input) ≡ refused k p) where
  away : sheet_at b got ≡ refused k p
  away = sheet_whole b got input l m e ∙ header_turned input (length input) k p turned

  put_away : (ns : List ℕ) → put_numbers_in b got ns ≡ refused k p
  unfolding put_numbers_in header_of ◌then◌
  put_away ns = rw away

  remove_away : (id : ℕ) → remove_in b got id ≡ refused k p
  unfolding remove_in ◌then◌
  remove_away id = rw away

  told_away : (x : Answer After) (r : Result ℕ Refusal) (after : List ℕ) → Edits x b r after → x ≡ refused k p → told_result r ≡ refused k p
  unfolding size_by
  told_away x r after d f = d.answer ∙ ap size_by f

module _ (b : List ℕ) (got : ℕ) (l : enough ≤ length b) (m : got ≤ length b) (r : Result ℕ Refusal) (after : List ℕ) where
  pub put_of_file : (ns : List ℕ) → Edits (put_numbers_in b got ns) b r after → OfFile (put_numbers_in b got ns) b got r after
  put_of_file ns d = record { edits = d; whole = λ input e k p t. told_away b got l m input e k p t _ r after d (put_away b got l m input e k p t ns) }

  pub remove_of_file : (id : ℕ) → Edits (remove_in b got id) b r after → OfFile (remove_in b got id) b got r after
  remove_of_file id d = record { edits = d; whole = λ input e k p t. told_away b got l m input e k p t _ r after d (remove_away b got l m input e k p t id) }
