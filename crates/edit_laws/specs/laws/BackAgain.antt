-- A record put in under a new id and taken out again leaves the sheet as it was.
-- Assumes nothing.
use Rattle.std.specs.Prelude.{ℕ, ◌+◌, ◌-◌, ◌*◌, ◌≤◌, ◌≡◌, refl, false, length}
use Rattle.std.proofs.Math.Path.{sym, ap, ap₂, subst}
use Rattle.std.proofs.Common.{◌∙◌, arith, take-add}
use mathlib.Core.List.{List, ◌∷◌, ◌++◌, append_assoc}
use Rattle.std.proofs.Math.ListN.{take, drop, replicate}
use Rattle.std.proofs.Math.Seq.{take-take}
use Rattle.layout.specs.Layout.{bytes, Fit}
use Rattle.sheet.specs.declared.Header.{Header}
use Rattle.sheet.specs.declared.Record.{Record}
use Rattle.sheet.specs.Refusals.{given}
use Rattle.sheet.specs.Header.{header_size, header_bytes}
use Rattle.sheet.specs.laws.HeaderBack.{header_bytes_same}
use Rattle.checker.specs.Check.{◌then◌, demand, part, Sheet}
use Rattle.keyed.specs.Keyed.{position_of, has_of, put_of}
use Rattle.keyed.specs.laws.Places.{place_le, put_length, put_has, put_place}
use Rattle.edit.specs.Edit.{sheet_at, start, id_of, counting, inserting, removing, After, put_in, remove_in}
use Rattle.edit.specs.laws.Taken.{Taken, taken_at}
use Rattle.edit_laws.specs.laws.Rebuilt.{head_read}
use Rattle.edit.specs.laws.Done.{Put, replaces, inserts, put_done}
use Rattle.edit_laws.specs.Edits.{holding}
use Rattle.edit_laws.specs.laws.Outcomes.{put_sheet}
use Rattle.edit_laws.specs.laws.Touched.{inserted_before, inserted_moved, inserted_rest}

-- a part behind what stands before it
take_part : (b : List ℕ) (a e : ℕ) → a ≤ e → take a b ++ part b a e ≡ take e b
take_part b a e l = let m : a + (e - a) ≡ e = omega arith in sym (ap (λ (k : ℕ). take k b) (sym m) ∙ take-add a (e - a) b)

module _ (b : List ℕ) (len : ℕ) (t : Sheet) (found : sheet_at b len ≡ given t) (r : Record) (new : has_of id_of r.id t.records ≡ false) (fit : Fit (bytes (header_size t.header)) (take (header_size t.header) b)) where
  k : Taken b len t
  k = taken_at b len t found

  abbrev h : Header
  h = t.header

  abbrev i : ℕ
  i = position_of id_of r.id t.records

  abbrev a : ℕ
  a = header_size t.header

  inside : start h i ≤ len
  inside = omega (arith, place_le id_of r.id t.records, k.number, k.whole)

  -- the bytes: the sheet, sixteen zeros where the record had made room, and every byte past them as it was
  abbrev left : After
  left = record { size = len; bytes = take len b ++ (replicate 16 0 ++ drop (len + 16) b) }

  restored : (g : Header) → header_size g ≡ header_size h → len + 16 ≤ length b → removing h i (len + 16) (inserting g i len r b) ≡ take len b ++ (replicate 16 0 ++ drop (len + 16) b)
  unfolding removing
  restored g same m =
      let whole : take a (take a b) ≡ take a b = take-take a a b (omega arith) in
      let own : header_bytes h ≡ take a b = header_bytes_same (take a b) h (head_read b len t k i) (subst (Fit (bytes a)) (sym whole) fit) ∙ whole in
      let before : part (inserting g i len r b) a (start h i) ≡ part b a (start h i) =
      subst (λ (n : ℕ). part (inserting g i len r b) n (n + 16 * i) ≡ part b n (n + 16 * i)) same (inserted_before b g i len r (omega (arith, same, inside)) m) in
      let moved : part (inserting g i len r b) (start h i + 16) (len + 16) ≡ part b (start h i) len =
      subst (λ (n : ℕ). part (inserting g i len r b) (n + 16 * i + 16) (len + 16) ≡ part b (n + 16 * i) len) same (inserted_moved b g i len r (omega (arith, same, inside)) m) in
      let x = part b a (start h i) in
      let y = part b (start h i) len in
      let rest = replicate 16 0 ++ drop (len + 16) b in
      ap₂ (λ (u v : List ℕ). u ++ (v ++ (part (inserting g i len r b) (start h i + 16) (len + 16) ++ (replicate 16 0 ++ drop (len + 16) (inserting g i len r b))))) own before
      ∙ ap₂ (λ (u v : List ℕ). take a b ++ (x ++ (u ++ (replicate 16 0 ++ v)))) moved (inserted_rest b g i len r (omega (arith, same, inside)) m)
      ∙ sym (append_assoc (take a b) x (y ++ rest))
      ∙ ap (λ (u : List ℕ). u ++ (y ++ rest)) (take_part b a (start h i) (omega arith))
      ∙ sym (append_assoc (take (start h i) b) y rest)
      ∙ ap (λ (u : List ℕ). u ++ rest) (take_part b (start h i) len inside)

  -- there are n + 1 records once it is in
  many : length (put_of id_of r t.records) ≡ h.count + 1
  many = put_length id_of r t.records ∙ rw new (ap (λ (n : ℕ). n + 1) k.number)

  fewer : counting (length (put_of id_of r t.records) - 1) h ≡ h
  fewer = let one : length (put_of id_of r t.records) - 1 ≡ h.count = omega (arith, many) in ap (λ (m : ℕ). counting m h) one

  -- a removal from the sheet that holds it
  taken_out : (s : List ℕ) (size : ℕ) → sheet_at s size ≡ given (holding h (put_of id_of r t.records)) → remove_in s size r.id ≡ given (record { size = size - 16; bytes = removing h i size s })
  unfolding remove_in ◌then◌ demand
  taken_out s size f =
      rw (f, put_has id_of r t.records)
      (ap₂ (λ (g : Header) (j : ℕ). given (record { size = size - 16; bytes = removing g j size s })) fewer (put_place id_of r t.records))

  -- the record, taken out of the buffer that putting it in has left
  pub put_then_remove : (a : After) → put_in b len r ≡ given a → remove_in a.bytes a.size r.id ≡ given left
  put_then_remove a e = go (put_done b len t found r a e).1 (taken_out a.bytes a.size (put_sheet b len t found r a e))
    where
      go : Put b len t r a → remove_in a.bytes a.size r.id ≡ given (record { size = a.size - 16; bytes = removing h i a.size a.bytes }) → remove_in a.bytes a.size r.id ≡ given left
      go (replaces has f) q = absurd (let z : ◌≡◌ {A = ℕ} 0 1 = cc in omega arith)
      go (inserts n m few f) q =
          let g = counting (h.count + 1) h in
          let less : len + 16 - 16 ≡ len = omega arith in
          q
          ∙ ap (λ (c : After). given (record { size = c.size - 16; bytes = removing h i c.size c.bytes })) f
          ∙ ap₂ (λ (x : ℕ) (y : List ℕ). given (record { size = x; bytes = y })) less (restored g refl m)
