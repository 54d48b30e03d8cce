-- Which bytes a call touches, and what calls in turn leave past the sheet.
-- Assumes nothing.
use Prim.Native.Nat.{ℕ, ◌+◌, ◌-◌, max, ◌≤◌, ◌<◌}
use Rattle.std.specs.Prelude.{◌≡◌, refl, length, get_or, take, drop}
use Rattle.std.proofs.Common.{sym, ap, subst, ◌∙◌, get_or-take, get_or-drop}
use mathlib.Core.List.{List, [], ◌∷◌}
use native.Mathlib.Omega.{arith}
use Rattle.std.proofs.Math.Decide.{dec_lt}
use Rattle.std.proofs.lemmas.List.{get_or-replicate}
use Rattle.sheet.specs.Refusals.{given}
use Rattle.sheet.specs.Header.{header_size}
use Rattle.numbers.specs.From.{record_of_numbers}
use Rattle.checker.specs.Check.{part, Sheet}
use Rattle.keyed.specs.Keyed.{position_of}
use Rattle.keyed.specs.laws.Places.{place_le, has_lt}
use Rattle.edit.specs.Edit.{sheet_at, start, id_of, counting, replacing, inserting, removing, After, remove_in}
use Rattle.edit.specs.laws.Taken.{Taken, taken_at}
use Rattle.edit.specs.laws.Done.{Put, replaces, inserts, put_done, remove_done}
use Rattle.edit_laws.specs.Edits.{edit_in}
use Rattle.edit_laws.specs.laws.Touched.{replaced_before, replaced_after, replaced_length, inserted_before, inserted_rest, inserted_length, removed_before, removed_freed, removed_rest, removed_length}
use Rattle.edit_laws.specs.Calls.{Call, put_fields, remove_id, Editor, MeetsEditor, called, called_all, edit_of, byte, Apart, before_it, behind_it, CallLeaves, longest, LeavesPast}
use Rattle.edit_laws.specs.laws.CallLaws.{Outcome, done, turned_away, outcome, any_calls}

-- ---- bytes of parts

taken_byte : (b c : List ℕ) (n i : ℕ) → take n b ≡ take n c → i < n → byte b i ≡ byte c i
taken_byte b c n i e l = sym (get_or-take n b i 0 l) ∙ ap (λ (s : List ℕ). get_or s i 0) e ∙ get_or-take n c i 0 l

dropped : (b : List ℕ) (n i : ℕ) → n ≤ i → get_or (drop n b) (i - n) 0 ≡ byte b i
dropped b n i l = let e : n + (i - n) ≡ i = omega arith in get_or-drop n b (i - n) 0 ∙ ap (byte b) e

dropped_byte : (b c : List ℕ) (n i : ℕ) → drop n b ≡ drop n c → n ≤ i → byte b i ≡ byte c i
dropped_byte b c n i e l = sym (dropped b n i l) ∙ ap (λ (s : List ℕ). get_or s (i - n) 0) e ∙ dropped c n i l

in_part : (b : List ℕ) (a e i : ℕ) → a ≤ i → i < e → get_or (part b a e) (i - a) 0 ≡ byte b i
in_part b a e i l m = get_or-take (e - a) (drop a b) (i - a) 0 (omega arith) ∙ dropped b a i l

part_byte : (b c : List ℕ) (a e i : ℕ) → part b a e ≡ part c a e → a ≤ i → i < e → byte b i ≡ byte c i
part_byte b c a e i f l m = sym (in_part b a e i l m) ∙ ap (λ (s : List ℕ). get_or s (i - a) 0) f ∙ in_part c a e i l m

-- ---- one call

module _ (a : After) (t : Sheet) (found : sheet_at a.bytes a.size ≡ given t) where
  k : Taken a.bytes a.size t
  k = taken_at a.bytes a.size t found

  -- a refusal
  nothing_left : (c : Call) → CallLeaves c t a a
  nothing_left c =
      record {
        in_front = λ i l m. refl;
        others = λ e i n. refl;
        freed = λ i l m. absurd (omega arith);
        past = λ i l m. refl;
        long = refl;
      }

  put_leaves : (ns : List ℕ) (x : After) → Put a.bytes a.size t (record_of_numbers ns) x → CallLeaves (put_fields ns) t a x
  put_leaves ns x (replaces has e) =
      let b = a.bytes in
      let h = t.header in
      let r = record_of_numbers ns in
      let i = position_of id_of r.id t.records in
      let y = replacing h i r b in
      let end : start h i + 16 ≤ a.size = omega (arith, k.whole, k.number, has_lt id_of r.id t.records has) in
      let inside : start h i + 16 ≤ length b = omega (arith, end, k.fits) in
      let first = replaced_before b h i r inside in
      let last = replaced_after b h i r inside in
      subst (CallLeaves (put_fields ns) t a) (sym e)
      (record {
        in_front = λ j l m. taken_byte y b (start h i) j first m;
        others = λ q j n. apart y b (start h i) first last j n;
        freed = λ j l m. absurd (omega arith);
        past = λ j l m. dropped_byte y b (start h i + 16) j last (omega (arith, end));
        long = replaced_length b h i r inside;
      })
    where
      apart : (y b : List ℕ) (p : ℕ) → take p y ≡ take p b → drop (p + 16) y ≡ drop (p + 16) b → (j : ℕ) → Apart j p → byte y j ≡ byte b j
      apart y b p f g j (before_it l) = taken_byte y b p j f l
      apart y b p f g j (behind_it l) = dropped_byte y b (p + 16) j g l
  put_leaves ns x (inserts new fits few e) =
      let b = a.bytes in
      let h = t.header in
      let r = record_of_numbers ns in
      let i = position_of id_of r.id t.records in
      let g = counting (h.count + 1) h in
      let y = inserting g i a.size r b in
      let inside : start g i ≤ a.size = omega (arith, k.whole, k.number, place_le id_of r.id t.records) in
      subst (CallLeaves (put_fields ns) t a) (sym e)
      (record {
        in_front = λ j l m. part_byte y b (header_size h) (start h i) j (inserted_before b g i a.size r inside fits) l m;
        others = λ q j n. absurd (omega arith);
        freed = λ j l m. absurd (omega arith);
        past = λ j l m. dropped_byte y b (a.size + 16) j (inserted_rest b g i a.size r inside fits) m;
        long = inserted_length b g i a.size r inside fits;
      })

  remove_leaves : (id : ℕ) (x : After) → remove_in a.bytes a.size id ≡ given x → CallLeaves (remove_id id) t a x
  remove_leaves id x f =
      let b = a.bytes in
      let h = t.header in
      let d = remove_done b a.size t found id x f in
      let i = position_of id_of id t.records in
      let g = counting (h.count - 1) h in
      let y = removing g i a.size b in
      let inside : start g i + 16 ≤ a.size = omega (arith, k.whole, k.number, has_lt id_of id t.records d.there) in
      subst (CallLeaves (remove_id id) t a) (sym d.after)
      (record {
        in_front = λ j l m. part_byte y b (header_size h) (start h i) j (removed_before b g i a.size inside k.fits) l m;
        others = λ q j n. absurd (omega (arith, inside));
        freed = λ j l m.
            sym (in_part y (a.size - 16) a.size j l m)
            ∙ ap (λ (s : List ℕ). get_or s (j - (a.size - 16)) 0) (removed_freed b g i a.size inside k.fits)
            ∙ get_or-replicate 16 (j - (a.size - 16)) 0 0 (omega (arith, inside));
        past = λ j l m. dropped_byte y b a.size j (removed_rest b g i a.size inside k.fits) l;
        long = removed_length b g i a.size inside k.fits;
      })

  done_leaves : (c : Call) (x : After) → edit_in (edit_of c) a ≡ given x → CallLeaves c t a x
  done_leaves (put_fields ns) x f = put_leaves ns x (put_done a.bytes a.size t found (record_of_numbers ns) x f).1
  done_leaves (remove_id id) x f = remove_leaves id x f

  pub one_leaves : (E : Editor) → MeetsEditor E → (c : Call) → CallLeaves c t a (called E c a)
  one_leaves E meets c = go (outcome E meets c a)
    where
      go : Outcome E meets c a → CallLeaves c t a (called E c a)
      go (done x f g q d) = subst (CallLeaves c t a) (sym q) (done_leaves c x g)
      go (turned_away l p f n q d) = subst (CallLeaves c t a) (sym q) (nothing_left c)

-- ---- calls in turn

module _ (E : Editor) (meets : MeetsEditor E) where
  -- where the buffer has zeros from the sheet's end up to some place, it has them up to there or to the end of the longest sheet, whichever is further; behind
  -- that every byte is as it was
  pub record Past (cs : List Call) (a : After) (reached : ℕ) : Type 0 where
    pub zeros : (i : ℕ) → (called_all E cs a).size ≤ i → i < max reached (longest E cs a) → byte (called_all E cs a).bytes i ≡ 0
    pub lent : (i : ℕ) → longest E cs a ≤ i → byte (called_all E cs a).bytes i ≡ byte a.bytes i
    pub long : length (called_all E cs a).bytes ≡ length a.bytes
    pub first : a.size ≤ longest E cs a

  all_past : (cs : List Call) (a : After) (t : Sheet) → sheet_at a.bytes a.size ≡ given t → (reached : ℕ) → a.size ≤ reached
      → ((i : ℕ) → a.size ≤ i → i < reached → byte a.bytes i ≡ 0) → Past cs a reached
  unfolding called_all longest
  all_past [] a t f reached l z = record { zeros = λ i m n. z i m (omega arith); lent = λ i m. refl; long = refl; first = omega arith }
  all_past (c ∷ cs) a t f reached l z =
      let x = called E c a in
      let v = one_leaves a t f E meets c in
      let u = any_calls E meets (c ∷ []) a t f in
      let rest = all_past cs x u.sheet u.sound (max reached x.size) (omega arith) (λ i m n. step x v i m n (dec_lt i a.size)) in
      record {
        zeros = λ i m n. rest.zeros i m (omega (arith, rest.first));
        lent = λ i m. rest.lent i (omega arith) ∙ v.past i (omega arith) (omega (arith, rest.first));
        long = rest.long ∙ v.long;
        first = omega arith;
      }
    where
      step : (x : After) → CallLeaves c t a x → (i : ℕ) → x.size ≤ i → i < max reached x.size → Dec (i < a.size) → byte x.bytes i ≡ 0
      step x v i m n (yes q) = v.freed i m q
      step x v i m n (no q) = v.past i (omega arith) m ∙ z i (omega arith) (omega arith)

  pub all_leave : (cs : List Call) (a : After) (t : Sheet) → sheet_at a.bytes a.size ≡ given t → LeavesPast E cs a
  all_leave cs a t f =
      let p = all_past cs a t f a.size (omega arith) (λ i l m. absurd (omega arith)) in
      record { zeros = λ i m n. p.zeros i m (omega (arith, p.first)); lent = p.lent; long = p.long }
