-- Bytes put one after another into a draft that holds more than any sheet has; and what the table says of what it holds.
-- Assumes nothing.
use Prim.Native.Nat.{ℕ, ◌+◌, ◌*◌, ◌≤◌, ◌<◌}
use Rattle.std.specs.Prelude.{◌≡◌, List, ◌++◌, length, take, drop}
use Rattle.std.proofs.Common.{inl, inr, ⊎_elim, sym, ap₂, ◌∙◌, append_assoc, arith, length-append, length-drop, take-append-drop, take_all, take_at, take-take, length-take-le}
use Rattle.std.proofs.Math.Path.{refl, ap}
use Rattle.std.proofs.Math.Decide.{dec_le}
use Rattle.std.proofs.lemmas.List.{take-append-le}
use Rattle.std.proofs.lemmas.Bool.{lt-leb}
use Rattle.decimal.specs.Put.{put_count, put_on}
use Rattle.decimal.specs.laws.PutLaws.{count_all, bytes_all}
use Rattle.checker.specs.laws.Longer.{sheet_cut}
use Rattle.sheet.specs.Versions.{enough, most_records}
use Rattle.sheet.specs.laws.VersionLaws.{regular}
use Rattle.sheet.specs.Refusals.{Answer, given, refused}
use Rattle.sheet.specs.laws.HeaderLaws.{header_ranges}
use Rattle.sheet.specs.laws.HeaderBack.{header_read_fine}
use Rattle.checker.specs.Check.{◌then◌, Sheet, sheet_in}
use Rattle.checker.specs.laws.CheckLaws.{sheet_whole}
use Rattle.checker.specs.Unjudged.{sound_sheet}
use Rattle.sheet_csv.specs.Steps.{draft_size, Held, PutsBehind, fits_in, sound_in}

-- without room nothing is put
count_none : (b o : List ℕ) → length o < length b → (put_count b o ≡ 0) × (put_on b o ≡ o)
unfolding put_count put_on
count_none b o l = (rw (lt-leb (length b) (length o) l), rw (lt-leb (length b) (length o) l))

-- the first bytes, in front of which nothing stands
pub held_first : (b draft : List ℕ) (next : ℕ) (after : List ℕ) → length b ≤ length draft → PutsBehind b draft 0 next after → Held b next after × (length after ≡ length draft)
held_first b draft next after l p =
    let n : next ≡ length b = p.place ∙ ap (λ (k : ℕ). 0 + k) (count_all b draft l) ∙ omega arith in
    let o : after ≡ b ++ drop (length b) draft = p.bytes ∙ bytes_all b draft l in
    let s : length after ≡ length draft = omega (arith, ap length o, length-append b (drop (length b) draft), length-drop (length b) draft) in (
      record {
        front = ap (take next) o ∙ take_at b (drop (length b) draft) next (sym n) ∙ sym (take_all next b (omega arith));
        inside = omega arith;
        within = omega arith;
        much = inl n;
      },
      s,
    )

-- sixteen more
module _ (whole b draft : List ℕ) (end next : ℕ) (after : List ℕ) (h : Held whole end draft) (size : length draft ≡ draft_size) (sixteen : length b ≡ 16) (p : PutsBehind b draft end next after) where
  left : length (drop end draft) + end ≡ draft_size
  left = omega (arith, length-drop end draft, h.inside)

  with_room : length b ≤ length (drop end draft) → Held (whole ++ b) next after × (length after ≡ draft_size)
  with_room l =
      let all : end ≡ length whole = ⊎_elim (λ e. e) (λ m. absurd (omega (arith, left))) h.much in
      let n : next ≡ end + length b = p.place ∙ ap (λ (k : ℕ). end + k) (count_all b (drop end draft) l) in
      let o : after ≡ take end draft ++ (b ++ drop (length b) (drop end draft)) = p.bytes ∙ ap (λ (t : List ℕ). take end draft ++ t) (bytes_all b (drop end draft) l) in
      let f : take end draft ≡ whole = h.front ∙ take_all end whole (omega arith) in
      let c : length (take end draft) ≡ end = length-take-le end draft h.inside in
      let g : after ≡ (whole ++ b) ++ drop (length b) (drop end draft) =
      o ∙ ap (λ (t : List ℕ). t ++ (b ++ drop (length b) (drop end draft))) f ∙ sym (append_assoc whole b (drop (length b) (drop end draft))) in
      let w : length (whole ++ b) ≡ next = omega (arith, length-append whole b) in
      let s : length after ≡ draft_size = omega (arith, ap length g, length-append (whole ++ b) (drop (length b) (drop end draft)), length-drop (length b) (drop end draft), left) in (
        record {
          front = ap (take next) g ∙ take_at (whole ++ b) (drop (length b) (drop end draft)) next w ∙ sym (take_all next (whole ++ b) (omega arith));
          inside = omega (arith, left);
          within = omega arith;
          much = inl (sym w);
        },
        s,
      )

  without : length (drop end draft) < length b → Held (whole ++ b) next after × (length after ≡ draft_size)
  without l =
      let c = count_none b (drop end draft) l in
      let n : next ≡ end = p.place ∙ ap (λ (k : ℕ). end + k) c.0 ∙ omega arith in
      let o : after ≡ draft = p.bytes ∙ ap (λ (t : List ℕ). take end draft ++ t) c.1 ∙ take-append-drop end draft in (
        record {
          front = ap₂ (λ (k : ℕ) (t : List ℕ). take k t) n o ∙ h.front ∙ sym (take-append-le end whole b h.within) ∙ ap (λ (k : ℕ). take k (whole ++ b)) (sym n);
          inside = omega (arith, h.inside, ap length o);
          within = omega (arith, length-append whole b, h.within);
          much = inr (omega (arith, left));
        },
        ap length o ∙ size,
      )

  pub held_more : Held (whole ++ b) next after × (length after ≡ draft_size)
  held_more = go (dec_le (length b) (length (drop end draft)))
    where
      go : Dec (length b ≤ length (drop end draft)) → Held (whole ++ b) next after × (length after ≡ draft_size)
      go (yes l) = with_room l
      go (no l) = without (omega arith)

-- ---- the table

module _ (whole : List ℕ) (end : ℕ) (draft : List ℕ) (h : Held whole end draft) where
  -- it says of what the draft holds what it says of all
  pub held_sheet : (room : ℕ) → sheet_in (take end draft) room ≡ sheet_in whole room
  held_sheet room = ⊎_elim all much h.much
    where
      all : end ≡ length whole → sheet_in (take end draft) room ≡ sheet_in whole room
      all e = ap (λ (b : List ℕ). sheet_in b room) (h.front ∙ take_all end whole (omega arith))

      much : enough ≤ end → sheet_in (take end draft) room ≡ sheet_in whole room
      much l =
          sym (sheet_cut (take end draft) room)
          ∙ ap (λ (b : List ℕ). sheet_in b room) (ap (take enough) h.front ∙ take-take enough end whole l)
          ∙ sheet_cut whole room

  -- a sheet that is not turned away is no longer than any
  whole_held : (room : ℕ) (t : Sheet) → sheet_in whole room ≡ given t → take end draft ≡ whole
  whole_held room t e =
      let w = sheet_whole whole room t e in
      let few = (header_ranges t.header (header_read_fine whole t.header w.header.read)).count_high in
      let all : end ≡ length whole = ⊎_elim (λ f. f) (λ l. absurd (omega (arith, h.within, w.header.whole, few, (regular t.header.own).short))) h.much in
      h.front ∙ take_all end whole (omega arith)

  -- so what the draft holds is answered as all would be
  pub held_sound : (room : ℕ) → sound_in (take end draft) room ≡ sound_in whole room
  unfolding sound_sheet ◌then◌
  held_sound room = ap (λ (x : Answer Sheet). x then λ t. fits_in (take end draft) room) (held_sheet space) ∙ go (sheet_in whole space) refl
    where
      space : ℕ
      space = 4 * most_records

      go : (x : Answer Sheet) → sheet_in whole space ≡ x → (x then λ t. fits_in (take end draft) room) ≡ (x then λ t. fits_in whole room)
      go (given t) e = ap (λ (b : List ℕ). fits_in b room) (whole_held space t e)
      go (refused k p) e = refl
