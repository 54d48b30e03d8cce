-- The table's rows on the header and the lengths: 1 to 5 and 9. What is refused there is one of them, and where none holds the header is given.
-- Assumes nothing.
use Rattle.std.specs.Prelude.{ℕ, ◌+◌, ◌*◌, ◌<◌, ◌≡◌, Bool, false, not, List, length, leb, eqb}
use Rattle.std.proofs.Common.{sym, ap, subst, ◌∙◌, arith, leb-false, eqb-true}
use Rattle.std.proofs.Math.Decide.{dec_lt, ℕ_discrete}
use Rattle.std.proofs.lemmas.Bool.{not-false, eqb-false}
use Rattle.truth.specs.laws.Tests.{clash}
use Rattle.sheet.specs.declared.Header.{Header}
use Rattle.sheet.specs.Refusals.{Answer, given, refused}
use Rattle.sheet.specs.laws.RefusalLaws.{given_refused}
use Rattle.sheet.specs.Versions.{Under, under_first, under_own}
use Rattle.sheet.specs.laws.VersionLaws.{own_number}
use Rattle.sheet.specs.Header.{header_size, version_field, version_in, header_of, read_header}
use Rattle.sheet.specs.Slender.{too_slender}
use Rattle.sheet.specs.laws.HeaderExactly.{header_read_1, header_read_2, header_read_3, header_read_others}
use Rattle.checker.specs.Check.{◌then◌, demand, sheet_header, sheet_size, header_for}
use Rattle.checker.specs.laws.ThenLaws.{By, first, later, by, demanded, demand_given}
use Rattle.checker.specs.Whole.{HeaderFits}
use Rattle.checker.specs.laws.FrontLaws.{header_slim, header_slender, header_length, header_room, header_good}
use Rattle.demands.specs.Table.{head_size, count_of, sheet_end, HeaderSound, TooSlender, Fits, Row, sheet_short, version, header_short, header_field, slender, sheet_length, output_short}
use Rattle.demands.specs.laws.FieldsRead.{size_read, header_sound, header_given}
use Rattle.demands.specs.laws.SlenderRead.{slender_read, slim_read}

module _ (s : List ℕ) (room : ℕ) where
  -- ---- from a refusal to its row

  -- a row by its number and place
  pub row_as : (k p l q : ℕ) → k ≡ l → p ≡ q → Row s room l q → Row s room k p
  row_as k p l q f g r = subst (λ (n : ℕ). Row s room n p) (sym f) (subst (λ (n : ℕ). Row s room l n) (sym g) r)

  -- row 1, for the sheet and for its header
  short_row : Under (length s) (version_field s) (version_in s) → Row s room 1 0
  short_row (under_first l) = sheet_short l
  short_row (under_own e l) = go (dec_lt (length s) 12)
    where
      go : Dec (length s < 12) → Row s room 1 0
      go (yes m) = sheet_short m
      go (no m) = header_short (omega arith) (own_number (version_field s) e) l

  -- what the table says of a header that is read
  module _ (h : Header) (read : read_header s ≡ given h) where
    sound : HeaderSound s
    sound = (header_sound s h read).0

    its_header : header_of s ≡ h
    its_header = (header_sound s h read).1

    its_count : count_of s ≡ h.count
    its_count = ap (λ (g : Header). g.count) its_header

    its_hull : too_slender (header_of s) ≡ too_slender h
    its_hull = ap (λ (g : Header). too_slender g) its_header

    slim_told : too_slender h ≡ false → TooSlender s → ⊥
    slim_told slim z = clash ((slender_read s sound).1 z) (its_hull ∙ slim)

  module _ (k p : ℕ) where
    -- rows 1 to 3
    header_row : read_header s ≡ refused k p → Row s room k p
    header_row e = go (ℕ_discrete k 1) (ℕ_discrete k 2) (ℕ_discrete k 3)
      where
        at : (l : ℕ) → k ≡ l → read_header s ≡ refused l p
        at l f = e ∙ ap (λ (n : ℕ). refused n p) f

        go : Dec (k ≡ 1) → Dec (k ≡ 2) → Dec (k ≡ 3) → Row s room k p
        go (yes f) b c = let r = (header_read_1 s p).0 (at 1 f) in row_as k p 1 0 f r.1 (short_row r.0)
        go (no a) (yes f) c = let r = (header_read_2 s p).0 (at 2 f) in row_as k p 2 0 f r.2 (version r.0 r.1)
        go (no a) (no b) (yes f) = let r = (header_read_3 s p).0 (at 3 f) in row_as k p 3 (r.1.index + 2) f (r.1.at ∙ omega arith) (header_field r.1.index r.0 r.1.fault)
        go (no a) (no b) (no c) = absurd (header_read_others s k p a b c e)

    -- a row of place 0, where a test fails
    demand_row : (t : Bool) (l : ℕ) → demand t l ≡ refused k p → (t ≡ false → Row s room l 0) → Row s room k p
    demand_row t l e row = let d = demanded t l k p e in row_as k p l 0 (sym d.1) d.2 (row d.0)

    module _ (h : Header) (read : read_header s ≡ given h) where
      slender_row : demand (not (too_slender h)) 9 ≡ refused k p → Row s room k p
      slender_row e = demand_row (not (too_slender h)) 9 e (λ f. slender (sound h read) ((slender_read s (sound h read)).0 (its_hull h read ∙ not-false (too_slender h) f)))

      module _ (slim : too_slender h ≡ false) where
        length_row : demand (eqb (length s) (sheet_size h)) 4 ≡ refused k p → Row s room k p
        length_row e =
            demand_row (eqb (length s) (sheet_size h)) 4 e
            (λ f. sheet_length (sound h read) (slim_told h read slim) (λ w. eqb-false (length s) (sheet_size h) f (omega (arith, w, size_read s h read, its_count h read))))

        room_row : length s ≡ sheet_size h → demand (leb (4 * h.count) room) 5 ≡ refused k p → Row s room k p
        room_row whole e =
            demand_row (leb (4 * h.count) room) 5 e
            (λ f. output_short (sound h read) (slim_told h read slim) (omega (arith, size_read s h read, its_count h read)) (omega (arith, leb-false (4 * h.count) room f, its_count h read)))

    -- rows 1 to 3 and 9
    slim_row : sheet_header s ≡ refused k p → Row s room k p
    unfolding sheet_header
    slim_row e = go (by (read_header s) _ k p e)
      where
        go : By (read_header s) (λ h. demand (not (too_slender h)) 9 then λ u. given h) k p → Row s room k p
        go (first g) = header_row g
        go (later h read g) = tested (by (demand (not (too_slender h)) 9) _ k p g)
          where
            tested : By (demand (not (too_slender h)) 9) (λ u. given h) k p → Row s room k p
            tested (first w) = slender_row h read w
            tested (later u w x) = given_refused x

    -- all of them
    pub front_row : header_for s room ≡ refused k p → Row s room k p
    unfolding header_for
    front_row e = go (by (sheet_header s) _ k p e)
      where
        size : Header → Answer (Unit {0})
        size h = demand (eqb (length s) (sheet_size h)) 4

        lent : Header → Answer (Unit {0})
        lent h = demand (leb (4 * h.count) room) 5

        go : By (sheet_header s) (λ h. size h then λ u. lent h then λ v. given h) k p → Row s room k p
        go (first g) = slim_row g
        go (later h own g) = sized (header_slim s h own) (by (size h) _ k p g)
          where
            sized : (read_header s ≡ given h) × (too_slender h ≡ false) → By (size h) (λ u. lent h then λ v. given h) k p → Row s room k p
            sized r (first w) = length_row h r.0 r.1 w
            sized r (later u w x) = roomy (by (lent h) _ k p x)
              where
                roomy : By (lent h) (λ v. given h) k p → Row s room k p
                roomy (first y) = room_row h r.0 r.1 (eqb-true (length s) (sheet_size h) (demand_given (eqb (length s) (sheet_size h)) 4 u w)) y
                roomy (later v y z) = given_refused z

  -- a header that is given: none of them holds
  pub fits_read : (h : Header) → HeaderFits s room h → Fits s room × (header_of s ≡ h)
  fits_read h f =
      let c = its_count h f.read in (
        record {
          header = sound h f.read;
          slim = slim_told h f.read f.slim;
          whole = omega (arith, f.whole, size_read s h f.read);
          enough = omega (arith, f.fits);
        },
        its_header h f.read,
      )

  -- ---- from a row to its refusal

  module _ (f : HeaderSound s) where
    -- the sheet's end by the header that the fields are
    its_end : sheet_end s ≡ sheet_size (header_of s)
    its_end = let size : head_size s ≡ header_size (header_of s) = size_read s (header_of s) (header_given s f) in omega arith

    pub slender_refused : TooSlender s → header_for s room ≡ refused 9 0
    slender_refused z = header_slender s room (header_of s) (header_given s f) ((slender_read s f).1 z)

    module _ (slim : TooSlender s → ⊥) where
      pub length_refused : (length s ≡ sheet_end s → ⊥) → header_for s room ≡ refused 4 0
      length_refused n = header_length s room (header_of s) (header_given s f) (slim_read s f slim) (λ e. n (e ∙ sym its_end))

      pub room_refused : length s ≡ sheet_end s → room < 4 * count_of s → header_for s room ≡ refused 5 0
      room_refused whole n = header_room s room (header_of s) (header_given s f) (slim_read s f slim) (whole ∙ its_end) n

  pub front_given : Fits s room → header_for s room ≡ given (header_of s)
  front_given f = header_good s room (header_of s) (header_given s f.header) (slim_read s f.header f.slim) (f.whole ∙ its_end f.header) f.enough
