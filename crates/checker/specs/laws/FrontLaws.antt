-- The front of a sheet, its header and the lengths: what is known where it is given, and which of the refusals 1 to 5 and 9 is given in each other case.
-- Assumes nothing.
use Rattle.std.specs.Prelude.{ℕ, ◌*◌, ◌≤◌, ◌<◌, ◌≡◌, true, false, not, List, length, leb, eqb}
use Rattle.std.proofs.Common.{sym, ap, ◌∙◌, arith}
use borrow.Author.Tests.{not-true, lt-leb, le-leb, leb-true, eq-eqb, ne_eqb, eqb-true}
use Rattle.sheet.specs.declared.Header.{Header}
use Rattle.sheet.specs.Refusals.{given, refused}
use Rattle.sheet.specs.laws.RefusalLaws.{given_same}
use Rattle.sheet.specs.Header.{read_header}
use Rattle.sheet.specs.Slender.{too_slender}
use Rattle.checker.specs.laws.ThenLaws.{then_given, demand_given}
use Rattle.checker.specs.Check.{◌then◌, demand, sheet_header, sheet_size, header_for}
use Rattle.checker.specs.Whole.{HeaderFits}

-- ---- none of them arises

-- the header of a sheet is read, and its hull is not too slender
pub header_slim : (s : List ℕ) (h : Header) → sheet_header s ≡ given h → (read_header s ≡ given h) × (too_slender h ≡ false)
unfolding sheet_header
header_slim s h e =
    let a = then_given (read_header s) _ h e in
    let b = then_given (demand (not (too_slender a.0)) 9) _ h a.2 in
    let same : a.0 ≡ h = given_same b.2 in
    (a.1 ∙ ap given same, ap (λ (g : Header). too_slender g) (sym same) ∙ not-true (too_slender a.0) (demand_given (not (too_slender a.0)) 9 b.0 b.1))

-- and a header that is read, of a hull that is not too slender, is given
pub slim_header : (s : List ℕ) (h : Header) → read_header s ≡ given h → too_slender h ≡ false → sheet_header s ≡ given h
unfolding sheet_header ◌then◌ demand
slim_header s h e slim = rw (e, slim)

-- sheets whose headers are read alike have the same header
pub header_same : (s t : List ℕ) → read_header s ≡ read_header t → sheet_header s ≡ sheet_header t
unfolding sheet_header
header_same s t e = rw e

pub header_fits : (s : List ℕ) (room : ℕ) (h : Header) → header_for s room ≡ given h → HeaderFits s room h
unfolding header_for
header_fits s room h e =
    let a = then_given (sheet_header s) _ h e in
    let b = then_given (demand (eqb (length s) (sheet_size a.0)) 4) _ h a.2 in
    let c = then_given (demand (leb (4 * a.0.count) room) 5) _ h b.2 in
    let same : a.0 ≡ h = given_same c.2 in
    let own = header_slim s h (a.1 ∙ ap given same) in
    record {
      read = own.0;
      slim = own.1;
      whole = eqb-true (length s) (sheet_size a.0) (demand_given (eqb (length s) (sheet_size a.0)) 4 b.0 b.1) ∙ ap (λ (g : Header). sheet_size g) same;
      fits = omega (arith, leb-true (4 * a.0.count) room (demand_given (leb (4 * a.0.count) room) 5 c.0 c.1), ap (λ (g : Header). g.count) same);
    }

-- ---- one of them is given

module _ (s : List ℕ) (room : ℕ) where
  -- 1 to 3
  pub header_refused_lem : (k p : ℕ) → read_header s ≡ refused k p → header_for s room ≡ refused k p
  unfolding header_for sheet_header ◌then◌
  header_refused_lem k p e = rw e

  module _ (h : Header) (read : read_header s ≡ given h) where
    pub header_slender : too_slender h ≡ true → header_for s room ≡ refused 9 0
    unfolding header_for sheet_header ◌then◌ demand
    header_slender slender = rw (read, slender)

    module _ (slim : too_slender h ≡ false) where
      pub header_length : (length s ≡ sheet_size h → ⊥) → header_for s room ≡ refused 4 0
      unfolding header_for ◌then◌ demand
      header_length n = rw (slim_header s h read slim, ne_eqb (length s) (sheet_size h) n)

      module _ (whole : length s ≡ sheet_size h) where
        pub header_room : room < 4 * h.count → header_for s room ≡ refused 5 0
        unfolding header_for ◌then◌ demand
        header_room l = rw (slim_header s h read slim, eq-eqb (length s) (sheet_size h) whole, lt-leb (4 * h.count) room l)

        -- and else the header
        pub header_good : 4 * h.count ≤ room → header_for s room ≡ given h
        unfolding header_for ◌then◌ demand
        header_good l = rw (slim_header s h read slim, eq-eqb (length s) (sheet_size h) whole, le-leb (4 * h.count) room l)
