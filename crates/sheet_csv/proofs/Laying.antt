-- Pieces of text put one after another: what is left, laid from the place on, gives the whole.
-- Assumes nothing.
use Prim.Native.Nat.{ℕ, suc, ◌+◌, ◌-◌, ◌*◌, ◌≤◌, ◌<◌}
use mathlib.Core.Path.{◌≡◌, refl, sym, ap, ◌∙◌}
use mathlib.Core.List.{List, [], ◌∷◌, ◌++◌}
use native.Mathlib.Omega.{arith}
use lib.ListN.{length, get_or, take, length-append}
use Rattle.decimal.specs.Decimal.{decimal_of}
use Rattle.decimal.specs.Laid.{laid, Laid}
use Rattle.decimal.specs.laws.LaidLaws.{laid_length, laid_laid, laid_none, laid_both, laid_taken}
use Rattle.decimal.specs.laws.LineLaws.{line_one, line_more}
use Rattle.rows.specs.Pack.{fields_from, fields_of}
use Rattle.sheet.specs.declared.Header.{Header}
use Rattle.sheet.specs.Versions.{most_records}
use Rattle.sheet_csv.specs.Write.{line, header_cells, text_of}
use Rattle.sheet_csv.specs.laws.WriteLaws.{Written, header_most, texts_most}
use Rattle.sheet_csv.specs.Steps.{record_text, records_text, longest_line}
use Rattle.checker.specs.Check.{record_part, records_part}

-- `rest` is left of the text, and goes to `here` on
pub record Laying (page₀ : List ℕ) (at : ℕ) (text page : List ℕ) (here : ℕ) (rest : List ℕ) : Type 0 where
  pub room : at + length text ≤ length page₀
  pub same : length page ≡ length page₀
  pub place : here + length rest ≡ at + length text
  pub bytes : laid page here rest ≡ laid page₀ at text

pub begin : (page : List ℕ) (at : ℕ) (text rest : List ℕ) → rest ≡ text → at + length text ≤ length page → Laying page at text page at rest
begin page at text rest e l = record { room = l; same = refl; place = ap (λ (t : List ℕ). at + length t) e; bytes = ap (laid page at) e }

module _ (page₀ : List ℕ) (at : ℕ) (text page : List ℕ) (here : ℕ) (rest : List ℕ) (l : Laying page₀ at text page here rest) where
  -- there is room for all that is left
  pub fits : here + length rest ≤ length page
  fits = omega (arith, l.place, l.room, l.same)

  module _ (x y : List ℕ) (split : rest ≡ x ++ y) where
    sizes : length rest ≡ length x + length y
    sizes = ap length split ∙ length-append x y

    pub first_fits : here + length x ≤ length page
    first_fits = omega (arith, fits, sizes)

    -- one piece is put
    pub turn : (next : ℕ) (after : List ℕ) → Laid page here x next after → Laying page₀ at text after next y
    turn next after p =
        record {
          room = l.room;
          same = ap length p.bytes ∙ laid_length page here x first_fits ∙ l.same;
          place = omega (arith, p.place, sizes, l.place);
          bytes = ap (λ (k : List ℕ). laid k next y) p.bytes ∙ ap (λ (k : ℕ). laid (laid page here x) k y) p.place ∙ laid_laid page here x y (omega (arith, fits, sizes)) ∙ ap (laid page here) (sym split) ∙ l.bytes;
        }

  pub all_fits : (x : List ℕ) → rest ≡ x → here + length x ≤ length page
  all_fits x e = omega (arith, fits, ap length e)

  -- the last one is put
  pub finish : (x : List ℕ) → rest ≡ x → (next : ℕ) (after : List ℕ) → Laid page here x next after → Laid page₀ at text next after
  finish x e next after p =
      record {
        place = omega (arith, p.place, ap length e, l.place);
        bytes = p.bytes ∙ ap (laid page here) (sym e) ∙ l.bytes;
      }

  -- nothing is left
  pub done : rest ≡ [] → Laid page₀ at text here page
  done e = finish [] e here page (laid_none page here)

-- ---- a line's numbers

-- the number at i, with more behind it, and as the last
module _ (ns : List ℕ) (n i : ℕ) where
  pub number_more : i + 1 < n → line (fields_from i (n - i) ns) ≡ (decimal_of (get_or ns i 0) ++ 44 ∷ []) ++ line (fields_from (i + 1) (n - (i + 1)) ns)
  number_more l =
      let e : n - i ≡ suc (suc (n - (i + 2))) = omega arith in
      let f : n - (i + 1) ≡ suc (n - (i + 2)) = omega arith in
      ap (λ (k : ℕ). line (fields_from i k ns)) e
      ∙ line_more 44 (13 ∷ 10 ∷ []) (get_or ns i 0) (get_or ns (i + 1) 0) (fields_from (i + 1 + 1) (n - (i + 2)) ns)
      ∙ ap (λ (k : ℕ). (decimal_of (get_or ns i 0) ++ 44 ∷ []) ++ line (fields_from (i + 1) k ns)) (sym f)

  pub number_last : i + 1 ≡ n → line (fields_from i (n - i) ns) ≡ decimal_of (get_or ns i 0) ++ (13 ∷ 10 ∷ [])
  number_last e =
      let f : n - i ≡ 1 = omega arith in
      ap (λ (k : ℕ). line (fields_from i k ns)) f ∙ line_one 44 (13 ∷ 10 ∷ []) (get_or ns i 0)

pub all_numbers : (ns : List ℕ) (n : ℕ) → line (fields_from 0 (n - 0) ns) ≡ line (fields_of n ns)
all_numbers ns n = let e : n - 0 ≡ n = omega arith in ap (λ (k : ℕ). line (fields_from 0 k ns)) e

-- ---- the records' lines

module _ (b : List ℕ) (n i : ℕ) where
  pub record_more : i < n → records_text b i (n - i) ≡ record_text (record_part b i) ++ records_text b (i + 1) (n - (i + 1))
  unfolding records_text
  record_more l = let e : n - i ≡ suc (n - (i + 1)) = omega arith in ap (records_text b i) e

  pub record_none : n ≤ i → records_text b i (n - i) ≡ []
  unfolding records_text
  record_none l = let e : n - i ≡ 0 = omega arith in ap (records_text b i) e

pub all_records : (b : List ℕ) (n : ℕ) → records_text b 0 (n - 0) ≡ records_text b 0 n
all_records b n = let e : n - 0 ≡ n = omega arith in ap (records_text b 0) e

-- ---- a whole sheet

module _ (s : List ℕ) (h : Header) (w : Written s h) (page₀ : List ℕ) (size : length page₀ ≡ longest_line * (most_records + 1)) where
  room : 0 + length (text_of w.sheet) ≤ length page₀
  room = omega (arith, ap length w.text, length-append (line (header_cells h)) (records_text (records_part h s) 0 h.count), header_most h w.fine, texts_most (records_part h s) 0 h.count, w.few)

  module _ (at : ℕ) (page₁ : List ℕ) (f : Laid page₀ 0 (line (header_cells h)) at page₁) where
    -- behind the header's line there is room for the records'
    pub rest_fits : at + longest_line * h.count ≤ length page₁
    rest_fits =
        let l = laid_length page₀ 0 (line (header_cells h)) (omega (arith, header_most h w.fine)) in
        omega (arith, f.place, header_most h w.fine, w.few, ap length f.bytes)

    -- all lines are the text
    module _ (len : ℕ) (page₂ : List ℕ) (g : Laid page₁ at (records_text (records_part h s) 0 h.count) len page₂) where
      all : Laid page₀ 0 (text_of w.sheet) len page₂
      all = laid_both page₀ 0 (line (header_cells h)) (records_text (records_part h s) 0 h.count) w.text room f g

      pub text_inside : len ≤ length page₂
      text_inside = omega (arith, all.place, ap length all.bytes, laid_length page₀ 0 (text_of w.sheet) room, room)

      pub text_taken : take len page₂ ≡ text_of w.sheet
      text_taken = laid_taken page₀ (text_of w.sheet) all
