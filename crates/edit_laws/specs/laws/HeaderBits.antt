-- The header's bits but the nine of its count, over any calls: they are as they were.
-- Assumes nothing.
use Rattle.std.specs.Prelude.{ℕ, ◌+◌, ◌-◌, ◌*◌, ◌/◌, ◌%◌, ◌≤◌, ◌<◌, ◌≡◌, refl, cond, length, get_or, take, drop}
use Rattle.std.proofs.Common.{sym, ◌∙◌, arith, take-take, get_or-take}
use Rattle.std.proofs.Math.Path.{ap, subst}
use mathlib.Core.List.{List, [], ◌∷◌, ◌++◌}
use Rattle.layout.specs.Layout.{pack, unpack, bytes, Fit}
use Rattle.layout.specs.laws.Laws.{pack_append, unpack_append}
use Rattle.layout.specs.laws.BytesLaws.{drop_take}
use Rattle.sheet.specs.declared.Header.{Header}
use Rattle.sheet.specs.declared.Record.{Record}
use Rattle.sheet.specs.Versions.{version_of}
use Rattle.sheet.specs.laws.VersionLaws.{regular}
use Rattle.sheet.specs.Lines.{first_widths, own_widths}
use Rattle.sheet.specs.Refusals.{given}
use Rattle.sheet.specs.Header.{header_size, first_values, own_values, own_bytes, header_bytes}
use Rattle.sheet.specs.laws.HeaderBack.{header_bytes_same}
use Rattle.checker.specs.Check.{part, Sheet}
use Rattle.keyed.specs.Keyed.{position_of, Edit, put, out, list_after}
use Rattle.keyed.specs.laws.Places.{place_le, has_lt}
use Rattle.edit.specs.Edit.{sheet_at, start, id_of, counting, replacing, After}
use Rattle.edit.specs.laws.Taken.{Taken, taken_at}
use Rattle.edit.specs.laws.Done.{Put, replaces, inserts, put_done, remove_done}
use Rattle.edit_laws.specs.Edits.{holding, edit_in}
use Rattle.edit_laws.specs.laws.Outcomes.{holds_its_own}
use Rattle.edit_laws.specs.laws.Sequences.{one_edit}
use Rattle.edit_laws.specs.laws.Touched.{replaced_before, inserted_header, removed_header}
use Rattle.edit_laws.specs.Calls.{Call, Editor, MeetsEditor, called, called_all, edit_of, HeaderKept}
use Rattle.edit_laws.specs.laws.CallLaws.{Outcome, done, turned_away, outcome}

-- ---- the bytes of a header by its count

-- the fields before the count, 84 bits
abbrev front : Header → ℕ
front h = pack (4 ∷ 14 ∷ 10 ∷ 8 ∷ 1 ∷ 20 ∷ 27 ∷ []) (h.version ∷ h.length.0 ∷ h.draught.0 ∷ h.wave.0 ∷ cond h.two_runs 1 0 ∷ h.moment ∷ h.bottom_modulus ∷ [])

-- the last two of the first twelve bytes, as one number: four bits of the field before, the count, three zero bits
abbrev last_two : (P n : ℕ) → ℕ
last_two P n = P % 16 * 4096 + n * 8

-- the version's own fields
abbrev own : Header → List ℕ
own h = let v = version_of h.own in unpack (bytes (own_bytes v)) (pack (own_widths v) (own_values h.own 0))

in_two : (P n : ℕ) → n < 512 → unpack (bytes 12) (P * 4096 + n * 8) ≡ unpack (bytes 10) (P / 16) ++ unpack (bytes 2) (last_two P n)
in_two P n l =
    let e : P * 4096 + n * 8 ≡ P / 16 * 65536 + last_two P n = omega arith in
    let few : last_two P n < 65536 = omega arith in
    ap (unpack (bytes 12)) e ∙ unpack_append (bytes 10) (bytes 2) (P / 16) (last_two P n) few

bytes_by_count : (h : Header) → h.count < 512 → header_bytes h ≡ unpack (bytes 10) (front h / 16) ++ unpack (bytes 2) (last_two (front h) h.count) ++ own h
bytes_by_count h l =
    let none : h.count * 8 + 0 ≡ h.count * 8 = omega arith in
    let all : pack first_widths (first_values h 0) ≡ front h * 4096 + h.count * 8 =
    pack_append (4 ∷ 14 ∷ 10 ∷ 8 ∷ 1 ∷ 20 ∷ 27 ∷ []) (9 ∷ 3 ∷ [])
    (h.version ∷ h.length.0 ∷ h.draught.0 ∷ h.wave.0 ∷ cond h.two_runs 1 0 ∷ h.moment ∷ h.bottom_modulus ∷ []) (h.count ∷ 0 ∷ []) refl
    ∙ ap (λ (k : ℕ). front h * 4096 + k) none in
    ap (λ (k : ℕ). unpack (bytes 12) k ++ own h) all ∙ ap (λ (x : List ℕ). x ++ own h) (in_two (front h) h.count l)

-- ---- a buffer that begins with them

module _ (h : Header) (few : h.count < 512) (b : List ℕ) (same : take (header_size h) b ≡ header_bytes h) where
  laid : take (header_size h) b ≡ unpack (bytes 10) (front h / 16) ++ unpack (bytes 2) (last_two (front h) h.count) ++ own h
  laid = same ∙ bytes_by_count h few

  least : 12 ≤ header_size h
  least = (regular h.own).least

  first_ten : take 10 b ≡ unpack (bytes 10) (front h / 16)
  first_ten = sym (take-take 10 (header_size h) b (omega (arith, least))) ∙ ap (take 10) laid

  byte_10 : get_or b 10 0 ≡ last_two (front h) h.count / 256 % 256
  byte_10 = sym (get_or-take (header_size h) b 10 0 (omega (arith, least))) ∙ ap (λ (l : List ℕ). get_or l 10 0) laid

  byte_11 : get_or b 11 0 ≡ last_two (front h) h.count / 1 % 256
  byte_11 = sym (get_or-take (header_size h) b 11 0 (omega (arith, least))) ∙ ap (λ (l : List ℕ). get_or l 11 0) laid

  from_12 : part b 12 (header_size h) ≡ own h
  from_12 =
      let e : 12 + (header_size h - 12) ≡ header_size h = omega (arith, least) in
      sym (drop_take 12 (header_size h - 12) b) ∙ ap (λ (k : ℕ). drop 12 (take k b)) e ∙ ap (drop 12) laid

-- the four bits before the count, and the three after it
upper_four : (P n : ℕ) → n < 512 → last_two P n / 256 % 256 / 16 ≡ P % 16
upper_four P n l = omega arith

lower_three : (P n : ℕ) → n < 512 → last_two P n / 1 % 256 % 8 ≡ 0
lower_three P n l = omega arith

-- two buffers that begin with the bytes of a header, but for its count
but_count : (h : Header) (m n : ℕ) → m < 512 → n < 512 → (b c : List ℕ) → take (header_size h) b ≡ header_bytes (counting m h) → take (header_size h) c ≡ header_bytes (counting n h)
    → HeaderKept (header_size h) b c
but_count h m n l k b c f g =
    record {
      front = first_ten (counting n h) k c g ∙ sym (first_ten (counting m h) l b f);
      upper = ap (λ (x : ℕ). x / 16) (byte_10 (counting n h) k c g) ∙ upper_four (front h) n k ∙ sym (upper_four (front h) m l) ∙ sym (ap (λ (x : ℕ). x / 16) (byte_10 (counting m h) l b f));
      lower = ap (λ (x : ℕ). x % 8) (byte_11 (counting n h) k c g) ∙ lower_three (front h) n k ∙ sym (lower_three (front h) m l) ∙ sym (ap (λ (x : ℕ). x % 8) (byte_11 (counting m h) l b f));
      own = from_12 (counting n h) k c g ∙ sym (from_12 (counting m h) l b f);
    }

-- ---- any calls

module _ (h : Header) where
  -- the buffer begins with the bytes of h, with some count
  pub record Headed (a : After) : Type 0 where
    pub count : ℕ
    pub few : count < 512
    pub same : take (header_size h) a.bytes ≡ header_bytes (counting count h)

  -- an edit that is done
  step : (a : After) (rs : List Record) → sheet_at a.bytes a.size ≡ given (holding h rs) → Headed a → (e : Edit id_of) (x : After) → edit_in e a ≡ given x → Headed x
  step a rs f w (put r) x g = go (put_done a.bytes a.size (holding h rs) f r x g).1
    where
      k : Taken a.bytes a.size (holding h rs)
      k = taken_at a.bytes a.size (holding h rs) f

      i : ℕ
      i = position_of id_of r.id rs

      go : Put a.bytes a.size (holding h rs) r x → Headed x
      go (replaces has e) =
          let l : start h i + 16 ≤ length a.bytes = omega (arith, k.whole, k.fits, has_lt id_of r.id rs has) in
          let in_front : header_size h ≤ start h i = omega arith in
          record {
            count = w.count;
            few = w.few;
            same = ap (λ (z : After). take (header_size h) z.bytes) e
                ∙ sym (take-take (header_size h) (start h i) (replacing (counting (length rs) h) i r a.bytes) in_front)
                ∙ ap (take (header_size h)) (replaced_before a.bytes (counting (length rs) h) i r l)
                ∙ take-take (header_size h) (start h i) a.bytes in_front
                ∙ w.same;
          }
      go (inserts new fits few e) =
          record {
            count = length rs + 1;
            few = omega (arith, few, (regular h.own).few);
            same = ap (λ (z : After). take (header_size h) z.bytes) e
                ∙ inserted_header a.bytes (counting (length rs + 1) h) i a.size r (omega (arith, k.whole, place_le id_of r.id rs)) fits;
          }
  step a rs f w (out id) x g =
      let k = taken_at a.bytes a.size (holding h rs) f in
      let d = remove_done a.bytes a.size (holding h rs) f id x g in
      let i = position_of id_of id rs in
      record {
        count = length rs - 1;
        few = omega (arith, k.few, (regular h.own).few);
        same = ap (λ (z : After). take (header_size h) z.bytes) d.after
            ∙ removed_header a.bytes (counting (length rs - 1) h) i a.size (omega (arith, k.whole, has_lt id_of id rs d.there)) k.fits;
      }

  module _ (E : Editor) (meets : MeetsEditor E) where
    all_headed : (cs : List Call) (a : After) (rs : List Record) → sheet_at a.bytes a.size ≡ given (holding h rs) → Headed a → Headed (called_all E cs a)
    unfolding called_all
    all_headed [] a rs f w = w
    all_headed (c ∷ cs) a rs f w = go (all_headed cs) (outcome E meets c a)
      where
        go : ((x : After) (us : List Record) → sheet_at x.bytes x.size ≡ given (holding h us) → Headed x → Headed (called_all E cs x)) → Outcome E meets c a → Headed (called_all E cs (called E c a))
        go rest (done x d g q e) =
            let left : edit_in (edit_of c) a ≡ given (called E c a) = g ∙ ap given (sym q) in
            rest (called E c a) (list_after id_of (edit_of c) rs) (one_edit a (holding h rs) f (edit_of c) (called E c a) left) (step a rs f w (edit_of c) (called E c a) left)
        go rest (turned_away k p d n q e) = subst (λ (x : After). Headed (called_all E cs x)) (sym q) (rest a rs f w)

-- of a sheet that is not turned away, in a buffer of bytes
pub header_bits : (E : Editor) → MeetsEditor E → (cs : List Call) (a : After) (t : Sheet) → sheet_at a.bytes a.size ≡ given t
    → Fit (bytes (header_size t.header)) (take (header_size t.header) a.bytes) → HeaderKept (header_size t.header) a.bytes (called_all E cs a).bytes
header_bits E meets cs a t f fit =
    let h = t.header in
    let k = taken_at a.bytes a.size t f in
    let whole : take (header_size h) (take a.size a.bytes) ≡ take (header_size h) a.bytes = take-take (header_size h) a.size a.bytes (omega (arith, k.whole)) in
    let few : h.count < 512 = omega (arith, k.few, (regular h.own).few) in
    let same : take (header_size h) a.bytes ≡ header_bytes h = sym (header_bytes_same (take a.size a.bytes) h k.read (subst (Fit (bytes (header_size h))) (sym whole) fit) ∙ whole) in
    let w = all_headed h E meets cs a t.records (f ∙ ap given (holds_its_own a.bytes a.size t f)) (record { count = h.count; few = few; same = same }) in
    but_count h h.count w.count few w.few a.bytes (called_all E cs a).bytes same w.same
