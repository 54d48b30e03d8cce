-- A line that is read field by field: the numbers stored so far, and then those of what is left, are the line's.
-- Assumes nothing.
use Prim.Native.Nat.{ℕ, ◌+◌}
use mathlib.Core.Path.{◌≡◌, refl, sym, ap, ◌∙◌}
use mathlib.Core.List.{List, [], ◌∷◌, ◌++◌, append_assoc, append-nil}
use lib.ListN.{length, set, length-append}
use Rattle.text.specs.declared.LineEnd.{LineEnd}
use Rattle.text.specs.Line.{Numbers, behind, over, Reads}
use Rattle.text.specs.laws.LineLaws.{over_more, over_length}

-- of the line l so many numbers are stored, and `rest` is left
pub record Reading (l rest : Numbers) (before now : List ℕ) (count : ℕ) : Type 0 where
  pub seen : List ℕ
  pub whole : l ≡ record { values = seen ++ rest.values; end = rest.end }
  pub many : count ≡ length seen
  pub stored : now ≡ over seen before

pub begin : (l : Numbers) (ns : List ℕ) → Reading l l ns ns 0
begin l ns = record { seen = []; whole = refl; many = refl; stored = refl }

module _ (l rest : Numbers) (before now : List ℕ) (count : ℕ) (r : Reading l rest before now count) where
  -- one number more is stored
  pub one_stored : (v : ℕ) (after : List ℕ) → after ≡ set now count v → after ≡ over (r.seen ++ v ∷ []) before
  one_stored v after e =
      e ∙ ap (λ (ns : List ℕ). set ns count v) r.stored ∙ ap (λ (k : ℕ). set (over r.seen before) k v) r.many ∙ sym (over_more r.seen before v)

  -- no number more or less is there
  pub kept : length now ≡ length before
  kept = ap length r.stored ∙ over_length r.seen before

  pub kept_stored : (v : ℕ) (after : List ℕ) → after ≡ set now count v → length after ≡ length before
  kept_stored v after e = ap length (one_stored v after e) ∙ over_length (r.seen ++ v ∷ []) before

  one_counted : (v : ℕ) → count + 1 ≡ length (r.seen ++ v ∷ [])
  one_counted v = ap (λ (k : ℕ). k + 1) r.many ∙ sym (length-append r.seen (v ∷ []))

  pub go_on : (v : ℕ) (next : Numbers) → rest ≡ behind v next → (after : List ℕ) → after ≡ set now count v → (n : ℕ) → n ≡ count + 1 → Reading l next before after n
  go_on v next e after f n g =
      record {
        seen = r.seen ++ v ∷ [];
        whole = r.whole
            ∙ ap (λ (t : Numbers). record { values = r.seen ++ t.values; end = t.end }) e
            ∙ ap (λ (vs : List ℕ). record { values = vs; end = next.end }) (sym (append_assoc r.seen (v ∷ []) next.values));
        many = g ∙ one_counted v;
        stored = one_stored v after f;
      }

  -- the last number
  pub ends : (v : ℕ) (e : LineEnd) → rest ≡ record { values = v ∷ []; end = e } → (after : List ℕ) → after ≡ set now count v
      → Reads l before (record { count = count + 1; end = e }) after
  ends v e f after g =
      let w : l ≡ record { values = r.seen ++ v ∷ []; end = e } = r.whole ∙ ap (λ (t : Numbers). record { values = r.seen ++ t.values; end = t.end }) f in
      record {
        count = one_counted v ∙ ap (λ (t : Numbers). length t.values) (sym w);
        end = ap (λ (t : Numbers). t.end) (sym w);
        numbers = one_stored v after g ∙ ap (λ (t : Numbers). over t.values before) (sym w);
      }

  -- a fault
  pub stops : (e : LineEnd) → rest ≡ record { values = []; end = e } → Reads l before (record { count = count; end = e }) now
  stops e f =
      let w : l ≡ record { values = r.seen ++ []; end = e } = r.whole ∙ ap (λ (t : Numbers). record { values = r.seen ++ t.values; end = t.end }) f in
      let u : l.values ≡ r.seen = ap (λ (t : Numbers). t.values) w ∙ append-nil r.seen in
      record {
        count = r.many ∙ ap length (sym u);
        end = ap (λ (t : Numbers). t.end) (sym w);
        numbers = r.stored ∙ ap (λ (vs : List ℕ). over vs before) (sym u);
      }
