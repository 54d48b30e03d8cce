-- The first fault of a header's and of a record's numbers, from what they are held as; and where there is none, they are held as they are.
-- Assumes nothing.
use Prim.Native.Nat.{ℕ, ◌+◌, ◌≤◌}
use mathlib.Core.Path.{◌≡◌, refl, sym, ap, ap₂, ◌∙◌}
use mathlib.Core.Bool.{Bool, true, false, cond, ◌&&◌}
use mathlib.Core.List.{List, [], ◌∷◌, ◌++◌}
use native.Mathlib.Omega.{arith}
use lib.ListN.{get_or}
use lib.Dec.{eqb, lit≤, leb-zero}
use borrow.Author.Tests.{eq-eqb, ne_eqb, eqb-true, eqb-false}
use Rattle.quantity.specs.Range.{Range, within, from, span, spacing, thickness, modulus, shear_area, steel_factor}
use Rattle.quantity.specs.laws.Laws.{one_value}
use Rattle.layout.specs.Line.{Line, zeros, Allowed, fault_from}
use Rattle.layout.specs.laws.LineLaws.{none_all}
use Rattle.sheet.specs.declared.Header.{Header}
use Rattle.sheet.specs.declared.Own.{Own}
use Rattle.sheet.specs.declared.Own.TheVariants.{One, Two}
use Rattle.sheet.specs.declared.Record.{Record}
use Rattle.sheet.specs.declared.Body.TheVariants.{Plate as isPlate, Member as isMember}
use Rattle.sheet.specs.Kinds.{is_long, is_bottom, is_floor, is_deep}
use Rattle.sheet.specs.Versions.{Version, depths, one, two, version_of}
use Rattle.sheet.specs.Lines.{either, none, rule_length, counts, ids, plate_spacing, sides, header_lines, plate_lines, member_lines, waves}
use Rattle.sheet.specs.Header.{own_values, raw_fault, header_fault}
use Rattle.sheet.specs.Record.{plate_values, member_values, plate_record, member_record, plate_lines_of, member_lines_of, plate_fault, member_fault, body_fault, record_fault}
use Rattle.sheet.specs.laws.HeaderLaws.{flag_within}
use Rattle.numbers.specs.Held.{held, held_in, first_of, header_held, header_apart, plate_held, plate_apart, member_held, member_apart, record_held, record_apart}
use Rattle.numbers.specs.From.{numbers_from, header_of_numbers, fields_as, in_second, header_numbers_fault, plate_fields, record_of_numbers, record_numbers_fault, plate_numbered}
use Rattle.numbers.proofs.First.{okays, Agree, agree_fault}
use Rattle.numbers.proofs.Kept.{lies_in, keeps, around, held_allows, held_in_lem, held_alone}

and_true : (b : Bool) → b ≡ (b && true)
and_true true = refl
and_true false = refl

-- a flag's number is tested by itself: what it is held as is always allowed
flag_alone : (x : ℕ) → within (from 0 1) x ≡ (within (from 0 1) x && within (from 0 1) (cond (eqb x 1) 1 0))
flag_alone x = rw (flag_within (eqb x 1)) (and_true (within (from 0 1) x))

-- one test and then another is both
both_tests : {A : Type 0} (a b : Bool) (x y : A) → cond (a && b) x y ≡ cond a (cond b x y) y
both_tests true b x y = refl
both_tests false b x y = refl

-- two numbers are 0 exactly when their sum is
zero_sum : (a b : ℕ) → within none (a + b) ≡ ((within none a && within none b) && true)
zero_sum a b = one_value 0 (a + b) ∙ go (eqb a 0) refl (eqb b 0) refl ∙ sym (ap₂ (λ (s t : Bool). (s && t) && true) (one_value 0 a) (one_value 0 b))
  where
    go : (s : Bool) → eqb a 0 ≡ s → (t : Bool) → eqb b 0 ≡ t → eqb (a + b) 0 ≡ ((s && t) && true)
    go true p true q = eq-eqb (a + b) 0 (omega (arith, eqb-true a 0 p, eqb-true b 0 q))
    go true p false q = let m = eqb-false b 0 q in ne_eqb (a + b) 0 (λ z. m (omega arith))
    go false p t q = let m = eqb-false a 0 p in ne_eqb (a + b) 0 (λ z. m (omega arith))

-- ---- a header

module _ (ns : List ℕ) where
  abbrev n : ℕ → ℕ
  n i = get_or ns i 0

  -- the fields that every version has, as they are held
  abbrev held_first : List ℕ
  held_first = held 255 (n 0) ∷ held_in span 65535 (n 1) ∷ held_in span 65535 (n 2) ∷ held_in span 65535 (n 3) ∷ cond (eqb (n 4) 1) 1 0 ∷ n 5 ∷ n 6 ∷ held 65535 (n 7) ∷ []

  abbrev first_tests : List Bool
  first_tests = true ∷ true ∷ true ∷ true ∷ within (from 0 1) (n 4) ∷ true ∷ true ∷ true ∷ []

  -- in any version, with what stands after them
  agree_first : (v : Version) → keeps 255 (from 0 255) (from v.number v.number ∷ []) ≡ true → keeps 65535 (from 0 65535) (counts v ∷ []) ≡ true
      → (xs ys : List ℕ) (ts : List Bool) → Agree (okays (zeros 3 ∷ v.lines) xs) ts (okays (zeros 3 ∷ v.lines) ys)
      → Agree (okays (header_lines v) (numbers_from 0 8 ns ++ xs)) (first_tests ++ ts) (okays (header_lines v) (held_first ++ ys))
  agree_first v kv kc xs ys ts rest = (
    held_allows 255 (from 0 255) (from v.number v.number ∷ []) (n 0) kv,
    λ t₁. (
      held_allows 65535 span (rule_length ∷ []) (n 1) refl,
      λ t₂. (
        held_allows 65535 span (from 1 1000 ∷ []) (n 2) refl,
        λ t₃. (
          held_allows 65535 span waves (n 3) refl,
          λ t₄. (
            flag_alone (n 4),
            λ t₅. (
              refl,
              λ t₆. (
                refl,
                λ t₇.
                    (held_allows 65535 (from 0 65535) (counts v ∷ []) (n 7) kc, λ t₈. rest),
              ),
            ),
          ),
        ),
      ),
    ),
  )

  -- what is held of the version's own, in version 2 and else
  abbrev own_as : Bool → Own
  own_as t = cond t (Two (record { inner_modulus = n 8; depth = record { 0 = held_in span 65535 (n 9) } })) One

  pub header_numbers_fault_lem : header_numbers_fault ns ≡ first_of (header_fault (header_held ns)) (header_apart ns)
  unfolding header_numbers_fault raw_fault
  header_numbers_fault_lem = go (in_second ns)
    where
      runs : Bool
      runs = within (from 0 1) (n 4)

      past : ℕ
      past = cond (within none (n 8)) (cond (within none (n 9)) 0 9) 9

      go : (t : Bool)
          → fault_from 1 (header_lines (cond t two one)) (fields_as t ns)
          ≡ first_of (fault_from 1 (header_lines (version_of (own_as t))) (held_first ++ (0 ∷ own_values (own_as t) 0))) (cond t (cond runs 0 5) (cond runs past 5))
      go true =
          agree_fault 0 (okays (header_lines two) (fields_as true ns)) (first_tests ++ (true ∷ true ∷ true ∷ true ∷ []))
          (okays (header_lines two) (held_first ++ (0 ∷ n 8 ∷ held_in span 65535 (n 9) ∷ 0 ∷ [])))
          (agree_first two refl refl (0 ∷ n 8 ∷ n 9 ∷ 0 ∷ []) (0 ∷ n 8 ∷ held_in span 65535 (n 9) ∷ 0 ∷ []) (true ∷ true ∷ true ∷ true ∷ [])
          (refl, λ t₉. (refl, λ t₁₀. (held_allows 65535 span (depths ∷ []) (n 9) refl, λ t₁₁. (refl, λ t₁₂. tt)))))
      go false =
          agree_fault 0 (okays (header_lines one) (fields_as false ns)) (first_tests ++ ((within none (n 8) && within none (n 9)) ∷ [])) (okays (header_lines one) (held_first ++ (0 ∷ [])))
          (agree_first one refl refl ((n 8 + n 9) ∷ []) (0 ∷ []) ((within none (n 8) && within none (n 9)) ∷ []) (zero_sum (n 8) (n 9), λ t₉. tt))
          ∙ ap (λ (x : ℕ). first_of (fault_from 1 (header_lines one) (held_first ++ (0 ∷ []))) (cond runs x 5)) (both_tests (within none (n 8)) (within none (n 9)) 0 9)

  pub header_held_same : header_numbers_fault ns ≡ 0 → header_held ns ≡ header_of_numbers ns
  unfolding header_numbers_fault
  header_held_same = go (in_second ns)
    where
      headed : (List ℕ → Own → Header)
      headed vs o =
          record {
            version = get_or vs 0 0;
            length = record { 0 = get_or vs 1 0 };
            draught = record { 0 = get_or vs 2 0 };
            wave = record { 0 = get_or vs 3 0 };
            two_runs = eqb (n 4) 1;
            moment = n 5;
            bottom_modulus = n 6;
            count = get_or vs 7 0;
            own = o;
          }

      -- the fields that every version has
      first : (v : Version) → keeps 255 (from 0 255) (from v.number v.number ∷ []) ≡ true → keeps 65535 (from 0 65535) (counts v ∷ []) ≡ true
          → (xs : List ℕ) → Allowed (header_lines v) (numbers_from 0 8 ns ++ xs) → (o : Own) → headed held_first o ≡ headed (numbers_from 0 8 ns) o
      first v kv kc xs a o =
          rw (
            held_in_lem 255 (from 0 255) (from v.number v.number ∷ []) (n 0) kv a.0,
            held_in_lem 65535 span (rule_length ∷ []) (n 1) refl a.1.0,
            held_in_lem 65535 span (from 1 1000 ∷ []) (n 2) refl a.1.1.0,
            held_in_lem 65535 span waves (n 3) refl a.1.1.1.0,
            held_in_lem 65535 (from 0 65535) (counts v ∷ []) (n 7) kc a.1.1.1.1.1.1.1.0,
          )

      go : (t : Bool) → fault_from 1 (header_lines (cond t two one)) (fields_as t ns) ≡ 0
          → headed held_first (own_as t) ≡ headed (numbers_from 0 8 ns) (cond t (Two (record { inner_modulus = n 8; depth = record { 0 = n 9 } })) One)
      go true e =
          let a : Allowed (header_lines two) (fields_as true ns) = none_all 0 (header_lines two) (fields_as true ns) e in
          first two refl refl (0 ∷ n 8 ∷ n 9 ∷ 0 ∷ []) a (own_as true)
          ∙ rw (held_in_lem 65535 span (depths ∷ []) (n 9) refl a.1.1.1.1.1.1.1.1.1.1.0)
      go false e = first one refl refl ((n 8 + n 9) ∷ []) (none_all 0 (header_lines one) (fields_as false ns) e) One

  pub header_apart_past : (header_apart ns ≡ 0 → ⊥) → 2 ≤ header_apart ns
  header_apart_past = go (in_second ns) (within (from 0 1) (n 4)) (within none (n 8)) (within none (n 9))
    where
      go : (t b c d : Bool) → (◌≡◌ {A = ℕ} (cond t (cond b 0 5) (cond b (cond c (cond d 0 9) 9) 5)) 0 → ⊥) → 2 ≤ cond t (cond b 0 5) (cond b (cond c (cond d 0 9) 9) 5)
      go true true c d h = absurd (h refl)
      go true false c d h = lit≤ tt
      go false true true true h = absurd (h refl)
      go false true true false h = lit≤ tt
      go false true false d h = lit≤ tt
      go false false c d h = lit≤ tt

-- ---- a plate

-- a line by a test is kept, where it is in either case
by_test : (t : Bool) (top : ℕ) (q r s : Range) → keeps top q (r ∷ []) ≡ true → keeps top q (s ∷ []) ≡ true → keeps top q (either t r s ∷ []) ≡ true
by_test true top q r s p p' = p
by_test false top q r s p p' = p'

-- and so is that of the tank top, from any height on
tank_kept : (t : Bool) (z : ℕ) → keeps 65535 span (either t (from z 1200) none ∷ []) ≡ true
tank_kept t z = by_test t 65535 span (from z 1200) none (rw (leb-zero z)) refl

module _ (ns : List ℕ) where
  abbrev m : ℕ → ℕ
  m i = get_or ns i 0

  abbrev kind : ℕ
  kind = held 255 (m 0)

  abbrev plate_tests : List Bool
  plate_tests =
      true ∷ true ∷ true ∷ true ∷ true ∷ true ∷ true ∷ true ∷ within (from 0 1) (m 8) ∷ true ∷ true ∷ (within none (m 11) && within none (m 12)) ∷ []

  abbrev held_plate_lines : List Line
  held_plate_lines = plate_lines kind (eqb (m 8) 1) (held_in span 65535 (m 3))

  abbrev held_plate_values : List ℕ
  held_plate_values = plate_values kind (held 65535 (m 1)) (plate_held ns) 0

  kind_held : within (from 1 4) (m 0) ≡ true → m 0 ≡ kind
  kind_held t = sym (held_in_lem 255 (from 0 255) (from 1 4 ∷ []) (m 0) refl t)

  -- b1 and b2
  breadth : (x : ℕ) → within (from 1 4) (m 0) ≡ true → within (either (is_long (m 0)) none sides) x ≡ within (either (is_long kind) none sides) (held_in span 65535 x)
  breadth x t =
      held_allows 65535 span (either (is_long (m 0)) none sides ∷ []) x (by_test (is_long (m 0)) 65535 span none sides refl refl)
      ∙ ap (λ (k : ℕ). within (either (is_long k) none sides) (held_in span 65535 x)) (kind_held t)

  plate_agree : Agree (okays (plate_lines_of ns) (plate_fields ns)) plate_tests (okays held_plate_lines held_plate_values)
  plate_agree = (
    held_allows 255 (from 0 255) (from 1 4 ∷ []) (m 0) refl,
    λ t₁. (
      held_allows 65535 (from 0 65535) (ids ∷ []) (m 1) refl,
      λ t₂. (
        held_allows 65535 steel_factor (steel_factor ∷ []) (m 2) refl,
        λ t₃. (
          held_allows 65535 span (from 0 1000 ∷ []) (m 3) refl,
          λ t₄. (
            held_allows 65535 spacing (plate_spacing ∷ []) (m 4) refl,
            λ t₅. (
              held_allows 65535 thickness (thickness ∷ []) (m 5) refl,
              λ t₆. (
                breadth (m 6) t₁,
                λ t₇. (
                  breadth (m 7) t₁,
                  λ t₈. (
                    flag_alone (m 8),
                    λ t₉. (
                      held_allows 65535 span (either (eqb (m 8) 1) (from (m 3) 1200) none ∷ []) (m 9) (tank_kept (eqb (m 8) 1) (m 3))
                          ∙ ap (λ (z : ℕ). within (either (eqb (m 8) 1) (from z 1200) none) (held_in span 65535 (m 9))) (sym (held_in_lem 65535 span (from 0 1000 ∷ []) (m 3) refl t₄)),
                      λ t₁₀. (
                        ap (λ (k : ℕ). within (from 0 (cond (is_bottom k) 0 200000)) (m 10)) (kind_held t₁),
                        λ t₁₁.
                            (zero_sum (m 11) (m 12), λ t₁₂. tt),
                      ),
                    ),
                  ),
                ),
              ),
            ),
          ),
        ),
      ),
    ),
  )

  plate_numbers_fault : fault_from 1 (plate_lines_of ns) (plate_fields ns) ≡ first_of (plate_fault kind (held 65535 (m 1)) (plate_held ns) 0) (plate_apart ns)
  unfolding plate_fault
  plate_numbers_fault =
      agree_fault 0 (okays (plate_lines_of ns) (plate_fields ns)) plate_tests (okays held_plate_lines held_plate_values) plate_agree
      ∙ ap (λ (x : ℕ). first_of (fault_from 1 held_plate_lines held_plate_values) (cond (within (from 0 1) (m 8)) x 9)) (both_tests (within none (m 11)) (within none (m 12)) 0 12)

  plate_held_same : fault_from 1 (plate_lines_of ns) (plate_fields ns) ≡ 0
      → ◌≡◌ {A = Record} (record { kind = kind; id = held 65535 (m 1); body = isPlate (plate_held ns) }) (plate_record ns)
  plate_held_same e =
      let a : Allowed (plate_lines_of ns) (plate_fields ns) = none_all 0 (plate_lines_of ns) (plate_fields ns) e in
      let b = a.1.1.1.1.1.1 in
      let breadths = either (is_long (m 0)) none sides ∷ [] in
      let kept = by_test (is_long (m 0)) 65535 span none sides refl refl in
      rw (
        held_in_lem 255 (from 0 255) (from 1 4 ∷ []) (m 0) refl a.0,
        held_in_lem 65535 (from 0 65535) (ids ∷ []) (m 1) refl a.1.0,
        held_in_lem 65535 steel_factor (steel_factor ∷ []) (m 2) refl a.1.1.0,
        held_in_lem 65535 span (from 0 1000 ∷ []) (m 3) refl a.1.1.1.0,
        held_in_lem 65535 spacing (plate_spacing ∷ []) (m 4) refl a.1.1.1.1.0,
        held_in_lem 65535 thickness (thickness ∷ []) (m 5) refl a.1.1.1.1.1.0,
        held_in_lem 65535 span breadths (m 6) kept b.0,
        held_in_lem 65535 span breadths (m 7) kept b.1.0,
        held_in_lem 65535 span (either (eqb (m 8) 1) (from (m 3) 1200) none ∷ []) (m 9) (tank_kept (eqb (m 8) 1) (m 3)) b.1.1.1.0,
      )

  -- ---- a member

  abbrev member_tests : List Bool
  member_tests = true ∷ true ∷ true ∷ true ∷ true ∷ true ∷ true ∷ true ∷ true ∷ within (from 0 255) (m 9) ∷ true ∷ true ∷ true ∷ []

  abbrev held_member_values : List ℕ
  held_member_values = member_values kind (held 65535 (m 1)) (member_held ns)

  member_kind : within (from 5 8) (m 0) ≡ true → m 0 ≡ kind
  member_kind t = sym (held_in_lem 255 (from 0 255) (from 5 8 ∷ []) (m 0) refl t)

  -- σ1 is tested by itself: what more than 255 is held as is allowed
  stress_in : (t : Bool) → lies_in (from 0 255) (from 0 (cond t 0 255)) ≡ true
  stress_in true = refl
  stress_in false = refl

  deep_kept : (t : Bool) → keeps 65535 span (from 0 (cond t 0 1000) ∷ []) ≡ true
  deep_kept true = refl
  deep_kept false = refl

  member_agree : Agree (okays (member_lines_of ns) (numbers_from 0 13 ns)) member_tests (okays (member_lines kind) held_member_values)
  member_agree = (
    held_allows 255 (from 0 255) (from 5 8 ∷ []) (m 0) refl,
    λ t₁. (
      held_allows 65535 (from 0 65535) (ids ∷ []) (m 1) refl,
      λ t₂. (
        held_allows 65535 span (from 0 (cond (is_deep (m 0)) 0 1000) ∷ []) (m 2) (deep_kept (is_deep (m 0)))
            ∙ ap (λ (k : ℕ). within (from 0 (cond (is_deep k) 0 1000)) (held_in span 65535 (m 2))) (member_kind t₁),
        λ t₃. (
          held_allows 65535 spacing (spacing ∷ []) (m 3) refl,
          λ t₄. (
            held_allows 65535 span (sides ∷ []) (m 4) refl,
            λ t₅. (
              held_allows 65535 thickness (thickness ∷ []) (m 5) refl,
              λ t₆. (
                held_allows 255 (from 0 255) (from 1 100 ∷ []) (m 6) refl,
                λ t₇. (
                  held_allows 255 (from 0 255) (from 1 100 ∷ []) (m 7) refl,
                  λ t₈. (
                    held_allows 255 (from 0 255) (either (is_floor (m 0)) (from 100 100) (from 1 100) ∷ []) (m 8) (by_test (is_floor (m 0)) 255 (from 0 255) (from 100 100) (from 1 100) refl refl)
                        ∙ ap (λ (k : ℕ). within (either (is_floor k) (from 100 100) (from 1 100)) (held 255 (m 8))) (member_kind t₁),
                    λ t₉. (
                      held_alone 255 (from 0 255) (from 0 (cond (is_floor (m 0)) 0 255)) (m 9) (stress_in (is_floor (m 0)))
                          ∙ ap (λ (k : ℕ). within (from 0 255) (m 9) && within (from 0 (cond (is_floor k) 0 255)) (held 255 (m 9))) (member_kind t₁),
                      λ t₁₀. (
                        held_allows 4294967295 modulus (modulus ∷ []) (m 10) refl,
                        λ t₁₁. (
                          held_allows 65535 shear_area (shear_area ∷ []) (m 11) refl,
                          λ t₁₂.
                              (held_allows 65535 steel_factor (steel_factor ∷ []) (m 12) refl, λ t₁₃. tt),
                        ),
                      ),
                    ),
                  ),
                ),
              ),
            ),
          ),
        ),
      ),
    ),
  )

  member_numbers_fault : fault_from 1 (member_lines_of ns) (numbers_from 0 13 ns) ≡ first_of (member_fault kind (held 65535 (m 1)) (member_held ns)) (member_apart ns)
  unfolding member_fault
  member_numbers_fault = agree_fault 0 (okays (member_lines_of ns) (numbers_from 0 13 ns)) member_tests (okays (member_lines kind) held_member_values) member_agree

  member_held_same : fault_from 1 (member_lines_of ns) (numbers_from 0 13 ns) ≡ 0
      → ◌≡◌ {A = Record} (record { kind = kind; id = held 65535 (m 1); body = isMember (member_held ns) }) (member_record ns)
  member_held_same e =
      let a : Allowed (member_lines_of ns) (numbers_from 0 13 ns) = none_all 0 (member_lines_of ns) (numbers_from 0 13 ns) e in
      let b = a.1.1.1.1.1.1 in
      rw (
        held_in_lem 255 (from 0 255) (from 5 8 ∷ []) (m 0) refl a.0,
        held_in_lem 65535 (from 0 65535) (ids ∷ []) (m 1) refl a.1.0,
        held_in_lem 65535 span (from 0 (cond (is_deep (m 0)) 0 1000) ∷ []) (m 2) (deep_kept (is_deep (m 0))) a.1.1.0,
        held_in_lem 65535 spacing (spacing ∷ []) (m 3) refl a.1.1.1.0,
        held_in_lem 65535 span (sides ∷ []) (m 4) refl a.1.1.1.1.0,
        held_in_lem 65535 thickness (thickness ∷ []) (m 5) refl a.1.1.1.1.1.0,
        held_in_lem 255 (from 0 255) (from 1 100 ∷ []) (m 6) refl b.0,
        held_in_lem 255 (from 0 255) (from 1 100 ∷ []) (m 7) refl b.1.0,
        held_in_lem 255 (from 0 255) (either (is_floor (m 0)) (from 100 100) (from 1 100) ∷ []) (m 8) (by_test (is_floor (m 0)) 255 (from 0 255) (from 100 100) (from 1 100) refl refl) b.1.1.0,
        around (from 0 255) (from 0 (cond (is_floor (m 0)) 0 255)) (m 9) (stress_in (is_floor (m 0))) b.1.1.1.0,
        held_in_lem 4294967295 modulus (modulus ∷ []) (m 10) refl b.1.1.1.1.0,
        held_in_lem 65535 shear_area (shear_area ∷ []) (m 11) refl b.1.1.1.1.1.0,
        held_in_lem 65535 steel_factor (steel_factor ∷ []) (m 12) refl b.1.1.1.1.1.1.0,
      )

  -- ---- a record

  pub record_numbers_fault_lem : record_numbers_fault ns ≡ first_of (record_fault (record_held ns) 0) (record_apart ns)
  unfolding record_numbers_fault
  record_numbers_fault_lem = go (plate_numbered ns)
    where
      go : (t : Bool) → cond t (fault_from 1 (plate_lines_of ns) (plate_fields ns)) (fault_from 1 (member_lines_of ns) (numbers_from 0 13 ns))
          ≡ first_of (body_fault kind (held 65535 (m 1)) (cond t (isPlate (plate_held ns)) (isMember (member_held ns))) 0) (cond t (plate_apart ns) (member_apart ns))
      go true = plate_numbers_fault
      go false = member_numbers_fault

  pub record_held_same : record_numbers_fault ns ≡ 0 → record_held ns ≡ record_of_numbers ns
  unfolding record_numbers_fault
  record_held_same = go (plate_numbered ns)
    where
      go : (t : Bool) → cond t (fault_from 1 (plate_lines_of ns) (plate_fields ns)) (fault_from 1 (member_lines_of ns) (numbers_from 0 13 ns)) ≡ 0
          → ◌≡◌ {A = Record} (record { kind = kind; id = held 65535 (m 1); body = cond t (isPlate (plate_held ns)) (isMember (member_held ns)) }) (cond t (plate_record ns) (member_record ns))
      go true e = plate_held_same e
      go false e = member_held_same e

  pub record_apart_past : (record_apart ns ≡ 0 → ⊥) → 2 ≤ record_apart ns
  record_apart_past = go (plate_numbered ns) (within (from 0 1) (m 8)) (within none (m 11)) (within none (m 12)) (within (from 0 255) (m 9))
    where
      go : (t b c d s : Bool) → (◌≡◌ {A = ℕ} (cond t (cond b (cond c (cond d 0 12) 12) 9) (cond s 0 10)) 0 → ⊥) → 2 ≤ cond t (cond b (cond c (cond d 0 12) 12) 9) (cond s 0 10)
      go true true true true s h = absurd (h refl)
      go true true true false s h = lit≤ tt
      go true true false d s h = lit≤ tt
      go true false c d s h = lit≤ tt
      go false b c d true h = absurd (h refl)
      go false b c d false h = lit≤ tt
