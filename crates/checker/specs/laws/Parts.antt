-- Records of sixteen bytes each, one after another, and cut out of the bytes of all of them.
-- Assumes nothing.
use Rattle.std.specs.Prelude.{ℕ, zero, suc, ◌+◌, ◌-◌, ◌*◌, ◌≤◌, ◌≡◌, refl, List, [], ◌∷◌, ◌++◌, length, take, drop}
use Rattle.std.proofs.Common.{sym, ap, ap₂, ◌∙◌, append_assoc, arith, add-zero, zero-add, suc-add, length-append, length-drop, take_at, drop_at, drop-drop, length-take-le, take-take, take-add}
use Rattle.layout.specs.laws.BytesLaws.{drop_take}
use Rattle.checker.specs.Check.{part, record_part, parts_from}
use Rattle.checker.specs.laws.CheckLaws.{part_taken}

-- where record i begins among the bytes of all records
abbrev pub begin : ℕ → ℕ
begin i = 16 * i

-- the records one after another
unfoldable pub join : List (List ℕ) → List ℕ
join [] = []
join (p ∷ ps) = p ++ join ps

-- every record has sixteen bytes
abbrev pub Wide : List (List ℕ) → Type 0
Wide [] = Unit {0}
Wide (p ∷ ps) = (length p ≡ 16) × Wide ps

-- ---- records joined

pub join_append : (ps qs : List (List ℕ)) → join (ps ++ qs) ≡ join ps ++ join qs
unfolding join
join_append [] qs = refl
join_append (p ∷ ps) qs = ap (◌++◌ p) (join_append ps qs) ∙ sym (append_assoc p (join ps) (join qs))

pub join_length : (ps : List (List ℕ)) → Wide ps → length (join ps) ≡ 16 * length ps
unfolding join
join_length [] w = refl
join_length (p ∷ ps) w = omega (arith, length-append p (join ps), w.0, join_length ps w.1)

pub wide_append : (ps qs : List (List ℕ)) → Wide ps → Wide qs → Wide (ps ++ qs)
wide_append [] qs u v = v
wide_append (p ∷ ps) qs u v = (u.0, wide_append ps qs u.1 v)

-- ---- records cut out

pub parts_length : (s : List ℕ) (i m : ℕ) → length (parts_from s i m) ≡ m
unfolding parts_from
parts_length s i zero = refl
parts_length s i (suc m) = ap suc (parts_length s (i + 1) m)

pub parts_wide : (s : List ℕ) (i m : ℕ) → begin (i + m) ≤ length s → Wide (parts_from s i m)
unfolding parts_from
parts_wide s i zero l = tt
parts_wide s i (suc m) l = (
  ap length (part_taken s i) ∙ length-take-le 16 (drop (begin i) s) (omega (arith, length-drop (begin i) s)),
  parts_wide s (i + 1) m (omega arith),
)

pub parts_split : (s : List ℕ) (i j m : ℕ) → parts_from s i (j + m) ≡ parts_from s i j ++ parts_from s (i + j) m
unfolding parts_from
parts_split s i zero m = ap (parts_from s i) (zero-add m) ∙ ap (λ (k : ℕ). parts_from s k m) (sym (add-zero i))
parts_split s i (suc j) m =
    let e : i + 1 + j ≡ i + suc j = omega arith in
    ap (parts_from s i) (suc-add j m)
    ∙ ap (λ (l : List (List ℕ)). record_part s i ∷ l) (parts_split s (i + 1) j m ∙ ap (λ (k : ℕ). parts_from s (i + 1) j ++ parts_from s k m) e)

-- the bytes from record i on, for so many records
pub cut : (s : List ℕ) (i m : ℕ) → begin (i + m) ≤ length s → part s (begin i) (begin (i + m)) ≡ join (parts_from s i m)
unfolding parts_from join
cut s i zero l =
    let e : begin (i + 0) - begin i ≡ 0 = omega arith in
    ap (λ (k : ℕ). take k (drop (begin i) s)) e
cut s i (suc m) l =
    let e : begin (i + suc m) - begin i ≡ 16 + 16 * m = omega arith in
    let f : begin (i + 1 + m) - begin (i + 1) ≡ 16 * m = omega arith in
    let g : begin i + 16 ≡ begin (i + 1) = omega arith in
    let x = drop (begin i) s in
    ap (λ (k : ℕ). take k x) e
    ∙ take-add 16 (16 * m) x
    ∙ ap₂ (λ (a b : List ℕ). a ++ b) (sym (part_taken s i))
    (ap (take (16 * m)) (drop-drop 16 (begin i) s ∙ ap (λ (k : ℕ). drop k s) g) ∙ ap (λ (k : ℕ). take k (drop (begin (i + 1)) s)) (sym f) ∙ cut s (i + 1) m (omega arith))

-- ---- records joined and cut out again

-- those that stand one after another
pub joined : (ps : List (List ℕ)) (z : List ℕ) → Wide ps → parts_from (join ps ++ z) 0 (length ps) ≡ ps
unfolding parts_from join
joined ps z w = go [] ps 0 refl w
  where
    go : (x : List ℕ) (qs : List (List ℕ)) (i : ℕ) → length x ≡ begin i → Wide qs → parts_from (x ++ (join qs ++ z)) i (length qs) ≡ qs
    go x [] i l u = refl
    go x (q ∷ qs) i l u =
        let whole = x ++ (q ++ join qs ++ z) in
        let again : x ++ q ++ (join qs ++ z) ≡ whole = append_assoc x q (join qs ++ z) ∙ ap (◌++◌ x) (sym (append_assoc q (join qs) z)) in
        let here : record_part whole i ≡ q = part_taken whole i ∙ ap (take 16) (drop_at x (q ++ join qs ++ z) (begin i) l) ∙ ap (take 16) (append_assoc q (join qs) z) ∙ take_at q (join qs ++ z) 16 u.0 in
        let rest = go (x ++ q) qs (i + 1) (omega (arith, length-append x q, u.0)) u.1 in
        ap₂ (λ (a : List ℕ) (b : List (List ℕ)). a ∷ b) here (ap (λ (s : List ℕ). parts_from s (i + 1) (length qs)) (sym again) ∙ rest)

-- records of a sheet rest on no byte past them
pub parts_within : (s : List ℕ) (len i m : ℕ) → begin (i + m) ≤ len → parts_from (take len s) i m ≡ parts_from s i m
unfolding parts_from
parts_within s len i zero l = refl
parts_within s len i (suc m) l =
    ap₂ (λ (a : List ℕ) (b : List (List ℕ)). a ∷ b) (part_taken (take len s) i ∙ inside ∙ sym (part_taken s i)) (parts_within s len (i + 1) m (omega arith))
  where
    inside : take 16 (drop (begin i) (take len s)) ≡ take 16 (drop (begin i) s)
    inside =
        let e : begin i + (len - begin i) ≡ len = omega arith in
        ap (λ (k : ℕ). take 16 (drop (begin i) (take k s))) (sym e)
        ∙ ap (take 16) (drop_take (begin i) (len - begin i) s)
        ∙ take-take 16 (len - begin i) (drop (begin i) s) (omega arith)
