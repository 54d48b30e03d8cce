-- A number in bytes times a limit and a value more, worked out from the last byte to the first: the bytes behind the place are done, and the carry is what
-- they make beyond themselves.
-- Assumes nothing.
use Prim.Native.Nat.{ℕ, zero, suc, ◌+◌, ◌-◌, ◌*◌, ◌/◌, ◌%◌, ◌≤◌, ◌<◌}
use mathlib.Core.Path.{◌≡◌, refl, sym, ap, ap₂, ◌∙◌}
use mathlib.Core.List.{List, [], ◌∷◌}
use native.Mathlib.Omega.{arith}
use native.Mathlib.Nat.{mul-le-mul, div-one, zero-mul, zero-add}
use lib.ListN.{length, get_or, take, drop, set, length-set, drop_of_length-le}
use lib.Seq.{drop-cons, set_split, take-set-le, take-take, drop_at, length-take-le}
use Rattle.layout.specs.Layout.{pack, unpack, bytes}
use Rattle.rows.specs.Pack.{appended}
use Rattle.rows.specs.laws.PackLaws.{beyond, turn_bytes, turn_carry}

-- a byte times a limit
pub product : (b l : ℕ) → b < 256 → l < 4294967296 → b * l ≤ 1095216660225
product b l h k =
    let low : b ≤ 255 = omega arith in
    let high : l ≤ 4294967295 = omega arith in
    mul-le-mul low high

-- so many bytes stand from the place on
abbrev low : List ℕ → (i : ℕ) → ℕ
low o i = pack (bytes (length o - i)) (drop i o)

pub record Carrying (o₀ : List ℕ) (l v : ℕ) (o : List ℕ) (carry i : ℕ) : Type 0 where
  pub inside : i ≤ length o₀
  pub same : length o ≡ length o₀
  pub front : take i o ≡ take i o₀
  pub done : drop i o ≡ unpack (bytes (length o₀ - i)) (low o₀ i * l + v)
  pub over : carry ≡ (low o₀ i * l + v) / beyond (length o₀ - i)
  pub small : carry < 8589934592

pub begin : (o : List ℕ) (l v : ℕ) → v < 4294967296 → Carrying o l v o v (length o)
begin o l v h =
    let z : length o - length o ≡ 0 = omega arith in
    let none : drop (length o) o ≡ [] = drop_of_length-le o {i = length o} (omega arith) in
    let n : low o (length o) ≡ 0 = ap (λ (k : ℕ). pack (bytes k) (drop (length o) o)) z in
    let w : v ≡ low o (length o) * l + v = sym (ap (λ (x : ℕ). x * l + v) n ∙ ap (λ (x : ℕ). x + v) (zero-mul l) ∙ zero-add v) in
    record {
      inside = omega arith;
      same = refl;
      front = refl;
      done = none ∙ sym (ap (λ (k : ℕ). unpack (bytes k) (low o (length o) * l + v)) z);
      over = w ∙ sym (ap (λ (k : ℕ). (low o (length o) * l + v) / beyond k) z ∙ div-one (low o (length o) * l + v));
      small = omega arith;
    }

module _ (o₀ : List ℕ) (l v : ℕ) (o : List ℕ) (carry i : ℕ) (c : Carrying o₀ l v o carry i) where
  -- the byte in front of the place is the one that was there
  byte_same : (j : ℕ) → suc j ≡ i → get_or o j 0 ≡ get_or o₀ j 0
  byte_same j e =
      sym (get_d_take (suc j) o j (omega arith)) ∙ ap (λ (k : ℕ). get_or (take k o) j 0) e ∙ ap (λ (t : List ℕ). get_or t j 0) c.front
      ∙ ap (λ (k : ℕ). get_or (take k o₀) j 0) (sym e) ∙ get_d_take (suc j) o₀ j (omega arith)
    where
      get_d_take : (n : ℕ) (xs : List ℕ) (k : ℕ) → k < n → get_or (take n xs) k 0 ≡ get_or xs k 0
      get_d_take zero xs k h = absurd (omega arith)
      get_d_take (suc n) [] k h = refl
      get_d_take (suc n) (x ∷ xs) zero h = refl
      get_d_take (suc n) (x ∷ xs) (suc k) h = get_d_take n xs k (omega arith)

  -- one byte more
  pub turn : (j t : ℕ) → suc j ≡ i → t ≡ get_or o j 0 * l + carry → get_or o j 0 < 256 → l < 4294967296 → Carrying o₀ l v (set o j (t % 256)) (t / 256) j
  turn j t e f h m =
      let k = length o₀ - i in
      let b = get_or o₀ j 0 in
      let n = low o₀ i in
      let sj : j < length o₀ = omega (arith, c.inside) in
      let more : length o₀ - j ≡ suc k = omega (arith, c.inside) in
      let cut : drop j o₀ ≡ b ∷ drop i o₀ = drop-cons o₀ j 0 sj ∙ ap (λ (x : ℕ). b ∷ drop x o₀) e in
      let number : low o₀ j ≡ b * beyond k + n = ap₂ (λ (x : ℕ) (y : List ℕ). pack (bytes x) y) more cut in
      let is : t ≡ b * l + (n * l + v) / beyond k = f ∙ ap₂ (λ (x y : ℕ). x * l + y) (byte_same j e) c.over in
      let made : low o₀ j * l + v ≡ (b * beyond k + n) * l + v = ap (λ (x : ℕ). x * l + v) number in
      let sets : drop j (set o j (t % 256)) ≡ t % 256 ∷ drop i o =
      ap (drop j) (set_split o j (t % 256) (omega (arith, c.same))) ∙ drop_at (take j o) (t % 256 ∷ drop (suc j) o) j (length-take-le j o (omega (arith, c.same))) ∙ ap (λ (x : ℕ). t % 256 ∷ drop x o) e in
      record {
        inside = omega arith;
        same = length-set o j (t % 256) ∙ c.same;
        front = take-set-le j o j (t % 256) (omega arith) ∙ front_less j e;
        done = sets ∙ ap₂ {C = List ℕ} (λ x xs. x % 256 ∷ xs) is c.done ∙ sym (turn_bytes k b n l v) ∙ ap₂ (λ (x y : ℕ). unpack (bytes x) y) (sym more) (sym made);
        over = ap (λ (x : ℕ). x / 256) is ∙ sym (turn_carry k b n l v) ∙ ap₂ (λ (x y : ℕ). y / beyond x) (sym more) (sym made);
        small = omega (arith, product (get_or o j 0) l h m, c.small);
      }
    where
      take_less : (a d : ℕ) (xs ys : List ℕ) → a ≤ d → take d xs ≡ take d ys → take a xs ≡ take a ys
      take_less a d xs ys h q = sym (take-take a d xs h) ∙ ap (take a) q ∙ take-take a d ys h

      front_less : (a : ℕ) → suc a ≡ i → take a o ≡ take a o₀
      front_less a q = take_less a i o o₀ (omega arith) c.front

  -- all are done
  pub finish : i ≤ 0 → o ≡ appended l v o₀
  unfolding appended
  finish h =
      let z : i ≡ 0 = omega arith in
      let all : length o₀ - i ≡ length o₀ = omega arith in
      ap (λ (k : ℕ). drop k o) (sym z) ∙ c.done ∙ ap₂ (λ (k j : ℕ). unpack (bytes k) (pack (bytes k) (drop j o₀) * l + v)) all z
