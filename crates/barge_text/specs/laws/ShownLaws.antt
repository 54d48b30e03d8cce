-- A line that is shown, byte by byte: how long it is, and that all of it prints.
-- Assumes nothing.
use Rattle.std.specs.Prelude.{ℕ, suc, ◌+◌, ◌*◌, ◌/◌, ◌%◌, ◌≤◌, ◌<◌, ◌≡◌, refl, Bool, true, false, cond, List, [], ◌∷◌, ◌++◌, length, get_or, take, drop}
use Rattle.std.proofs.Common.{sym, ap, ◌∙◌, append_assoc, append-nil, arith, add-one, length-append, drop_of_length-le, take-suc, drop-cons, lt-ltb, le-ltb}
use Rattle.std.proofs.Math.Decide.{dec_lt}
use Rattle.barge_text.specs.Shown.{ends_here, line_of, is_printed, hex_digit, shown_byte, shown}

-- ---- the line

-- what stands from a place on
pub here : (s : List ℕ) (i : ℕ) → i < length s → drop i s ≡ get_or s i 0 ∷ drop (i + 1) s
here s i l = rw (add-one, drop-cons s i 0)

line_none : (s : List ℕ) → ends_here s ≡ true → line_of s ≡ []
unfolding line_of
line_none [] e = refl
line_none (b ∷ s) e = rw e

line_more : (b : ℕ) (s : List ℕ) → ends_here (b ∷ s) ≡ false → line_of (b ∷ s) ≡ b ∷ line_of s
unfolding line_of
line_more b s e = rw e

-- it ends at i
pub line_ends : (s : List ℕ) (i : ℕ) → take i s ++ line_of (drop i s) ≡ line_of s → ends_here (drop i s) ≡ true → take i s ≡ line_of s
line_ends s i e f = sym (append-nil (take i s)) ∙ ap (λ (t : List ℕ). take i s ++ t) (sym (line_none (drop i s) f)) ∙ e

-- or with the text
pub line_all : (s : List ℕ) (i : ℕ) → take i s ++ line_of (drop i s) ≡ line_of s → length s ≤ i → take i s ≡ line_of s
unfolding line_of
line_all s i e l = sym (append-nil (take i s)) ∙ ap (λ (t : List ℕ). take i s ++ line_of t) (sym (drop_of_length-le s {i = i} l)) ∙ e

-- or goes on
pub line_goes_on : (s : List ℕ) (i : ℕ) → take i s ++ line_of (drop i s) ≡ line_of s → i < length s → ends_here (drop i s) ≡ false → take (i + 1) s ++ line_of (drop (i + 1) s) ≡ line_of s
line_goes_on s i e l f =
    let b = get_or s i 0 in
    let rest = drop (i + 1) s in
    let one : take (i + 1) s ≡ take i s ++ (b ∷ []) = rw (add-one, take-suc s i 0) in
    ap (λ (t : List ℕ). t ++ line_of rest) one
    ∙ append_assoc (take i s) (b ∷ []) (line_of rest)
    ∙ ap (λ (t : List ℕ). take i s ++ t) (sym (line_more b rest (sym (ap ends_here (here s i l)) ∙ f)) ∙ ap line_of (sym (here s i l)))
    ∙ e

-- ---- its bytes

byte_most : (b : ℕ) → length (shown_byte b) ≤ 4
unfolding shown_byte
byte_most b = go (is_printed b) (hex_digit (b / 16)) (hex_digit (b % 16))
  where
    go : (t : Bool) (x y : ℕ) → length (cond t (b ∷ []) (92 ∷ 120 ∷ x ∷ y ∷ [])) ≤ 4
    go true x y = omega arith
    go false x y = omega arith

-- four bytes at most for each
pub shown_most : (s : List ℕ) → length (shown s) ≤ 4 * length s
unfolding shown
shown_most [] = omega arith
shown_most (b ∷ s) = omega (arith, length-append (shown_byte b) (shown s), byte_most b, shown_most s)

shown_append : (a b : List ℕ) → shown (a ++ b) ≡ shown a ++ shown b
unfolding shown
shown_append [] b = refl
shown_append (x ∷ a) b = ap (λ (t : List ℕ). shown_byte x ++ t) (shown_append a b) ∙ sym (append_assoc (shown_byte x) (shown a) (shown b))

-- one byte more
pub shown_next : (s : List ℕ) (i : ℕ) → i < length s → shown (take (i + 1) s) ≡ shown (take i s) ++ shown_byte (get_or s i 0)
unfolding shown
shown_next s i l =
    let one : take (i + 1) s ≡ take i s ++ (get_or s i 0 ∷ []) = rw (add-one, take-suc s i 0) in
    ap shown one ∙ shown_append (take i s) (get_or s i 0 ∷ []) ∙ ap (λ (t : List ℕ). shown (take i s) ++ t) (append-nil (shown_byte (get_or s i 0)))

-- ---- only bytes that print reach a terminal

pub data Printed : List ℕ → Type 0 where
  none : Printed []
  more : {b : ℕ} {s : List ℕ} → is_printed b ≡ true → Printed s → Printed (b ∷ s)

printed_append : {a b : List ℕ} → Printed a → Printed b → Printed (a ++ b)
printed_append none q = q
printed_append (more e p) q = more e (printed_append p q)

within : (b : ℕ) → 32 ≤ b → b < 127 → is_printed b ≡ true
within b l h = rw (le-ltb b 32 l) (lt-ltb b 127 h)

digit_printed : (n : ℕ) → n < 16 → is_printed (hex_digit n) ≡ true
digit_printed n h = go (dec_lt n 10)
  where
    go : Dec (n < 10) → is_printed (hex_digit n) ≡ true
    go (yes l) =
        let d : hex_digit n ≡ 48 + n = rw (lt-ltb n 10 l) in
        ap is_printed d ∙ within (48 + n) (omega arith) (omega arith)
    go (no l) =
        let d : hex_digit n ≡ 55 + n = rw (le-ltb n 10 (omega arith)) in
        ap is_printed d ∙ within (55 + n) (omega arith) (omega arith)

byte_printed : (b : ℕ) → b < 256 → Printed (shown_byte b)
unfolding shown_byte
byte_printed b h = go (is_printed b) refl
  where
    go : (t : Bool) → is_printed b ≡ t → Printed (cond t (b ∷ []) (92 ∷ 120 ∷ hex_digit (b / 16) ∷ hex_digit (b % 16) ∷ []))
    go true e = more e none
    go false e = more refl (more refl (more (digit_printed (b / 16) (omega arith)) (more (digit_printed (b % 16) (omega arith)) none)))

pub shown_printed : (s : List ℕ) → ((i : ℕ) → get_or s i 0 < 256) → Printed (shown s)
unfolding shown
shown_printed [] bytes = none
shown_printed (b ∷ s) bytes = printed_append (byte_printed b (bytes 0)) (shown_printed s (λ i. bytes (suc i)))
