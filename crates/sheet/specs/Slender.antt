-- Whether a hull is too slender for its waves: length over depth beyond the limit of Ch 2 Sec 2 [2.1.3]. The sheet of such a hull is turned away with 9.
use Rattle.std.specs.Prelude.{ℕ, ◌*◌, Bool, false, cond, ltb, eqb}
use Rattle.sheet.specs.declared.Header.{Header}
use Rattle.sheet.specs.declared.Own.{Own}
use Rattle.sheet.specs.declared.Own.TheVariants.{One, Two}

-- the greatest length of a hull, cm: 35 depths at a wave height H of 60, 25 at every other
abbrev pub longest_of : (depth H : ℕ) → ℕ
longest_of depth H = cond (eqb H 60) 35 25 * depth

-- the length L is above it; at wave height 0 nothing is tested
abbrev pub beyond_of : (L depth H : ℕ) → Bool
beyond_of L depth H = cond (eqb H 0) false (ltb (longest_of depth H) L)

-- the same by what a version has of its own: version 1 has no depth, and nothing is tested
abbrev pub beyond_own : (L H : ℕ) → Own → Bool
beyond_own L H One = false
beyond_own L H (Two s) = beyond_of L s.depth.0 H

-- the hull of a header is too slender
abbrev pub too_slender : Header → Bool
too_slender h = beyond_own h.length.0 h.wave.0 h.own
