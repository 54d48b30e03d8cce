use Rattle.std.proofs.Common.{ℕ, zero, suc, ◌≡◌, ◌≢◌, refl, sym, Bool, true, false, cond, arith}
use borrow.Author.Tests.{ne_eqb}
use Rattle.wording.specs.declared.Mark.{Mark}
use Rattle.wording.specs.declared.Mark.TheVariants.{Number, Thickness, Modulus, Area}
use Rattle.wording.specs.Words.{byte_of, is_mark, piece_of}
use Rattle.wording.specs.laws.WritesLaws.{within, none}
use Rattle.wording.proofs.put_byte.Goals as goal

-- the byte of a mark is not the one that stands for none
some_byte : (m : Mark) → byte_of m ≢ 0
some_byte Number e = omega arith
some_byte Thickness e = omega arith
some_byte Modulus e = omega arith
some_byte Area e = omega arith

marked : (m : Mark) (b : ℕ) → byte_of m ≡ cond (is_mark b) b 0 → is_mark b ≡ true
marked m b = go (is_mark b)
  where
    go : (t : Bool) → byte_of m ≡ cond t b 0 → t ≡ true
    go true e = refl
    go false e = absurd (some_byte m e)

unmarked : (b : ℕ) → 0 ≡ cond (is_mark b) b 0 → is_mark b ≡ false
unmarked zero e = refl
unmarked (suc b) e = go (is_mark (suc b)) e
  where
    go : (t : Bool) → 0 ≡ cond t (suc b) 0 → t ≡ false
    go true e = absurd (omega arith)
    go false e = refl

pub returns-in-Some : goal.returns-in-Some
unfolding piece_of
returns-in-Some c = rw (c.in-Some.is, ne_eqb _ 0 (some_byte c.in-Some.mark), sym c.named.ensures) c.put_mark.ensures

pub returns-in-Some-mark_of : goal.returns-in-Some-mark_of
unfolding piece_of
returns-in-Some-mark_of c = rw (c.in_default.is, marked c.in-Some-mark_of.field-0 c.args.byte c.in-Some-mark_of.ensures) (within _ (omega arith) none)

pub returns-in-None : goal.returns-in-None
unfolding piece_of
returns-in-None c = rw (c.in_default.is, unmarked c.args.byte c.in-None.ensures) c.put_text.ensures
