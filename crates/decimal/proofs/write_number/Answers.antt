use Rattle.std.proofs.Common.{ℕ, ◌≡◌, ◌+◌, ◌-◌, ◌≤◌, List, ◌++◌, length, take, drop, length-append, refl, sym, ap, ◌∙◌, arith}
use Rattle.decimal.specs.Decimal.{decimal_of}
use Rattle.decimal.specs.Put.{Puts}
use Rattle.decimal.specs.Laid.{Laid}
use Rattle.decimal.specs.laws.PutLaws.{put_all, put_none}
use Rattle.decimal.specs.laws.LaidLaws.{laid_length, laid_put, laid_both, laid_front}
use Rattle.decimal.proofs.write_number.Goals as goal

module _ (n : ℕ) (text out : List ℕ) (k : ℕ) (o : List ℕ) (w : k ≡ length (decimal_of n)) (fits : length (decimal_of n) + length text ≤ length out) (digits : o ≡ decimal_of n ++ drop k out) where
  -- the digits stand in front
  spelled : Laid out 0 (decimal_of n) k o
  spelled = record { place = omega arith; bytes = digits ∙ ap (λ (i : ℕ). decimal_of n ++ drop i out) w ∙ sym (laid_front out (decimal_of n)) }

  -- the text after them
  after_digits : (count : ℕ) (part : List ℕ) → Puts text (take (length o - k) (drop k o)) count part → Laid o k text (k + count) (take k o ++ (part ++ drop (length o - k) (drop k o)))
  after_digits count part p =
      let same = ap length spelled.bytes ∙ laid_length out 0 (decimal_of n) (omega arith) in
      laid_put o k text (omega arith) count part p

pub returns-then-out-count : goal.returns-then-out-count
returns-then-out-count c = put_none _ _ (omega (arith, length-append (decimal_of c.args.n) c.args.after.now, c.width-count.ensures))

pub returns-then-out-count-2 : goal.returns-then-out-count-2
returns-then-out-count-2 c = put_none _ _ (omega (arith, length-append (decimal_of c.args.n) c.args.after.now, c.width-count.ensures))

pub overflow_add-result : goal.overflow_add-result
overflow_add-result c =
    let a = c.args in
    let fits : length (decimal_of a.n) + length a.after.now ≤ length a.out.now = omega (arith, c.width-count.ensures) in
    let behind = after_digits a.n a.after.now a.out.now c.width-count.result c.spell.new.out c.width-count.ensures fits c.spell.ensures c.write_text.result c.write_text.new.out c.write_text.ensures in
    omega (arith, behind.place)

pub returns : goal.returns
returns c =
    let a = c.args in
    let w = c.width-count.ensures in
    let o = c.spell.new.out in
    let text = decimal_of a.n ++ a.after.now in
    let sized = length-append (decimal_of a.n) a.after.now in
    let both : length (decimal_of a.n) + length a.after.now ≤ length a.out.now = omega (arith, w) in
    let fits : length text ≤ length a.out.now = omega arith in
    let front = spelled a.n a.after.now a.out.now c.width-count.result o w both c.spell.ensures in
    let behind = after_digits a.n a.after.now a.out.now c.width-count.result o w both c.spell.ensures c.write_text.result c.write_text.new.out c.write_text.ensures in
    let l = laid_both a.out.now 0 (decimal_of a.n) a.after.now refl (omega arith) front behind in
    put_all text a.out.now fits _ _ (omega (arith, l.place)) (l.bytes ∙ laid_front a.out.now text)
