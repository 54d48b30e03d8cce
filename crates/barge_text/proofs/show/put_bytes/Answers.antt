-- A byte more is shown behind those that stand there.
use Rattle.std.proofs.Common.{◌≡◌, ℕ, ◌+◌, ◌*◌, ◌≤◌, ◌<◌, List, length, get_or, take, refl, ◌∙◌, subst, arith, take_all, length-take-le}
use Rattle.decimal.specs.Laid.{Laid}
use Rattle.decimal.specs.laws.LaidLaws.{laid_none, laid_both}
use Rattle.barge_text.specs.Shown.{shown_byte, shown}
use Rattle.barge_text.specs.laws.ShownLaws.{shown_most, shown_next}
use Rattle.barge_text.proofs.show.put_bytes.Invariants.{Putting}
use Rattle.barge_text.proofs.show.put_bytes.Goals as goal

begin : (line out : List ℕ) → 4 * length line ≤ length out → Putting line out out 0 0
unfolding shown
begin line out l = record { upto = omega arith; room = l; same = refl; front = laid_none out 0; short = omega arith }

module _ {line out₀ out : List ℕ} {at i : ℕ} (p : Putting line out₀ out at i) where
  turn : i < length line → (next : ℕ) (after : List ℕ) → length after ≡ length out → Laid out at (shown_byte (get_or line i 0)) next after → Putting line out₀ after next (i + 1)
  turn l next after k f =
      let most = shown_most (take (i + 1) line) in
      let few : length (take (i + 1) line) ≡ i + 1 = length-take-le (i + 1) line (omega arith) in
      let front = laid_both out₀ 0 (shown (take i line)) (shown_byte (get_or line i 0)) (shown_next line i l) (omega (arith, p.room)) p.front f in
      record { upto = omega arith; room = p.room; same = k ∙ p.same; front = front; short = omega (arith, front.place) }

  done : length line ≤ i → Laid out₀ 0 (shown line) at out
  done l = subst (λ (x : List ℕ). Laid out₀ 0 (shown x) at out) (take_all i line l) p.front

pub loop-byte-init : goal.loop-byte-init
loop-byte-init c = begin _ _ c.requires

pub loop-byte-preserved : goal.loop-byte-preserved
loop-byte-preserved c = turn c.loop-byte.invariant c.loop-byte-test.true c.put_byte-at.result c.put_byte-at.new.out c.put_byte-at.auto.out c.put_byte-at.ensures

pub returns : goal.returns
returns c = done c.loop-byte.invariant c.loop-byte-test.false
