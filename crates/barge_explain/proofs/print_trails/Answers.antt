-- A record's piece more is written behind those before it.
use Rattle.std.proofs.Common.{◌≡◌, ℕ, suc, ◌+◌, ◌-◌, ◌<◌, Bool, Option, List, ◌++◌, sym, ap, ap₂, ◌∙◌, arith, add-one, append_assoc}
use Rattle.std.proofs.KnownBytes.{Appends-trans}
use Rattle.sheet.specs.declared.Header.{Header}
use Rattle.checker.specs.Check.{record_of}
use Rattle.barge_explain.specs.Explain.{Shown, piece_of, explained_from, Written}
use Rattle.barge_explain.proofs.print_trails.Invariants.{Telling}
use Rattle.barge_explain.proofs.print_trails.Goals as goal

turn : {old mid new : Option (List ℕ)} (h : Header) (records : List ℕ) (asked i : ℕ) (begun b : Bool) → Telling old mid h records asked i begun → i < h.count
    → Written (piece_of h asked begun (record_of records i)) mid new b → Telling old new h records asked (i + 1) b
turn {old} {mid} {new} h records asked i begun b p l w =
    let s : Shown = piece_of h asked begun (record_of records i) in
    let m : ℕ = h.count - (i + 1) in
    let left : h.count - i ≡ suc m = omega arith in
    let step : s.text ++ explained_from h records asked m (i + 1) b ≡ explained_from h records asked (h.count - i) i begun
    = ap₂ {C = List ℕ} (λ k x. s.text ++ explained_from h records asked m k x) (add-one i) w.begun ∙ sym (ap (λ (k : ℕ). explained_from h records asked k i begun) left) in
    record {
      upto = omega arith;
      text = p.text ++ s.text;
      written = Appends-trans old mid new p.text s.text p.written w.text;
      whole = append_assoc p.text s.text (explained_from h records asked m (i + 1) b) ∙ ap (λ (t : List ℕ). p.text ++ t) step ∙ p.whole;
    }

pub loop-i-preserved : goal.loop-i-preserved
loop-i-preserved g c = turn c.args.h c.args.records.now c.args.asked c.loop-i.i c.loop-i.begun c.in_ok-begun.begun c.loop-i.invariant c.loop-i-test.true c.in_ok-begun.ensures
