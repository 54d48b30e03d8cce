-- The demands say all: two programs that meet them answer every sheet alike and leave every output alike, and a program that meets them meets the promise of
-- `check`; so does a single call exactly where it does what such a program does.
-- Assumes nothing.
use Rattle.std.specs.Prelude.{ℕ, zero, suc, ◌+◌, ◌*◌, ◌<◌, ◌≡◌, List, ◌++◌, length, drop, Result, Ok, Err}
use Rattle.std.proofs.Common.{sym, ap, ap₂, ◌∙◌, arith, take-append-drop, drop-drop}
use Rattle.sheet.specs.Exactly.{Exactly}
use Rattle.sheet.specs.Refusals.{refused}
use Rattle.sheet.specs.laws.RefusalLaws.{refusal_only, given_refused, refused_number, refused_place}
use Rattle.checker.specs.Check.{told_checked, four_at, Checks, tallied}
use Rattle.checker.specs.laws.Only.{check_only}
use Rattle.demands.specs.Program.{Program, Meets}
use Rattle.demands.specs.Demands.{Covered, accepted, turned_away, failed_from, Demands}
use Rattle.demands.specs.EmptyPrograms.{checker}
use Rattle.demands.specs.laws.ShutOut.{checker_meets, checker_demands}
use Rattle.sheet.specs.declared.Refusal.{Refusal}
use Rattle.checker.specs.declared.Checked.{Checked}

-- two outputs whose first n fours are the same, and what follows them
fours_same : (n : ℕ) (a b : List ℕ) → ((i : ℕ) → i < n → four_at i a ≡ four_at i b) → drop (4 * n) a ≡ drop (4 * n) b → a ≡ b
fours_same zero a b f e = e
fours_same (suc n) a b f e = fours_same n a b (λ i l. f i (omega arith)) (sym (split a) ∙ ap₂ {C = List ℕ} (λ x y. x ++ y) (f n (omega arith)) e ∙ split b)
  where
    split : (l : List ℕ) → four_at n l ++ drop (4 * suc n) l ≡ drop (4 * n) l
    split l =
        let m : 4 * suc n ≡ 4 * n + 4 = omega arith in
        ap (λ (k : ℕ). four_at n l ++ drop k l) m ∙ ap (λ (x : List ℕ). four_at n l ++ x) (sym (drop-drop 4 (4 * n) l)) ∙ take-append-drop 4 (drop (4 * n) l)

-- two answers that say the same refusal are equal
refused_same : (c d : Result Checked Refusal) (k p : ℕ) → told_checked c ≡ refused k p → told_checked d ≡ refused k p → c ≡ d
refused_same (Ok m) d k p e f = given_refused e
refused_same (Err r) (Ok m) k p e f = given_refused f
refused_same (Err r) (Err q) k p e f = ap Err (refusal_only r q (refused_number (e ∙ sym f)) (refused_place (e ∙ sym f)))

pub demands_only : (P Q : Program) → Demands P → Demands Q → (s out : List ℕ) → (P.answer s out ≡ Q.answer s out) × (P.after s out ≡ Q.after s out)
demands_only P Q p q s out = go (p.first s out).covered
  where
    go : Covered s (length out) → (P.answer s out ≡ Q.answer s out) × (P.after s out ≡ Q.after s out)
    go (accepted a) =
        let d = (p.first s out).accepted_exactly.1 a in
        let e = (q.first s out).accepted_exactly.1 a in
        let v = p.second s out d.0 d.1 d.2 in
        let w = q.second s out e.0 e.1 e.2 in
        let n : d.0 ≡ e.0 = v.number ∙ sym w.number in
        let failed : d.1 ≡ e.1 = v.counted ∙ ap (failed_from s 0) n ∙ sym w.counted in (
          d.2 ∙ ap₂ tallied n failed ∙ sym e.2,
          fours_same d.0 (P.after s out) (Q.after s out) (λ i l. v.verdict_bytes_lem i l ∙ sym (w.verdict_bytes_lem i (omega arith)))
              (v.others_as_lent ∙ ap (λ (m : ℕ). drop (4 * m) out) n ∙ sym w.others_as_lent ∙ ap (λ (m : ℕ). drop (4 * m) (Q.after s out)) (sym n)),
        )
    go (turned_away k l r) =
        let e = ((p.first s out).refused_exactly k l).1 r in
        let f = ((q.first s out).refused_exactly k l).1 r in
        (refused_same (P.answer s out) (Q.answer s out) k l e f, (p.first s out).refusal_writes_nothing k l e ∙ sym ((q.first s out).refusal_writes_nothing k l f))

pub demands_say_all : (P : Program) → Demands P → Meets P
demands_say_all P d s out =
    let o = demands_only P checker d checker_demands s out in
    record { answer = ap (λ (c : Result Checked Refusal). told_checked c) o.0 ∙ (checker_meets s out).answer; bytes = o.1 ∙ (checker_meets s out).bytes }

-- one call of `check`, on one sheet and one output: its answer and the bytes that it leaves meet the promise exactly when they are those of a program that meets
-- the demands, whichever that is. So the demands on that program, of which there is one, are on every call
pub each_call : (P : Program) → Demands P → (s out : List ℕ) (c : Result Checked Refusal) (after : List ℕ) → Exactly (Checks s out c after) ((c ≡ P.answer s out) × (after ≡ P.after s out))
each_call P d s out c after =
    let own = demands_say_all P d s out in (
      λ m. check_only s out c (P.answer s out) after (P.after s out) m own,
      λ e. record { answer = ap (λ (x : Result Checked Refusal). told_checked x) e.0 ∙ own.answer; bytes = e.1 ∙ own.bytes },
    )
