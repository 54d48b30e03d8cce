use Rattle.std.proofs.Common.{ℕ, ◌+◌, drop, sym, ap, ◌∙◌, arith, rules, Option, Some}
use Rattle.decimal.specs.laws.ReadLaws.{read_from, from_next, from_end, from_none, read_all, empty_read}
use Rattle.decimal.proofs.read_number.Goals as goal

pub returns-then-is_empty : goal.returns-then-is_empty
returns-then-is_empty c = empty_read c.args.text.now (search rules)

pub loop-byte-init : goal.loop-byte-init
loop-byte-init c = read_all c.args.text.now (search rules)

pub loop-byte-preserved : goal.loop-byte-preserved
loop-byte-preserved c =
    let l = c.loop-byte in
    let s = c.args.text.now in
    ap (λ (x : Option ℕ). read_from x (drop (l.byte-index + 1) s)) (sym c.in_ok-n.was ∙ c.with_byte.ensures) ∙ from_next (Some l.n) s l.byte-index (omega arith) ∙ l.invariant

pub returns-in_err-n : goal.returns-in_err-n
returns-in_err-n c =
    let l = c.loop-byte in
    let s = c.args.text.now in
    c.from_residual.ensures
    ∙ sym (from_none (drop (l.byte-index + 1) s))
    ∙ ap (λ (x : Option ℕ). read_from x (drop (l.byte-index + 1) s)) (sym c.in_err-n.was ∙ c.with_byte.ensures)
    ∙ from_next (Some l.n) s l.byte-index (omega arith)
    ∙ l.invariant

pub returns : goal.returns
returns c =
    let l = c.loop-byte in
    sym (from_end (Some l.n) c.args.text.now l.byte-index (omega arith)) ∙ l.invariant
