-- `streams::parts::put_line` meets its contract.
use Rattle.std.specs.Prelude.{Result}
use Prim.Native.Nat.{ℕ, ◌≤◌}
use mathlib.Core.Path.{◌≡◌, refl, sym, ap, subst, ◌∙◌}
use mathlib.Core.List.{List, [], ◌∷◌, ◌++◌}
use native.Mathlib.Omega.{arith}
use lib.ListN.{length, drop, length-append}
use Rattle.sheet.specs.declared.Refusal.{Refusal}
use Rattle.sheet.specs.Refusals.{given, told, told_result}
use Rattle.sheet.specs.laws.RefusalLaws.{given_same, given_refused}
use Rattle.decimal.specs.Decimal.{decimal_of}
use Rattle.decimal.specs.laws.DecimalLaws.{decimal_most}
use Rattle.decimal.specs.Put.{Puts}
use Rattle.decimal.specs.Laid.{Laid}
use Rattle.decimal.specs.laws.LaidLaws.{laid_front, put_front}
use Rattle.report.specs.laws.PageLaws.{refusal_told, length_told}
use Rattle.report.specs.Pieces.{refusal_text}
use Rattle.streams.specs.Parts.{line_for, ShortLine}
use Rattle.streams.proofs.parts.put_line.Goals.{After-write_refusal, In-Ok}
use Rattle.streams.proofs.parts.put_line.Goals as goal

-- the line of what was converted, by the case that it is
length_line : (n : ℕ) → decimal_of n ++ (10 ∷ []) ≡ line_for (given n)
unfolding line_for
length_line n = refl

-- a length has five digits at most
inside : (c : In-Ok) → c.in-Ok.n ≤ 65536
inside c = subst (λ (x : Result ℕ Refusal). ShortLine (told_result x)) c.in-Ok.is c.requires.1

few : (c : In-Ok) → length (decimal_of c.in-Ok.n ++ (10 ∷ [])) ≤ 6
few c = omega (arith, length-append (decimal_of c.in-Ok.n) (10 ∷ []), decimal_most 4 c.in-Ok.n (omega (arith, (inside c))))

-- a refusal's line has room
abbrev line : (c : After-write_refusal) → List ℕ
line c = refusal_text c.in-Err.x

refusal_line : (r : Refusal) → refusal_text r ≡ line_for (told r)
unfolding line_for refusal_text
refusal_line r = refl

spelled : (c : After-write_refusal) → (told_result c.write_refusal.result ≡ given (length (line c))) × (c.write_refusal.new.text ≡ (line c) ++ drop (length (line c)) c.args.line.now)
spelled c = refusal_told c.in-Err.x c.args.line.now c.write_refusal.result c.write_refusal.new.text c.requires.0 c.write_refusal.ensures

pub returns-in-Ok : goal.returns-in-Ok
returns-in-Ok c =
    let n = c.in-Ok.n in
    let o = c.args.line.now in
    let put : Puts (decimal_of n ++ (10 ∷ [])) o c.write_number.result c.write_number.new.out = c.write_number.ensures in
    let l = put_front o (decimal_of n ++ (10 ∷ [])) (omega (arith, few (goal.at.returns-in-Ok c).In-Ok, c.requires.0)) put in
    subst (λ (x : List ℕ). Laid o 0 x c.write_number.result c.write_number.new.out) (length_line n ∙ ap (λ (x : Result ℕ Refusal). line_for (told_result x)) (sym c.in-Ok.is)) l

pub returns-in-Err : goal.returns-in-Err
returns-in-Err c =
    let o = c.args.line.now in
    let after = c.write_refusal.new.text in
    let told = spelled (goal.at.returns-in-Err c).After-write_refusal in
    let len_is = c.unwrap_or.ensures ∙ length_told c.write_refusal.result (length (refusal_text c.in-Err.x)) 0 told.0 in
    let l : Laid o 0 (refusal_text c.in-Err.x) c.unwrap_or.result after = record { place = len_is ∙ omega arith; bytes = told.1 ∙ sym (laid_front o (refusal_text c.in-Err.x)) } in
    subst (λ (x : List ℕ). Laid o 0 x c.unwrap_or.result after) (refusal_line c.in-Err.x ∙ ap (λ (x : Result ℕ Refusal). line_for (told_result x)) (sym c.in-Err.is)) l
