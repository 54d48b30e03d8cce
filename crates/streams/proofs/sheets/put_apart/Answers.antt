-- `streams::sheets::put_apart` meets its contract: the text is told, and there is room behind it.
use Rattle.std.specs.Prelude.{Result, Ok}
use Rattle.std.proofs.Common.{◌≡◌, ℕ, ◌<◌, List, [], ◌∷◌, ◌++◌, length, take, drop, sym, ap, ◌∙◌, arith, add-one, take_at}
use lib.ListN.{set, length-set}
use lib.Seq.{take-suc-set}
use Rattle.sheet.specs.Refusals.{given, told_result}
use Rattle.sheet.specs.laws.RefusalLaws.{given_same, given_refused}
use Rattle.report.specs.Text.{text_of}
use Rattle.report.specs.Page.{longest, Tells}
use Rattle.report.specs.laws.Longest.{text_most, answer_told}
use Rattle.streams.proofs.sheets.put_apart.Goals as goal
use Rattle.sheet.specs.declared.Refusal.{Refusal}

-- the text stands in front, and its length is told
module _ (s o : List ℕ) (room : longest < length o) {r : Result ℕ Refusal} {after : List ℕ} (t : Tells (text_of s) o r after) where
  told : (told_result r ≡ given (length (text_of s))) × (after ≡ text_of s ++ drop (length (text_of s)) o)
  told = answer_told s o r after (omega (arith, room)) t

  -- its length
  len_is : (len : ℕ) → r ≡ Ok len → len ≡ length (text_of s)
  len_is len e = given_same (sym (ap told_result e) ∙ told.0)

  -- and the byte behind it is in the slice
  behind : (len : ℕ) → r ≡ Ok len → length after ≡ length o → len < length after
  behind len e same = omega (arith, len_is len e, text_most s, same, room)

pub bounds-text-len : goal.bounds-text-len
bounds-text-len c = behind c.args.sheet.now c.args.text.now c.requires c.write_answer.ensures c.in-Ok.len c.in-Ok.is c.write_answer.auto.text

pub overflow_add-result : goal.overflow_add-result
overflow_add-result c =
    let b = behind c.args.sheet.now c.args.text.now c.requires c.write_answer.ensures c.in-Ok.len c.in-Ok.is c.write_answer.auto.text in
    omega (arith, b, c.write_answer.auto.text)

pub returns : goal.returns
returns c =
    let s = c.args.sheet.now in
    let o = c.args.text.now in
    let len = c.in-Ok.len in
    let after = c.write_answer.new.text in
    let b = behind s o c.requires c.write_answer.ensures len c.in-Ok.is c.write_answer.auto.text in
    let t = told s o c.requires c.write_answer.ensures in
    record {
      inside = simp length-set (omega (arith, b));
      text = ap (λ (k : ℕ). take k (set after len 10)) (add-one len)
          ∙ take-suc-set after len 10 b
          ∙ ap (λ (x : List ℕ). x ++ (10 ∷ [])) (ap (take len) t.1 ∙ take_at (text_of s) (drop (length (text_of s)) o) len (sym (len_is s o c.requires c.write_answer.ensures len c.in-Ok.is)));
    }

pub returns-in_default : goal.returns-in_default
returns-in_default c =
    let t = told c.args.sheet.now c.args.text.now c.requires c.write_answer.ensures in
    given_refused (sym t.0 ∙ ap told_result c.in_default.is)
