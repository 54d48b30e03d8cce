-- A page, and a slice, with a text in front: when the promises are met, and that two results which meet one are equal.
-- Assumes nothing.
use Rattle.std.specs.Result.{result_unwrap_or}
use Rattle.std.specs.Prelude.{ℕ, zero, suc, ◌-◌, ◌≤◌, ◌<◌, ◌≡◌, List, ◌++◌, length, take, drop, Result, Ok, Err}
use Rattle.std.proofs.Common.{sym, ap₂, ◌∙◌, arith, length-append, take_at, le-leb}
use Rattle.std.proofs.Math.Path.{ap}
use Rattle.std.proofs.lemmas.Bool.{lt-leb}
use Rattle.decimal.specs.Put.{put_on}
use Rattle.decimal.specs.laws.PutLaws.{put_none, bytes_all}
use Rattle.decimal.specs.Laid.{Laid}
use Rattle.decimal.specs.laws.LaidLaws.{laid_front}
use Rattle.sheet.specs.declared.Refusal.{Refusal}
use Rattle.sheet.specs.Refusals.{Answer, given, refused, told_result}
use Rattle.sheet.specs.laws.RefusalLaws.{result_only, given_refused, given_same}
use Rattle.report.specs.declared.Page.{Page}
use Rattle.report.specs.Text.{text_of}
use Rattle.report.specs.Page.{longest, blank, Pages, length_in, Tells}
use Rattle.report.specs.Pieces.{refusal_text, TellsRefusal}

-- ---- a page

drop_blank : (k n : ℕ) → drop k (blank n) ≡ blank (n - k)
drop_blank zero n = let e : n ≡ n - 0 = omega arith in ap blank e
drop_blank (suc k) zero = let e : 0 ≡ 0 - suc k = omega arith in ap blank e
drop_blank (suc k) (suc n) = let e : n - k ≡ suc n - suc k = omega arith in drop_blank k n ∙ ap blank e

-- a text that was laid over zeros
pub page_laid : (s text : List ℕ) (p : Page) → Laid (blank longest) 0 text p.len p.bytes → text ≡ text_of s → Pages s p
page_laid s text p l e = record {
  len = l.place ∙ omega (arith, ap length e);
  bytes = l.bytes ∙ laid_front (blank longest) text ∙ ap (λ (t : List ℕ). t ++ drop (length t) (blank longest)) e ∙ ap (λ (t : List ℕ). text_of s ++ t) (drop_blank (length (text_of s)) longest);
}

module _ (s : List ℕ) (p : Page) (page : Pages s p) where
  -- the text is within the page
  pub page_within : p.len ≤ length p.bytes
  page_within = omega (arith, page.len, ap length page.bytes, length-append (text_of s) (blank (longest - length (text_of s))))

  -- and is what stands in front
  pub page_text : take p.len p.bytes ≡ text_of s
  page_text = ap (take p.len) page.bytes ∙ take_at (text_of s) (blank (longest - length (text_of s))) p.len (sym page.len)

-- a page is that of every sheet with the same text
pub page_same : (s t : List ℕ) (p : Page) → text_of s ≡ text_of t → Pages s p → Pages t p
page_same s t p e f = record { len = f.len ∙ ap length e; bytes = f.bytes ∙ ap (λ (x : List ℕ). x ++ blank (longest - length x)) e }

pub page_only : (s : List ℕ) (p q : Page) → Pages s p → Pages s q → p ≡ q
page_only s p q f g = ap₂ {C = Page} (λ b l. record { bytes = b; len = l }) (f.bytes ∙ sym g.bytes) (f.len ∙ sym g.len)

-- ---- a slice

module _ (text o : List ℕ) where
  -- it is too short
  pub tells_none : (r : Result ℕ Refusal) → length o < length text → told_result r ≡ refused 5 0 → Tells text o r o
  unfolding length_in
  tells_none r l e = record { answer = e ∙ rw (lt-leb _ _ l); bytes = (put_none text o l).bytes }

  -- or not
  pub tells_all : (n : ℕ) (after : List ℕ) → length text ≤ length o → n ≡ length text → after ≡ put_on text o → Tells text o (Ok n) after
  unfolding length_in
  tells_all n after l e f = record { answer = ap given e ∙ rw (le-leb _ _ l); bytes = f }

  -- and the other way: what the promise says of a slice with room
  pub told_all : (r : Result ℕ Refusal) (after : List ℕ) → length text ≤ length o → Tells text o r after → (told_result r ≡ given (length text)) × (after ≡ text ++ drop (length text) o)
  unfolding length_in
  told_all r after l t = (t.answer ∙ rw (le-leb _ _ l), t.bytes ∙ bytes_all text o l)

-- so that 22 bytes are never too short for a refusal's line
pub refusal_told : (x : Refusal) (o : List ℕ) (r : Result ℕ Refusal) (after : List ℕ) → 22 ≤ length o → TellsRefusal x o r after → (told_result r ≡ given (length (refusal_text x))) × (after ≡ refusal_text x ++ drop (length (refusal_text x)) o)
refusal_told x o r after l t = told_all (refusal_text x) o r after (omega (arith, t.most)) t.tells

tells_only : (text o : List ℕ) (q r : Result ℕ Refusal) (a b : List ℕ) → Tells text o q a → Tells text o r b → (q ≡ r) × (a ≡ b)
tells_only text o q r a b f g = (result_only (length_in text o) q r f.answer g.answer, f.bytes ∙ sym g.bytes)

pub write_answer_only : (s o : List ℕ) (q r : Result ℕ Refusal) (a b : List ℕ) → Tells (text_of s) o q a → Tells (text_of s) o r b → (q ≡ r) × (a ≡ b)
write_answer_only s o q r a b f g = tells_only (text_of s) o q r a b f g

pub write_refusal_only : (x : Refusal) (o : List ℕ) (q r : Result ℕ Refusal) (a b : List ℕ) → TellsRefusal x o q a → TellsRefusal x o r b → (q ≡ r) × (a ≡ b)
write_refusal_only x o q r a b f g = tells_only (refusal_text x) o q r a b f.tells g.tells

-- a length that is told is what the answer holds, whatever would stand for a refusal
pub length_told : (r : Result ℕ Refusal) (n other : ℕ) → told_result r ≡ given n → result_unwrap_or r other ≡ n
length_told (Ok m) n other e = given_same e
length_told (Err x) n other e = given_refused (sym e)
