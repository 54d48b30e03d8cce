-- A table, by what the first look and the second answer.
-- Assumes nothing.
use Rattle.std.specs.Prelude.{ℕ, ◌≡◌, refl, Bool, true, false, cond, not, ◌&&◌, ◌||◌, List, eqb, Result, Ok, Err}
use Rattle.std.proofs.Common.{sym, ap, ap₂, subst, ◌∙◌, true≢false, eqb-true}
use Rattle.sheet.specs.declared.Refusal.{Refusal}
use Rattle.sheet.specs.Refusals.{Answer, given, refused, number_of, place_of, told_result}
use Rattle.sheet.specs.laws.RefusalLaws.{given_refused, refused_number, refused_place}
use Rattle.fields.specs.Lines.{Lines, lines_at}
use Rattle.filling.specs.Filling.{lines_left}
use Rattle.sheet_csv.specs.Read.{sheet_of, sheet_from, length_of, output_by, Converts}
use Rattle.sheet_csv.specs.Table.{unfilled_from, by_line, stands, of_both, table_from}

-- ---- what the code answers

-- the first look's answer is `first`, and it leaves `mid` in the output
module _ (a b : Answer (List ℕ)) (o : List ℕ) (first : Result ℕ Refusal) (mid : List ℕ) (h : Converts a o first mid) where
  pub look_taken : (n : ℕ) → first ≡ Ok n → Converts (of_both a b) o first mid
  look_taken n e = subst (λ (x : Answer (List ℕ)). Converts x o first mid) (sym (go a h.answer)) h
    where
      go : (x : Answer (List ℕ)) → told_result first ≡ length_of x → of_both x b ≡ x
      go (given c) f = refl
      go (refused k p) f = given_refused (sym (ap told_result e) ∙ f)

  module _ (x : Refusal) (e : first ≡ Err x) where
    turned : a ≡ refused (number_of x) (place_of x)
    turned = go a h.answer
      where
        go : (y : Answer (List ℕ)) → told_result first ≡ length_of y → y ≡ refused (number_of x) (place_of x)
        go (given c) f = given_refused (sym f ∙ ap told_result e)
        go (refused k p) f = let t = sym f ∙ ap told_result e in ap₂ refused (refused_number t) (refused_place t)

    pub look_lent : mid ≡ o
    look_lent = h.bytes ∙ ap (λ (y : Answer (List ℕ)). output_by y o) turned

    pub look_other : by_line (number_of x) ≡ false → Converts (of_both a b) o (Err x) mid
    look_other f = subst (λ (c : Result ℕ Refusal). Converts (of_both a b) o c mid) e (subst (λ (y : Answer (List ℕ)). Converts y o first mid) (turned ∙ sym (ap (λ (y : Answer (List ℕ)). of_both y b) turned ∙ rw f)) h)

    module _ (f : by_line (number_of x) ≡ true) (second : Result ℕ Refusal) (after : List ℕ) (g : Converts b o second after) where
      -- the code goes by the answer that it has
      same : (y : Answer (List ℕ)) → told_result second ≡ length_of y → stands (number_of x) (place_of x) (told_result second) ≡ stands (number_of x) (place_of x) y
      same (given c) u = ap (stands (number_of x) (place_of x)) u
      same (refused k p) u = ap (stands (number_of x) (place_of x)) u

      pub look_again : stands (number_of x) (place_of x) (told_result second) ≡ false → Converts (of_both a b) o second after
      look_again u = subst (λ (y : Answer (List ℕ)). Converts y o second after) (sym (ap (λ (y : Answer (List ℕ)). of_both y b) turned ∙ rw (f, sym (same b g.answer) ∙ u))) g

      pub look_stands : stands (number_of x) (place_of x) (told_result second) ≡ true → Converts (of_both a b) o (Err x) after
      look_stands u =
          let v = sym (same b g.answer) ∙ u in
          let w : of_both a b ≡ refused (number_of x) (place_of x) = ap (λ (y : Answer (List ℕ)). of_both y b) turned ∙ rw (f, v) in
          subst (λ (y : Answer (List ℕ)). Converts y o (Err x) after) (sym w) (record { answer = refl; bytes = g.bytes ∙ left b v })
        where
          left : (y : Answer (List ℕ)) → stands (number_of x) (place_of x) y ≡ true → output_by y o ≡ o
          left (given c) w = absurd (true≢false (sym w))
          left (refused k p) w = refl

-- ---- what a table is

-- a text that is not turned away by a line is answered as one that is no table
pub not_by_line : (s : List ℕ) (room : ℕ) → ((q : ℕ) → sheet_from s room ≡ refused 14 q → ⊥) → ((q : ℕ) → sheet_from s room ≡ refused 15 q → ⊥) → table_from s room ≡ sheet_from s room
unfolding table_from
not_by_line s room a b = go (sheet_from s room) refl
  where
    both : (k p : ℕ) → sheet_from s room ≡ refused k p → by_line k ≡ true → ⊥
    both k p e f = by_number (eqb k 14) refl f
      where
        by_number : (t : Bool) → eqb k 14 ≡ t → (t || eqb k 15) ≡ true → ⊥
        by_number true u v = a p (e ∙ ap (λ (n : ℕ). refused n p) (eqb-true k 14 u))
        by_number false u v = b p (e ∙ ap (λ (n : ℕ). refused n p) (eqb-true k 15 v))

    by_line_lem : (k p : ℕ) (second : Answer (List ℕ)) (t : Bool) → by_line k ≡ t → (by_line k ≡ true → ⊥) → of_both (refused k p) second ≡ refused k p
    by_line_lem k p second true u v = absurd (v u)
    by_line_lem k p second false u v = rw u

    go : (x : Answer (List ℕ)) → sheet_from s room ≡ x → of_both x (unfilled_from s room) ≡ x
    go (given c) e = refl
    go (refused k p) e = by_line_lem k p (unfilled_from s room) (by_line k) refl (both k p e)

-- and so is one without filling
pub no_filling : (s : List ℕ) (room : ℕ) → lines_left true s 0 ≡ lines_at s 0 → table_from s room ≡ sheet_from s room
unfolding sheet_from table_from
no_filling s room e = ap (λ (ls : Lines). of_both (sheet_from s room) (sheet_of ls room)) e ∙ go (sheet_from s room)
  where
    alike : (t : Bool) (x : Answer (List ℕ)) → cond t x x ≡ x
    alike true x = refl
    alike false x = refl

    go : (x : Answer (List ℕ)) → of_both x x ≡ x
    go (given c) = refl
    go (refused k p) = alike (by_line k && not (stands {A = List ℕ} k p (refused k p))) (refused k p)
