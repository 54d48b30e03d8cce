use Rattle.std.specs.Prelude.{Result, Ok, Err}
use Rattle.std.proofs.Common.{ℕ, ◌≡◌, true, false, List, length, sym, subst, ◌∙◌}
use Rattle.fields.specs.Lines.{lines_at}
use Rattle.sheet.specs.declared.Refusal.{Refusal}
use Rattle.sheet.specs.Refusals.{number_of, place_of, told_result}
use Rattle.filling.specs.Filling.{lines_left}
use Rattle.sheet_csv.specs.Read.{sheet_of, sheet_from, Converts}
use Rattle.sheet_csv.specs.Table.{unfilled_from, by_line, stands, table_from}
use Rattle.sheet_csv.specs.laws.TableLaws.{look_taken, look_lent, look_other, look_again, look_stands}
use Rattle.sheet_csv.proofs.read_table.Goals as goal

-- by the looks at a text
module _ (s o : List ℕ) (first : Result ℕ Refusal) (mid : List ℕ) (h : Converts (sheet_of (lines_left false s 0) (length o)) o first mid) where
  taken : (n : ℕ) → first ≡ Ok n → Converts (table_from s (length o)) o first mid
  unfolding lines_left lines_at sheet_from table_from
  taken n e = look_taken (sheet_from s (length o)) (unfilled_from s (length o)) o first mid h n e

  other : (x : Refusal) → first ≡ Err x → by_line (number_of x) ≡ false → Converts (table_from s (length o)) o (Err x) mid
  unfolding lines_left lines_at sheet_from table_from
  other x e f = look_other (sheet_from s (length o)) (unfilled_from s (length o)) o first mid h x e f

  module _ (x : Refusal) (e : first ≡ Err x) (f : by_line (number_of x) ≡ true) (second : Result ℕ Refusal) (after : List ℕ) (g : Converts (unfilled_from s (length mid)) mid second after) where
    lent : Converts (unfilled_from s (length o)) o second after
    unfolding lines_left lines_at sheet_from
    lent = subst (λ (l : List ℕ). Converts (unfilled_from s (length l)) l second after) (look_lent (sheet_from s (length o)) (unfilled_from s (length o)) o first mid h x e) g

    again : stands (number_of x) (place_of x) (told_result second) ≡ false → Converts (table_from s (length o)) o second after
    unfolding lines_left lines_at sheet_from table_from
    again u = look_again (sheet_from s (length o)) (unfilled_from s (length o)) o first mid h x e f second after lent u

    stood : stands (number_of x) (place_of x) (told_result second) ≡ true → Converts (table_from s (length o)) o (Err x) after
    unfolding lines_left lines_at sheet_from table_from
    stood u = look_stands (sheet_from s (length o)) (unfilled_from s (length o)) o first mid h x e f second after lent u

pub returns-then-not-is_by_line : goal.returns-then-not-is_by_line
returns-then-not-is_by_line c =
    other c.args.text.now c.args.out.now _ _ c.read_lines-first.ensures _ c.in-Err.is (sym c.is_by_line.ensures ∙ c.if-not-is_by_line.true)

pub returns-then-does_stand : goal.returns-then-does_stand
returns-then-does_stand c =
    stood c.args.text.now c.args.out.now _ _ c.read_lines-first.ensures _ c.in-Err.is (sym c.is_by_line.ensures ∙ c.if-not-is_by_line.false) _ _ c.read_lines-second.ensures (sym c.does_stand.ensures ∙ c.if-does_stand.true)

pub returns-in_default : goal.returns-in_default
returns-in_default c = taken c.args.text.now c.args.out.now _ _ c.read_lines-first.ensures _ c.in_default.is

pub returns : goal.returns
returns c =
    again c.args.text.now c.args.out.now _ _ c.read_lines-first.ensures _ c.in-Err.is (sym c.is_by_line.ensures ∙ c.if-not-is_by_line.false) _ _ c.read_lines-second.ensures (sym c.does_stand.ensures ∙ c.if-does_stand.false)
