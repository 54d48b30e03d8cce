-- The forms of a line, from the layouts of the sheet: the limits of the fields, and how many of them are numbers of the text.
use Rattle.std.specs.Prelude.{ℕ, ◌-◌, cond, List, ◌++◌, length, replicate, ltb, eqb}
use Rattle.sheet.specs.Versions.{Version, first_bytes, one, two}
use Rattle.sheet.specs.Lines.{first_widths, own_widths, plate_widths, member_widths}
use Rattle.sheet.specs.Header.{own_bytes}
use Rattle.rows.specs.declared.form.Form.{Form}
use Rattle.rows.specs.Pack.{powers}

-- all fields of a layout but its last, the zero bits; a layout with no fields has none
abbrev pub numbers_in : List ℕ → ℕ
numbers_in ws = length ws - 1

-- how many numbers stand for a header of a version: 8 in version 1, 10 in version 2
abbrev pub first_count : ℕ
first_count = numbers_in first_widths

abbrev pub own_count : Version → ℕ
own_count v = numbers_in (own_widths v)

-- a plate has kinds below 5; up to 4 its layout goes, else a member's
abbrev pub record_widths : (kind : ℕ) → List ℕ
record_widths kind = cond (ltb kind 5) plate_widths member_widths

-- 11 for a plate, whose last field is zero bits, 13 for a member, which has none
abbrev pub record_count : (kind : ℕ) → ℕ
record_count kind = cond (ltb kind 5) (numbers_in plate_widths) (length member_widths)

-- a layout's form as the code has it, with room for thirteen fields
abbrev pub form_of : (ws : List ℕ) (numbers size : ℕ) → Form
form_of ws numbers size = record { limits = powers ws ++ replicate (13 - length ws) 1; count = length ws; numbers = numbers; size = size }

abbrev pub first_form : Form
first_form = form_of first_widths first_count first_bytes

abbrev pub own_form : (version : ℕ) → Form
own_form k = cond (eqb k two.number) (form_of (own_widths two) (own_count two) (own_bytes two)) (form_of (own_widths one) (own_count one) (own_bytes one))

abbrev pub record_form : (kind : ℕ) → Form
record_form kind = cond (ltb kind 5) (form_of plate_widths (numbers_in plate_widths) 16) (form_of member_widths (length member_widths) 16)
