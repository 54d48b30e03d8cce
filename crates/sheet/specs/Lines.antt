-- The sheet, bit by bit: every field's width and values, in the document's order. A range that is a quantity's own comes from its type.
use Rattle.std.specs.Prelude.{ℕ, Bool, false, cond, List, [], ◌∷◌}
use Rattle.quantity.specs.Range.{Range, from, span, spacing, thickness, modulus, shear_area, steel_factor}
use Rattle.layout.specs.Line.{Line, line, zeros, widths}
use Rattle.sheet.specs.Versions.{Version, hull_modulus, one}
use Rattle.sheet.specs.Kinds.{is_long, is_bottom, is_floor, is_deep}

-- one range where a test holds, else another
abbrev pub either : Bool → Range → Range → Range
either t r s = from (cond t r.low s.low) (cond t r.high s.high)

-- a field that carries nothing
abbrev pub none : Range
none = from 0 0

-- wave heights 0, 0.6 m and 1.2 m
abbrev pub waves : List Range
waves = from 0 0 ∷ from 60 60 ∷ from 120 120 ∷ []

-- the rule length L, cm
abbrev pub rule_length : Range
rule_length = from 4000 span.high

-- the number of records n, by the version
abbrev pub counts : Version → Range
counts v = from 0 v.most

-- the id of a record
abbrev pub ids : Range
ids = from 1 1000

-- the spacing S of a plate, mm
abbrev pub plate_spacing : Range
plate_spacing = from spacing.low 2000

-- b1 and b2 of a plate and l of a member, cm
abbrev pub sides : Range
sides = from 10 1000

-- the header: version, L, D0, H, runs, M, ZB, n, zero, and what the version has of its own
abbrev pub header_lines : Version → List Line
header_lines v =
    line 4 (from v.number v.number)
    ∷ line 14 rule_length
    ∷ line 10 (from 1 1000)
    ∷ record { width = 8; values = waves }
    ∷ line 1 (from 0 1)
    ∷ line 20 (from 0 1000000)
    ∷ line 27 hull_modulus
    ∷ line 9 (counts v)
    ∷ zeros 3
    ∷ v.lines

-- a plate: kind, id, K, z, S, T, b1, b2, ballast, zL, cargo pressure, zero; kinds 2 and 4 carry no b1 and b2, kinds 1 and 2 no cargo, and zL is
-- from z to 1200 with ballast
abbrev pub plate_table : (long bottom ballast : Bool) (z : ℕ) → List Line
plate_table long bottom ballast z =
    line 4 (from 1 4)
    ∷ line 10 ids
    ∷ line 10 steel_factor
    ∷ line 10 (from 0 1000)
    ∷ line 12 plate_spacing
    ∷ line 12 thickness
    ∷ line 10 (either long none sides)
    ∷ line 10 (either long none sides)
    ∷ line 1 (from 0 1)
    ∷ line 11 (either ballast (from z 1200) none)
    ∷ line 18 (from 0 (cond bottom 0 200000))
    ∷ zeros 20
    ∷ []

-- a member: kind, id, z, S, l, T, βb, βs, η, σ1, W, A, K; kinds 6 to 8 carry no z, and in kinds 6 and 7 η is 100 and σ1 is 0
abbrev pub member_table : (deep floor : Bool) → List Line
member_table deep floor =
    line 4 (from 5 8)
    ∷ line 10 ids
    ∷ line 10 (from 0 (cond deep 0 1000))
    ∷ line 12 spacing
    ∷ line 10 sides
    ∷ line 12 thickness
    ∷ line 7 (from 1 100)
    ∷ line 7 (from 1 100)
    ∷ line 7 (either floor (from 100 100) (from 1 100))
    ∷ line 8 (from 0 (cond floor 0 255))
    ∷ line 17 modulus
    ∷ line 14 shear_area
    ∷ line 10 steel_factor
    ∷ []

-- the lines that records of a kind answer to
abbrev pub plate_lines : (kind : ℕ) (ballast : Bool) (z : ℕ) → List Line
plate_lines kind ballast z = plate_table (is_long kind) (is_bottom kind) ballast z

abbrev pub member_lines : (kind : ℕ) → List Line
member_lines kind = member_table (is_deep kind) (is_floor kind)

-- the widths alone, which rest on no field
abbrev pub first_widths : List ℕ
first_widths = widths (header_lines one)

abbrev pub own_widths : Version → List ℕ
own_widths v = widths v.lines

abbrev pub plate_widths : List ℕ
plate_widths = widths (plate_lines 1 false 0)

abbrev pub member_widths : List ℕ
member_widths = widths (member_lines 5)
