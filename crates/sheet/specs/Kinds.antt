-- The kinds of record: 1, 2 bottom plate, transverse and longitudinal framing; 3, 4 inner bottom plate, transverse and longitudinal;
-- 5 bottom longitudinal; 6, 7 floor and bottom transverse; 8 centre or side girder.
use Rattle.std.specs.Prelude.{ℕ, Bool, ◌||◌, leb, eqb}

-- plates with longitudinal framing
abbrev pub is_long : ℕ → Bool
is_long kind = eqb kind 2 || eqb kind 4

-- plates of the bottom
abbrev pub is_bottom : ℕ → Bool
is_bottom kind = leb kind 2

-- floors and bottom transverses
abbrev pub is_floor : ℕ → Bool
is_floor kind = eqb kind 6 || eqb kind 7

-- floors, bottom transverses and girders: all members but longitudinals
abbrev pub is_deep : ℕ → Bool
is_deep kind = leb 6 kind
