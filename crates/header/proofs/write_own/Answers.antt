-- `header::write_own` meets its contract.
use Prim.Native.Nat.{ℕ, ◌<◌}
use mathlib.Core.Path.{◌≡◌, refl, sym, ap, ◌∙◌}
use mathlib.Core.List.{List, ◌++◌}
use native.Mathlib.Omega.{arith}
use lib.ListN.{drop}
use Rattle.layout.specs.Layout.{pack, unpack, bytes}
use Rattle.layout.specs.laws.BytesLaws.{write_all_lem}
use Rattle.sheet.specs.declared.Own.{Own}
use Rattle.sheet.specs.declared.Own.TheVariants.{One, Two}
use Rattle.sheet.specs.Versions.{first_bytes, version_of}
use Rattle.sheet.specs.Lines.{own_widths}
use Rattle.sheet.specs.Header.{own_values, own_bytes}
use Rattle.header.proofs.write_own.Goals as goal

-- `header::write_own` meets its contract.
-- Assumes nothing.
-- a version's own fields, where it has any, take eight bytes
own_eight : (o : Own) → first_bytes < (version_of o).size → own_bytes (version_of o) ≡ 8
own_eight One l = absurd (omega arith)
own_eight (Two s) l = refl

-- what a version's own fields leave in so many bytes
abbrev left : Own → List ℕ → ℕ → List ℕ
left o b k = unpack (bytes k) (pack (own_widths (version_of o)) (own_values o 0)) ++ drop k b

-- src/lib.rt:199:1
pub returns-then-version-gt-FIRST : goal.returns-then-version-gt-FIRST
returns-then-version-gt-FIRST c =
    let a = c.args in
    let eight : own_bytes (version_of a.own) ≡ 8 = own_eight a.own (omega (arith, c.if-version-gt-FIRST.true, c.version.ensures.size)) in
    c.write_word.ensures
    ∙ write_all_lem 8 _ a.out.now (omega (arith, eight, c.requires.1))
    ∙ ap (λ (n : ℕ). unpack (bytes 8) n ++ drop 8 a.out.now) c.own_number.ensures
    ∙ sym (ap (left a.own a.out.now) eight)
