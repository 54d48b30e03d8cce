-- A header with another count: it is sound exactly when the count is within its values.
-- Assumes nothing.
use Rattle.std.specs.Prelude.{ℕ, ◌≤◌, ◌≡◌}
use Rattle.std.proofs.Math.Bool.{true}
use Rattle.std.proofs.Common.{arith}
use borrow.Author.Tests.{le-leb}
use Rattle.quantity.specs.Range.{within}
use Rattle.layout.specs.laws.LineLaws.{all_none}
use Rattle.sheet.specs.declared.Header.{Header}
use Rattle.sheet.specs.Versions.{version_of}
use Rattle.sheet.specs.Lines.{header_lines, counts}
use Rattle.sheet.specs.Header.{header_values, raw_fault, header_fault}
use Rattle.sheet.specs.laws.HeaderLaws.{header_allowed, header_ranges}
use Rattle.edit.specs.Edit.{highest, counting}

module _ (h : Header) (n : ℕ) where
  pub counting_sound : header_fault h ≡ 0 → n ≤ highest h → header_fault (counting n h) ≡ 0
  unfolding raw_fault
  counting_sound e l =
      let a = header_allowed h e in
      let from_D0 = a.1.1 in
      let from_M = from_D0.1.1.1 in
      let n_allowed : within (counts (version_of h.own)) n ≡ true = rw (le-leb 0 n (omega arith), le-leb n (highest h) l) in
      all_none 1 (header_lines (version_of h.own)) (header_values (counting n h) 0 0) (a.0, (a.1.0, (from_D0.0, (from_D0.1.0, (from_D0.1.1.0, (from_M.0, (from_M.1.0, (n_allowed, from_M.1.1.1))))))))

  pub counting_few : header_fault (counting n h) ≡ 0 → n ≤ highest h
  counting_few e = (header_ranges (counting n h) e).count_high
